use Rattle.std.proofs.Common.{◌≡◌, ◌+◌, length, sym, subst, ap, ◌∙◌, arith}
use Rattle.jm_machine.specs.Machine.{are_meant}
use Rattle.jm_machine.specs.Rows.{is_out}
use Rattle.jm_keep.specs.Persisted.{is_lasting}
use Rattle.jm_changes.specs.Standing.{AreMet}
use Rattle.jm_changes.proofs.Gone.{AreOut, out_gone, out_more, out_same}
use Rattle.jm_changes.proofs.settling.lost_out.Goals as goal
use Rattle.jm_changes.proofs.settling.lost_out.Goals.{then-is_lasting+in_ok-add_where, else-is_lasting}

pub loop-index-preserved : goal.loop-index-preserved
loop-index-preserved g c =
    let keys = g.P.Planned.keys c.args.planned.now in
    let state = g.P.Planned.state c.args.planned.now in
    let through = are_meant c.args.which.now in
    let index = c.loop-index.index in
    record {
      met = elim c.if-is_lasting.branch [
        | then-is_lasting+in_ok-add_where w ↦ subst (λ s. AreMet (λ key r. is_out through r) state s.rows.items s.delays.items s.gone.items) (sym w.lost-is) w.in_ok-add_where.ensures.fit
        | else-is_lasting w ↦ subst (λ s. AreMet (λ key r. is_out through r) state s.rows.items s.delays.items s.gone.items) (sym w.lost-is) c.loop-index.invariant.met
      ];
      out = elim c.if-is_lasting.branch [
        | then-is_lasting+in_ok-add_where w ↦
            subst (λ s. AreOut through state keys s.rows.items (index + 1)) (sym w.lost-is)
            (out_more through state keys c.loop-index.lost.rows.items _ index (ap is_lasting (sym c.key_at.ensures) ∙ sym c.is_lasting.ensures ∙ w.if-is_lasting.true) c.loop-index.invariant.out w.in_ok-add_where.ensures.rows)
        | else-is_lasting w ↦
            subst (λ s. AreOut through state keys s.rows.items (index + 1)) (sym w.lost-is)
            (out_same through state keys c.loop-index.lost.rows.items index (ap is_lasting (sym c.key_at.ensures) ∙ sym c.is_lasting.ensures ∙ w.if-is_lasting.false) c.loop-index.invariant.out)
      ];
    }

pub returns : goal.returns
returns g c =
    let keys = g.P.Planned.keys c.args.planned.now in
    let state = g.P.Planned.state c.args.planned.now in
    let through = are_meant c.args.which.now in
    let end : c.loop-index.index ≡ length keys = omega (arith, c.loop-index-test.false, c.loop-index.auto.index-end, c.len-index-end.ensures.len) in
    out_gone through state keys c.loop-index.lost.rows.items c.loop-index.lost.delays.items c.loop-index.lost.gone.items c.len-index-end.ensures.covers
    (subst (λ n. AreOut through state keys c.loop-index.lost.rows.items n) end c.loop-index.invariant.out) c.loop-index.invariant.met
