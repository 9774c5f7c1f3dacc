use Rattle.std.proofs.Common.{◌+◌, arith, sym, ap, ◌∙◌, subst}
use Rattle.jm_machine.specs.Under.{placed_under}
use Rattle.jm_changes.specs.Standing.{AreMet, goes, key_in, meant}
use Rattle.jm_changes.proofs.First.{met, none_found}
use Rattle.jm_changes.proofs.Losing.{Has, has_all, turn_from, turn_more, turn_read, turn_same}
use Rattle.jm_keep_law.proofs.Published.{under_in_order}
use Rattle.jm_changes.proofs.lost.Lost.add_where.Goals as goal
use Rattle.jm_changes.proofs.lost.Lost.add_where.Goals.{then-row+in_ok-add, else-row}

pub loop-row-smaller : goal.loop-row-smaller
loop-row-smaller g c =
    let from = turn_from _ _ _ _ (met (meant c.args.which.now) (g.P.Planned.state c.args.planned.now).next_place c.loop-row.place (placed_under (g.P.Planned.state c.args.planned.now) (key_in (g.P.Planned.keys c.args.planned.now) c.args.index)) c.in-Some.row
    (under_in_order (g.P.Planned.state c.args.planned.now) c.requires.order (key_in (g.P.Planned.keys c.args.planned.now) c.args.index)) (sym c.row_where.ensures.row ∙ c.in-Some.is)) in
    let end = c.in-Some.ensures.place in
    omega (arith, from, end)

pub add-requires-clause-read : goal.add-requires-clause-read
add-requires-clause-read g c =
    let keys = g.P.Planned.keys c.args.planned.now in
    let state = g.P.Planned.state c.args.planned.now in
    let key = key_in keys c.args.index in
    turn_read (meant c.args.which.now) c.loop-row.place state key c.in-Some.row
    (met (meant c.args.which.now) state.next_place c.loop-row.place (placed_under state key) c.in-Some.row (under_in_order state c.requires.order key) (sym c.row_where.ensures.row ∙ c.in-Some.is))

pub loop-row-preserved : goal.loop-row-preserved
loop-row-preserved g c =
    let keys = g.P.Planned.keys c.args.planned.now in
    let state = g.P.Planned.state c.args.planned.now in
    let key = key_in keys c.args.index in
    let under = placed_under state key in
    let before = c.args.self.now.rows.items in
    let turned = (met (meant c.args.which.now) (g.P.Planned.state c.args.planned.now).next_place c.loop-row.place (placed_under (g.P.Planned.state c.args.planned.now) (key_in (g.P.Planned.keys c.args.planned.now) c.args.index)) c.in-Some.row
    (under_in_order (g.P.Planned.state c.args.planned.now) c.requires.order (key_in (g.P.Planned.keys c.args.planned.now) c.args.index)) (sym c.row_where.ensures.row ∙ c.in-Some.is)) in
    let end = c.in-Some.ensures.place in
    record {
      within = omega (arith, end);
      fit = elim c.if-row.branch [
        | then-row+in_ok-add w ↦ subst (λ s. AreMet (goes keys c.args.going.now) state s.rows.items s.delays.items s.gone.items) (sym w.self-is) w.in_ok-add.ensures.fit
        | else-row w ↦ subst (λ s. AreMet (goes keys c.args.going.now) state s.rows.items s.delays.items s.gone.items) (sym w.self-is) c.loop-row.invariant.fit
      ];
      met = elim c.if-row.branch [
        | then-row+in_ok-add w ↦
            subst (λ rows. Has (meant c.args.which.now) key under before rows (c.in-Some.row.place + 1)) (sym (ap (λ s. s.rows.items) w.self-is ∙ w.in_ok-add.ensures.rows))
            (turn_more (meant c.args.which.now) key under before c.loop-row.self.rows.items c.loop-row.place c.in-Some.row turned w.if-row.true c.loop-row.invariant.met)
        | else-row w ↦
            subst (λ rows. Has (meant c.args.which.now) key under before rows (c.in-Some.row.place + 1)) (sym (ap (λ s. s.rows.items) w.self-is))
            (turn_same (meant c.args.which.now) key under before c.loop-row.self.rows.items c.loop-row.place c.in-Some.row turned w.if-row.false c.loop-row.invariant.met)
      ];
    }

pub returns-clause-rows : goal.returns-clause-rows
returns-clause-rows g c = has_all (meant c.args.which.now) (key_in (g.P.Planned.keys c.args.planned.now) c.args.index) (placed_under (g.P.Planned.state c.args.planned.now) (key_in (g.P.Planned.keys c.args.planned.now) c.args.index)) _ _ c.loop-row.place (none_found _ (sym c.row_where.ensures.row ∙ c.in_default.is)) c.loop-row.invariant.met
