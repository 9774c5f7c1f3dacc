use Rattle.std.proofs.Common.{sym, subst, ◌∙◌}
use Rattle.jm_machine.specs.Under.{placed_under}
use Rattle.jm_keep.specs.Steps.{AreGone, taken_under}
use Rattle.jm_changes.specs.Standing.{key_in, taken_row}
use Rattle.jm_changes.proofs.Listed.{taken_read, takes_none, takes_one, takes_other}
use Rattle.jm_changes.proofs.settling.lost_taken.Goals as goal
use Rattle.jm_changes.proofs.settling.lost_taken.Goals.{in-Some+then-row+in_ok-add, in-Some+else-row, in_default}

pub add-requires-clause-read : goal.add-requires-clause-read
add-requires-clause-read g c =
    taken_read (g.P.Planned.takes c.args.planned.now) (key_in (g.P.Planned.keys c.args.planned.now) c.args.index) (g.P.Planned.state c.args.planned.now) c.in-Some.row c.requires.order
    (sym c.taken_at.ensures.row ∙ c.in-Some.is)

pub returns : goal.returns
returns g c =
    let key = key_in (g.P.Planned.keys c.args.planned.now) c.args.index in
    let state = g.P.Planned.state c.args.planned.now in
    let place = g.P.Planned.takes c.args.planned.now in
    let taken = taken_under key c.args.now (taken_row place (placed_under state key)) in
    elim c.match-taken_at.branch [
      | in-Some+then-row+in_ok-add w ↦
          subst (λ s. AreGone taken state s.rows.items s.delays.items s.gone.items) (sym w.lost-is)
          (takes_one place c.args.now key state w.in-Some.row c.in_ok-lost.lost.rows.items _ _ _ c.requires.order c.requires.lasting (sym c.taken_at.ensures.row ∙ w.in-Some.is) w.if-row.true c.in_ok-lost.ensures.rows w.in_ok-add.ensures.rows w.in_ok-add.ensures.fit)
      | in-Some+else-row w ↦
          subst (λ s. AreGone taken state s.rows.items s.delays.items s.gone.items) (sym w.lost-is)
          (takes_other place c.args.now key state w.in-Some.row c.in_ok-lost.lost.rows.items c.in_ok-lost.lost.delays.items c.in_ok-lost.lost.gone.items c.requires.order c.requires.lasting (sym c.taken_at.ensures.row ∙ w.in-Some.is) w.if-row.false c.in_ok-lost.ensures.rows c.in_ok-lost.ensures.met)
      | in_default w ↦
          subst (λ s. AreGone taken state s.rows.items s.delays.items s.gone.items) (sym w.lost-is)
          (takes_none place c.args.now key state c.in_ok-lost.lost.rows.items c.in_ok-lost.lost.delays.items c.in_ok-lost.lost.gone.items c.requires.lasting (sym c.taken_at.ensures.row ∙ w.in_default.is) c.in_ok-lost.ensures.rows c.in_ok-lost.ensures.met)
    ]
