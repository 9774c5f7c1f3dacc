use Rattle.std.proofs.Common.{sym, subst}
use Rattle.jm_keep.specs.Steps.{AreGone, all_under}
use Rattle.jm_changes.specs.Standing.{IsIndexOf, key_in}
use Rattle.jm_changes.proofs.Listed.{all_met, nothing_under}
use Rattle.jm_changes.proofs.subscriptions.lost_under.Goals as goal
use Rattle.jm_changes.proofs.subscriptions.lost_under.Goals.{in-Some+in_ok-add_where, in_default}

pub returns : goal.returns
returns g c =
    let keys = g.P.Planned.keys c.args.planned.now in
    let state = g.P.Planned.state c.args.planned.now in
    let key = c.args.key.now in
    λ l. elim c.match-index_of.branch [
      | in-Some+in_ok-add_where w ↦
          subst (λ s. AreGone (all_under key) state s.rows.items s.delays.items s.gone.items) (sym w.lost-is)
          (all_met (key_in keys w.in-Some.index) key state c.new-lost.result.rows.items _ _ _ ((subst (λ o. IsIndexOf keys state key o) w.in-Some.is c.index_of.ensures).1) l c.new-lost.ensures.rows w.in_ok-add_where.ensures.rows w.in_ok-add_where.ensures.fit)
      | in_default w ↦
          subst (λ s. AreGone (all_under key) state s.rows.items s.delays.items s.gone.items) (sym w.lost-is)
          (nothing_under key state c.new-lost.result.rows.items c.new-lost.result.delays.items c.new-lost.result.gone.items l (subst (λ o. IsIndexOf keys state key o) w.in_default.is c.index_of.ensures) c.new-lost.ensures.rows c.new-lost.ensures.delays c.new-lost.ensures.gone)
    ]
