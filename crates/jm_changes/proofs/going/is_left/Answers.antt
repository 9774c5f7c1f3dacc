use Rattle.std.proofs.Common.{sym, ◌∙◌}
use Rattle.jm_changes.specs.Standing.{goes}
use Rattle.jm_changes.proofs.Walk.{none_of_more}
use Rattle.jm_changes.proofs.going.is_left.Goals as goal

pub loop-index-preserved : goal.loop-index-preserved
loop-index-preserved g c =
    none_of_more (goes (g.P.Planned.keys c.args.planned.now) c.args.going.now) (g.P.Planned.state c.args.planned.now) (g.P.Planned.keys c.args.planned.now) c.args.place c.loop-index.index c.loop-index.invariant (sym c.stays_at.ensures ∙ c.if-stays_at.false)
