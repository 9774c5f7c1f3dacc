use Rattle.jm_changes.specs.Standing.{goes}
use Rattle.jm_changes.proofs.Walk.{NoneOf}
use Rattle.jm_changes.proofs.going.is_left.Given as goal

abbrev pub invariant-loop-index : goal.invariant-loop-index
invariant-loop-index g l = NoneOf (goes (g.P.Planned.keys l.planned) l.going) (g.P.Planned.state l.planned) (g.P.Planned.keys l.planned) l.place l.index
