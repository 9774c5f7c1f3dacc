use Rattle.jm_machine.specs.Machine.{are_meant}
use Rattle.jm_machine.specs.Rows.{is_out}
use Rattle.jm_changes.specs.Standing.{AreMet}
use Rattle.jm_changes.proofs.Gone.{AreOut}
use Rattle.jm_changes.proofs.settling.lost_out.Given as goal

abbrev pub invariant-loop-index : goal.invariant-loop-index
invariant-loop-index g l = record {
  met : AreMet (λ key r. is_out (are_meant l.which) r) (g.P.Planned.state l.planned) l.lost.rows.items l.lost.delays.items l.lost.gone.items;
  out : AreOut (are_meant l.which) (g.P.Planned.state l.planned) (g.P.Planned.keys l.planned) l.lost.rows.items l.index;
}
