use Rattle.std.proofs.Common.{◌≤◌, ◌-◌}
use Rattle.jm_dest.specs.Numbers.{long_end}
use Rattle.jm_machine.specs.Under.{placed_under}
use Rattle.jm_changes.specs.Standing.{AreMet, goes, key_in, meant}
use Rattle.jm_changes.proofs.Losing.{Has}
use Rattle.jm_changes.proofs.lost.Lost.add_where.Given as goal

abbrev pub invariant-loop-row : goal.invariant-loop-row
invariant-loop-row g l = record {
  within : l.place ≤ long_end;
  fit : AreMet (goes (g.P.Planned.keys l.planned) l.going) (g.P.Planned.state l.planned) l.self.rows.items l.self.delays.items l.self.gone.items;
  met : Has (meant l.which) (key_in (g.P.Planned.keys l.planned) l.index) (placed_under (g.P.Planned.state l.planned) (key_in (g.P.Planned.keys l.planned) l.index)) l.initial.self.rows.items l.self.rows.items l.place;
}

abbrev pub decreases-loop-row : goal.decreases-loop-row
decreases-loop-row g l = long_end - l.place
