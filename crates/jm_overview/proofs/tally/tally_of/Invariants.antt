use Rattle.std.proofs.Common.{◌≤◌, ◌-◌}
use Rattle.jm_machine.specs.Machine.{places_end}
use Rattle.jm_overview.proofs.Counting.{Counted}
use Rattle.jm_overview.proofs.tally.tally_of.Given as goal

abbrev pub invariant-loop-row : goal.invariant-loop-row
invariant-loop-row l = record {
  within : l.place ≤ places_end;
  counted : Counted l.rows l.place l.tally.waiting l.tally.out;
}

abbrev pub decreases-loop-row : goal.decreases-loop-row
decreases-loop-row l = places_end - l.place
