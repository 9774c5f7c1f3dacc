use Rattle.std.proofs.Common.{◌≡◌, drop}
use Rattle.std.specs.List.{list_any}
use Rattle.std.specs.Map.{keys_of}
use Rattle.jm_indexed.specs.Entries.{entries_of}
use Rattle.jm_indexed.proofs.order.any_kept.Given as goal

abbrev pub invariant-loop-slot : goal.invariant-loop-slot
invariant-loop-slot g l = list_any (g.C.Choice.kept l.choice) (keys_of (entries_of (drop l.slot l.keys) (drop l.slot l.values.slots))) ≡ list_any (g.C.Choice.kept l.choice) (keys_of (entries_of l.keys l.values.slots))
