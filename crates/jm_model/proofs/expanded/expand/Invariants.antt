use Rattle.std.proofs.Common.{◌≡◌, ◌++◌, drop}
use Rattle.jm_machine.specs.Entries.{expand}
use Rattle.jm_model.proofs.expanded.expand.Given as goal

abbrev pub invariant-loop-event : goal.invariant-loop-event
invariant-loop-event l = l.entries.items ++ expand (drop l.event-index l.events) ≡ expand l.events
