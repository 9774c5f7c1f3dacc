use Rattle.std.proofs.Common.{◌≡◌, ◌++◌, drop}
use Rattle.jm_machine.specs.Entries.{sent_entries}
use Rattle.jm_model.proofs.expanded.add_messages.Given as goal

abbrev pub invariant-loop-message : goal.invariant-loop-message
invariant-loop-message l = l.entries.items ++ sent_entries (drop l.message-index l.messages) ≡ l.fn.entries.items ++ sent_entries l.messages
