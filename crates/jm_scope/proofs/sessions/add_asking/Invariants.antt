use Rattle.std.proofs.Common.{◌≡◌, ◌++◌, drop}
use Rattle.jm_machine.specs.Lone.{askers}
use Rattle.jm_scope.specs.Parts.{client_seen}
use Rattle.jm_scope.proofs.sessions.add_asking.Given as goal

abbrev pub invariant-loop-entry : goal.invariant-loop-entry
invariant-loop-entry l = l.sessions.items ++ askers l.key (client_seen l.clients) (drop l.entry-index l.entries) ≡ l.fn.sessions.items ++ askers l.key (client_seen l.clients) l.entries
