use Rattle.std.proofs.Common.{◌≡◌, ℕ, drop}
use Rattle.std.specs.Prelude.{◌==◌, find, option_map}
use Rattle.std.specs.Option.{option_or}
use Rattle.std.specs.HashMap.{get}
use Rattle.jm_scope.specs.Parts.{client_named, opens}
use Rattle.jm_scope.proofs.clients.add_all_opened.Given as goal

abbrev pub invariant-loop-entry : goal.invariant-loop-entry
invariant-loop-entry l = (c : ℕ) →
    option_or (get (λ a b. a == b) l.clients c) (option_map client_named (find (opens c) (drop l.entry-index l.entries)))
    ≡ option_or (get (λ a b. a == b) l.fn.clients c) (option_map client_named (find (opens c) l.entries))
