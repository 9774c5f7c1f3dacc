use Rattle.std.proofs.Common.{◌≡◌, ℕ, drop}
use Rattle.std.specs.Prelude.{◌&&◌, find, option_map}
use Rattle.std.specs.Option.{option_or}
use Rattle.std.specs.HashMap.{get}
use Rattle.jm_dest.specs.declared.session.SessionId.{SessionId}
use Rattle.jm_machine.specs.Lone.{creates, entry_names}
use Rattle.jm_scope.specs.Numbers.{same_number}
use Rattle.jm_scope.specs.Parts.{client_seen, may_be}
use Rattle.jm_scope.proofs.numbers.add_all_created.Given as goal

abbrev pub invariant-loop-entry : goal.invariant-loop-entry
invariant-loop-entry l = (s : SessionId) (c : ℕ) →
    option_or (get same_number l.numbers (record { session = s; consumer = c })) (option_map (entry_names l.key (client_seen l.clients)) (find (λ e. may_be l.key s c && creates s c e) (drop l.entry-index l.entries)))
    ≡ option_or (get same_number l.fn.numbers (record { session = s; consumer = c })) (option_map (entry_names l.key (client_seen l.clients)) (find (λ e. may_be l.key s c && creates s c e) l.entries))
