use Rattle.std.proofs.Common.{◌≡◌, ℕ, drop}
use Rattle.std.specs.Prelude.{◌&&◌, find, option_map}
use Rattle.std.specs.Option.{option_or}
use Rattle.std.specs.HashMap.{get}
use Rattle.jm_dest.specs.declared.session.SessionId.{SessionId}
use Rattle.jm_machine.specs.Machine.{has_number}
use Rattle.jm_scope.specs.Numbers.{same_number}
use Rattle.jm_scope.specs.Parts.{may_be, is_of}
use Rattle.jm_scope.proofs.numbers.numbers_held.Given as goal

abbrev pub invariant-loop-consumer : goal.invariant-loop-consumer
invariant-loop-consumer l = (s : SessionId) (c : ℕ) →
    option_or (get same_number l.numbers (record { session = s; consumer = c })) (option_map (is_of l.key) (find (λ x. may_be l.key s c && has_number s c x) (drop l.consumer-index l.consumers)))
    ≡ option_map (is_of l.key) (find (λ x. may_be l.key s c && has_number s c x) l.consumers)
