-- No key of a subscription is that of a queue.
use Rattle.std.proofs.Common.{◌≡◌, ℕ, false, List, refl}
use Rattle.std.specs.List.{All}
use Rattle.std.proofs.lemmas.List.Elements.{All-weaker}
use Rattle.jm_dest.specs.declared.key.Key.{Key}
use Rattle.jm_dest.specs.declared.key.Key.TheVariants.{Queue, Own, SharedOwn, Durable}
use Rattle.jm_dest.specs.Keys.{key_eq}
use Rattle.jm_machine.specs.declared.state.Consumer.{Consumer}
use Rattle.jm_machine.specs.Attached.{IsOfSubscription}

not_queue : (consumers : List Consumer) (name : List ℕ) (k : Key) → IsOfSubscription consumers k → key_eq k (Queue name) ≡ false
not_queue consumers name (Own s c) h = refl
not_queue consumers name (Queue other) h = absurd h
not_queue consumers name (SharedOwn client other) h = refl
not_queue consumers name (Durable client other) h = refl

pub no_queue : (consumers : List Consumer) (name : List ℕ) (keys : List Key) → All (IsOfSubscription consumers) keys → All (λ x. key_eq x (Queue name) ≡ false) keys
no_queue consumers name keys h = All-weaker (IsOfSubscription consumers) (λ x. key_eq x (Queue name) ≡ false) (not_queue consumers name) keys h
