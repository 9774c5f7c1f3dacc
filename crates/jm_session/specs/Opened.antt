-- The numbers of those that are open or active, kept as a set.
use Rattle.std.specs.Prelude.{◌≡◌, Bool, List, map, filter}
use Rattle.jm_dest.specs.declared.session.SessionId.{SessionId}
use Rattle.jm_indexed.specs.Keys.{Keys}
use Rattle.jm_machine.specs.declared.state.Consumer.{Consumer}
use Rattle.jm_machine.specs.declared.state.SessionState.{SessionState}
use Rattle.jm_session.specs.declared.number.ConsumerNumber.{ConsumerNumber}
use Rattle.jm_session.specs.Numbers.{number_of}

-- the numbers of the ones that are open, in their order
abbrev pub open_numbers : {K V : Type 0} → (V → K) → (V → Bool) → List V → List K
open_numbers number is_open xs = map number (filter is_open xs)

-- the keys are the numbers of the active consumers
abbrev pub AreActive : List Consumer → Keys ConsumerNumber → Type 0
AreActive consumers active = active.keys ≡ open_numbers number_of (λ x. x.is_active) consumers

-- the keys are the numbers of the open sessions
abbrev pub AreOpen : List SessionState → Keys SessionId → Type 0
AreOpen sessions opened = opened.keys ≡ open_numbers (λ x. x.id) (λ x. x.is_open) sessions
