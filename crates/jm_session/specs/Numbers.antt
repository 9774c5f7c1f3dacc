-- What the numbers of connections, sessions and consumers stand for.
use Rattle.std.specs.Prelude.{◌≡◌, List, [], ◌∷◌, map}
use Rattle.std.specs.Map.{values_of}
use Rattle.jm_machine.specs.declared.state.Consumer.{Consumer}
use Rattle.jm_session.specs.declared.number.ConsumerNumber.{ConsumerNumber}

-- each value stands under its own number
abbrev pub IsNumbered : {K V : Type 0} → (V → K) → List (K × V) → Type 0
IsNumbered number [] = Unit {0}
IsNumbered number (e ∷ entries) = (e.0 ≡ number e.1) × IsNumbered number entries

-- a consumer's session and number
abbrev pub number_of : Consumer → ConsumerNumber
number_of x = record { session = x.session; consumer = x.id }

-- where each value stands under its own number, each is changed, and stands under its number again
abbrev pub IsChanged : {K V : Type 0} → (V → K) → (V → V) → List (K × V) → List (K × V) → Type 0
IsChanged number f old new = IsNumbered number old → (values_of new ≡ map f (values_of old)) × IsNumbered number new
