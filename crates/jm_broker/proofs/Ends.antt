-- What is said of a cut that is refused.
use Rattle.std.proofs.Common.{◌≡◌, ◌<◌, ◌+◌, ◌^◌, ◌⊎◌, inl, inr, Bool, length, Result, Ok, Err}
use Rattle.std.specs.Prelude.{IfErr}
use Rattle.jm_base.specs.declared.refusal.Refusal.{Refusal}
use Rattle.jm_base.specs.declared.refusal.Refusal.TheVariants.{Exhausted, Memory}
use Rattle.jm_keep.specs.Stored.{Stored}
use Rattle.jm_machine.specs.Machine.{State}
use Rattle.jm_broker.specs.Traces.{Seen, IsHeld}

-- memory was wanted, or this trace ends too late
abbrev EndsLate : {C K : Type 0} → (C → State) → (K → Bool) → (K → Stored) → Seen C K → Refusal → Type 0
EndsLate state is_clean stored s r = (r ≡ Memory) ⊎ ((r ≡ Exhausted) × IsHeld state is_clean stored s × (2 ^ 62 < s.first + length s.events))

-- so some trace ends too late
pub some_ends_late : {T C K : Type 0} (state : C → State) (is_clean : K → Bool) (stored : K → Stored) (s : Seen C K) (result : Result T Refusal)
    → IfErr result (EndsLate state is_clean stored s)
    → IfErr result (λ r. (r ≡ Memory) ⊎ ((r ≡ Exhausted) × ((x : Seen C K) × IsHeld state is_clean stored x × (2 ^ 62 < x.first + length x.events))))
some_ends_late state is_clean stored s (Ok t) h = tt
some_ends_late state is_clean stored s (Err r) (inl e) = inl e
some_ends_late state is_clean stored s (Err r) (inr late) = inr (late.0, (s, late.1, late.2))
