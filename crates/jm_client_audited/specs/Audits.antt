-- What contracts see of an audited backend, and what a call notes there.
use Rattle.std.specs.Prelude.{◌≡◌, ℕ, ◌+◌, Bool, false, List, [], ◌∷◌, ◌++◌, length, Result, slice_index_or, IsTrue, IsErrOf}
use Rattle.jm_base.specs.declared.refusal.Refusal.{Refusal}
use Rattle.jm_base.specs.declared.refusal.Refusal.TheVariants as refusals
use Rattle.jm_machine.specs.declared.answer.Answer.{Answer}
use Rattle.jm_machine.specs.declared.call.Step.{Step}
use Rattle.jm_machine.specs.declared.call.Who.{Who}
use Rattle.jm_plans.specs.Provider.{Provider}
use Rattle.jm_audit.specs.Passes.{Calls, no_calls}
use Rattle.jm_broker.specs.Calls.{entry, Gains, HasSame}
use Rattle.jm_broker.specs.Traces.{OnMade, OnNotMade, Seen, event}
use Rattle.jm_keep.specs.Stored.{HasRisen, Stored}
use Rattle.jm_client_audited.specs.Callers.{place_of, who_eq}

-- the trace with its core and keeper; those who called, in the order of their first calls; and the pass of each
pub record Audit (K : Type 0) : Type 0 where
  pub traced : Seen Provider K
  pub callers : List Who
  pub passes : List Calls

-- the calls of the caller's pass; none where it has none
abbrev pub calls_by : List Who → List Calls → Who → Calls
calls_by callers passes w = slice_index_or passes (place_of callers w) no_calls

abbrev pub calls_of : {K : Type 0} → Audit K → Who → Calls
calls_of a w = calls_by a.callers a.passes w

-- a call was noted: with one event more in the trace, and with one entry more, at its position, in the caller's pass; those of
-- all others are as before
abbrev pub IsNoted : {K : Type 0} → Audit K → Audit K → Step → Result Answer Refusal → Type 0
IsNoted old new p r =
    (new.traced.events ≡ old.traced.events ++ event p r ∷ [])
    × Gains (calls_of old p.who) (calls_of new p.who) (entry (old.traced.first + length old.traced.events) p r ∷ [])
    × ((w : Who) → who_eq w p.who ≡ false → HasSame (calls_of old w) (calls_of new w))

-- nothing was noted
abbrev pub IsUnnoted : {K : Type 0} → Audit K → Audit K → Type 0
IsUnnoted old new = (new.traced.events ≡ old.traced.events) × ((w : Who) → HasSame (calls_of old w) (calls_of new w))

-- a step over an audited backend, beyond the core's state: it is noted where it is made; else nothing is noted, and a clean keeper has
-- stored what it had. Store is answered only where the keeper's faults have risen. The trace begins where it began
abbrev pub IsAuditedStep : {K : Type 0} → (K → Bool) → (K → ℕ) → (K → Stored) → Audit K → Step → Result Answer Refusal → Audit K → Type 0
IsAuditedStep is_clean faults stored old p r new =
    OnMade r (IsNoted old new p r)
    × OnNotMade r (IsUnnoted old new)
    × (IsTrue (is_clean new.traced.keeper) → OnNotMade r (stored new.traced.keeper ≡ stored old.traced.keeper))
    × (IsErrOf r refusals.Store → HasRisen (faults old.traced.keeper) (faults new.traced.keeper))
    × (new.traced.opening ≡ old.traced.opening) × (new.traced.first ≡ old.traced.first)
