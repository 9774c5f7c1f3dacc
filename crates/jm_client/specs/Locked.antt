-- What lies under the lock.
use Rattle.std.specs.Prelude.{◌≡◌, ℕ, ◌≤◌, Bool, false, [], ◌∷◌, Result, IsTrue, IsErrOf}
use Rattle.jm_base.specs.declared.refusal.Refusal.{Refusal}
use Rattle.jm_base.specs.declared.refusal.Refusal.TheVariants as refusals
use Rattle.jm_plans.specs.Provider.{Provider, state_of}
use Rattle.jm_plans.specs.Steps.{StepFits}
use Rattle.jm_dest.specs.declared.session.SessionId.{SessionId}
use Rattle.jm_header.specs.declared.content.Content.{Content}
use Rattle.jm_keep.specs.Persisted.{IsPersisted}
use Rattle.jm_keep.specs.Stored.{HasRisen, Stored}
use Rattle.jm_machine.specs.declared.answer.Answer.{Answer}
use Rattle.jm_machine.specs.declared.call.Call.TheVariants.{Publish}
use Rattle.jm_machine.specs.declared.call.Step.{Step}
use Rattle.jm_machine.specs.declared.call.Who.TheVariants.{Session}

-- the step in which the session publishes that message alone
abbrev pub publication : SessionId → Content → Step
publication s m = record { who = Session s; call = Publish (m ∷ []) }

-- a core and its keeper
pub record CoreKept (K : Type 0) : Type 0 where
  pub core : Provider
  pub keeper : K

module _ {K : Type 0} (is_keeping is_clean : K → Bool) (faults : K → ℕ) (stored : K → Stored) where
  -- a step over a core and its keeper, beyond the core's state. One that keeps nothing is left as it is, and then the step is the
  -- core's own. Store is answered only where the keeper's faults have risen; their count never falls, and what was not clean stays
  -- so. Where it is clean afterwards, and had stored what is stored of the state, it has again
  abbrev pub IsKeptStep : CoreKept K → Step → Result Answer Refusal → CoreKept K → Type 0
  IsKeptStep old p r new =
      (is_keeping old.keeper ≡ false → StepFits (state_of old.core) p.who p.call r (state_of new.core))
      × (is_keeping old.keeper ≡ false → new.keeper ≡ old.keeper)
      × (IsErrOf r refusals.Store → HasRisen (faults old.keeper) (faults new.keeper))
      × (faults old.keeper ≤ faults new.keeper)
      × (IsTrue (is_clean new.keeper) → IsTrue (is_clean old.keeper))
      × (IsTrue (is_clean new.keeper) → IsPersisted (state_of old.core) (stored old.keeper) → IsPersisted (state_of new.core) (stored new.keeper))

-- a backend, its core, and the numbers that were given last: to a connection, to a session and to a consumer
pub record Locked (B : Type 0) : Type 0 where
  pub core : Provider
  pub backend : B
  pub connections : ℕ
  pub sessions : ℕ
  pub consumers : ℕ
