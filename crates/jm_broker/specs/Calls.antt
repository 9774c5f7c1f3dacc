-- What a call adds to its pass.
use Rattle.std.specs.Prelude.{◌≡◌, ℕ, ◌+◌, ◌<◌, List, [], ◌∷◌, ◌++◌, length, Bool, true, false, MatchBool, Result, Ok}
use Rattle.jm_base.specs.declared.refusal.Refusal.{Refusal}
use Rattle.jm_dest.specs.declared.session.SessionId.{SessionId}
use Rattle.jm_machine.specs.declared.answer.Answer.{Answer}
use Rattle.jm_machine.specs.declared.answer.Answer.TheVariants.{Nothing}
use Rattle.jm_machine.specs.declared.call.Who.TheVariants.{Session}
use Rattle.jm_machine.specs.declared.call.Call.TheVariants.{Ask}
use Rattle.jm_machine.specs.declared.call.Request.TheVariants.{Receive}
use Rattle.jm_machine.specs.declared.call.Step.{Step}
use Rattle.jm_machine.specs.Entries.{is_not_made}
use Rattle.jm_audit.specs.declared.pass.PassEntry.{PassEntry}
use Rattle.jm_audit.specs.Passes.{Calls}
use Rattle.jm_broker.specs.Traces.{event}

abbrev pub entry : ℕ → Step → Result Answer Refusal → PassEntry
entry n p r = record { position = n; event = event p r }

-- the pass has those entries more, at its end, and so many calls more were made with it
abbrev pub Gains : Calls → Calls → List PassEntry → Type 0
Gains old new entries = (new.entries ≡ old.entries ++ entries) × (new.made ≡ old.made + length entries)

-- its calls are the same
abbrev pub HasSame : Calls → Calls → Type 0
HasSame old new = (new.entries ≡ old.entries) × (new.made ≡ old.made)

-- what one call does to its pass: one entry more, at some position, with this step and reply; or none, where the call counts
-- as not made
abbrev pub Noted : Calls → Calls → Step → Result Answer Refusal → Type 0
Noted old new p r = MatchBool (is_not_made r) (HasSame old new) ((n : ℕ) × Gains old new (entry n p r ∷ []))

-- the consumer's session asks for its next message at that moment
abbrev pub receive : SessionId → ℕ → ℕ → Step
receive s c t = record { who = Session s; call = Ask (Receive c t) }

-- each is a receive of the consumer, at some moment, that was answered Nothing
abbrev pub AllWaited : SessionId → ℕ → List PassEntry → Type 0
AllWaited s c [] = Unit {0}
AllWaited s c (e ∷ es) = ((t : ℕ) × (e.event ≡ event (receive s c t) (Ok Nothing))) × AllWaited s c es

abbrev pub is_nothing : Result Answer Refusal → Bool
is_nothing (Ok Nothing) = true
is_nothing _ = false

-- what a waiting receive does to its pass: some receives that found nothing, and then the last of all turns found nothing
-- too; or one counts as not made and adds nothing; or one more receive was answered otherwise
abbrev pub Received : SessionId → ℕ → ℕ → Calls → Calls → Result Answer Refusal → Type 0
Received s c turns old new r =
    (waited : List PassEntry) × AllWaited s c waited
    × MatchBool (is_nothing r)
    (Gains old new waited × (length waited ≡ turns))
    (MatchBool (is_not_made r)
    (Gains old new waited × (length waited < turns))
    ((n : ℕ) × (t : ℕ) × Gains old new (waited ++ entry n (receive s c t) r ∷ []) × (length waited < turns)))
