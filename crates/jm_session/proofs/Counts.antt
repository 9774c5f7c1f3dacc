-- How many sends were stamped, once nothing was sent, and once one more was.
use Rattle.std.proofs.Common.{◌≡◌, ◌+◌, ℕ, Bool, true, false, cond, [], ap, refl, ◌∙◌, Option, Some, None}
use Rattle.std.specs.Prelude.{unwrap_or}
use Rattle.std.specs.HashMap.{get, Updates}
use Rattle.std.specs.Map.{lookup}
use Rattle.jm_dest.specs.declared.session.SessionId.{SessionId}
use Rattle.jm_dest.specs.Names.{session_eq}
use Rattle.jm_machine.specs.Client.{one_more}
use Rattle.jm_session.specs.declared.sends.Sends.{Sends}
use Rattle.jm_session.specs.Sends.{none_sent, sent_of}

-- where nothing is noted, nothing was sent
pub nothing_noted : (sends : Sends) → sends.numbers.entries ≡ [] → sent_of sends ≡ none_sent
unfolding sent_of
nothing_noted sends e = λ i. λ s. ap (λ es. unwrap_or (lookup (session_eq s) es) 0) e i

-- one more of the session is noted, and each other stays
pub one_noted : (old new : Sends) (s : SessionId) (n : ℕ) → n ≡ sent_of old s + 1 → Updates session_eq old.numbers new.numbers s (Some n) → sent_of new ≡ one_more s (sent_of old)
unfolding sent_of
one_noted old new s n next h = λ i. λ t. each t i
  where
    go : (b : Bool) (o : Option ℕ) → unwrap_or (cond b (Some n) o) 0 ≡ cond b (sent_of old s + 1) (unwrap_or o 0)
    go true o = next
    go false o = refl

    each : (t : SessionId) → sent_of new t ≡ one_more s (sent_of old) t
    each t = ap (λ o. unwrap_or o 0) (h.0 t) ∙ go (session_eq s t) (get session_eq old.numbers t)

-- where the notes are as before, so are the counts
pub same_notes : (old new : Sends) → new.numbers.entries ≡ old.numbers.entries → sent_of new ≡ sent_of old
unfolding sent_of
same_notes old new e = λ i. λ s. ap (λ es. unwrap_or (lookup (session_eq s) es) 0) e i

-- a session of which nothing is noted has sent nothing
pub none_of_session : (sends : Sends) (s : SessionId) → get session_eq sends.numbers s ≡ None → sent_of sends s ≡ 0
unfolding sent_of
none_of_session sends s none = ap (λ o. unwrap_or o 0) none

-- what counting one says
pub ruleset counting = (one_noted, same_notes, none_of_session)
