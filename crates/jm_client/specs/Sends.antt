-- What a send answers, and what waits in the session then.
use Rattle.std.specs.Prelude.{◌≡◌, ℕ, ◌+◌, false, [], ◌∷◌, Result, Ok, Err, ◌⊎◌, MatchBool}
use Rattle.jm_base.specs.declared.refusal.Refusal.{Refusal}
use Rattle.jm_base.specs.declared.refusal.Refusal.TheVariants.{Memory, OutOfRange}
use Rattle.jm_client.specs.Told.{Told}
use Rattle.jm_dest.specs.declared.destination.Destination.{Destination}
use Rattle.jm_dest.specs.declared.session.SessionId.{SessionId}
use Rattle.jm_error.specs.Refused.{Refused, bare}
use Rattle.jm_header.specs.declared.content.Content.{Content}
use Rattle.jm_header.specs.declared.content.Settings.{Settings}
use Rattle.jm_machine.specs.declared.answer.Answer.TheVariants.{Done}
use Rattle.jm_machine.specs.declared.call.Call.TheVariants.{Publish}
use Rattle.jm_machine.specs.declared.call.Who.TheVariants.{Session}
use Rattle.jm_tx.specs.declared.buffer.Buffer.{Buffer}
use Rattle.jm_tx.specs.Buffers.{is_transacted, stamp_of, with_sent}

-- what is told of the publication of a message of the session: it is done, with the message's number, or refused so
abbrev pub IsPublished : SessionId → Content → Result ℕ Refused → Type 0
IsPublished s m (Ok n) = (n ≡ m.number) × Told (Session s) (Publish (m ∷ [])) (Ok Done)
IsPublished s m (Err r) = Told (Session s) (Publish (m ∷ [])) (Err r)

-- no message is made of the draft: the clock is not read, memory is wanted, or the stamp of some moment is refused so
abbrev pub IsUnstamped : Buffer → Settings → Destination → Refused → Type 0
IsUnstamped old draft destination r =
    (r ≡ bare OutOfRange) ⊎ ((r ≡ bare Memory) ⊎ ((now : ℕ) × (q : Refusal) × (stamp_of old draft destination now ≡ Err q) × (r ≡ bare q)))

-- the draft is stamped at some moment, and the message's number is told; it was published, or the session keeps it where it waits
-- for the commit. A send that is refused before there is a message leaves the session as it was; one whose publication is refused
-- uses its number, where nothing ever waits
abbrev pub Sends : Buffer → Settings → Destination → Result ℕ Refused → Buffer → Type 0
Sends old draft destination (Ok n) new =
    (now : ℕ) × (m : Content) × (stamp_of old draft destination now ≡ Ok m) × (new ≡ with_sent (is_transacted old.mode) m old)
    × MatchBool (is_transacted old.mode) (n ≡ m.number) (IsPublished old.sender.session m (Ok n))
Sends old draft destination (Err r) new =
    ((new ≡ old) × IsUnstamped old draft destination r)
    ⊎ ((is_transacted old.mode ≡ false) × (new ≡ record old { sent = old.sent + 1 })
    × ((now : ℕ) × (m : Content) × (stamp_of old draft destination now ≡ Ok m) × IsPublished old.sender.session m (Err r)))
