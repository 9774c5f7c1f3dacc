-- What a session sends, and what it keeps until its commit (Jakarta Messaging 3.1, section 6.2).
use Rattle.std.specs.Prelude.{◌≡◌, ℕ, ◌+◌, Bool, true, false, [], ◌∷◌, ◌++◌, Result, Ok, Err, MatchResult, if◌then◌else◌}
use Rattle.jm_base.specs.declared.mode.Mode.{Mode}
use Rattle.jm_base.specs.declared.mode.Mode.TheVariants.{Auto, Client, Dups, Transacted}
use Rattle.jm_base.specs.declared.refusal.Refusal.{Refusal}
use Rattle.jm_base.specs.declared.refusal.Refusal.TheVariants.{IllegalState, Memory}
use Rattle.jm_dest.specs.declared.destination.Destination.{Destination}
use Rattle.jm_header.specs.declared.content.Content.{Content}
use Rattle.jm_header.specs.declared.content.Sender.{Sender}
use Rattle.jm_header.specs.declared.content.Settings.{Settings}
use Rattle.jm_header.specs.Headers.{next_stamped}
use Rattle.jm_tx.specs.declared.buffer.Buffer.{Buffer}
use Rattle.jm_tx.specs.declared.buffer.Sent.{Sent}
use Rattle.jm_tx.specs.declared.buffer.Sent.TheVariants.{Publish, Kept}

-- an open session that made so many sends before: no message waits
abbrev pub new_buffer : Sender → Mode → ℕ → Buffer
new_buffer sender mode sent = record { sender = sender; mode = mode; sent = sent; messages = []; is_closed = false }

-- what is sent in that mode waits for the commit
abbrev pub is_transacted : Mode → Bool
is_transacted Auto = false
is_transacted Client = false
is_transacted Dups = false
is_transacted Transacted = true

-- the message of the next send; or why it is not stamped: the session is closed, a moment passes its range, or the numbers
-- are used up
abbrev pub stamp_of : Buffer → Settings → Destination → ℕ → Result Content Refusal
stamp_of buffer draft destination now =
    if buffer.is_closed then Err IllegalState else next_stamped draft destination buffer.sender buffer.sent now

-- what is answered to a send whose message is stamped: its number, where it waits for the commit, and else the message
abbrev pub sent_as : Bool → Content → Sent
sent_as true m = Kept m.number
sent_as false m = Publish m

-- the session after it: the number is used, and what waits for the commit stands behind all that waited before
abbrev pub with_sent : Bool → Content → Buffer → Buffer
with_sent true m buffer = record buffer { sent = buffer.sent + 1; messages = buffer.messages ++ m ∷ [] }
with_sent false m buffer = record buffer { sent = buffer.sent + 1 }

-- what a send of an open session answers and leaves, by its stamp, where its messages wait for the commit or not: a refused
-- one leaves all as before; so does a want of memory, which comes only where the message waits
abbrev pub KnownSendFits : Bool → Buffer → Result Content Refusal → Result Sent Refusal → Buffer → Type 0
KnownSendFits waits old (Err refusal) result new = (result ≡ Err refusal) × (new ≡ old)
KnownSendFits waits old (Ok m) result new =
    MatchResult result
    (λ sent. (sent ≡ sent_as waits m) × (new ≡ with_sent waits m old))
    (λ refusal. (refusal ≡ Memory) × (waits ≡ true) × (new ≡ old))

-- what a send answers and leaves, by its stamp
abbrev pub SendFits : Buffer → Result Content Refusal → Result Sent Refusal → Buffer → Type 0
SendFits old stamp result new = KnownSendFits (is_transacted old.mode) old stamp result new
