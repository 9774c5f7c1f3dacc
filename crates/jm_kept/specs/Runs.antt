-- What a run with a keeper owes.
use Rattle.std.specs.Prelude.{◌≡◌, ◌⊎◌, ◌<◌, ◌≤◌, ◌^◌, ◌-◌, ℕ, false, List, [], ◌∷◌, Result, Ok, Err, MatchBool, if◌then◌else◌}
use Rattle.jm_base.specs.declared.refusal.Refusal.{Refusal}
use Rattle.jm_dest.specs.declared.destination.Destination.{Destination}
use Rattle.jm_dest.specs.declared.session.SessionId.{SessionId}
use Rattle.jm_header.specs.declared.content.Content.{Content}
use Rattle.jm_header.specs.declared.content.Settings.{Settings}
use Rattle.jm_machine.specs.declared.answer.Answer.{Answer}
use Rattle.jm_machine.specs.declared.answer.Answer.TheVariants.{Sent as SentAs}
use Rattle.jm_machine.specs.declared.call.Call.{Call}
use Rattle.jm_machine.specs.declared.call.Call.TheVariants.{Publish, Commit, Ask as AskStep}
use Rattle.jm_machine.specs.declared.call.ClientCall.{ClientCall}
use Rattle.jm_machine.specs.declared.call.ClientCall.TheVariants.{Ask, Send, CommitSession}
use Rattle.jm_machine.specs.declared.call.Who.{Who}
use Rattle.jm_machine.specs.Client.{Progress, after_request, is_in_transaction, one_more, progress_to, reply_to, send_wanting, stamp_of}
use Rattle.jm_machine.specs.Entries.{is_not_made}
use Rattle.jm_tx.specs.declared.buffer.Sent.{Sent}
use Rattle.jm_tx.specs.declared.buffer.Sent.TheVariants.{Kept, Publish as ToPublish}

-- the messages that a call commits
abbrev pub messages_in : Call → List Content
messages_in (AskStep request) = []
messages_in (Publish messages) = []
messages_in (Commit messages) = messages

-- what waits for commits after a call that was told so: what its request ends is dropped, unless it counts as not made
abbrev pub kept_past : Who → Call → Result Answer Refusal → (SessionId → List Content) → SessionId → List Content
kept_past who (AskStep request) told kept = if is_not_made told then kept else after_request who request told kept
kept_past who (Publish messages) told kept = kept
kept_past who (Commit messages) told kept = kept

-- the run after a send that counts as not made: where its message is stamped and was to be published, the number is used
abbrev pub send_not_made : Progress → SessionId → Result Content Refusal → Progress
send_not_made p s (Ok m) = send_wanting (is_in_transaction p.state s) p s
send_not_made p s (Err r) = p

-- the run after a call that counts as not made: it is as before, but for the number of a send that was to be published
unfoldable pub progress_not_made : Progress → ClientCall → Progress
progress_not_made p (Ask who request) = p
progress_not_made p (Send s draft destination now) = send_not_made p s (stamp_of p s draft destination now)
progress_not_made p (CommitSession s) = p

-- what a run with a keeper owes to a call: the machine's reply; or it counts as not made, since memory was wanted or the
-- keeper refused
abbrev pub CallKept : Progress → ClientCall → Result Answer Refusal → Progress → Type 0
CallKept p call r next =
    MatchBool (is_not_made r)
    (next ≡ progress_not_made p call)
    ((r ≡ reply_to p call) × (next ≡ progress_to p call))

-- what a run with a keeper owes to a list of calls: each reply in turn, and to lead there
abbrev pub RunKept : Progress → List ClientCall → List (Result Answer Refusal) → Progress → Type 0
RunKept p [] [] end = end ≡ p
RunKept p [] (r ∷ replies) end = ⊥
RunKept p (call ∷ calls) [] end = ⊥
RunKept p (call ∷ calls) (r ∷ replies) end = (next : Progress) × CallKept p call r next × RunKept next calls replies end

-- what a send of the session owes until it is published: it is refused or kept, and that is all; or its message is
-- stamped, and its number used
abbrev pub StampKept : Progress → SessionId → Settings → Destination → ℕ → Result Sent Refusal → Progress → Type 0
StampKept p s draft destination now (Err r) next = CallKept p (Send s draft destination now) (Err r) next
StampKept p s draft destination now (Ok (Kept n)) next = CallKept p (Send s draft destination now) (Ok (SentAs n)) next
StampKept p s draft destination now (Ok (ToPublish m)) next =
    (stamp_of p s draft destination now ≡ Ok m) × (is_in_transaction p.state s ≡ false) × (next ≡ record { state = p.state; sent = one_more s p.sent; kept = p.kept })

-- the keeper has failed: the count of its faults rose, or stands at its last value
abbrev pub HasFailed : ℕ → ℕ → Type 0
HasFailed old new = (old < new) ⊎ (2 ^ 64 - 1 ≤ new)
