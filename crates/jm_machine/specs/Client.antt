-- What clients ask of a run, and the replies that fit it.
use Rattle.std.specs.Prelude.{◌≡◌, ◌⊎◌, ℕ, ◌+◌, Bool, true, false, List, [], ◌∷◌, ◌++◌, is_some, Result, Ok, Err, MatchBool, if◌then◌else◌}
use Rattle.jm_base.specs.declared.refusal.Refusal.{Refusal}
use Rattle.jm_base.specs.declared.refusal.Refusal.TheVariants.{IllegalState}
use Rattle.jm_dest.specs.declared.session.SessionId.{SessionId}
use Rattle.jm_dest.specs.declared.destination.Destination.{Destination}
use Rattle.jm_dest.specs.Names.{session_eq}
use Rattle.jm_header.specs.declared.content.Content.{Content}
use Rattle.jm_header.specs.declared.content.Settings.{Settings}
use Rattle.jm_header.specs.Headers.{next_stamped}
use Rattle.jm_machine.specs.declared.call.Who.{Who}
use Rattle.jm_machine.specs.declared.call.Who.TheVariants.{Session}
use Rattle.jm_machine.specs.declared.call.Request.{Request}
use Rattle.jm_machine.specs.declared.call.Call.TheVariants.{Publish, Commit, Ask as AskStep}
use Rattle.jm_machine.specs.declared.call.ClientCall.{ClientCall}
use Rattle.jm_machine.specs.declared.call.ClientCall.TheVariants.{Ask, Send, CommitSession}
use Rattle.jm_machine.specs.declared.answer.Answer.{Answer}
use Rattle.jm_machine.specs.declared.answer.Answer.TheVariants.{Sent}
use Rattle.jm_machine.specs.Life.{mode_of}
use Rattle.jm_machine.specs.Machine.{State, is_transacted, publish_refusal, replied, reply, step}
use Rattle.jm_machine.specs.Wants.{is_want, may_want}
use Rattle.jm_machine.specs.Entries.{drops, is_not_made}

-- how far a run has come: the state, how many sends of each session were stamped so far, and what each session sent in
-- its transaction
pub record Progress : Type 0 where
  pub state : State
  pub sent : SessionId → ℕ
  pub kept : SessionId → List Content

-- a run that begins: the numbers of sends count from its start, and no transaction has sent anything
abbrev pub begun : State → Progress
begun state = record { state = state; sent = λ s. 0; kept = λ s. [] }

-- one more send of the session
abbrev pub one_more : SessionId → (SessionId → ℕ) → SessionId → ℕ
one_more s sent t = if session_eq s t then sent s + 1 else sent t

-- one more message of the session's transaction
abbrev pub with_kept : SessionId → Content → (SessionId → List Content) → SessionId → List Content
with_kept s m kept t = if session_eq s t then kept s ++ m ∷ [] else kept t

-- the transactions after a commit of the session's, which begins anew where it was done
abbrev pub after_commit_of : SessionId → Result Answer Refusal → (SessionId → List Content) → SessionId → List Content
after_commit_of s (Ok a) kept t = if session_eq s t then [] else kept t
after_commit_of s (Err r) kept t = kept t

-- the transactions after a request: those that it ends begin anew
abbrev pub after_request : Who → Request → Result Answer Refusal → (SessionId → List Content) → SessionId → List Content
after_request who request r kept s = if drops s who request r then [] else kept s

-- a send's message, or why it is not stamped: the session is not open, a moment is out of range, or the session's numbers
-- are used up
abbrev pub stamp_of : Progress → SessionId → Settings → Destination → ℕ → Result Content Refusal
stamp_of p s draft destination now =
    if is_some (mode_of p.state.life s)
    then next_stamped draft destination (record { opening = p.state.opening; session = s }) (p.sent s) now
    else Err IllegalState

-- the session is open and transacted
abbrev pub is_in_transaction : State → SessionId → Bool
is_in_transaction state s = is_transacted (mode_of state.life s)

-- the reply to a send whose message is stamped, in a transacted session or in another: there it waits for the commit,
-- here it is published
abbrev pub stamped_reply : Bool → State → SessionId → ℕ → Content → Result Answer Refusal
stamped_reply true state s n m = Ok (Sent n)
stamped_reply false state s n m = replied (publish_refusal state (Session s) (m ∷ [])) (Sent n)

-- the reply to a send
abbrev pub send_reply : State → SessionId → ℕ → Result Content Refusal → Result Answer Refusal
send_reply state s n (Ok m) = stamped_reply (is_in_transaction state s) state s n m
send_reply state s n (Err r) = Err r

-- the run after a send whose message is stamped: it has used its number
abbrev pub stamped_progress : Bool → Progress → SessionId → Content → Progress
stamped_progress true p s m = record { state = p.state; sent = one_more s p.sent; kept = with_kept s m p.kept }
stamped_progress false p s m = record { state = step p.state (Session s) (Publish (m ∷ [])); sent = one_more s p.sent; kept = p.kept }

-- the run after a send
abbrev pub send_progress : Progress → SessionId → Result Content Refusal → Progress
send_progress p s (Ok m) = stamped_progress (is_in_transaction p.state s) p s m
send_progress p s (Err r) = p

-- the machine's reply to a client's call
unfoldable pub reply_to : Progress → ClientCall → Result Answer Refusal
reply_to p (Ask who request) = reply p.state who (AskStep request)
reply_to p (Send s draft destination now) = send_reply p.state s (p.sent s + 1) (stamp_of p s draft destination now)
reply_to p (CommitSession s) = reply p.state (Session s) (Commit (p.kept s))

-- the run after a client's call
unfoldable pub progress_to : Progress → ClientCall → Progress
progress_to p (Ask who request) = record {
  state = step p.state who (AskStep request);
  sent = p.sent;
  kept = after_request who request (reply p.state who (AskStep request)) p.kept;
}
progress_to p (Send s draft destination now) = send_progress p s (stamp_of p s draft destination now)
progress_to p (CommitSession s) = record {
  state = step p.state (Session s) (Commit (p.kept s));
  sent = p.sent;
  kept = after_commit_of s (reply p.state (Session s) (Commit (p.kept s))) p.kept;
}

-- a reply fits a call: it is the machine's, and the run goes on; or memory was wanted or the store refused, the state and
-- the transactions are as before, and of a send the number may be used
abbrev pub CallFits : Progress → ClientCall → Result Answer Refusal → Progress → Type 0
CallFits p call r next =
    MatchBool (is_not_made r)
    ((next.state ≡ p.state) × (next.kept ≡ p.kept) × ((next.sent ≡ p.sent) ⊎ (next.sent ≡ (progress_to p call).sent)))
    ((r ≡ reply_to p call) × (next ≡ progress_to p call))

-- replies fit a list of calls, and lead there
abbrev pub RepliesFit : Progress → List ClientCall → List (Result Answer Refusal) → Progress → Type 0
RepliesFit p [] [] end = end ≡ p
RepliesFit p [] (r ∷ replies) end = ⊥
RepliesFit p (call ∷ calls) [] end = ⊥
RepliesFit p (call ∷ calls) (r ∷ replies) end = (next : Progress) × CallFits p call r next × RepliesFit next calls replies end

-- a send whose message is stamped takes memory: in a transacted session to keep it, and else where its publication does
abbrev pub stamped_may_want : Bool → State → SessionId → Content → Bool
stamped_may_want true state s m = true
stamped_may_want false state s m = may_want state (Session s) (Publish (m ∷ []))

-- a send takes memory where its message is stamped
abbrev pub send_may_want : State → SessionId → Result Content Refusal → Bool
send_may_want state s (Ok m) = stamped_may_want (is_in_transaction state s) state s m
send_may_want state s (Err r) = false

-- a client's call takes memory, in the run that has come so far
unfoldable pub call_may_want : Progress → ClientCall → Bool
call_may_want p (Ask who request) = may_want p.state who (AskStep request)
call_may_want p (Send s draft destination now) = send_may_want p.state s (stamp_of p s draft destination now)
call_may_want p (CommitSession s) = may_want p.state (Session s) (Commit (p.kept s))

-- the run after a send that wanted memory: in a transacted session it is as before, and else the number is used
abbrev pub send_wanting : Bool → Progress → SessionId → Progress
send_wanting true p s = p
send_wanting false p s = record { state = p.state; sent = one_more s p.sent; kept = p.kept }

-- the run after a call that wanted memory: it is as before, but for the number of a send that was to be published
unfoldable pub progress_wanting : Progress → ClientCall → Progress
progress_wanting p (Ask who request) = p
progress_wanting p (Send s draft destination now) = send_wanting (is_in_transaction p.state s) p s
progress_wanting p (CommitSession s) = p

-- what a run owes to a call: the machine's reply; or a want of memory, only where the call takes memory
abbrev pub CallOwed : Progress → ClientCall → Result Answer Refusal → Progress → Type 0
CallOwed p call r next =
    MatchBool (is_want r)
    ((call_may_want p call ≡ true) × (next ≡ progress_wanting p call))
    ((r ≡ reply_to p call) × (next ≡ progress_to p call))

-- what a run owes to a list of calls: each reply in turn, and to lead there
abbrev pub RunOwed : Progress → List ClientCall → List (Result Answer Refusal) → Progress → Type 0
RunOwed p [] [] end = end ≡ p
RunOwed p [] (r ∷ replies) end = ⊥
RunOwed p (call ∷ calls) [] end = ⊥
RunOwed p (call ∷ calls) (r ∷ replies) end = (next : Progress) × CallOwed p call r next × RunOwed next calls replies end

-- the machine's replies to a list of calls, where no memory is wanted
abbrev pub replies_to : Progress → List ClientCall → List (Result Answer Refusal)
replies_to p [] = []
replies_to p (call ∷ calls) = reply_to p call ∷ replies_to (progress_to p call) calls

-- the run after a list of calls, where no memory is wanted
abbrev pub progress_after : Progress → List ClientCall → Progress
progress_after p [] = p
progress_after p (call ∷ calls) = progress_after (progress_to p call) calls
