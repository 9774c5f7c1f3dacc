-- What the machine never says: that memory was wanted, or that the store refused.
use Rattle.std.proofs.Common.{◌≡◌, ℕ, ◌+◌, Bool, true, false, cond, List, [], ◌∷◌, refl, ap, sym, ◌∙◌, Option, Some, None}
use Rattle.std.specs.Prelude.{nat_lt, ◌&&◌, is_some, Result, Ok, Err}
use Rattle.jm_base.specs.declared.refusal.Refusal.{Refusal}
use Rattle.jm_base.specs.declared.refusal.Refusal.TheVariants.{IllegalState, InvalidDestination, InvalidClientId, SubscriptionInUse, OutOfRange, Exhausted, Memory, Store}
use Rattle.jm_dest.specs.declared.session.SessionId.{SessionId}
use Rattle.jm_dest.specs.Numbers.{long_end}
use Rattle.jm_header.specs.declared.content.Content.{Content}
use Rattle.jm_header.specs.declared.content.Sender.{Sender}
use Rattle.jm_header.specs.Headers.{has_moments, message_of}
use Rattle.jm_lexer.specs.declared.fault.SyntaxFault.{SyntaxFault}
use Rattle.jm_tree.specs.declared.tree.Tree.{Tree}
use Rattle.jm_machine.specs.declared.call.Who.{Who}
use Rattle.jm_machine.specs.declared.call.Who.TheVariants.{Connection, Session}
use Rattle.jm_machine.specs.declared.call.Request.{Request}
use Rattle.jm_machine.specs.declared.call.Request.TheVariants.{Open, Start, Stop, CloseConnection, CreateSession, CloseSession, CreateConsumer, CreateDurable, CreateShared, CreateSharedDurable, Unsubscribe, CloseConsumer, Receive, Acknowledge, Recover, Rollback, Missed, SetListener, Take, Done as DoneWith}
use Rattle.jm_machine.specs.declared.call.Call.TheVariants.{Commit, Ask as AskStep}
use Rattle.jm_machine.specs.declared.call.ClientCall.{ClientCall}
use Rattle.jm_machine.specs.declared.call.ClientCall.TheVariants.{Ask, Send, CommitSession}
use Rattle.jm_machine.specs.declared.answer.Answer.{Answer}
use Rattle.jm_machine.specs.declared.answer.Answer.TheVariants.{Done, Sent}
use Rattle.jm_machine.specs.declared.state.Consumer.{Consumer}
use Rattle.jm_machine.specs.Life.{Life, mode_of}
use Rattle.jm_selector.specs.Selectors.{read_refusal, selector_read, selector_refusal}
use Rattle.jm_machine.specs.Machine.{State, Holding, held, has_places, is_stamped, is_transacted, is_untransacted, unless, first_cause, refusal, publish_refusal, commit_refusal, answer, replied, reply}
use Rattle.jm_machine.specs.Client.{Progress, stamp_of, is_in_transaction, stamped_reply, send_reply, reply_to}

-- the machine itself never says that memory was wanted, nor that the store refused
abbrev is_from_outside : Refusal → Bool
is_from_outside Memory = true
is_from_outside Store = true
is_from_outside _ = false

abbrev are_from_outside : Option Refusal → Bool
are_from_outside None = false
are_from_outside (Some r) = is_from_outside r

unless_not : (b : Bool) → are_from_outside (unless b IllegalState) ≡ false
unless_not true = refl
unless_not false = refl

open_not : (a b : Bool) → are_from_outside (first_cause (unless a IllegalState) (unless b InvalidClientId)) ≡ false
open_not true true = refl
open_not true false = refl
open_not false b = refl

first_not : (b : Bool) (r : Result (Option Tree) SyntaxFault) → are_from_outside (first_cause (unless b IllegalState) (read_refusal r)) ≡ false
first_not true (Ok t) = refl
first_not true (Err f) = refl
first_not false r = refl

named_not : (a b c : Bool) (r : Result (Option Tree) SyntaxFault) →
    are_from_outside (first_cause (unless a IllegalState) (first_cause (unless b InvalidDestination) (first_cause (read_refusal r) (unless c SubscriptionInUse)))) ≡ false
named_not true true true (Ok t) = refl
named_not true true false (Ok t) = refl
named_not true true c (Err f) = refl
named_not true false c r = refl
named_not false b c r = refl

deleted_not : (a b c : Bool) → are_from_outside (first_cause (unless a IllegalState) (first_cause (unless b InvalidDestination) (unless c SubscriptionInUse))) ≡ false
deleted_not true true true = refl
deleted_not true true false = refl
deleted_not true false c = refl
deleted_not false b c = refl

not_from_outside : (life : Life) (consumers : List Consumer) (h : Holding) (who : Who) (request : Request) → are_from_outside (refusal life consumers h who request) ≡ false
unfolding refusal selector_refusal
not_from_outside life consumers h (Connection c) (Open client) = open_not _ _
not_from_outside life consumers h (Connection c) Start = unless_not _
not_from_outside life consumers h (Connection c) Stop = unless_not _
not_from_outside life consumers h (Connection c) CloseConnection = unless_not _
not_from_outside life consumers h (Session s) (CreateSession mode) = unless_not _
not_from_outside life consumers h (Session s) CloseSession = unless_not _
not_from_outside life consumers h (Session s) (CreateConsumer c destination selector no_local) = first_not _ (selector_read selector)
not_from_outside life consumers h (Session s) (CreateDurable c destination name selector no_local) = named_not _ _ _ (selector_read selector)
not_from_outside life consumers h (Session s) (CreateShared c destination name selector) = named_not _ _ _ (selector_read selector)
not_from_outside life consumers h (Session s) (CreateSharedDurable c destination name selector) = named_not _ _ _ (selector_read selector)
not_from_outside life consumers h (Session s) (Unsubscribe name) = deleted_not _ _ _
not_from_outside life consumers h (Session s) (CloseConsumer c) = unless_not _
not_from_outside life consumers h (Session s) (Receive c now) = unless_not _
not_from_outside life consumers h (Session s) Acknowledge = unless_not _
not_from_outside life consumers h (Session s) Recover = unless_not _
not_from_outside life consumers h (Session s) Rollback = unless_not _
not_from_outside life consumers h (Session s) (Missed c) = unless_not _
not_from_outside life consumers h (Session s) (SetListener c on) = unless_not _
not_from_outside life consumers h (Session s) (Take c now) = unless_not _
not_from_outside life consumers h (Session s) (DoneWith c ok) = unless_not _
not_from_outside life consumers h _ _ = refl

refused_by : (o : Option Refusal) (a : Answer) (r : Refusal) → Err r ≡ replied o a → o ≡ Some r
refused_by None a r h = cc
refused_by (Some q) a r h = cc

from_outside : (o : Option Refusal) (a : Answer) (r : Refusal) → are_from_outside o ≡ false → is_from_outside r ≡ true → Err r ≡ replied o a → ⊥
from_outside o a r n i h =
    let e : is_from_outside r ≡ false = ap are_from_outside (sym (refused_by o a r h)) ∙ n in
    cc

from_machine : (state : State) (who : Who) (request : Request) (r : Refusal) → is_from_outside r ≡ true → Err r ≡ reply state who (AskStep request) → ⊥
unfolding reply
from_machine state who request r i h =
    from_outside (refusal state.life state.consumers (held state who request) who request) (answer state.life state.consumers (held state who request) who request) r
    (not_from_outside state.life state.consumers (held state who request) who request) i h

pub no_store : (state : State) (who : Who) (request : Request) → Err Store ≡ reply state who (AskStep request) → ⊥
no_store state who request h = from_machine state who request Store refl h

pub no_memory : (state : State) (who : Who) (request : Request) → Err Memory ≡ reply state who (AskStep request) → ⊥
no_memory state who request h = from_machine state who request Memory refl h

-- nor does it to a publication, to a commit, or to a send
places_not : (a b : Bool) → are_from_outside (cond a (unless b Exhausted) (Some IllegalState)) ≡ false
places_not true true = refl
places_not true false = refl
places_not false b = refl

from_commit : (state : State) (s : SessionId) (ms : List Content) (r : Refusal) → is_from_outside r ≡ true → Err r ≡ reply state (Session s) (Commit ms) → ⊥
unfolding reply commit_refusal
from_commit state s ms r i h = from_outside (commit_refusal state (Session s) ms) Done r (places_not (is_transacted (mode_of state.life s) && is_stamped state.opening s ms) (has_places state.next_place ms)) i h

from_stamped : (b : Bool) (state : State) (s : SessionId) (n : ℕ) (m : Content) (r : Refusal) → is_from_outside r ≡ true → Err r ≡ stamped_reply b state s n m → ⊥
unfolding publish_refusal
from_stamped true state s n m r i h = cc
from_stamped false state s n m r i h =
    from_outside (publish_refusal state (Session s) (m ∷ [])) (Sent n) r (places_not (is_untransacted (mode_of state.life s) && is_stamped state.opening s (m ∷ [])) (has_places state.next_place (m ∷ []))) i h

-- why a message is not stamped
abbrev unstamped : Result Content Refusal → Option Refusal
unstamped (Ok m) = None
unstamped (Err r) = Some r

from_send : (state : State) (s : SessionId) (n : ℕ) (x : Result Content Refusal) (r : Refusal) → are_from_outside (unstamped x) ≡ false → is_from_outside r ≡ true → Err r ≡ send_reply state s n x → ⊥
from_send state s n (Ok m) r e i h = from_stamped (is_in_transaction state s) state s n m r i h
from_send state s n (Err q) r e i h = from_outside (Some q) Done r e i h

stamp_not : (a b c : Bool) (m : Content) → are_from_outside (unstamped (cond a (cond b (cond c (Ok m) (Err Exhausted)) (Err OutOfRange)) (Err IllegalState))) ≡ false
stamp_not true true true m = refl
stamp_not true true false m = refl
stamp_not true false c m = refl
stamp_not false b c m = refl

from_call : (p : Progress) (call : ClientCall) (r : Refusal) → is_from_outside r ≡ true → Err r ≡ reply_to p call → ⊥
unfolding reply_to
from_call p (Ask who request) r i h = from_machine p.state who request r i h
from_call p (Send s draft destination now) r i h =
    let sender : Sender = record { opening = p.state.opening; session = s } in
    from_send p.state s (p.sent s + 1) (stamp_of p s draft destination now) r
    (stamp_not (is_some (mode_of p.state.life s)) (has_moments draft now) (nat_lt (p.sent s + 1) long_end) (message_of draft destination sender (p.sent s + 1) now)) i h
from_call p (CommitSession s) r i h = from_commit p.state s (p.kept s) r i h

pub no_store_to : (p : Progress) (call : ClientCall) → Err Store ≡ reply_to p call → ⊥
no_store_to p call h = from_call p call Store refl h
