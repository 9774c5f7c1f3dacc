-- That a cause explains the refusal behind which it stands.
use Rattle.std.proofs.Common.{◌≡◌, ℕ, Bool, true, false, refl, ap, sym, ◌∙◌, List, Option, Some, None, Result, Ok, Err}
use Rattle.std.specs.Prelude.{◌&&◌, ◌||◌, not, is_some, option_map, if◌then◌else◌}
use Rattle.jm_base.specs.declared.mode.Mode.{Mode}
use Rattle.jm_base.specs.declared.refusal.Refusal.{Refusal}
use Rattle.jm_base.specs.declared.refusal.Refusal.TheVariants.{IllegalState, InvalidDestination, InvalidClientId, SubscriptionInUse, Exhausted}
use Rattle.jm_dest.specs.declared.session.SessionId.{SessionId}
use Rattle.jm_dest.specs.declared.destination.Destination.{Destination}
use Rattle.jm_header.specs.declared.content.Content.{Content}
use Rattle.jm_machine.specs.declared.answer.Answer.{Answer}
use Rattle.jm_machine.specs.declared.call.Who.{Who}
use Rattle.jm_machine.specs.declared.call.Who.TheVariants.{Connection, Session}
use Rattle.jm_machine.specs.declared.call.Request.{Request}
use Rattle.jm_machine.specs.declared.call.Request.TheVariants.{Open, Start, Stop, CloseConnection, CreateSession, CloseSession, CreateConsumer, CreateDurable, CreateShared, CreateSharedDurable, Unsubscribe, CloseConsumer, Receive, Acknowledge, Recover, Rollback, Missed, SetListener, Take, Done as DoneWith}
use Rattle.jm_machine.specs.declared.call.Call.TheVariants.{Ask, Publish, Commit}
use Rattle.jm_machine.specs.declared.state.Definition.{Definition}
use Rattle.jm_machine.specs.declared.state.Consumer.{Consumer}
use Rattle.jm_machine.specs.Life.{Life, connection_of, session_of, client_of, is_open_connection, is_client_taken, mode_of}
use Rattle.jm_machine.specs.Machine as machine
use Rattle.jm_machine.specs.Machine.{State, Holding, held, reply, replied, refusal, first_cause, consumer_of, is_active, is_listening, is_busy, may_close_session, is_same, is_same_kind, is_idle, is_home, is_of_topic, asked, is_transacted, is_untransacted, is_stamped, has_places, publish_refusal, commit_refusal}
use Rattle.jm_selector.specs.Selectors.{selector_refusal, selector_read, read_refusal}
use Rattle.jm_why.specs.declared.cause.Why.{Why}
use Rattle.jm_why.specs.declared.cause.Why.TheVariants as causes
use Rattle.jm_why.specs.Why.{CausesExplain, refusal_of, unless, first_why, not_open, explained, refusal_in, request_why, subscription_why, resume_why, join_why, share_why, delete_why, publish_why, commit_why}

-- a cause explains the refusal, or neither is there
abbrev Explains : Option Why → Option Refusal → Type 0
Explains w r = option_map refusal_of w ≡ explained r

-- a session that is not open, whichever its connection is
not_open_explains : (o : Bool) → refusal_of (not_open o) ≡ IllegalState
not_open_explains true = refl
not_open_explains false = refl

-- one check of a state
one : (b : Bool) (w : Why) → refusal_of w ≡ IllegalState → Explains (unless b w) (machine.unless b IllegalState)
one true w h = refl
one false w h = ap (λ r. Some r) h

-- two, of which the first is seen first
two : (a b : Bool) (v w : Why) → refusal_of v ≡ IllegalState → refusal_of w ≡ IllegalState →
    Explains (first_why (unless a v) (unless b w)) (machine.unless (a && b) IllegalState)
two true b v w g h = one b w h
two false b v w g h = ap (λ r. Some r) g

-- three, and four
three : (a b c : Bool) (u v w : Why) → refusal_of u ≡ IllegalState → refusal_of v ≡ IllegalState → refusal_of w ≡ IllegalState →
    Explains (first_why (first_why (unless a u) (unless b v)) (unless c w)) (machine.unless ((a && b) && c) IllegalState)
three true b c u v w f g h = two b c v w g h
three false b c u v w f g h = ap (λ r. Some r) f

four : (a b c d : Bool) (u v w x : Why) → refusal_of u ≡ IllegalState → refusal_of v ≡ IllegalState → refusal_of w ≡ IllegalState → refusal_of x ≡ IllegalState →
    Explains (first_why (first_why (unless a u) (unless b v)) (first_why (unless c w) (unless d x))) (machine.unless ((a && b) && (c && d)) IllegalState)
four true true c d u v w x e f g h = two c d w x g h
four true false c d u v w x e f g h = ap (λ r. Some r) f
four false b c d u v w x e f g h = ap (λ r. Some r) e

-- first a state, and then whatever explains the rest
then_one : (a : Bool) (v : Why) (w : Option Why) (r : Option Refusal) → refusal_of v ≡ IllegalState → Explains w r →
    Explains (first_why (unless a v) w) (first_cause (machine.unless a IllegalState) r)
then_one true v w r g h = h
then_one false v w r g h = ap (λ q. Some q) g

then_two : (a b : Bool) (u v : Why) (w : Option Why) (r : Option Refusal) → refusal_of u ≡ IllegalState → refusal_of v ≡ IllegalState → Explains w r →
    Explains (first_why (first_why (unless a u) (unless b v)) w) (first_cause (machine.unless (a && b) IllegalState) r)
then_two true b u v w r f g h = then_one b v w r g h
then_two false b u v w r f g h = ap (λ q. Some q) f

then_three : (a b c : Bool) (u v x : Why) (w : Option Why) (r : Option Refusal) → refusal_of u ≡ IllegalState → refusal_of v ≡ IllegalState → refusal_of x ≡ IllegalState → Explains w r →
    Explains (first_why (first_why (unless a u) (unless b v)) (first_why (unless c x) w)) (first_cause (machine.unless ((a && b) && c) IllegalState) r)
then_three true b c u v x w r e f g h = deeper b c v x w r f g h where
  deeper : (b c : Bool) (v x : Why) (w : Option Why) (r : Option Refusal) → refusal_of v ≡ IllegalState → refusal_of x ≡ IllegalState → Explains w r →
      Explains (first_why (unless b v) (first_why (unless c x) w)) (first_cause (machine.unless (b && c) IllegalState) r)
  deeper true c v x w r f g h = then_one c x w r g h
  deeper false c v x w r f g h = ap (λ q. Some q) f
then_three false b c u v x w r e f g h = ap (λ q. Some q) e

-- no cause explains a refusal of another kind
not_taken : (t : Bool) → Explains None (machine.unless t InvalidClientId)
not_taken true = refl
not_taken false = refl

has_room : (t : Bool) → Explains None (machine.unless t Exhausted)
has_room true = refl
has_room false = refl

selector_is_other : (read : _) → Explains None (read_refusal read)
selector_is_other (Ok tree) = refl
selector_is_other (Err fault) = refl

selector_explains : (selector : Option (List ℕ)) → Explains None (selector_refusal selector)
unfolding selector_refusal
selector_explains selector = selector_is_other (selector_read selector)

-- a subscription that is in use
abbrev in_use : (may : Bool) → Option Why → Type 0
in_use may w = Explains w (machine.unless may SubscriptionInUse)

subscription_at : (topic : Bool) (selector : Option Refusal) (may : Bool) (w : Option Why) → Explains None selector → in_use may w →
    Explains (if topic && not (is_some selector) then w else None) (first_cause (machine.unless topic InvalidDestination) (first_cause selector (machine.unless may SubscriptionInUse)))
subscription_at true None may w h g = g
subscription_at true (Some r) may w h g = h
subscription_at false selector may w h g = refl

subscription : (destination : Destination) (selector : Option (List ℕ)) (may : Bool) (w : Option Why) → in_use may w →
    Explains (subscription_why destination selector w) (machine.subscription_refusal destination selector may)
subscription destination selector may w g = subscription_at (is_of_topic destination) (selector_refusal selector) may w (selector_explains selector) g

resumes : (kind idle same home : Bool) →
    in_use (kind && (idle && (same || home))) (first_why (unless kind causes.OtherKind) (first_why (unless idle causes.ActiveConsumer) (unless (same || home) causes.RowOut)))
resumes true true true home = refl
resumes true true false true = refl
resumes true true false false = refl
resumes true false same home = refl
resumes false idle same home = refl

joins : (kind idle same home : Bool) →
    in_use (kind && (same || (idle && home))) (first_why (unless kind causes.OtherKind) (first_why (unless (same || idle) causes.ActiveConsumer) (unless (same || home) causes.RowOut)))
joins true idle true home = refl
joins true true false true = refl
joins true true false false = refl
joins true false false home = refl
joins false idle same home = refl

shares : (may : Bool) → in_use may (unless may causes.OtherDefinition)
shares true = refl
shares false = refl

frees : (idle home : Bool) → in_use (idle && home) (first_why (unless idle causes.ActiveConsumer) (unless home causes.RowOut))
frees true true = refl
frees true false = refl
frees false home = refl

deletes : (held : Option Definition) (idle home : Bool) →
    Explains (delete_why held idle home) (first_cause (machine.unless (is_some held) InvalidDestination) (machine.unless (idle && home) SubscriptionInUse))
deletes None idle home = refl
deletes (Some d) idle home = frees idle home

closes : (live made busy known : Bool) →
    Explains (if live then first_why (unless made causes.ConsumerNotOpen) (unless (not busy) causes.Busy) else unless known causes.SessionNotOpen)
    (machine.unless (if live then made && not busy else known) IllegalState)
closes true made busy known = two made (not busy) causes.ConsumerNotOpen causes.Busy refl refl
closes false made busy known = one known causes.SessionNotOpen refl

open_explains : (life : Life) (s : SessionId) → refusal_of (not_open (is_open_connection (connection_of life.connections s.connection))) ≡ IllegalState
open_explains life s = not_open_explains (is_open_connection (connection_of life.connections s.connection))

-- a state, and then a refusal that no cause explains
then_other : (a : Bool) (v : Why) (r : Option Refusal) → refusal_of v ≡ IllegalState → Explains None r →
    Explains (unless a v) (first_cause (machine.unless a IllegalState) r)
then_other true v r g h = h
then_other false v r g h = ap (λ q. Some q) g

two_then_other : (a b : Bool) (u v : Why) (r : Option Refusal) → refusal_of u ≡ IllegalState → refusal_of v ≡ IllegalState → Explains None r →
    Explains (first_why (unless a u) (unless b v)) (first_cause (machine.unless (a && b) IllegalState) r)
two_then_other true b u v r f g h = then_other b v r g h
two_then_other false b u v r f g h = ap (λ q. Some q) f

-- modes

recovers : (mode : Option Mode) (u : Why) → refusal_of u ≡ IllegalState →
    Explains (first_why (unless (is_some mode) u) (unless (is_untransacted mode) causes.Transacted)) (machine.unless (is_untransacted mode) IllegalState)
recovers None u h = ap (λ q. Some q) h
recovers (Some mode) u h = one (is_untransacted (Some mode)) causes.Transacted refl

rolls_back : (mode : Option Mode) (u : Why) → refusal_of u ≡ IllegalState →
    Explains (first_why (unless (is_some mode) u) (unless (is_transacted mode) causes.NotTransacted)) (machine.unless (is_transacted mode) IllegalState)
rolls_back None u h = ap (λ q. Some q) h
rolls_back (Some mode) u h = one (is_transacted (Some mode)) causes.NotTransacted refl

stamped_at : (b stamped places : Bool) (v : Why) → refusal_of v ≡ IllegalState →
    Explains (first_why (unless b v) (unless stamped causes.ForeignStamp)) (if b && stamped then machine.unless places Exhausted else Some IllegalState)
stamped_at true true places v h = has_room places
stamped_at true false places v h = refl
stamped_at false stamped places v h = ap (λ q. Some q) h

publishes : (mode : Option Mode) (stamped places : Bool) (u : Why) → refusal_of u ≡ IllegalState →
    Explains (first_why (first_why (unless (is_some mode) u) (unless (is_untransacted mode) causes.Transacted)) (unless stamped causes.ForeignStamp))
    (if is_untransacted mode && stamped then machine.unless places Exhausted else Some IllegalState)
publishes None stamped places u h = ap (λ q. Some q) h
publishes (Some mode) stamped places u h = stamped_at (is_untransacted (Some mode)) stamped places causes.Transacted refl

commits : (mode : Option Mode) (stamped places : Bool) (u : Why) → refusal_of u ≡ IllegalState →
    Explains (first_why (first_why (unless (is_some mode) u) (unless (is_transacted mode) causes.NotTransacted)) (unless stamped causes.ForeignStamp))
    (if is_transacted mode && stamped then machine.unless places Exhausted else Some IllegalState)
commits None stamped places u h = ap (λ q. Some q) h
commits (Some mode) stamped places u h = stamped_at (is_transacted (Some mode)) stamped places causes.NotTransacted refl

-- Sessions' and connections' requests

connection_request : (life : Life) (consumers : List Consumer) (holding : Holding) (c : ℕ) (request : Request) →
    Explains (request_why life consumers holding (Connection c) request) (refusal life consumers holding (Connection c) request)
unfolding request_why refusal
connection_request life consumers holding c (Open client) = then_other (not (is_some (connection_of life.connections c))) causes.NumberUsed _ refl (not_taken (not (is_client_taken life client)))
connection_request life consumers holding c Start = one (is_open_connection (connection_of life.connections c)) causes.ConnectionNotOpen refl
connection_request life consumers holding c Stop = one (is_open_connection (connection_of life.connections c)) causes.ConnectionNotOpen refl
connection_request life consumers holding c CloseConnection = one (is_some (connection_of life.connections c)) causes.ConnectionNotOpen refl
connection_request life consumers holding c request = refl

session_request : (life : Life) (consumers : List Consumer) (holding : Holding) (s : SessionId) (request : Request) →
    Explains (request_why life consumers holding (Session s) request) (refusal life consumers holding (Session s) request)
unfolding request_why refusal
session_request life consumers holding s (CreateSession mode) =
    two (is_open_connection (connection_of life.connections s.connection)) (not (is_some (session_of life.sessions s))) causes.ConnectionNotOpen causes.NumberUsed refl refl
session_request life consumers holding s CloseSession = one (may_close_session life s) causes.SessionNotOpen refl
session_request life consumers holding s (CreateConsumer c destination selector no_local) =
    two_then_other (is_some (mode_of life s)) (not (is_some (consumer_of consumers s c))) _ causes.NumberUsed _ (open_explains life s) refl (selector_explains selector)
session_request life consumers holding s (CreateDurable c destination name selector no_local) =
    then_three (is_some (mode_of life s)) (not (is_some (consumer_of consumers s c))) (is_some (client_of life s.connection)) _ causes.NumberUsed causes.NoClient _ _ (open_explains life s) refl refl
    (subscription destination selector _ _ (resumes (is_same_kind holding.definition (asked destination selector no_local false)) (is_idle holding) (is_same holding.definition (asked destination selector no_local false)) (is_home holding)))
session_request life consumers holding s (CreateShared c destination name selector) =
    then_two (is_some (mode_of life s)) (not (is_some (consumer_of consumers s c))) _ causes.NumberUsed _ _ (open_explains life s) refl
    (subscription destination selector _ _ (shares (not (is_some holding.definition) || is_same holding.definition (asked destination selector false true))))
session_request life consumers holding s (CreateSharedDurable c destination name selector) =
    then_two (is_some (mode_of life s)) (not (is_some (consumer_of consumers s c))) _ causes.NumberUsed _ _ (open_explains life s) refl
    (subscription destination selector _ _ (joins (is_same_kind holding.definition (asked destination selector false true)) (is_idle holding) (is_same holding.definition (asked destination selector false true)) (is_home holding)))
session_request life consumers holding s (Unsubscribe name) =
    then_one (is_some (mode_of life s)) _ _ _ (open_explains life s) (deletes holding.definition (is_idle holding) (is_home holding))
session_request life consumers holding s (CloseConsumer c) =
    closes (is_some (mode_of life s)) (is_some (consumer_of consumers s c)) (is_busy (consumer_of consumers s c)) (is_some (session_of life.sessions s))
session_request life consumers holding s (Receive c now) =
    three (is_some (mode_of life s)) (is_active (consumer_of consumers s c)) (not (is_listening (consumer_of consumers s c))) _ causes.ConsumerNotOpen causes.Listening (open_explains life s) refl refl
session_request life consumers holding s Acknowledge = one (is_some (mode_of life s)) _ (open_explains life s)
session_request life consumers holding s Recover = recovers (mode_of life s) _ (open_explains life s)
session_request life consumers holding s Rollback = rolls_back (mode_of life s) _ (open_explains life s)
session_request life consumers holding s (Missed c) =
    two (is_some (mode_of life s)) (is_active (consumer_of consumers s c)) _ causes.ConsumerNotOpen (open_explains life s) refl
session_request life consumers holding s (SetListener c on) =
    three (is_some (mode_of life s)) (is_active (consumer_of consumers s c)) (not (is_busy (consumer_of consumers s c))) _ causes.ConsumerNotOpen causes.Busy (open_explains life s) refl refl
session_request life consumers holding s (Take c now) =
    four (is_some (mode_of life s)) (is_active (consumer_of consumers s c)) (is_listening (consumer_of consumers s c)) (not (is_busy (consumer_of consumers s c))) _ causes.ConsumerNotOpen causes.NotListening causes.Busy (open_explains life s) refl refl refl
session_request life consumers holding s (DoneWith c ok) =
    three (is_some (mode_of life s)) (is_active (consumer_of consumers s c)) (is_busy (consumer_of consumers s c)) _ causes.ConsumerNotOpen causes.NotBusy (open_explains life s) refl refl
session_request life consumers holding s request = refl

request_explains : (life : Life) (consumers : List Consumer) (holding : Holding) (who : Who) (request : Request) →
    Explains (request_why life consumers holding who request) (refusal life consumers holding who request)
request_explains life consumers holding (Connection c) request = connection_request life consumers holding c request
request_explains life consumers holding (Session s) request = session_request life consumers holding s request

-- Calls

in_reply : (o : Option Refusal) (a : Answer) → refusal_in (replied o a) ≡ o
in_reply None a = refl
in_reply (Some r) a = refl

publish_explains : (state : State) (who : Who) (messages : List Content) → Explains (publish_why state who messages) (publish_refusal state who messages)
unfolding publish_refusal
publish_explains state (Connection c) messages = refl
publish_explains state (Session s) messages =
    publishes (mode_of state.life s) (is_stamped state.opening s messages) (has_places state.next_place messages) _ (open_explains state.life s)

commit_explains : (state : State) (who : Who) (messages : List Content) → Explains (commit_why state who messages) (commit_refusal state who messages)
unfolding commit_refusal
commit_explains state (Connection c) messages = refl
commit_explains state (Session s) messages =
    commits (mode_of state.life s) (is_stamped state.opening s messages) (has_places state.next_place messages) _ (open_explains state.life s)

pub causes_explain : CausesExplain
unfolding reply
causes_explain state who (Ask request) =
    request_explains state.life state.consumers (held state who request) who request ∙ ap explained (sym (in_reply (refusal state.life state.consumers (held state who request) who request) _))
causes_explain state who (Publish messages) = publish_explains state who messages ∙ ap explained (sym (in_reply (publish_refusal state who messages) _))
causes_explain state who (Commit messages) = commit_explains state who messages ∙ ap explained (sym (in_reply (commit_refusal state who messages) _))
