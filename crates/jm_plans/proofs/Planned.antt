-- What is planned, once it is made, is the machine's step.
use Rattle.std.proofs.Common.{◌≡◌, ◌≤◌, ◌<◌, ◌+◌, ◌∷◌, [], ℕ, Bool, true, false, cond, List, map, length, refl, ap, sym, ◌∙◌, arith, Option, Some, None, Ok, Err}
use Rattle.std.specs.Prelude.{◌&&◌, not, is_some, IfErr, MatchBool, OnErr, OnOk, Result, is_none, nat_le}
use Rattle.std.proofs.lemmas.Bool.Decides.{nat_tests}
use Rattle.std.proofs.lemmas.List.{length-map}
use Rattle.jm_base.specs.declared.mode.Mode.{Mode}
use Rattle.jm_base.specs.declared.refusal.Refusal.{Refusal}
use Rattle.jm_base.specs.declared.refusal.Refusal.TheVariants.{Exhausted, IllegalState, InvalidClientId, InvalidDestination, Memory, SubscriptionInUse}
use Rattle.jm_dest.specs.declared.session.SessionId.{SessionId}
use Rattle.jm_dest.specs.declared.destination.Destination.TheVariants.{Queue, Topic}
use Rattle.jm_dest.specs.declared.key.Key.{Key}
use Rattle.jm_dest.specs.declared.key.Key.TheVariants.{Own, Queue as OfQueue}
use Rattle.jm_header.specs.declared.content.Content.{Content}
use Rattle.jm_machine.specs.declared.answer.Answer.{Answer}
use Rattle.jm_machine.specs.declared.answer.Answer.TheVariants.{Done, Missed}
use Rattle.jm_machine.specs.declared.call.Who.{Who}
use Rattle.jm_machine.specs.declared.call.Who.TheVariants.{Connection, Session}
use Rattle.jm_machine.specs.declared.call.Call.{Call}
use Rattle.jm_machine.specs.declared.call.Call.TheVariants.{Ask, Publish, Commit}
use Rattle.jm_machine.specs.declared.call.Request.TheVariants as request
use Rattle.jm_machine.specs.declared.state.PlacedRow.{PlacedRow}
use Rattle.jm_machine.specs.declared.state.Station.{Station}
use Rattle.jm_machine.specs.Life.{connection_of, is_client_taken, life_after, mode_of}
use Rattle.jm_machine.specs.Machine.{State, after, after_commit, answer, at_queues, closed, consumer_of, defined, deleted, first_cause, held, holding_at, is_free, key_at, may_begin, selected_by, standing_as, commit_refusal, has_places, is_client, is_stamped, is_transacted, is_untransacted, joined, may_use, moved, of_connection, of_number, of_session, places_end, publish_refusal, published, put, refusal, replied, reply, returned, settled, settled_rows, step, unless, with_life, with_rows}
use Rattle.jm_machine.specs.Wants.{is_want, may_want}
use Rattle.jm_selector.specs.Selectors.{selector_refusal}
use Rattle.jm_session.specs.Known.{Known, open_cause}
use Rattle.jm_session.specs.Sources.{Origin}
use Rattle.jm_stations.specs.Stations.{Stations}
use Rattle.jm_sub.specs.Subscriptions.{Subscription, Subscriptions}
use Rattle.jm_parts.specs.declared.publish.Publication.{Publication}
use Rattle.jm_plans.specs.declared.plan.Change.TheVariants as change
use Rattle.jm_plans.specs.Plans.{IsPlan, IsCommitting, IsCreating, IsDeleting, IsMissing, IsOpening, IsPublishing, IsRefused}
use Rattle.jm_parts.specs.Closing.{acknowledged_queues}
use Rattle.jm_plans.specs.Named.{put_decided}
use Rattle.jm_plans.specs.Provider.{Provider, state_of}
use Rattle.jm_parts.specs.Takings.{missed_at}
use Rattle.jm_plans.specs.Publications.{unprepared}
use Rattle.jm_plans.specs.Steps.{CommitFits, PublishFits, StepFits}

-- what callers see, of these parts
abbrev pub of_parts : ℕ → ℕ → Known → Subscriptions → Stations → Stations → Provider
of_parts opening limit known subscriptions held queues = record { opening = opening; limit = limit; known = known; subscriptions = subscriptions; held = held; queues = queues }

-- ---- a refusal

-- the machine is moved by no refusal
stays_by : (x : Option Refusal) (a : Answer) (next old : State) (r : Refusal) → Err r ≡ replied x a → old ≡ moved x next old
stays_by None a next old r h = cc
stays_by (Some f) a next old r h = refl

stays : (old : State) (who : Who) (call : Call) (r : Refusal) → Err r ≡ reply old who call → old ≡ step old who call
unfolding reply step
stays old who (Ask request) r h = stays_by _ _ _ old r h
stays old who (Publish messages) r h = stays_by _ _ _ old r h
stays old who (Commit messages) r h = stays_by _ _ _ old r h

pub refused_fits : (old new : State) (who : Who) (call : Call) (r : Refusal) → new ≡ old → IsRefused old who call r → StepFits old who call (Err r) new
refused_fits old new who call r e h = go (is_want (Err r)) h
  where
    go : (b : Bool) → MatchBool b (may_want old who call ≡ true) (Err r ≡ reply old who call) → MatchBool b ((may_want old who call ≡ true) × (new ≡ old)) ((Err r ≡ reply old who call) × (new ≡ step old who call))
    go true h = (h, e)
    go false h = (h, e ∙ stays old who call r h)

-- ---- changes of connections and sessions

pub opened : (p : Provider) (who : Who) (call : Call) (c : ℕ) (client : Option (List ℕ)) (new : State) → IsOpening p who call c client → new ≡ record (state_of p) { life = life_after p.known.life (Connection c) (request.Open client) } → StepFits (state_of p) who call (Ok Done) new
unfolding reply step refusal answer after
opened p who call c client new h e = rw (h.sender, h.asked, h.new, h.free) (refl, e)

pub open_refused : (state : State) (c : ℕ) (client : Option (List ℕ)) (r : Refusal) → r ≡ open_cause (is_some (connection_of state.life.connections c)) (is_client_taken state.life client) → IsRefused state (Connection c) (Ask (request.Open client)) r
unfolding reply refusal may_want
open_refused state c client r e = rw e (go (is_some (connection_of state.life.connections c)) (is_client_taken state.life client) (answer state.life state.consumers (held state (Connection c) (request.Open client)) (Connection c) (request.Open client)))
  where
    go : (a b : Bool) (told : Answer) → MatchBool (is_want (Err (open_cause a b))) ((not a && not b) ≡ true) (Err (open_cause a b) ≡ replied (first_cause (unless (not a) IllegalState) (unless (not b) InvalidClientId)) told)
    go true b told = refl
    go false true told = refl
    go false false told = refl

pub started : (p : Provider) (who : Who) (call : Call) (c : ℕ) (new : State) → IsPlan p who call (change.Start c) → new ≡ record (state_of p) { life = life_after p.known.life (Connection c) request.Start } → StepFits (state_of p) who call (Ok Done) new
unfolding reply step refusal answer after
started p who call c new h e = rw (h.0, h.1, h.2) (refl, e)

pub stopped : (p : Provider) (who : Who) (call : Call) (c : ℕ) (new : State) → IsPlan p who call (change.Stop c) → new ≡ record (state_of p) { life = life_after p.known.life (Connection c) request.Stop } → StepFits (state_of p) who call (Ok Done) new
unfolding reply step refusal answer after
stopped p who call c new h e = rw (h.0, h.1, h.2) (refl, e)

pub session_made : (p : Provider) (who : Who) (call : Call) (s : SessionId) (mode : Mode) (new : State) → IsPlan p who call (change.CreateSession s mode) → new ≡ record (state_of p) { life = life_after p.known.life (Session s) (request.CreateSession mode) } → StepFits (state_of p) who call (Ok Done) new
unfolding reply step refusal answer after
session_made p who call s mode new h e = rw (h.0, h.1, h.2) (refl, e)

-- ---- closing

pub connection_closed : (p : Provider) (who : Who) (call : Call) (c : ℕ) (new : State) → IsPlan p who call (change.CloseConnection c) → new ≡ closed (of_connection c) (returned (of_connection c) (with_life (Connection c) request.CloseConnection (state_of p))) → StepFits (state_of p) who call (Ok Done) new
unfolding reply step refusal answer after
connection_closed p who call c new h e = rw (h.0, h.1, h.2) (refl, e)

pub session_closed : (p : Provider) (who : Who) (call : Call) (s : SessionId) (new : State) → IsPlan p who call (change.CloseSession s) → new ≡ closed (of_session s) (returned (of_session s) (with_life (Session s) request.CloseSession (state_of p))) → StepFits (state_of p) who call (Ok Done) new
unfolding reply step refusal answer after
session_closed p who call s new h e = rw (h.0, h.1, h.2) (refl, e)

pub consumer_closed : (p : Provider) (who : Who) (call : Call) (s : SessionId) (c : ℕ) (new : State) → IsPlan p who call (change.CloseConsumer s c) → new ≡ closed (of_number s c) (state_of p) → StepFits (state_of p) who call (Ok Done) new
unfolding reply step refusal answer after
consumer_closed p who call s c new h e = rw (h.0, h.1, h.2) (refl, e)

-- ---- acknowledgement

pub acknowledged : (p : Provider) (who : Who) (call : Call) (s : SessionId) (mode : Mode) (new : State) → IsPlan p who call (change.Acknowledge s mode) → new ≡ cond (is_client (Some mode)) (settled (of_session s) (state_of p)) (state_of p) → StepFits (state_of p) who call (Ok Done) new
unfolding reply step refusal answer after
acknowledged p who call s mode new h e = rw (h.0, h.1, h.2) (refl, e)

pub acknowledged_state : (state : State) (mode : Mode) (s : SessionId) (xs : List Station) (qs : List ℕ → List PlacedRow) → xs ≡ cond (is_client (Some mode)) (map (with_rows (settled_rows (of_session s))) state.stations) state.stations → qs ≡ acknowledged_queues mode s state.queues →
    record state { stations = xs; queues = qs } ≡ cond (is_client (Some mode)) (settled (of_session s) state) state
acknowledged_state state mode s xs qs e f = go (is_client (Some mode)) e f
  where
    go : (b : Bool) → xs ≡ cond b (map (with_rows (settled_rows (of_session s))) state.stations) state.stations → qs ≡ cond b (at_queues (settled_rows (of_session s)) state.queues) state.queues → record state { stations = xs; queues = qs } ≡ cond b (settled (of_session s) state) state
    go true e f = λ i. record state { stations = e i; queues = f i }
    go false e f = λ i. record state { stations = e i; queues = f i }

pub recovered : (p : Provider) (who : Who) (call : Call) (s : SessionId) (new : State) → IsPlan p who call (change.Recover s) → new ≡ returned (of_session s) (state_of p) → StepFits (state_of p) who call (Ok Done) new
unfolding reply step refusal answer after
recovered p who call s new h e = rw (h.0, h.1, h.2) (refl, e)

pub rolled_back : (p : Provider) (who : Who) (call : Call) (s : SessionId) (new : State) → IsPlan p who call (change.Rollback s) → new ≡ returned (of_session s) (state_of p) → StepFits (state_of p) who call (Ok Done) new
unfolding reply step refusal answer after
rolled_back p who call s new h e = rw (h.0, h.1, h.2) (refl, e)

pub missing_told : (p : Provider) (who : Who) (call : Call) (n : ℕ) → IsMissing p who call n → StepFits (state_of p) who call (Ok (Missed n)) (state_of p)
unfolding reply step refusal answer after
missing_told p who call n h = rw (h.sender, h.asked, h.allowed) (ap (λ x. Ok (Missed x)) (h.number ∙ go (key_at (consumer_of p.known.consumers h.session h.consumer))), refl)
  where
    go : (k : Option Key) → missed_at k (state_of p).stations ≡ (holding_at (selected_by None) k (state_of p)).missed
    go None = refl
    go (Some k) = refl

pub missing_refused : (state : State) (s : SessionId) (c : ℕ) (r : Refusal) → r ≡ IllegalState → may_use state.life state.consumers s c ≡ false → IsRefused state (Session s) (Ask (request.Missed c)) r
unfolding reply refusal
missing_refused state s c r e m = rw (e, m) refl

-- ---- a consumer, and a subscription that has a name

pub consumer_made : (p : Provider) (who : Who) (call : Call) (s : SessionId) (c : ℕ) (source : Origin) (decision : Option (Key × Subscription)) (new : State) → IsCreating p who call s c source decision → new ≡ joined s c source.key source.selector (put_decided decision (state_of p)) →
    StepFits (state_of p) who call (Ok Done) new
unfolding reply step
consumer_made p who call s c source decision new h e =
    rw (h.sender, h.asked)
    (go (refusal p.known.life p.known.consumers (held (state_of p) (Session s) h.request) (Session s) h.request) (answer p.known.life p.known.consumers (held (state_of p) (Session s) h.request) (Session s) h.request) h.allowed h.told)
  where
    go : (x : Option Refusal) (a : Answer) → x ≡ None → a ≡ Done → (Ok Done ≡ replied x a) × (new ≡ moved x (after (state_of p) (Session s) h.request) (state_of p))
    go x a none done = rw (none, done) (refl, e ∙ sym h.left)

-- of a topic, with a subscription of its own
pub own_created : (p : Provider) (s : SessionId) (c : ℕ) (topic : List ℕ) (selector : Option (List ℕ)) (no_local : Bool) (d : Subscription) → may_begin p.known.life p.known.consumers s c ≡ true → selector_refusal selector ≡ None →
    d ≡ record { key = Own s c; definition = defined topic selector no_local false } → 0 < p.known.spare → 0 < p.subscriptions.spare → 0 < p.held.key_room →
    IsPlan p (Session s) (Ask (request.CreateConsumer c (Topic topic) selector no_local)) (change.CreateConsumer s c (record { key = Own s c; selector = None }) (Some (Own s c, d)))
unfolding refusal answer after
own_created p s c topic selector no_local d begins valid is room subs_room key_room = record {
  request = request.CreateConsumer c (Topic topic) selector no_local;
  sender = refl;
  asked = refl;
  allowed = rw (begins, valid) refl;
  told = refl;
  left = ap (λ (x : Subscription). joined s c (Own s c) None (put x.key x.definition (state_of p))) (sym is);
  chosen = tt;
  begins = begins;
  own = refl;
  room = room;
  decided = (refl, ap (λ (x : Subscription). x.key) is, refl, subs_room, key_room);
}

-- of a queue
pub queue_created : (p : Provider) (s : SessionId) (c : ℕ) (queue : List ℕ) (text selector : Option (List ℕ)) (no_local : Bool) → may_begin p.known.life p.known.consumers s c ≡ true → selector_refusal text ≡ None → selector ≡ standing_as text → 0 < p.known.spare →
    IsPlan p (Session s) (Ask (request.CreateConsumer c (Queue queue) text no_local)) (change.CreateConsumer s c (record { key = OfQueue queue; selector = selector }) None)
unfolding refusal answer after
queue_created p s c queue text selector no_local begins valid read room = record {
  request = request.CreateConsumer c (Queue queue) text no_local;
  sender = refl;
  asked = refl;
  allowed = rw (begins, valid) refl;
  told = refl;
  left = ap (λ t. joined s c (OfQueue queue) t (state_of p)) (sym read);
  chosen = tt;
  begins = begins;
  own = tt;
  room = room;
  decided = tt;
}

pub subscription_deleted : (p : Provider) (who : Who) (call : Call) (key : Key) (new : State) → IsDeleting p who call key → new ≡ deleted key (state_of p) → StepFits (state_of p) who call (Ok Done) new
unfolding reply step refusal answer after
subscription_deleted p who call key new h e = rw (h.sender, h.asked, h.opened, h.there, h.free) (refl, e ∙ ap (λ k. deleted k (state_of p)) h.named)

-- why one is not deleted: the session is not open; else memory is wanted, or there is none, or it is not free
pub delete_closed : (state : State) (s : SessionId) (name : List ℕ) → is_some (mode_of state.life s) ≡ false → IsRefused state (Session s) (Ask (request.Unsubscribe name)) IllegalState
unfolding reply refusal
delete_closed state s name e = rw e refl

pub delete_wants : (state : State) (s : SessionId) (name : List ℕ) (r : Refusal) → is_some (mode_of state.life s) ≡ true → r ≡ Memory → IsRefused state (Session s) (Ask (request.Unsubscribe name)) r
unfolding may_want
delete_wants state s name r e m = rw (m, e) refl

pub delete_missing : (state : State) (s : SessionId) (name : List ℕ) → is_some (mode_of state.life s) ≡ true → is_some (held state (Session s) (request.Unsubscribe name)).definition ≡ false → IsRefused state (Session s) (Ask (request.Unsubscribe name)) InvalidDestination
unfolding reply refusal
delete_missing state s name e f = rw (e, f) refl

pub delete_in_use : (state : State) (s : SessionId) (name : List ℕ) → is_some (mode_of state.life s) ≡ true → is_some (held state (Session s) (request.Unsubscribe name)).definition ≡ true → is_free (held state (Session s) (request.Unsubscribe name)) ≡ false → IsRefused state (Session s) (Ask (request.Unsubscribe name)) SubscriptionInUse
unfolding reply refusal
delete_in_use state s name e f g = rw (e, f, g) refl

-- ---- publications

-- as many publications as messages
pub as_many : (xs : List Publication) (ms : List Content) → map (λ (x : Publication). x.message) xs ≡ ms → length xs ≡ length ms
as_many xs ms e = omega (arith, length-map xs (λ (x : Publication). x.message), ap (λ (l : List Content). length l) e)

places_left : (place n : ℕ) → place + n ≤ places_end → nat_le (place + n) places_end ≡ true
places_left place n h = grind (arith, nat_tests)

pub places_within : (place n : ℕ) → nat_le (place + n) places_end ≡ true → place + n ≤ places_end
places_within place n h = grind (arith, nat_tests)

-- where messages are not prepared, places run out or memory is wanted
cause_told : (b : Bool) → MatchBool (is_want (Err (cond b Memory Exhausted))) (is_none (unless b Exhausted) ≡ true) (Err (cond b Memory Exhausted) ≡ replied (unless b Exhausted) Done)
cause_told true = refl
cause_told false = refl

-- a publication is refused where the session did not stamp the messages, or no places are left; and else may want memory
pub not_stamped : (state : State) (s : SessionId) (ms : List Content) → (is_untransacted (mode_of state.life s) && is_stamped state.opening s ms) ≡ false → IsRefused state (Session s) (Publish ms) IllegalState
unfolding reply publish_refusal
not_stamped state s ms e = rw e refl

pub no_places : (state : State) (s : SessionId) (ms : List Content) → (is_untransacted (mode_of state.life s) && is_stamped state.opening s ms) ≡ true → nat_le (state.next_place + length ms) places_end ≡ false → IsRefused state (Session s) (Publish ms) Exhausted
unfolding reply publish_refusal
no_places state s ms e f = rw (e, f) refl

pub unready : (state : State) (s : SessionId) (ms : List Content) (r : Refusal) → (is_untransacted (mode_of state.life s) && is_stamped state.opening s ms) ≡ true → r ≡ unprepared state.next_place ms → IsRefused state (Session s) (Publish ms) r
unfolding reply may_want publish_refusal
unready state s ms r e f = rw (f, e) (cause_told (has_places state.next_place ms))

pub wants_room : (state : State) (s : SessionId) (ms : List Content) (r : Refusal) → (is_untransacted (mode_of state.life s) && is_stamped state.opening s ms) ≡ true → nat_le (state.next_place + length ms) places_end ≡ true → r ≡ Memory → IsRefused state (Session s) (Publish ms) r
unfolding may_want publish_refusal
wants_room state s ms r e f m = rw (m, e, f) refl

pub all_published : (p : Provider) (who : Who) (call : Call) (xs : List Publication) (new : State) (h : IsPublishing p who call xs) → new ≡ published (state_of p) h.messages → StepFits (state_of p) who call (Ok Done) new
unfolding reply step publish_refusal
all_published p who call xs new h e =
    rw (h.sender, h.asked, h.stamped, places_left p.held.next_place (length h.messages) h.prepared.places) (refl, e)

-- where the state stays, who may publish may still
pub stamped_still : (old new : State) (s : SessionId) (ms : List Content) → new ≡ old → (is_untransacted (mode_of old.life s) && is_stamped old.opening s ms) ≡ true → (is_untransacted (mode_of new.life s) && is_stamped new.opening s ms) ≡ true
stamped_still old new s ms e h = ap (λ (x : State). is_untransacted (mode_of x.life s) && is_stamped x.opening s ms) e ∙ h

-- ---- commits

-- a commit is refused where the session is not transacted or did not stamp the messages, or they are not prepared
pub not_committed : (state : State) (s : SessionId) (ms : List Content) → (is_transacted (mode_of state.life s) && is_stamped state.opening s ms) ≡ false → IsRefused state (Session s) (Commit ms) IllegalState
unfolding reply commit_refusal
not_committed state s ms e = rw e refl

pub commit_unready : (state : State) (s : SessionId) (ms : List Content) (r : Refusal) → (is_transacted (mode_of state.life s) && is_stamped state.opening s ms) ≡ true → r ≡ unprepared state.next_place ms → IsRefused state (Session s) (Commit ms) r
unfolding reply may_want commit_refusal
commit_unready state s ms r e f = rw (f, e) (cause_told (has_places state.next_place ms))

-- where the state stays, who may commit may still
pub committing_still : (old new : State) (s : SessionId) (ms : List Content) → new ≡ old → (is_transacted (mode_of old.life s) && is_stamped old.opening s ms) ≡ true → (is_transacted (mode_of new.life s) && is_stamped new.opening s ms) ≡ true
committing_still old new s ms e h = ap (λ (x : State). is_transacted (mode_of x.life s) && is_stamped x.opening s ms) e ∙ h

pub all_committed : (p : Provider) (who : Who) (call : Call) (s : SessionId) (xs : List Publication) (new : State) (h : IsCommitting p who call s xs) → new ≡ published (settled (of_session s) (state_of p)) h.messages → StepFits (state_of p) who call (Ok Done) new
unfolding reply step commit_refusal after_commit
all_committed p who call s xs new h e =
    rw (h.sender, h.asked, h.stamped, places_left p.held.next_place (length h.messages) h.prepared.places) (refl, e)

-- whatever answer a commit gave, it was done
pub commit_done : (old new : State) (s : SessionId) (ms : List Content) (a : Answer) (u : Unit {0}) → StepFits old (Session s) (Commit ms) (Ok a) new → CommitFits old s ms (Ok u) new
unfolding reply
commit_done old new s ms a u f = (go (commit_refusal old (Session s) ms) f.0, f.1)
  where
    go : (x : Option Refusal) → Ok a ≡ replied x Done → Ok Done ≡ replied x Done
    go None e = refl
    go (Some r) e = cc

-- one message
pub one_fits : (state new : State) (s : SessionId) (m : Content) (r : Result (Unit {0}) Refusal) → (is_untransacted (mode_of state.life s) && is_stamped state.opening s (m ∷ [])) ≡ true → nat_le (state.next_place + 1) places_end ≡ true →
    OnOk r (new ≡ published state (m ∷ [])) → IfErr r (λ e. e ≡ Memory) → OnErr r (new ≡ state) → PublishFits state s (m ∷ []) r new
unfolding reply step publish_refusal
one_fits state new s m (Ok u) e f ok refused err = rw (e, f) (refl, ok)
one_fits state new s m (Err r) e f ok refused err = refused_fits state new (Session s) (Publish (m ∷ [])) r err (wants_room state s (m ∷ []) r e f refused)
