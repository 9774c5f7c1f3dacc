-- Each row stays as it may be over each step.
use Rattle.std.proofs.Common.{◌≡◌, ℕ, Bool, true, false, cond, List, [], ◌∷◌, refl, arith, Option, Some, None, Result, Ok, Err}
use Rattle.std.specs.List.{AllByRecursion}
use Rattle.jm_base.specs.declared.refusal.Refusal.{Refusal}
use Rattle.jm_base.specs.declared.refusal.Refusal.TheVariants.{InvalidDestination, SubscriptionInUse}
use Rattle.jm_lexer.specs.declared.fault.SyntaxFault.{SyntaxFault}
use Rattle.jm_tree.specs.declared.tree.Tree.{Tree}
use Rattle.jm_selector.specs.Selectors.{read_refusal, selector_read, selector_refusal, standing}
use Rattle.jm_dest.specs.declared.destination.Destination.{Destination}
use Rattle.jm_dest.specs.declared.destination.Destination.TheVariants.{Queue, Topic}
use Rattle.jm_dest.specs.declared.key.Key.{Key}
use Rattle.jm_dest.specs.declared.key.Key.TheVariants.{Own, Queue as OfQueue}
use Rattle.jm_dest.specs.declared.session.SessionId.{SessionId}
use Rattle.jm_header.specs.declared.content.Content.{Content}
use Rattle.jm_format.specs.Messages.{IsMessage}
use Rattle.jm_machine.specs.declared.call.Who.{Who}
use Rattle.jm_machine.specs.declared.call.Who.TheVariants.{Connection, Session}
use Rattle.jm_machine.specs.declared.call.Request.{Request}
use Rattle.jm_machine.specs.declared.call.Request.TheVariants.{CloseConnection, CreateSession, CloseSession, CreateConsumer, CreateDurable, CreateShared, CreateSharedDurable, Unsubscribe, CloseConsumer, Receive, Acknowledge, Recover, Rollback, SetListener, Take, Done as DoneWith}
use Rattle.jm_machine.specs.declared.call.Call.TheVariants.{Ask, Publish, Commit}
use Rattle.jm_machine.specs.declared.state.Consumer.{Consumer}
use Rattle.jm_machine.specs.declared.state.Definition.{Definition}
use Rattle.jm_machine.specs.declared.state.Row.{Row}
use Rattle.jm_machine.specs.Life.{Life, client_of, mode_of, is_started}
use Rattle.jm_machine.specs.Rows.{left_of, taken, settles_at_once, deliver_placed, deliver_chosen}
use Rattle.jm_machine.specs.Machine.{Holding, State, first_cause, is_of_topic, standing_as, subscription_refusal, unless, durable_of, shared_of, asked, is_same, subscribed, put, joined, definition_of, station_of, publisher_of, with_message, without, published, receive, take, with_done, done_rows, holding_at, is_coming, set_busy, set_listening, consumer_of, key_at, made, selected_by, defined, of_session, of_connection, of_number, settled_rows, returned_rows, settled, returned, closed, with_life, is_client, held, refusal, publish_refusal, commit_refusal, after, after_commit, moved, step}
use Rattle.jm_holds.specs.Holds.{EventsHold, HoldsMessages, IsOfQueue, NewHolds, StepsHold}
use Rattle.jm_holds.proofs.Rows.{Keeps, KeepsMessage, chosen_kept, each_at, each_filter, each_map, each_offered, each_put, filter_holds, left_keeps, placed_kept, queued_hold, queues_of, returned_hold, taken_keeps}

-- ---- publications

published_hold : (state : State) (ms : List Content) → HoldsMessages state → AllByRecursion IsMessage ms → HoldsMessages (published state ms)
unfolding published
published_hold state [] h are = h
published_hold state (m ∷ ms) h are = published_hold (with_message state m) ms (record {
  stations = each_offered state.limit (publisher_of state.life m) m state.next_place state.stations h.places are.0 h.stations;
  queues = queued_hold m.destination m state.next_place state.queues refl h.places are.0 h.queues;
  places = let l = h.places in omega (arith, l);
}) are.1

-- ---- selectors that are not refused

first_none : (a b : Option Refusal) → first_cause a b ≡ None → (a ≡ None) × (b ≡ None)
first_none None b e = (refl, e)
first_none (Some r) b e = cc

-- as it stands it is not refused either
stands : (selector : Option (List ℕ)) → selector_refusal selector ≡ None → selector_refusal (standing_as selector) ≡ None
unfolding selector_refusal
stands selector e = go (selector_read selector) refl
  where
    go : (r : Result (Option Tree) SyntaxFault) → selector_read selector ≡ r → read_refusal (selector_read (standing selector r)) ≡ None
    go (Ok None) is = refl
    go (Ok (Some tree)) is = e
    go (Err fault) is = e

asks : (destination : Destination) (selector : Option (List ℕ)) (no_local shared : Bool) → selector_refusal selector ≡ None → selector_refusal (asked destination selector no_local shared).selector ≡ None
unfolding defined
asks destination selector no_local shared e = stands selector e

subscription_chosen : (destination : Destination) (selector : Option (List ℕ)) (may : Bool) → subscription_refusal destination selector may ≡ None → selector_refusal selector ≡ None
subscription_chosen destination selector may e =
    (first_none (selector_refusal selector) (unless may SubscriptionInUse) (first_none (unless (is_of_topic destination) InvalidDestination) (first_cause (selector_refusal selector) (unless may SubscriptionInUse)) e).1).0

consumer_chosen : (life : Life) (consumers : List Consumer) (holding : Holding) (s : SessionId) (c : ℕ) (destination : Destination) (selector : Option (List ℕ)) (no_local : Bool) → refusal life consumers holding (Session s) (CreateConsumer c destination selector no_local) ≡ None → selector_refusal selector ≡ None
unfolding refusal
consumer_chosen life consumers holding s c destination selector no_local e = (first_none _ (selector_refusal selector) e).1

durable_chosen : (life : Life) (consumers : List Consumer) (holding : Holding) (s : SessionId) (c : ℕ) (destination : Destination) (name : List ℕ) (selector : Option (List ℕ)) (no_local : Bool) → refusal life consumers holding (Session s) (CreateDurable c destination name selector no_local) ≡ None → selector_refusal selector ≡ None
unfolding refusal
durable_chosen life consumers holding s c destination name selector no_local e = subscription_chosen destination selector _ (first_none _ _ e).1

shared_chosen : (life : Life) (consumers : List Consumer) (holding : Holding) (s : SessionId) (c : ℕ) (destination : Destination) (name : List ℕ) (selector : Option (List ℕ)) → refusal life consumers holding (Session s) (CreateShared c destination name selector) ≡ None → selector_refusal selector ≡ None
unfolding refusal
shared_chosen life consumers holding s c destination name selector e = subscription_chosen destination selector _ (first_none _ _ e).1

joint_chosen : (life : Life) (consumers : List Consumer) (holding : Holding) (s : SessionId) (c : ℕ) (destination : Destination) (name : List ℕ) (selector : Option (List ℕ)) → refusal life consumers holding (Session s) (CreateSharedDurable c destination name selector) ≡ None → selector_refusal selector ≡ None
unfolding refusal
joint_chosen life consumers holding s c destination name selector e = subscription_chosen destination selector _ (first_none _ _ e).1

-- ---- requests

received_hold : (p : Content → Bool) (f : Row → List Row) (now : ℕ) (k : Option Key) (state : State) → KeepsMessage f → HoldsMessages state → HoldsMessages (receive p f now k state)
received_hold p f now None state keeps h = h
received_hold p f now (Some k) state keeps h = record {
  stations = each_at (deliver_placed now f) (placed_kept now f keeps) k state.stations h.stations;
  queues = queues_of (deliver_chosen p now f) (chosen_kept now p f keeps) k state.queues h.queues;
  places = h.places;
}

settled_hold : (p : SessionId → ℕ → Bool) (state : State) → HoldsMessages state → HoldsMessages (settled p state)
settled_hold p state h = record {
  stations = each_map (settled_rows p) (λ Is. filter_holds Is _) state.stations h.stations;
  queues = λ name. filter_holds (IsOfQueue name) _ (state.queues name) (h.queues name);
  places = h.places;
}

given_hold : (p : SessionId → ℕ → Bool) (state : State) → HoldsMessages state → HoldsMessages (returned p state)
given_hold p state h = record {
  stations = each_map (returned_rows p) (λ Is. returned_hold Is p) state.stations h.stations;
  queues = λ name. returned_hold (IsOfQueue name) p (state.queues name) (h.queues name);
  places = h.places;
}

-- what is settled or given back under one key
done_kept : (s : SessionId) (c : ℕ) (ok : Bool) → Keeps (done_rows s c ok)
done_kept s c true Is rows h = filter_holds Is _ rows h
done_kept s c false Is rows h = returned_hold Is (of_number s c) rows h

done_hold : (s : SessionId) (c : ℕ) (ok : Bool) (k : Option Key) (state : State) → HoldsMessages state → HoldsMessages (with_done s c ok k state)
done_hold s c ok None state h = h
done_hold s c ok (Some k) state h = record {
  stations = each_at (done_rows s c ok) (done_kept s c ok) k state.stations h.stations;
  queues = queues_of (done_rows s c ok) (done_kept s c ok) k state.queues h.queues;
  places = h.places;
}

consumers_hold : (consumers : List Consumer) (state : State) → HoldsMessages state → HoldsMessages (record state { consumers = consumers })
consumers_hold consumers state h = record { stations = h.stations; queues = h.queues; places = h.places }

closed_hold : (p : SessionId → ℕ → Bool) (state : State) → HoldsMessages state → HoldsMessages (closed p state)
closed_hold p state h = record { stations = each_filter _ state.stations h.stations; queues = h.queues; places = h.places }

life_holds : (who : Who) (request : Request) (state : State) → HoldsMessages state → HoldsMessages (with_life who request state)
life_holds who request state h = record { stations = h.stations; queues = h.queues; places = h.places }

put_holds : (k : Key) (d : Definition) (state : State) → selector_refusal d.selector ≡ None → HoldsMessages state → HoldsMessages (put k d state)
put_holds k d state chosen h = record { stations = each_put k d (without k state.stations) chosen (each_filter _ state.stations h.stations); queues = h.queues; places = h.places }

joined_holds : (s : SessionId) (c : ℕ) (k : Key) (selector : Option (List ℕ)) (state : State) → HoldsMessages state → HoldsMessages (joined s c k selector state)
joined_holds s c k selector state h = record { stations = h.stations; queues = h.queues; places = h.places }

made_holds : (s : SessionId) (c : ℕ) (destination : Destination) (selector : Option (List ℕ)) (no_local : Bool) (state : State) → selector_refusal selector ≡ None → HoldsMessages state → HoldsMessages (made s c destination selector no_local state)
unfolding defined
made_holds s c (Queue name) selector no_local state chosen h = joined_holds s c (OfQueue name) _ state h
made_holds s c (Topic name) selector no_local state chosen h = joined_holds s c (Own s c) None (put (Own s c) (defined name selector no_local false) state) (put_holds (Own s c) (defined name selector no_local false) state (stands selector chosen) h)

either_holds : (b : Bool) (x y : State) → HoldsMessages x → HoldsMessages y → HoldsMessages (cond b x y)
either_holds true x y p q = p
either_holds false x y p q = q

subscribed_hold : (s : SessionId) (c : ℕ) (k : Key) (d : Definition) (state : State) → selector_refusal d.selector ≡ None → HoldsMessages state → HoldsMessages (subscribed s c k d state)
subscribed_hold s c k d state chosen h = joined_holds s c k None _ (either_holds (is_same (definition_of (station_of k state.stations)) d) state (put k d state) h (put_holds k d state chosen h))

moved_hold : (o : Option Refusal) (x y : State) → (o ≡ None → HoldsMessages x) → HoldsMessages y → HoldsMessages (moved o x y)
moved_hold None x y p q = p refl
moved_hold (Some r) x y p q = q

after_holds : (state : State) (who : Who) (request : Request) → refusal state.life state.consumers (held state who request) who request ≡ None → HoldsMessages state → HoldsMessages (after state who request)
unfolding after
after_holds state (Connection c) CloseConnection e h = closed_hold (of_connection c) (returned (of_connection c) (with_life (Connection c) CloseConnection state)) (given_hold (of_connection c) (with_life (Connection c) CloseConnection state) (life_holds (Connection c) CloseConnection state h))
after_holds state (Connection c) request e h = life_holds (Connection c) request state h
after_holds state (Session s) (CreateSession mode) e h = life_holds (Session s) (CreateSession mode) state h
after_holds state (Session s) CloseSession e h = closed_hold (of_session s) (returned (of_session s) (with_life (Session s) CloseSession state)) (given_hold (of_session s) (with_life (Session s) CloseSession state) (life_holds (Session s) CloseSession state h))
after_holds state (Session s) (CreateConsumer c destination selector no_local) e h = made_holds s c destination selector no_local state (consumer_chosen state.life state.consumers (held state (Session s) (CreateConsumer c destination selector no_local)) s c destination selector no_local e) h
after_holds state (Session s) (CreateDurable c destination name selector no_local) e h = subscribed_hold s c (durable_of (client_of state.life) s name) (asked destination selector no_local false) state (asks destination selector no_local false (durable_chosen state.life state.consumers (held state (Session s) (CreateDurable c destination name selector no_local)) s c destination name selector no_local e)) h
after_holds state (Session s) (CreateShared c destination name selector) e h = subscribed_hold s c (shared_of (client_of state.life) s name) (asked destination selector false true) state (asks destination selector false true (shared_chosen state.life state.consumers (held state (Session s) (CreateShared c destination name selector)) s c destination name selector e)) h
after_holds state (Session s) (CreateSharedDurable c destination name selector) e h = subscribed_hold s c (durable_of (client_of state.life) s name) (asked destination selector false true) state (asks destination selector false true (joint_chosen state.life state.consumers (held state (Session s) (CreateSharedDurable c destination name selector)) s c destination name selector e)) h
after_holds state (Session s) (Unsubscribe name) e h = record { stations = each_filter _ state.stations h.stations; queues = h.queues; places = h.places }
after_holds state (Session s) (Receive c now) e h =
    either_holds (is_started state.life s.connection) (receive (selected_by (consumer_of state.consumers s c)) (left_of (mode_of state.life s) s c) now (key_at (consumer_of state.consumers s c)) state) state
    (received_hold (selected_by (consumer_of state.consumers s c)) (left_of (mode_of state.life s) s c) now (key_at (consumer_of state.consumers s c)) state (left_keeps (mode_of state.life s) s c) h) h
after_holds state (Session s) (CloseConsumer c) e h = closed_hold (of_number s c) state h
after_holds state (Session s) Acknowledge e h = either_holds (is_client (mode_of state.life s)) (settled (of_session s) state) state (settled_hold (of_session s) state h) h
after_holds state (Session s) Recover e h = given_hold (of_session s) state h
after_holds state (Session s) Rollback e h = given_hold (of_session s) state h
after_holds state (Session s) (SetListener c on) e h = consumers_hold (set_listening s c on state.consumers) state h
after_holds state (Session s) (Take c now) e h =
    let p : Content → Bool = selected_by (consumer_of state.consumers s c) in
    let k : Option Key = key_at (consumer_of state.consumers s c) in
    either_holds (is_started state.life s.connection) (take p s c now k state) state
    (consumers_hold (set_busy s c (is_coming now (holding_at p k state).rows) state.consumers) (receive p (taken s c) now k state) (received_hold p (taken s c) now k state (taken_keeps s c) h)) h
after_holds state (Session s) (DoneWith c ok) e h =
    let free : State = record state { consumers = set_busy s c false state.consumers } in
    let still : HoldsMessages free = consumers_hold (set_busy s c false state.consumers) state h in
    either_holds (settles_at_once (mode_of state.life s)) (with_done s c ok (key_at (consumer_of state.consumers s c)) free) free (done_hold s c ok (key_at (consumer_of state.consumers s c)) free still) still
after_holds state (Session s) _ e h = h

committed_hold : (state : State) (who : Who) (ms : List Content) → HoldsMessages state → AllByRecursion IsMessage ms → HoldsMessages (after_commit state who ms)
unfolding after_commit
committed_hold state (Connection c) ms h are = h
committed_hold state (Session s) ms h are = published_hold (settled (of_session s) state) ms (settled_hold (of_session s) state h) are

-- ---- steps

pub steps_hold : StepsHold
unfolding step
steps_hold state who (Ask request) h are = moved_hold (refusal state.life state.consumers (held state who request) who request) (after state who request) state (λ e. after_holds state who request e h) h
steps_hold state who (Publish messages) h are = moved_hold (publish_refusal state who messages) (published state messages) state (λ e. published_hold state messages h are) h
steps_hold state who (Commit messages) h are = moved_hold (commit_refusal state who messages) (after_commit state who messages) state (λ e. committed_hold state who messages h are) h

pub new_holds : NewHolds
new_holds opening limit = record { stations = tt; queues = λ name. tt; places = omega arith }

pub events_hold : EventsHold
events_hold state [] h are = h
events_hold state (e ∷ events) h are = events_hold (step state e.step.who e.step.call) events (steps_hold state e.step.who e.step.call h are.0) are.1
