-- What becomes of the messages of a subscription: at each place what came counts as what is held, settled, dropped and gone.
use Rattle.std.proofs.Common.{◌≡◌, ℕ, ◌+◌, ◌≤◌, ◌<◌, Bool, true, false, cond, List, [], ◌∷◌, ◌++◌, length, refl, ap, sym, ◌∙◌, arith, Option, Some, None}
use Rattle.std.specs.Prelude.{filter, map, not, ◌&&◌, ◌==◌, is_none, is_some}
use Rattle.std.proofs.lemmas.Bool.Decides.{nat_tests}
use Rattle.jm_base.specs.declared.mode.Mode.{Mode}
use Rattle.jm_base.specs.declared.refusal.Refusal.{Refusal}
use Rattle.jm_base.specs.declared.refusal.Refusal.TheVariants.{IllegalState}
use Rattle.jm_dest.specs.declared.session.SessionId.{SessionId}
use Rattle.jm_dest.specs.declared.destination.Destination.{Destination}
use Rattle.jm_dest.specs.declared.destination.Destination.TheVariants.{Queue, Topic}
use Rattle.jm_dest.specs.declared.key.Key.{Key}
use Rattle.jm_dest.specs.declared.key.Key.TheVariants.{Own}
use Rattle.jm_dest.specs.Keys.{key_eq}
use Rattle.jm_header.specs.declared.content.Content.{Content}
use Rattle.jm_selector.specs.Selectors.{selector_refusal}
use Rattle.jm_machine.specs.declared.call.Who.{Who}
use Rattle.jm_machine.specs.declared.call.Who.TheVariants.{Connection, Session}
use Rattle.jm_machine.specs.declared.call.Request.{Request}
use Rattle.jm_machine.specs.declared.call.Request.TheVariants.{CloseConnection, CloseSession, CreateConsumer, CreateDurable, CreateShared, CreateSharedDurable, Unsubscribe, CloseConsumer, Receive, Acknowledge, Recover, Rollback, Take, Done as DoneWith}
use Rattle.jm_machine.specs.declared.call.Call.{Call}
use Rattle.jm_machine.specs.declared.call.Call.TheVariants.{Ask, Publish, Commit}
use Rattle.jm_machine.specs.declared.call.Step.{Step}
use Rattle.jm_machine.specs.declared.state.Definition.{Definition}
use Rattle.jm_machine.specs.declared.state.PlacedRow.{PlacedRow}
use Rattle.jm_machine.specs.declared.state.Station.{Station}
use Rattle.jm_machine.specs.Life.{client_of, is_started, mode_of}
use Rattle.jm_machine.specs.Rows.{InOrder, bare, fresh, has_lapsed, is_next, is_out, left_of, taken, live, live_placed, settles_at_once, deliver_placed}
use Rattle.jm_machine.specs.Machine.{State, AllInOrder, Publisher, publisher_of, accepts, is_full, one_missed, offered, with_message, published, with_rows, at_key, station_of, definition_of, consumer_of, key_at, selected_by, defined, durable_of, shared_of, asked, is_same, may_share, put, joined, subscribed, deleted, of_session, of_connection, of_number, settled_rows, returned_rows, settled, returned, ends, closed, with_life, is_client, receive, set_busy, take, done_rows, with_done, held, may_begin, subscription_refusal, first_cause, unless, refusal, publish_refusal, commit_refusal, after, after_commit, moved, step}
use Rattle.jm_machine.specs.Places.{rows_at, rows_holding}
use Rattle.jm_machine.specs.Queues.{rows_unless, state_after}
use Rattle.jm_machine.specs.Isolation.{Reached}
use Rattle.jm_machine.specs.Isolation.Reached.{Stepped}
use Rattle.jm_machine.specs.Under.{is_key}
use Rattle.jm_law.specs.Subscriptions.{placed_of, held_under, next_row, settles_under, drops_under, goes_under, settled_under, dropped_under, gone_under, row_for, rows_for, came_under, all_settled_under, all_dropped_under, all_gone_under, all_came_under, SubscriptionKeeps}
use Rattle.jm_machine.proofs.Keys.{key_same}
use Rattle.jm_law.proofs.Stations.{mapped, station_of-map, station_of-at, station_of_other-at, station-put, other-put, station-without, other-without, station-ended}
use Rattle.jm_law.proofs.Projection.{refused}
use Rattle.jm_law.proofs.Queues.{at_append, at_filter, at_returned, at_stays, at_left, published_next, next_after, Brings, brings_none, brings_asked, below}
use Rattle.jm_law.proofs.OneConsumer.{offered_parts, later, may_subscribe}
use Rattle.jm_law.proofs.Founded.{reached_founded}
use Rattle.jm_machine.proofs.Order.{reached_in_order}
use Rattle.jm_law.proofs.Places.{none_from, one_place}

-- ---- one step

-- of a subscription's rows, those before and those that came are those after, those settled, those dropped and those gone
abbrev Balance : (Content → Bool) → ℕ → List PlacedRow → List PlacedRow → List PlacedRow → List PlacedRow → List PlacedRow → List PlacedRow → Type 0
Balance is_it place new settled lapsed gone old came = rows_holding is_it place new + (rows_holding is_it place settled + (rows_holding is_it place lapsed + rows_holding is_it place gone)) ≡ rows_holding is_it place old + rows_holding is_it place came

same : (is_it : Content → Bool) (place : ℕ) (rows : List PlacedRow) → Balance is_it place rows [] [] [] rows []
same is_it place rows = omega arith

as_before : (is_it : Content → Bool) (place : ℕ) (new old : List PlacedRow) → new ≡ old → Balance is_it place new [] [] [] old []
as_before is_it place new old e = let h = ap (rows_holding is_it place) e in omega (arith, h)

-- rows wait again, are settled, and are received
returned_at : (is_it : Content → Bool) (place : ℕ) (p : SessionId → ℕ → Bool) (o : Option Station) → rows_holding is_it place (placed_of (mapped (with_rows (returned_rows p)) o)) ≡ rows_holding is_it place (placed_of o)
returned_at is_it place p None = refl
returned_at is_it place p (Some x) = at_returned is_it place p x.rows

settled_at : (is_it : Content → Bool) (place : ℕ) (p : SessionId → ℕ → Bool) (o : Option Station) →
    rows_holding is_it place (placed_of (mapped (with_rows (settled_rows p)) o)) + rows_holding is_it place (filter (λ x. is_out p x.row) (placed_of o)) ≡ rows_holding is_it place (placed_of o)
settled_at is_it place p None = omega arith
settled_at is_it place p (Some x) = at_filter is_it place (λ y. is_out p y.row) x.rows

received_at : (is_it : Content → Bool) (place now : ℕ) (mode : Option Mode) (s : SessionId) (c : ℕ) (o : Option Station) →
    Balance is_it place (placed_of (mapped (with_rows (deliver_placed now (left_of mode s c))) o)) (cond (settles_at_once mode) (next_row now (placed_of o)) []) (filter (λ x. has_lapsed now x.row) (placed_of o)) [] (placed_of o) []
received_at is_it place now mode s c None = go (settles_at_once mode)
  where
    go : (b : Bool) → Balance is_it place [] (cond b [] []) [] [] [] []
    go true = same is_it place []
    go false = same is_it place []
received_at is_it place now mode s c (Some x) =
    let h = at_left is_it place (is_next now (live now (bare x.rows))) mode s c (live_placed now x.rows) in
    let g = at_filter is_it place (λ y. has_lapsed now y.row) x.rows in
    omega (arith, h, g)

returned_balance : (is_it : Content → Bool) (place : ℕ) (k : Key) (p : SessionId → ℕ → Bool) (state : State) → Balance is_it place (held_under k (returned p state)) [] [] [] (held_under k state) []
returned_balance is_it place k p state =
    let e = ap (λ o. rows_holding is_it place (placed_of o)) (station_of-map k (with_rows (returned_rows p)) (λ x. refl) state.stations) in
    let h = returned_at is_it place p (station_of k state.stations) in
    omega (arith, e, h)

settled_under_at : (is_it : Content → Bool) (place : ℕ) (k : Key) (p : SessionId → ℕ → Bool) (state : State) → rows_holding is_it place (held_under k (settled p state)) + rows_holding is_it place (filter (λ x. is_out p x.row) (held_under k state)) ≡ rows_holding is_it place (held_under k state)
settled_under_at is_it place k p state =
    let e = ap (λ o. rows_holding is_it place (placed_of o)) (station_of-map k (with_rows (settled_rows p)) (λ x. refl) state.stations) in
    let h = settled_at is_it place p (station_of k state.stations) in
    omega (arith, e, h)

acknowledged_balance : (is_it : Content → Bool) (place : ℕ) (k : Key) (s : SessionId) (state : State) (b : Bool) →
    Balance is_it place (held_under k (cond b (settled (of_session s) state) state)) (cond b (filter (λ x. is_out (of_session s) x.row) (held_under k state)) []) [] [] (held_under k state) []
acknowledged_balance is_it place k s state true = let h = settled_under_at is_it place k (of_session s) state in omega (arith, h)
acknowledged_balance is_it place k s state false = same is_it place (held_under k state)

-- consumers close
ended_at : (is_it : Content → Bool) (place : ℕ) (p : SessionId → ℕ → Bool) (b : Bool) (o : Option Station) → rows_holding is_it place (placed_of (cond b None (mapped (with_rows (returned_rows p)) o))) + rows_holding is_it place (cond b (placed_of o) []) ≡ rows_holding is_it place (placed_of o)
ended_at is_it place p true o = omega arith
ended_at is_it place p false o = let h = returned_at is_it place p o in omega (arith, h)

shut_at : (is_it : Content → Bool) (place : ℕ) (b : Bool) (o : Option Station) → rows_holding is_it place (placed_of (cond b None o)) + rows_holding is_it place (cond b (placed_of o) []) ≡ rows_holding is_it place (placed_of o)
shut_at is_it place true o = omega arith
shut_at is_it place false o = omega arith

closed_balance : (is_it : Content → Bool) (place : ℕ) (k : Key) (p : SessionId → ℕ → Bool) (state : State) → Balance is_it place (held_under k (closed p state)) [] [] (cond (ends p state.consumers k) (held_under k state) []) (held_under k state) []
closed_balance is_it place k p state =
    let e = ap (λ o. rows_holding is_it place (placed_of o)) (station-ended k (ends p state.consumers) state.stations) in
    let h = shut_at is_it place (ends p state.consumers k) (station_of k state.stations) in
    omega (arith, e, h)

left_balance : (is_it : Content → Bool) (place : ℕ) (k : Key) (p : SessionId → ℕ → Bool) (who : Who) (request : Request) (state : State) →
    Balance is_it place (held_under k (closed p (returned p (with_life who request state)))) [] [] (cond (ends p state.consumers k) (held_under k state) []) (held_under k state) []
left_balance is_it place k p who request state =
    let e = ap (λ o. rows_holding is_it place (placed_of o)) (station-ended k (ends p state.consumers) (map (with_rows (returned_rows p)) state.stations)) in
    let f = ap (λ o. rows_holding is_it place (placed_of (cond (ends p state.consumers k) None o))) (station_of-map k (with_rows (returned_rows p)) (λ x. refl) state.stations) in
    let h = ended_at is_it place p (ends p state.consumers k) (station_of k state.stations) in
    omega (arith, e, f, h)

-- a consumer receives
received_balance : (is_it : Content → Bool) (place : ℕ) (k : Key) (state : State) (s : SessionId) (c now : ℕ) (p : Content → Bool) (o : Option Key) (started : Bool) →
    Balance is_it place (held_under k (cond started (receive p (left_of (mode_of state.life s) s c) now o state) state))
    (cond (started && (is_key k o && settles_at_once (mode_of state.life s))) (next_row now (held_under k state)) [])
    (cond (started && is_key k o) (filter (λ x. has_lapsed now x.row) (held_under k state)) []) [] (held_under k state) []
received_balance is_it place k state s c now p o false = same is_it place (held_under k state)
received_balance is_it place k state s c now p None true = same is_it place (held_under k state)
received_balance is_it place k state s c now p (Some l) true = go (key_eq l k) refl
  where
    f : List PlacedRow → List PlacedRow
    f = deliver_placed now (left_of (mode_of state.life s) s c)

    go : (b : Bool) → key_eq l k ≡ b →
        Balance is_it place (placed_of (station_of k (at_key l (with_rows f) state.stations)))
        (cond (b && settles_at_once (mode_of state.life s)) (next_row now (held_under k state)) [])
        (cond b (filter (λ x. has_lapsed now x.row) (held_under k state)) []) [] (held_under k state) []
    go true e =
        let i = ap (λ (y : Key). rows_holding is_it place (placed_of (station_of k (at_key y (with_rows f) state.stations)))) (key_same l k e) in
        let j = ap (λ o. rows_holding is_it place (placed_of o)) (station_of-at k (with_rows f) (λ x. refl) state.stations) in
        let h = received_at is_it place now (mode_of state.life s) s c (station_of k state.stations) in
        omega (arith, i, j, h)
    go false e = as_before is_it place _ _ (ap placed_of (station_of_other-at k l (with_rows f) (λ x. refl) e state.stations))

-- a consumer's listener takes a message, which stays
taken_at : (is_it : Content → Bool) (place now : ℕ) (s : SessionId) (c : ℕ) (o : Option Station) → Balance is_it place (placed_of (mapped (with_rows (deliver_placed now (taken s c))) o)) [] (filter (λ x. has_lapsed now x.row) (placed_of o)) [] (placed_of o) []
taken_at is_it place now s c None = same is_it place []
taken_at is_it place now s c (Some x) =
    let h = at_stays is_it place (is_next now (live now (bare x.rows))) s c (live_placed now x.rows) in
    let g = at_filter is_it place (λ y. has_lapsed now y.row) x.rows in
    omega (arith, h, g)

taken_balance : (is_it : Content → Bool) (place : ℕ) (k : Key) (state : State) (s : SessionId) (c now : ℕ) (p : Content → Bool) (o : Option Key) (started : Bool) →
    Balance is_it place (held_under k (cond started (take p s c now o state) state)) [] (cond (started && is_key k o) (filter (λ x. has_lapsed now x.row) (held_under k state)) []) [] (held_under k state) []
taken_balance is_it place k state s c now p o false = same is_it place (held_under k state)
taken_balance is_it place k state s c now p None true = same is_it place (held_under k state)
taken_balance is_it place k state s c now p (Some l) true = go (key_eq l k) refl
  where
    f : List PlacedRow → List PlacedRow
    f = deliver_placed now (taken s c)

    go : (b : Bool) → key_eq l k ≡ b → Balance is_it place (placed_of (station_of k (at_key l (with_rows f) state.stations))) [] (cond b (filter (λ x. has_lapsed now x.row) (held_under k state)) []) [] (held_under k state) []
    go true e =
        let i = ap (λ (y : Key). rows_holding is_it place (placed_of (station_of k (at_key y (with_rows f) state.stations)))) (key_same l k e) in
        let j = ap (λ o. rows_holding is_it place (placed_of o)) (station_of-at k (with_rows f) (λ x. refl) state.stations) in
        let h = taken_at is_it place now s c (station_of k state.stations) in
        omega (arith, i, j, h)
    go false e = as_before is_it place _ _ (ap placed_of (station_of_other-at k l (with_rows f) (λ x. refl) e state.stations))

-- it is done with one, which goes or waits again
done_at : (is_it : Content → Bool) (place : ℕ) (s : SessionId) (c : ℕ) (ok : Bool) (o : Option Station) →
    Balance is_it place (placed_of (mapped (with_rows (done_rows s c ok)) o)) (cond (ok && true) (filter (λ x. is_out (of_number s c) x.row) (placed_of o)) []) [] [] (placed_of o) []
done_at is_it place s c true o = let h = settled_at is_it place (of_number s c) o in omega (arith, h)
done_at is_it place s c false o = let h = returned_at is_it place (of_number s c) o in omega (arith, h)

-- in a session that settles no message at once, and of another key, all stays
done_not : (is_it : Content → Bool) (place : ℕ) (ok at : Bool) (gone rows : List PlacedRow) → Balance is_it place rows (cond (ok && (at && false)) gone []) [] [] rows []
done_not is_it place true true gone rows = same is_it place rows
done_not is_it place true false gone rows = same is_it place rows
done_not is_it place false at gone rows = same is_it place rows

none_gone : (is_it : Content → Bool) (place : ℕ) (ok : Bool) (gone new old : List PlacedRow) → new ≡ old → Balance is_it place new (cond (ok && false) gone []) [] [] old []
none_gone is_it place true gone new old e = as_before is_it place new old e
none_gone is_it place false gone new old e = as_before is_it place new old e

done_balance : (is_it : Content → Bool) (place : ℕ) (k : Key) (state : State) (s : SessionId) (c : ℕ) (ok : Bool) (o : Option Key) (at_once : Bool) →
    Balance is_it place (held_under k (cond at_once (with_done s c ok o state) state)) (cond (ok && (is_key k o && at_once)) (filter (λ x. is_out (of_number s c) x.row) (held_under k state)) []) [] [] (held_under k state) []
done_balance is_it place k state s c ok o false = done_not is_it place ok (is_key k o) (filter (λ x. is_out (of_number s c) x.row) (held_under k state)) (held_under k state)
done_balance is_it place k state s c ok None true = none_gone is_it place ok (filter (λ x. is_out (of_number s c) x.row) (held_under k state)) (held_under k state) (held_under k state) refl
done_balance is_it place k state s c ok (Some l) true = go (key_eq l k) refl
  where
    f : List PlacedRow → List PlacedRow
    f = done_rows s c ok

    go : (b : Bool) → key_eq l k ≡ b → Balance is_it place (placed_of (station_of k (at_key l (with_rows f) state.stations))) (cond (ok && (b && true)) (filter (λ x. is_out (of_number s c) x.row) (held_under k state)) []) [] [] (held_under k state) []
    go true e =
        let i = ap (λ (y : Key). rows_holding is_it place (placed_of (station_of k (at_key y (with_rows f) state.stations)))) (key_same l k e) in
        let j = ap (λ o. rows_holding is_it place (placed_of o)) (station_of-at k (with_rows f) (λ x. refl) state.stations) in
        let h = done_at is_it place s c ok (station_of k state.stations) in
        omega (arith, i, j, h)
    go false e = none_gone is_it place ok (filter (λ x. is_out (of_number s c) x.row) (held_under k state)) _ _ (ap placed_of (station_of_other-at k l (with_rows f) (λ x. refl) e state.stations))

-- a subscription is had, and takes the place of another that asks for another thing
subscribed_stations : (s : SessionId) (c : ℕ) (l : Key) (d : Definition) (state : State) → (subscribed s c l d state).stations ≡ cond (is_same (definition_of (station_of l state.stations)) d) state.stations (put l d state).stations
subscribed_stations s c l d state = elim (is_same (definition_of (station_of l state.stations)) d) as (λ b. (joined s c l None (cond b state (put l d state))).stations ≡ cond b state.stations (put l d state).stations) [ true ↦ refl | false ↦ refl ]

put_at : (is_it : Content → Bool) (place : ℕ) (l k : Key) (d : Definition) (state : State) (a : Bool) → key_eq l k ≡ a → (b : Bool) →
    Balance is_it place (placed_of (station_of k (cond b state.stations (put l d state).stations))) [] [] (cond (a && not b) (held_under k state) []) (held_under k state) []
put_at is_it place l k d state true e true = same is_it place (held_under k state)
put_at is_it place l k d state true e false =
    let i = ap (λ (y : Key). rows_holding is_it place (placed_of (station_of k (put y d state).stations))) (key_same l k e) in
    let j = ap (λ o. rows_holding is_it place (placed_of o)) (station-put k d state.stations) in
    omega (arith, i, j)
put_at is_it place l k d state false e true = same is_it place (held_under k state)
put_at is_it place l k d state false e false = as_before is_it place _ _ (ap placed_of (other-put k l d e state.stations))

subscribed_balance : (is_it : Content → Bool) (place : ℕ) (k : Key) (s : SessionId) (c : ℕ) (l : Key) (d : Definition) (state : State) →
    Balance is_it place (held_under k (subscribed s c l d state)) [] [] (cond (key_eq l k && not (is_same (definition_of (station_of l state.stations)) d)) (held_under k state) []) (held_under k state) []
subscribed_balance is_it place k s c l d state =
    let e = ap (λ (xs : List Station). rows_holding is_it place (placed_of (station_of k xs))) (subscribed_stations s c l d state) in
    let h = put_at is_it place l k d state (key_eq l k) refl (is_same (definition_of (station_of l state.stations)) d) in
    omega (arith, e, h)

-- a shared one that is not durable takes the place of none
shared_balance : (is_it : Content → Bool) (place : ℕ) (k : Key) (s : SessionId) (c : ℕ) (l : Key) (d : Definition) (state : State) → may_share (definition_of (station_of l state.stations)) false false d ≡ true →
    Balance is_it place (held_under k (subscribed s c l d state)) [] [] [] (held_under k state) []
shared_balance is_it place k s c l d state h = go (key_eq l k) refl (is_same (definition_of (station_of l state.stations)) d) refl (subscribed_balance is_it place k s c l d state)
  where
    held_none : (o : Option Station) → may_share (definition_of o) false false d ≡ true → is_same (definition_of o) d ≡ false → rows_holding is_it place (placed_of o) ≡ 0
    held_none None i e = refl
    held_none (Some x) i e = let j : true ≡ false = sym i ∙ e in cc

    go : (a : Bool) → key_eq l k ≡ a → (b : Bool) → is_same (definition_of (station_of l state.stations)) d ≡ b →
        Balance is_it place (held_under k (subscribed s c l d state)) [] [] (cond (a && not b) (held_under k state) []) (held_under k state) [] → Balance is_it place (held_under k (subscribed s c l d state)) [] [] [] (held_under k state) []
    go false e b f r = r
    go true e true f r = r
    go true e false f r =
        let i = held_none (station_of l state.stations) h f in
        let j = ap (λ (y : Key). rows_holding is_it place (placed_of (station_of y state.stations))) (key_same l k e) in
        omega (arith, r, i, j)

-- a consumer of a topic is made with a subscription that is new
made_balance : (is_it : Content → Bool) (place : ℕ) (k : Key) (s : SessionId) (c : ℕ) (d : Definition) (state : State) → station_of (Own s c) state.stations ≡ None → Balance is_it place (held_under k (put (Own s c) d state)) [] [] [] (held_under k state) []
made_balance is_it place k s c d state h = go (key_eq (Own s c) k) refl
  where
    go : (b : Bool) → key_eq (Own s c) k ≡ b → Balance is_it place (held_under k (put (Own s c) d state)) [] [] [] (held_under k state) []
    go true e =
        let i = ap (λ (y : Key). rows_holding is_it place (held_under y (put (Own s c) d state))) (key_same (Own s c) k e) in
        let j = ap (λ o. rows_holding is_it place (placed_of o)) (station-put (Own s c) d state.stations) in
        let f = ap (λ (y : Key). rows_holding is_it place (placed_of (station_of y state.stations))) (key_same (Own s c) k e) in
        let g = ap (λ o. rows_holding is_it place (placed_of o)) h in
        omega (arith, i, j, f, g)
    go false e = as_before is_it place _ _ (ap placed_of (other-put k (Own s c) d e state.stations))

deleted_balance : (is_it : Content → Bool) (place : ℕ) (k l : Key) (state : State) → Balance is_it place (held_under k (deleted l state)) [] [] (cond (key_eq l k) (held_under k state) []) (held_under k state) []
deleted_balance is_it place k l state = go (key_eq l k) refl
  where
    go : (b : Bool) → key_eq l k ≡ b → Balance is_it place (held_under k (deleted l state)) [] [] (cond b (held_under k state) []) (held_under k state) []
    go true e =
        let i = ap (λ (y : Key). rows_holding is_it place (held_under k (deleted y state))) (key_same l k e) in
        let j = ap (λ o. rows_holding is_it place (placed_of o)) (station-without k state.stations) in
        omega (arith, i, j)
    go false e = as_before is_it place _ _ (ap placed_of (other-without k l e state.stations))

new_number : (state : State) (s : SessionId) (c : ℕ) (destination : Destination) (selector : Option (List ℕ)) (no_local : Bool) → refused state s (CreateConsumer c destination selector no_local) ≡ None → is_some (consumer_of state.consumers s c) ≡ false
unfolding refusal
new_number state s c destination selector no_local h = go (is_some (mode_of state.life s)) (is_some (consumer_of state.consumers s c)) h
  where
    go : (a b : Bool) → first_cause (unless (a && not b) IllegalState) (selector_refusal selector) ≡ None → b ≡ false
    go true true h = cc
    go true false h = refl
    go false true h = cc
    go false false h = refl

shares : (state : State) (s : SessionId) (c : ℕ) (destination : Destination) (name : List ℕ) (selector : Option (List ℕ)) → refused state s (CreateShared c destination name selector) ≡ None →
    may_share (definition_of (station_of (shared_of (client_of state.life) s name) state.stations)) false false (asked destination selector false true) ≡ true
unfolding refusal
shares state s c destination name selector h =
    let may : Bool = may_share (definition_of (station_of (shared_of (client_of state.life) s name) state.stations)) false false (asked destination selector false true) in
    may_subscribe destination selector may (later (unless (may_begin state.life state.consumers s c) IllegalState) (subscription_refusal destination selector may) h)

after_balance : (is_it : Content → Bool) (place : ℕ) (k : Key) (state : State) (who : Who) (request : Request) → Reached state → refusal state.life state.consumers (held state who request) who request ≡ None →
    Balance is_it place (held_under k (after state who request)) (settles_under k state who request) (drops_under k state who request) (goes_under k state who request) (held_under k state) []
unfolding after
after_balance is_it place k state (Connection c) CloseConnection r n = left_balance is_it place k (of_connection c) (Connection c) CloseConnection state
after_balance is_it place k state (Connection c) request r n = same is_it place (held_under k state)
after_balance is_it place k state (Session s) CloseSession r n = left_balance is_it place k (of_session s) (Session s) CloseSession state
after_balance is_it place k state (Session s) (CreateConsumer c (Queue other) selector no_local) r n = same is_it place (held_under k state)
after_balance is_it place k state (Session s) (CreateConsumer c (Topic other) selector no_local) r n =
    made_balance is_it place k s c (defined other selector no_local false) state (reached_founded s c state r (new_number state s c (Topic other) selector no_local n))
after_balance is_it place k state (Session s) (CreateDurable c destination other selector no_local) r n = subscribed_balance is_it place k s c (durable_of (client_of state.life) s other) (asked destination selector no_local false) state
after_balance is_it place k state (Session s) (CreateShared c destination other selector) r n =
    shared_balance is_it place k s c (shared_of (client_of state.life) s other) (asked destination selector false true) state (shares state s c destination other selector n)
after_balance is_it place k state (Session s) (CreateSharedDurable c destination other selector) r n = subscribed_balance is_it place k s c (durable_of (client_of state.life) s other) (asked destination selector false true) state
after_balance is_it place k state (Session s) (Unsubscribe other) r n = deleted_balance is_it place k (durable_of (client_of state.life) s other) state
after_balance is_it place k state (Session s) (CloseConsumer c) r n = closed_balance is_it place k (of_number s c) state
after_balance is_it place k state (Session s) (Receive c now) r n =
    received_balance is_it place k state s c now (selected_by (consumer_of state.consumers s c)) (key_at (consumer_of state.consumers s c)) (is_started state.life s.connection)
after_balance is_it place k state (Session s) Acknowledge r n = acknowledged_balance is_it place k s state (is_client (mode_of state.life s))
after_balance is_it place k state (Session s) Recover r n = returned_balance is_it place k (of_session s) state
after_balance is_it place k state (Session s) Rollback r n = returned_balance is_it place k (of_session s) state
after_balance is_it place k state (Session s) (Take c now) r n =
    taken_balance is_it place k state s c now (selected_by (consumer_of state.consumers s c)) (key_at (consumer_of state.consumers s c)) (is_started state.life s.connection)
after_balance is_it place k state (Session s) (DoneWith c ok) r n =
    done_balance is_it place k (record state { consumers = set_busy s c false state.consumers }) s c ok (key_at (consumer_of state.consumers s c)) (settles_at_once (mode_of state.life s))
after_balance is_it place k state (Session s) _ r n = same is_it place (held_under k state)

asked_balance : (is_it : Content → Bool) (place : ℕ) (k : Key) (o : Option Refusal) (x state : State) (settled lapsed gone : List PlacedRow) → (o ≡ None → Balance is_it place (held_under k x) settled lapsed gone (held_under k state) []) →
    Balance is_it place (held_under k (moved o x state)) (rows_unless (is_none o) settled) (rows_unless (is_none o) lapsed) (rows_unless (is_none o) gone) (held_under k state) []
asked_balance is_it place k None x state settled lapsed gone h = h refl
asked_balance is_it place k (Some r) x state settled lapsed gone h = same is_it place (held_under k state)

-- a message comes
brought_at : (is_it : Content → Bool) (place limit : ℕ) (p : Publisher) (m : Content) (n : ℕ) (o : Option Station) → rows_holding is_it place (placed_of (mapped (offered limit p m n) o)) ≡ rows_holding is_it place (placed_of o) + rows_holding is_it place (row_for limit p m n o)
brought_at is_it place limit p m n None = omega arith
brought_at is_it place limit p m n (Some x) = go (accepts x.key x.definition p m) (is_full limit x.key (length x.rows))
  where
    row : List PlacedRow
    row = record { place = n; row = fresh m } ∷ []

    full : Station
    full = record { key = x.key; definition = x.definition; missed = one_missed x.missed; rows = x.rows }

    go : (a b : Bool) → rows_holding is_it place (cond a (cond b full (with_rows (λ rows. rows ++ row) x)) x).rows ≡ rows_holding is_it place x.rows + rows_holding is_it place (cond (a && not b) row [])
    go true true = omega arith
    go true false = at_append is_it place x.rows row
    go false true = omega arith
    go false false = omega arith

published_at : (is_it : Content → Bool) (place : ℕ) (k : Key) (state : State) (ms : List Content) → rows_holding is_it place (held_under k (published state ms)) ≡ rows_holding is_it place (held_under k state) + rows_holding is_it place (rows_for k state ms)
unfolding published
published_at is_it place k state [] = omega arith
published_at is_it place k state (m ∷ ms) =
    let p : Publisher = publisher_of state.life m in
    let h = published_at is_it place k (with_message state m) ms in
    let e = ap (λ o. rows_holding is_it place (placed_of o)) (station_of-map k (offered state.limit p m state.next_place) (λ x. (offered_parts state.limit p m state.next_place x).0) state.stations) in
    let g = brought_at is_it place state.limit p m state.next_place (station_of k state.stations) in
    let i = at_append is_it place (row_for state.limit p m state.next_place (station_of k state.stations)) (rows_for k (with_message state m) ms) in
    omega (arith, h, e, g, i)

published_balance : (is_it : Content → Bool) (place : ℕ) (k : Key) (state : State) (ms : List Content) (o : Option Refusal) →
    Balance is_it place (held_under k (moved o (published state ms) state)) [] [] [] (held_under k state) (rows_unless (is_none o) (rows_for k state ms))
published_balance is_it place k state ms None = let h = published_at is_it place k state ms in omega (arith, h)
published_balance is_it place k state ms (Some r) = same is_it place (held_under k state)

committed_balance : (is_it : Content → Bool) (place : ℕ) (k : Key) (state : State) (s : SessionId) (ms : List Content) (o : Option Refusal) →
    Balance is_it place (held_under k (moved o (published (settled (of_session s) state) ms) state)) (rows_unless (is_none o) (filter (λ x. is_out (of_session s) x.row) (held_under k state))) [] [] (held_under k state)
    (rows_unless (is_none o) (rows_for k (settled (of_session s) state) ms))
committed_balance is_it place k state s ms None =
    let h = published_at is_it place k (settled (of_session s) state) ms in
    let g = settled_under_at is_it place k (of_session s) state in
    omega (arith, h, g)
committed_balance is_it place k state s ms (Some r) = same is_it place (held_under k state)

step_balance : (is_it : Content → Bool) (place : ℕ) (k : Key) (state : State) (who : Who) (call : Call) → Reached state →
    Balance is_it place (held_under k (step state who call)) (settled_under k state who call) (dropped_under k state who call) (gone_under k state who call) (held_under k state) (came_under k state who call)
unfolding step settled_under dropped_under gone_under came_under after_commit commit_refusal
step_balance is_it place k state who (Ask request) r =
    asked_balance is_it place k (refusal state.life state.consumers (held state who request) who request) (after state who request) state (settles_under k state who request) (drops_under k state who request) (goes_under k state who request)
    (λ n. after_balance is_it place k state who request r n)
step_balance is_it place k state who (Publish messages) r = published_balance is_it place k state messages (publish_refusal state who messages)
step_balance is_it place k state (Connection c) (Commit messages) r = same is_it place (held_under k state)
step_balance is_it place k state (Session s) (Commit messages) r = committed_balance is_it place k state s messages (commit_refusal state (Session s) messages)

run_balance : (is_it : Content → Bool) (place : ℕ) (k : Key) (steps : List Step) (state : State) → Reached state →
    Balance is_it place (held_under k (state_after state steps)) (all_settled_under k state steps) (all_dropped_under k state steps) (all_gone_under k state steps) (held_under k state) (all_came_under k state steps)
run_balance is_it place k [] state r = same is_it place (held_under k state)
run_balance is_it place k (s ∷ steps) state r =
    let next : State = step state s.who s.call in
    let h = run_balance is_it place k steps next (Stepped state s.who s.call r) in
    let g = step_balance is_it place k state s.who s.call r in
    let i = at_append is_it place (settled_under k state s.who s.call) (all_settled_under k next steps) in
    let j = at_append is_it place (dropped_under k state s.who s.call) (all_dropped_under k next steps) in
    let l = at_append is_it place (gone_under k state s.who s.call) (all_gone_under k next steps) in
    let m = at_append is_it place (came_under k state s.who s.call) (all_came_under k next steps) in
    omega (arith, h, g, i, j, l, m)

-- ---- each place is used once

row_other : (is_it : Content → Bool) (place limit : ℕ) (p : Publisher) (m : Content) (n : ℕ) (o : Option Station) → (n == place) ≡ false → rows_holding is_it place (row_for limit p m n o) ≡ 0
row_other is_it place limit p m n None h = refl
row_other is_it place limit p m n (Some x) h = go (accepts x.key x.definition p m && not (is_full limit x.key (length x.rows)))
  where
    go : (b : Bool) → rows_holding is_it place (cond b (record { place = n; row = fresh m } ∷ []) []) ≡ 0
    go true = ap (λ (b : Bool). cond (b && is_it m) (0 + 1) 0) h
    go false = refl

row_once : (is_it : Content → Bool) (place limit : ℕ) (p : Publisher) (m : Content) (n : ℕ) (o : Option Station) → rows_holding is_it place (row_for limit p m n o) ≤ 1
row_once is_it place limit p m n None = omega arith
row_once is_it place limit p m n (Some x) = go (accepts x.key x.definition p m && not (is_full limit x.key (length x.rows)))
  where
    alone : (e : Bool) → cond e (0 + 1) 0 ≤ 1
    alone true = omega arith
    alone false = omega arith

    go : (b : Bool) → rows_holding is_it place (cond b (record { place = n; row = fresh m } ∷ []) []) ≤ 1
    go true = alone ((n == place) && is_it m)
    go false = omega arith

rows_low : (is_it : Content → Bool) (place : ℕ) (k : Key) (state : State) (ms : List Content) → place < state.next_place → rows_holding is_it place (rows_for k state ms) ≡ 0
rows_low is_it place k state [] h = refl
rows_low is_it place k state (m ∷ ms) h =
    let p : Publisher = publisher_of state.life m in
    let e : (state.next_place == place) ≡ false = grind (arith, nat_tests) in
    let g = row_other is_it place state.limit p m state.next_place (station_of k state.stations) e in
    let i = rows_low is_it place k (with_message state m) ms (omega arith) in
    let j = at_append is_it place (row_for state.limit p m state.next_place (station_of k state.stations)) (rows_for k (with_message state m) ms) in
    omega (arith, g, i, j)

rows_high : (is_it : Content → Bool) (place : ℕ) (k : Key) (state : State) (ms : List Content) → state.next_place + length ms ≤ place → rows_holding is_it place (rows_for k state ms) ≡ 0
rows_high is_it place k state [] h = refl
rows_high is_it place k state (m ∷ ms) h =
    let p : Publisher = publisher_of state.life m in
    let e : (state.next_place == place) ≡ false = grind (arith, nat_tests) in
    let g = row_other is_it place state.limit p m state.next_place (station_of k state.stations) e in
    let i = rows_high is_it place k (with_message state m) ms (omega arith) in
    let j = at_append is_it place (row_for state.limit p m state.next_place (station_of k state.stations)) (rows_for k (with_message state m) ms) in
    omega (arith, g, i, j)

rows_once : (is_it : Content → Bool) (place : ℕ) (k : Key) (state : State) (ms : List Content) → rows_holding is_it place (rows_for k state ms) ≤ 1
rows_once is_it place k state [] = omega arith
rows_once is_it place k state (m ∷ ms) = go (state.next_place == place) refl (rows_once is_it place k (with_message state m) ms)
  where
    p : Publisher
    p = publisher_of state.life m

    joint : rows_holding is_it place (rows_for k state (m ∷ ms)) ≡ rows_holding is_it place (row_for state.limit p m state.next_place (station_of k state.stations)) + rows_holding is_it place (rows_for k (with_message state m) ms)
    joint = at_append is_it place (row_for state.limit p m state.next_place (station_of k state.stations)) (rows_for k (with_message state m) ms)

    go : (b : Bool) → (state.next_place == place) ≡ b → rows_holding is_it place (rows_for k (with_message state m) ms) ≤ 1 → rows_holding is_it place (rows_for k state (m ∷ ms)) ≤ 1
    go true e r =
        let i : place < state.next_place + 1 = grind (arith, nat_tests) in
        let g = rows_low is_it place k (with_message state m) ms i in
        let j = row_once is_it place state.limit p m state.next_place (station_of k state.stations) in
        omega (arith, joint, g, j)
    go false e r =
        let g = row_other is_it place state.limit p m state.next_place (station_of k state.stations) e in
        omega (arith, joint, g, r)

brings_moved : (is_it : Content → Bool) (place : ℕ) (k : Key) (o : Option Refusal) (x state : State) (ms : List Content) → x.next_place ≡ state.next_place → Brings is_it place state.next_place (moved o (published x ms) state).next_place (rows_unless (is_none o) (rows_for k x ms))
brings_moved is_it place k None x state ms e =
    let n = published_next x ms in
    record { grows = omega (arith, n, e); low = λ i. rows_low is_it place k x ms (omega (arith, e, i)); high = λ i. rows_high is_it place k x ms (omega (arith, n, e, i)); once = rows_once is_it place k x ms }
brings_moved is_it place k (Some r) x state ms e = brings_none is_it place state.next_place state.next_place refl

step_brings : (is_it : Content → Bool) (place : ℕ) (k : Key) (state : State) (who : Who) (call : Call) → Brings is_it place state.next_place (step state who call).next_place (came_under k state who call)
unfolding step came_under after_commit commit_refusal
step_brings is_it place k state who (Ask request) = brings_asked is_it place (refusal state.life state.consumers (held state who request) who request) (after state who request) state (next_after state who request)
step_brings is_it place k state who (Publish messages) = brings_moved is_it place k (publish_refusal state who messages) state state messages refl
step_brings is_it place k state (Connection c) (Commit messages) = brings_none is_it place state.next_place state.next_place refl
step_brings is_it place k state (Session s) (Commit messages) = brings_moved is_it place k (commit_refusal state (Session s) messages) (settled (of_session s) state) state messages refl

run_low : (is_it : Content → Bool) (place : ℕ) (k : Key) (steps : List Step) (state : State) → place < state.next_place → rows_holding is_it place (all_came_under k state steps) ≡ 0
run_low is_it place k [] state h = refl
run_low is_it place k (s ∷ steps) state h =
    let next : State = step state s.who s.call in
    let b = step_brings is_it place k state s.who s.call in
    let g = b.grows in
    let i = b.low h in
    let j = run_low is_it place k steps next (omega (arith, g, h)) in
    let l = at_append is_it place (came_under k state s.who s.call) (all_came_under k next steps) in
    omega (arith, i, j, l)

run_once : (is_it : Content → Bool) (place : ℕ) (k : Key) (steps : List Step) (state : State) → rows_holding is_it place (all_came_under k state steps) ≤ 1
run_once is_it place k [] state = omega arith
run_once is_it place k (s ∷ steps) state =
    let next : State = step state s.who s.call in
    let b = step_brings is_it place k state s.who s.call in
    let l = at_append is_it place (came_under k state s.who s.call) (all_came_under k next steps) in
    let w = below place next.next_place (rows_holding is_it place (came_under k state s.who s.call)) (rows_holding is_it place (all_came_under k next steps)) (run_low is_it place k steps next) b.high b.once (run_once is_it place k steps next) in
    omega (arith, l, w)

-- what a reached state holds of the key stands below the next place, each message once
held_ordered : (k : Key) (n : ℕ) (stations : List Station) → AllInOrder n stations → InOrder n (placed_of (station_of k stations))
held_ordered k n [] h = tt
held_ordered k n (x ∷ stations) h = go (key_eq x.key k) (held_ordered k n stations h.1)
  where
    go : (b : Bool) → InOrder n (placed_of (station_of k stations)) → InOrder n (placed_of (cond b (Some x) (station_of k stations)))
    go true r = h.0
    go false r = r

pub subscription_keeps : SubscriptionKeeps
subscription_keeps state steps key place passes r =
    let o : InOrder state.next_place (held_under key state) = held_ordered key state.next_place state.stations (reached_in_order state r) in (
      run_balance passes place key steps state r,
      below place state.next_place (rows_at place (held_under key state)) (rows_at place (all_came_under key state steps)) (run_low (λ m. true) place key steps state)
          (λ i. none_from state.next_place place i (held_under key state) o) (one_place state.next_place place (held_under key state) o) (run_once (λ m. true) place key steps state),
    )
