-- What becomes of the messages of a queue: at each place what came counts as what is held, settled and dropped.
use Rattle.std.proofs.Common.{◌≡◌, ℕ, ◌+◌, ◌≤◌, ◌<◌, Bool, true, false, cond, List, [], ◌∷◌, ◌++◌, length, refl, ap, sym, subst, arith, Option, Some, None}
use Rattle.std.specs.Prelude.{filter, not, ◌&&◌, ◌==◌, is_none}
use Rattle.std.proofs.lemmas.Bool.Decides.{nat_tests}
use Rattle.jm_base.specs.declared.mode.Mode.{Mode}
use Rattle.jm_base.specs.declared.refusal.Refusal.{Refusal}
use Rattle.jm_dest.specs.declared.session.SessionId.{SessionId}
use Rattle.jm_dest.specs.declared.destination.Destination.{Destination}
use Rattle.jm_dest.specs.declared.destination.Destination.TheVariants.{Queue, Topic}
use Rattle.jm_dest.specs.declared.key.Key.{Key}
use Rattle.jm_dest.specs.declared.key.Key.TheVariants.{Own, SharedOwn, Durable, Queue as OfQueue}
use Rattle.jm_dest.specs.Names.{text_eq}
use Rattle.jm_header.specs.declared.content.Content.{Content}
use Rattle.jm_machine.specs.declared.call.Who.{Who}
use Rattle.jm_machine.specs.declared.call.Who.TheVariants.{Connection, Session}
use Rattle.jm_machine.specs.declared.call.Request.{Request}
use Rattle.jm_machine.specs.declared.call.Request.TheVariants.{CloseConnection, CloseSession, CreateConsumer, CreateDurable, CreateShared, CreateSharedDurable, Receive, Acknowledge, Recover, Rollback, Take, Done as DoneWith}
use Rattle.jm_machine.specs.declared.call.Call.{Call}
use Rattle.jm_machine.specs.declared.call.Call.TheVariants.{Ask, Publish, Commit}
use Rattle.jm_machine.specs.declared.call.Step.{Step}
use Rattle.jm_machine.specs.declared.state.Definition.{Definition}
use Rattle.jm_machine.specs.declared.state.PlacedRow.{PlacedRow}
use Rattle.jm_machine.specs.declared.state.Row.{Row}
use Rattle.jm_machine.specs.declared.state.RowState.TheVariants.{Waiting}
use Rattle.jm_machine.specs.Life.{client_of, is_started, mode_of}
use Rattle.jm_machine.specs.Rows.{bare, fresh, has_lapsed, is_next_chosen, is_out, left_of, taken, live, live_placed, sent_out, settles_at_once, change_placed, deliver_chosen}
use Rattle.jm_machine.specs.Machine.{State, with_message, published, queued, consumer_of, key_at, selected_by, of_session, of_connection, of_number, returned_rows, settled_rows, settled, is_client, receive, set_busy, take, done_rows, with_done, subscribed, is_same, put, joined, definition_of, station_of, durable_of, shared_of, asked, held, refusal, publish_refusal, commit_refusal, after, after_commit, moved, step}
use Rattle.jm_machine.specs.Places.{rows_at, rows_holding}
use Rattle.jm_machine.specs.Queues.{first_row, is_queue, delivered_row, settles, drops_lapsed, rows_unless, settled_at, dropped_at, row_to, rows_to, came_at, state_after, all_settled, all_dropped, all_came, QueueKeeps}
use Rattle.jm_machine.proofs.Order.{queues_in_order}
use Rattle.jm_law.proofs.Places.{none_from, one_place_each}

-- ---- counts

pub at_append : (is_it : Content → Bool) (place : ℕ) (xs ys : List PlacedRow) → rows_holding is_it place (xs ++ ys) ≡ rows_holding is_it place xs + rows_holding is_it place ys
at_append is_it place [] ys = omega arith
at_append is_it place (x ∷ xs) ys = grind (arith, nat_tests, at_append is_it place xs ys)

pub at_filter : (is_it : Content → Bool) (place : ℕ) (p : PlacedRow → Bool) (xs : List PlacedRow) → rows_holding is_it place (filter (λ x. not (p x)) xs) + rows_holding is_it place (filter p xs) ≡ rows_holding is_it place xs
at_filter is_it place p [] = omega arith
at_filter is_it place p (x ∷ xs) = grind (arith, nat_tests, at_filter is_it place p xs)

pub at_returned : (is_it : Content → Bool) (place : ℕ) (p : SessionId → ℕ → Bool) (xs : List PlacedRow) → rows_holding is_it place (returned_rows p xs) ≡ rows_holding is_it place xs
at_returned is_it place p [] = refl
at_returned is_it place p (x ∷ xs) = go (is_out p x.row) (at_returned is_it place p xs)
  where
    go : (b : Bool) → rows_holding is_it place (returned_rows p xs) ≡ rows_holding is_it place xs →
        cond ((x.place == place) && is_it (cond b (record x.row { state = Waiting }) x.row).message) (rows_holding is_it place (returned_rows p xs) + 1) (rows_holding is_it place (returned_rows p xs)) ≡ rows_holding is_it place (x ∷ xs)
    go true h = ap (λ n. cond ((x.place == place) && is_it x.row.message) (n + 1) n) h
    go false h = ap (λ n. cond ((x.place == place) && is_it x.row.message) (n + 1) n) h

pub at_gone : (is_it : Content → Bool) (place : ℕ) (q : Row → Bool) (xs : List PlacedRow) → rows_holding is_it place (change_placed q (λ r. []) xs) + rows_holding is_it place (first_row q xs) ≡ rows_holding is_it place xs
at_gone is_it place q [] = omega arith
at_gone is_it place q (x ∷ xs) = grind (arith, nat_tests, at_gone is_it place q xs)

pub at_stays : (is_it : Content → Bool) (place : ℕ) (q : Row → Bool) (s : SessionId) (c : ℕ) (xs : List PlacedRow) → rows_holding is_it place (change_placed q (λ r. sent_out s c r ∷ []) xs) ≡ rows_holding is_it place xs
at_stays is_it place q s c [] = refl
at_stays is_it place q s c (x ∷ xs) = grind (arith, nat_tests, at_stays is_it place q s c xs)

pub at_left : (is_it : Content → Bool) (place : ℕ) (q : Row → Bool) (mode : Option Mode) (s : SessionId) (c : ℕ) (xs : List PlacedRow) →
    rows_holding is_it place (change_placed q (left_of mode s c) xs) + rows_holding is_it place (cond (settles_at_once mode) (first_row q xs) []) ≡ rows_holding is_it place xs
unfolding left_of
at_left is_it place q mode s c xs = go (settles_at_once mode)
  where
    go : (b : Bool) → rows_holding is_it place (change_placed q (λ r. cond b [] (sent_out s c r ∷ [])) xs) + rows_holding is_it place (cond b (first_row q xs) []) ≡ rows_holding is_it place xs
    go true = at_gone is_it place q xs
    go false = let h = at_stays is_it place q s c xs in omega (arith, h)

-- ---- one step

-- of a queue's rows, those before and those that came are those after, those settled and those dropped
abbrev Balance : (Content → Bool) → ℕ → List PlacedRow → List PlacedRow → List PlacedRow → List PlacedRow → List PlacedRow → Type 0
Balance is_it place new gone lapsed old came = rows_holding is_it place new + (rows_holding is_it place gone + rows_holding is_it place lapsed) ≡ rows_holding is_it place old + rows_holding is_it place came

same : (is_it : Content → Bool) (place : ℕ) (rows : List PlacedRow) → Balance is_it place rows [] [] rows []
same is_it place rows = omega arith

returned_back : (is_it : Content → Bool) (place : ℕ) (p : SessionId → ℕ → Bool) (rows : List PlacedRow) → Balance is_it place (returned_rows p rows) [] [] rows []
returned_back is_it place p rows = let h = at_returned is_it place p rows in omega (arith, h)

settled_off : (is_it : Content → Bool) (place : ℕ) (p : SessionId → ℕ → Bool) (rows : List PlacedRow) → Balance is_it place (settled_rows p rows) (filter (λ x. is_out p x.row) rows) [] rows []
settled_off is_it place p rows = let h = at_filter is_it place (λ x. is_out p x.row) rows in omega (arith, h)

delivered_off : (is_it : Content → Bool) (place now : ℕ) (p : Content → Bool) (mode : Option Mode) (s : SessionId) (c : ℕ) (rows : List PlacedRow) →
    Balance is_it place (deliver_chosen p now (left_of mode s c) rows) (cond (settles_at_once mode) (delivered_row p now rows) []) (filter (λ x. has_lapsed now x.row) rows) rows []
delivered_off is_it place now p mode s c rows =
    let h = at_left is_it place (is_next_chosen p now (live now (bare rows))) mode s c (live_placed now rows) in
    let g = at_filter is_it place (λ x. has_lapsed now x.row) rows in
    omega (arith, h, g)

receive_at : (p : Content → Bool) (f : Row → List Row) (now : ℕ) (k : Option Key) (state : State) (name : List ℕ) → (receive p f now k state).queues name ≡ cond (is_queue name k) (deliver_chosen p now f (state.queues name)) (state.queues name)
receive_at p f now None state name = refl
receive_at p f now (Some (OfQueue other)) state name = refl
receive_at p f now (Some (Own s c)) state name = refl
receive_at p f now (Some (SharedOwn client other)) state name = refl
receive_at p f now (Some (Durable client other)) state name = refl

received_balance : (is_it : Content → Bool) (place : ℕ) (name : List ℕ) (state : State) (s : SessionId) (c now : ℕ) (p : Content → Bool) (k : Option Key) (started : Bool) →
    Balance is_it place ((cond started (receive p (left_of (mode_of state.life s) s c) now k state) state).queues name)
    (cond (started && (is_queue name k && settles_at_once (mode_of state.life s))) (delivered_row p now (state.queues name)) [])
    (cond (started && is_queue name k) (filter (λ x. has_lapsed now x.row) (state.queues name)) []) (state.queues name) []
received_balance is_it place name state s c now p k false = same is_it place (state.queues name)
received_balance is_it place name state s c now p k true =
    subst (λ (rows : List PlacedRow). Balance is_it place rows (cond (is_queue name k && settles_at_once (mode_of state.life s)) (delivered_row p now (state.queues name)) []) (cond (is_queue name k) (filter (λ x. has_lapsed now x.row) (state.queues name)) []) (state.queues name) [])
    (sym (receive_at p (left_of (mode_of state.life s) s c) now k state name)) (go (is_queue name k))
  where
    go : (b : Bool) → Balance is_it place (cond b (deliver_chosen p now (left_of (mode_of state.life s) s c) (state.queues name)) (state.queues name)) (cond (b && settles_at_once (mode_of state.life s)) (delivered_row p now (state.queues name)) [])
        (cond b (filter (λ x. has_lapsed now x.row) (state.queues name)) []) (state.queues name) []
    go true = delivered_off is_it place now p (mode_of state.life s) s c (state.queues name)
    go false = same is_it place (state.queues name)

-- what is taken stays
taken_off : (is_it : Content → Bool) (place now : ℕ) (p : Content → Bool) (s : SessionId) (c : ℕ) (rows : List PlacedRow) → Balance is_it place (deliver_chosen p now (taken s c) rows) [] (filter (λ x. has_lapsed now x.row) rows) rows []
taken_off is_it place now p s c rows =
    let h = at_stays is_it place (is_next_chosen p now (live now (bare rows))) s c (live_placed now rows) in
    let g = at_filter is_it place (λ x. has_lapsed now x.row) rows in
    omega (arith, h, g)

taken_balance : (is_it : Content → Bool) (place : ℕ) (name : List ℕ) (state : State) (s : SessionId) (c now : ℕ) (p : Content → Bool) (k : Option Key) (started : Bool) →
    Balance is_it place ((cond started (take p s c now k state) state).queues name) [] (cond (started && is_queue name k) (filter (λ x. has_lapsed now x.row) (state.queues name)) []) (state.queues name) []
taken_balance is_it place name state s c now p k false = same is_it place (state.queues name)
taken_balance is_it place name state s c now p k true =
    subst (λ (rows : List PlacedRow). Balance is_it place rows [] (cond (is_queue name k) (filter (λ x. has_lapsed now x.row) (state.queues name)) []) (state.queues name) [])
    (sym (receive_at p (taken s c) now k state name)) (go (is_queue name k))
  where
    go : (b : Bool) → Balance is_it place (cond b (deliver_chosen p now (taken s c) (state.queues name)) (state.queues name)) [] (cond b (filter (λ x. has_lapsed now x.row) (state.queues name)) []) (state.queues name) []
    go true = taken_off is_it place now p s c (state.queues name)
    go false = same is_it place (state.queues name)

-- what a listener is done with goes, or waits again
done_at : (s : SessionId) (c : ℕ) (ok : Bool) (k : Option Key) (state : State) (name : List ℕ) → (with_done s c ok k state).queues name ≡ cond (is_queue name k) (done_rows s c ok (state.queues name)) (state.queues name)
done_at s c ok None state name = refl
done_at s c ok (Some (OfQueue other)) state name = refl
done_at s c ok (Some (Own t d)) state name = refl
done_at s c ok (Some (SharedOwn client other)) state name = refl
done_at s c ok (Some (Durable client other)) state name = refl

done_off : (is_it : Content → Bool) (place : ℕ) (s : SessionId) (c : ℕ) (ok at : Bool) (rows : List PlacedRow) →
    Balance is_it place (cond at (done_rows s c ok rows) rows) (cond (ok && (at && true)) (filter (λ x. is_out (of_number s c) x.row) rows) []) [] rows []
done_off is_it place s c true true rows = settled_off is_it place (of_number s c) rows
done_off is_it place s c false true rows = returned_back is_it place (of_number s c) rows
done_off is_it place s c true false rows = same is_it place rows
done_off is_it place s c false false rows = same is_it place rows

-- in a session that settles no message at once all stays
done_not : (is_it : Content → Bool) (place : ℕ) (ok at : Bool) (gone rows : List PlacedRow) → Balance is_it place rows (cond (ok && (at && false)) gone []) [] rows []
done_not is_it place true true gone rows = same is_it place rows
done_not is_it place true false gone rows = same is_it place rows
done_not is_it place false at gone rows = same is_it place rows

done_balance : (is_it : Content → Bool) (place : ℕ) (name : List ℕ) (state : State) (s : SessionId) (c : ℕ) (ok : Bool) (k : Option Key) (at_once : Bool) →
    Balance is_it place ((cond at_once (with_done s c ok k state) state).queues name) (cond (ok && (is_queue name k && at_once)) (filter (λ x. is_out (of_number s c) x.row) (state.queues name)) []) [] (state.queues name) []
done_balance is_it place name state s c ok k true =
    subst (λ (rows : List PlacedRow). Balance is_it place rows (cond (ok && (is_queue name k && true)) (filter (λ x. is_out (of_number s c) x.row) (state.queues name)) []) [] (state.queues name) [])
    (sym (done_at s c ok k state name)) (done_off is_it place s c ok (is_queue name k) (state.queues name))
done_balance is_it place name state s c ok k false = done_not is_it place ok (is_queue name k) (filter (λ x. is_out (of_number s c) x.row) (state.queues name)) (state.queues name)

subscribed_queues : (s : SessionId) (c : ℕ) (k : Key) (d : Definition) (state : State) → (subscribed s c k d state).queues ≡ state.queues
subscribed_queues s c k d state = elim (is_same (definition_of (station_of k state.stations)) d) as (λ b. (joined s c k None (cond b state (put k d state))).queues ≡ state.queues) [ true ↦ refl | false ↦ refl ]

subscribed_balance : (is_it : Content → Bool) (place : ℕ) (name : List ℕ) (s : SessionId) (c : ℕ) (k : Key) (d : Definition) (state : State) → Balance is_it place ((subscribed s c k d state).queues name) [] [] (state.queues name) []
subscribed_balance is_it place name s c k d state = subst (λ (q : List ℕ → List PlacedRow). Balance is_it place (q name) [] [] (state.queues name) []) (sym (subscribed_queues s c k d state)) (same is_it place (state.queues name))

acknowledged_balance : (is_it : Content → Bool) (place : ℕ) (name : List ℕ) (s : SessionId) (state : State) (b : Bool) →
    Balance is_it place ((cond b (settled (of_session s) state) state).queues name) (cond b (filter (λ x. is_out (of_session s) x.row) (state.queues name)) []) [] (state.queues name) []
acknowledged_balance is_it place name s state true = settled_off is_it place (of_session s) (state.queues name)
acknowledged_balance is_it place name s state false = same is_it place (state.queues name)

after_balance : (is_it : Content → Bool) (place : ℕ) (name : List ℕ) (state : State) (who : Who) (request : Request) → Balance is_it place ((after state who request).queues name) (settles name state who request) (drops_lapsed name state who request) (state.queues name) []
unfolding after
after_balance is_it place name state (Connection c) CloseConnection = returned_back is_it place (of_connection c) (state.queues name)
after_balance is_it place name state (Connection c) request = same is_it place (state.queues name)
after_balance is_it place name state (Session s) CloseSession = returned_back is_it place (of_session s) (state.queues name)
after_balance is_it place name state (Session s) (CreateConsumer c (Queue other) selector no_local) = same is_it place (state.queues name)
after_balance is_it place name state (Session s) (CreateConsumer c (Topic other) selector no_local) = same is_it place (state.queues name)
after_balance is_it place name state (Session s) (CreateDurable c destination other selector no_local) = subscribed_balance is_it place name s c (durable_of (client_of state.life) s other) (asked destination selector no_local false) state
after_balance is_it place name state (Session s) (CreateShared c destination other selector) = subscribed_balance is_it place name s c (shared_of (client_of state.life) s other) (asked destination selector false true) state
after_balance is_it place name state (Session s) (CreateSharedDurable c destination other selector) = subscribed_balance is_it place name s c (durable_of (client_of state.life) s other) (asked destination selector false true) state
after_balance is_it place name state (Session s) (Receive c now) =
    received_balance is_it place name state s c now (selected_by (consumer_of state.consumers s c)) (key_at (consumer_of state.consumers s c)) (is_started state.life s.connection)
after_balance is_it place name state (Session s) Acknowledge = acknowledged_balance is_it place name s state (is_client (mode_of state.life s))
after_balance is_it place name state (Session s) Recover = returned_back is_it place (of_session s) (state.queues name)
after_balance is_it place name state (Session s) Rollback = returned_back is_it place (of_session s) (state.queues name)
after_balance is_it place name state (Session s) (Take c now) =
    taken_balance is_it place name state s c now (selected_by (consumer_of state.consumers s c)) (key_at (consumer_of state.consumers s c)) (is_started state.life s.connection)
after_balance is_it place name state (Session s) (DoneWith c ok) =
    done_balance is_it place name (record state { consumers = set_busy s c false state.consumers }) s c ok (key_at (consumer_of state.consumers s c)) (settles_at_once (mode_of state.life s))
after_balance is_it place name state (Session s) _ = same is_it place (state.queues name)

asked_balance : (is_it : Content → Bool) (place : ℕ) (name : List ℕ) (o : Option Refusal) (x state : State) (gone lapsed : List PlacedRow) → Balance is_it place (x.queues name) gone lapsed (state.queues name) [] →
    Balance is_it place ((moved o x state).queues name) (rows_unless (is_none o) gone) (rows_unless (is_none o) lapsed) (state.queues name) []
asked_balance is_it place name None x state gone lapsed h = h
asked_balance is_it place name (Some r) x state gone lapsed h = same is_it place (state.queues name)

queued_at : (is_it : Content → Bool) (place : ℕ) (name : List ℕ) (m : Content) (n : ℕ) (queues : List ℕ → List PlacedRow) (d : Destination) → rows_holding is_it place (queued d m n queues name) ≡ rows_holding is_it place (queues name) + rows_holding is_it place (row_to name d m n)
queued_at is_it place name m n queues (Topic other) = omega arith
queued_at is_it place name m n queues (Queue other) = go (text_eq other name)
  where
    go : (b : Bool) → rows_holding is_it place (cond b (queues name ++ record { place = n; row = fresh m } ∷ []) (queues name)) ≡ rows_holding is_it place (queues name) + rows_holding is_it place (cond b (record { place = n; row = fresh m } ∷ []) [])
    go true = at_append is_it place (queues name) (record { place = n; row = fresh m } ∷ [])
    go false = omega arith

published_at : (is_it : Content → Bool) (place : ℕ) (name : List ℕ) (state : State) (ms : List Content) → rows_holding is_it place ((published state ms).queues name) ≡ rows_holding is_it place (state.queues name) + rows_holding is_it place (rows_to name state.next_place ms)
unfolding published
published_at is_it place name state [] = omega arith
published_at is_it place name state (m ∷ ms) =
    let h = published_at is_it place name (with_message state m) ms in
    let g = queued_at is_it place name m state.next_place state.queues m.destination in
    let i = at_append is_it place (row_to name m.destination m state.next_place) (rows_to name (state.next_place + 1) ms) in
    omega (arith, h, g, i)

published_balance : (is_it : Content → Bool) (place : ℕ) (name : List ℕ) (state : State) (ms : List Content) (o : Option Refusal) →
    Balance is_it place ((moved o (published state ms) state).queues name) [] [] (state.queues name) (rows_unless (is_none o) (rows_to name state.next_place ms))
published_balance is_it place name state ms None = let h = published_at is_it place name state ms in omega (arith, h)
published_balance is_it place name state ms (Some r) = same is_it place (state.queues name)

committed_balance : (is_it : Content → Bool) (place : ℕ) (name : List ℕ) (state : State) (s : SessionId) (ms : List Content) (o : Option Refusal) →
    Balance is_it place ((moved o (published (settled (of_session s) state) ms) state).queues name) (rows_unless (is_none o) (filter (λ x. is_out (of_session s) x.row) (state.queues name))) [] (state.queues name) (rows_unless (is_none o) (rows_to name state.next_place ms))
committed_balance is_it place name state s ms None =
    let h = published_at is_it place name (settled (of_session s) state) ms in
    let g = at_filter is_it place (λ x. is_out (of_session s) x.row) (state.queues name) in
    omega (arith, h, g)
committed_balance is_it place name state s ms (Some r) = same is_it place (state.queues name)

step_balance : (is_it : Content → Bool) (place : ℕ) (name : List ℕ) (state : State) (who : Who) (call : Call) → Balance is_it place ((step state who call).queues name) (settled_at name state who call) (dropped_at name state who call) (state.queues name) (came_at name state who call)
unfolding step settled_at dropped_at came_at after_commit commit_refusal
step_balance is_it place name state who (Ask request) =
    asked_balance is_it place name (refusal state.life state.consumers (held state who request) who request) (after state who request) state (settles name state who request) (drops_lapsed name state who request) (after_balance is_it place name state who request)
step_balance is_it place name state who (Publish messages) = published_balance is_it place name state messages (publish_refusal state who messages)
step_balance is_it place name state (Connection c) (Commit messages) = same is_it place (state.queues name)
step_balance is_it place name state (Session s) (Commit messages) = committed_balance is_it place name state s messages (commit_refusal state (Session s) messages)

run_balance : (is_it : Content → Bool) (place : ℕ) (name : List ℕ) (steps : List Step) (state : State) →
    Balance is_it place ((state_after state steps).queues name) (all_settled name state steps) (all_dropped name state steps) (state.queues name) (all_came name state steps)
run_balance is_it place name [] state = same is_it place (state.queues name)
run_balance is_it place name (s ∷ steps) state =
    let next : State = step state s.who s.call in
    let h = run_balance is_it place name steps next in
    let g = step_balance is_it place name state s.who s.call in
    let i = at_append is_it place (settled_at name state s.who s.call) (all_settled name next steps) in
    let j = at_append is_it place (dropped_at name state s.who s.call) (all_dropped name next steps) in
    let k = at_append is_it place (came_at name state s.who s.call) (all_came name next steps) in
    omega (arith, h, g, i, j, k)

-- ---- each place is used once

row_other : (is_it : Content → Bool) (place : ℕ) (name : List ℕ) (m : Content) (n : ℕ) (d : Destination) → (n == place) ≡ false → rows_holding is_it place (row_to name d m n) ≡ 0
row_other is_it place name m n (Topic other) h = refl
row_other is_it place name m n (Queue other) h = go (text_eq other name)
  where
    go : (b : Bool) → rows_holding is_it place (cond b (record { place = n; row = fresh m } ∷ []) []) ≡ 0
    go true = ap (λ (b : Bool). cond (b && is_it m) (0 + 1) 0) h
    go false = refl

row_once : (is_it : Content → Bool) (place : ℕ) (name : List ℕ) (m : Content) (n : ℕ) (d : Destination) → rows_holding is_it place (row_to name d m n) ≤ 1
row_once is_it place name m n (Topic other) = omega arith
row_once is_it place name m n (Queue other) = go (text_eq other name)
  where
    alone : (e : Bool) → cond e (0 + 1) 0 ≤ 1
    alone true = omega arith
    alone false = omega arith

    go : (b : Bool) → rows_holding is_it place (cond b (record { place = n; row = fresh m } ∷ []) []) ≤ 1
    go true = alone ((n == place) && is_it m)
    go false = omega arith

rows_low : (is_it : Content → Bool) (place : ℕ) (name : List ℕ) (n : ℕ) (ms : List Content) → place < n → rows_holding is_it place (rows_to name n ms) ≡ 0
rows_low is_it place name n [] h = refl
rows_low is_it place name n (m ∷ ms) h =
    let e : (n == place) ≡ false = grind (arith, nat_tests) in
    let g = row_other is_it place name m n m.destination e in
    let i = rows_low is_it place name (n + 1) ms (omega arith) in
    let j = at_append is_it place (row_to name m.destination m n) (rows_to name (n + 1) ms) in
    omega (arith, g, i, j)

rows_high : (is_it : Content → Bool) (place : ℕ) (name : List ℕ) (n : ℕ) (ms : List Content) → n + length ms ≤ place → rows_holding is_it place (rows_to name n ms) ≡ 0
rows_high is_it place name n [] h = refl
rows_high is_it place name n (m ∷ ms) h =
    let e : (n == place) ≡ false = grind (arith, nat_tests) in
    let g = row_other is_it place name m n m.destination e in
    let i = rows_high is_it place name (n + 1) ms (omega arith) in
    let j = at_append is_it place (row_to name m.destination m n) (rows_to name (n + 1) ms) in
    omega (arith, g, i, j)

rows_once : (is_it : Content → Bool) (place : ℕ) (name : List ℕ) (n : ℕ) (ms : List Content) → rows_holding is_it place (rows_to name n ms) ≤ 1
rows_once is_it place name n [] = omega arith
rows_once is_it place name n (m ∷ ms) = go (n == place) refl (rows_once is_it place name (n + 1) ms)
  where
    joint : rows_holding is_it place (rows_to name n (m ∷ ms)) ≡ rows_holding is_it place (row_to name m.destination m n) + rows_holding is_it place (rows_to name (n + 1) ms)
    joint = at_append is_it place (row_to name m.destination m n) (rows_to name (n + 1) ms)

    go : (b : Bool) → (n == place) ≡ b → rows_holding is_it place (rows_to name (n + 1) ms) ≤ 1 → rows_holding is_it place (rows_to name n (m ∷ ms)) ≤ 1
    go true e r =
        let k : place < n + 1 = grind (arith, nat_tests) in
        let g = rows_low is_it place name (n + 1) ms k in
        let i = row_once is_it place name m n m.destination in
        omega (arith, joint, g, i)
    go false e r =
        let g = row_other is_it place name m n m.destination e in
        omega (arith, joint, g, r)

pub published_next : (state : State) (ms : List Content) → (published state ms).next_place ≡ state.next_place + length ms
unfolding published
published_next state [] = omega arith
published_next state (m ∷ ms) = let h = published_next (with_message state m) ms in omega (arith, h)

next_if : (b : Bool) (x y : State) (n : ℕ) → x.next_place ≡ n → y.next_place ≡ n → (cond b x y).next_place ≡ n
next_if true x y n p q = p
next_if false x y n p q = q

next_received : (p : Content → Bool) (f : Row → List Row) (now : ℕ) (k : Option Key) (state : State) → (receive p f now k state).next_place ≡ state.next_place
next_received p f now None state = refl
next_received p f now (Some k) state = refl

next_done : (s : SessionId) (c : ℕ) (ok : Bool) (k : Option Key) (state : State) → (with_done s c ok k state).next_place ≡ state.next_place
next_done s c ok None state = refl
next_done s c ok (Some k) state = refl

next_subscribed : (s : SessionId) (c : ℕ) (k : Key) (d : Definition) (state : State) → (subscribed s c k d state).next_place ≡ state.next_place
next_subscribed s c k d state = elim (is_same (definition_of (station_of k state.stations)) d) as (λ b. (joined s c k None (cond b state (put k d state))).next_place ≡ state.next_place) [ true ↦ refl | false ↦ refl ]

pub next_after : (state : State) (who : Who) (request : Request) → (after state who request).next_place ≡ state.next_place
unfolding after
next_after state (Connection c) CloseConnection = refl
next_after state (Connection c) request = refl
next_after state (Session s) (CreateConsumer c (Queue other) selector no_local) = refl
next_after state (Session s) (CreateConsumer c (Topic other) selector no_local) = refl
next_after state (Session s) (CreateDurable c destination other selector no_local) = next_subscribed s c (durable_of (client_of state.life) s other) (asked destination selector no_local false) state
next_after state (Session s) (CreateShared c destination other selector) = next_subscribed s c (shared_of (client_of state.life) s other) (asked destination selector false true) state
next_after state (Session s) (CreateSharedDurable c destination other selector) = next_subscribed s c (durable_of (client_of state.life) s other) (asked destination selector false true) state
next_after state (Session s) (Receive c now) =
    next_if (is_started state.life s.connection) (receive (selected_by (consumer_of state.consumers s c)) (left_of (mode_of state.life s) s c) now (key_at (consumer_of state.consumers s c)) state) state state.next_place
    (next_received (selected_by (consumer_of state.consumers s c)) (left_of (mode_of state.life s) s c) now (key_at (consumer_of state.consumers s c)) state) refl
next_after state (Session s) Acknowledge = next_if (is_client (mode_of state.life s)) (settled (of_session s) state) state state.next_place refl refl
next_after state (Session s) (Take c now) =
    next_if (is_started state.life s.connection) (take (selected_by (consumer_of state.consumers s c)) s c now (key_at (consumer_of state.consumers s c)) state) state state.next_place
    (next_received (selected_by (consumer_of state.consumers s c)) (taken s c) now (key_at (consumer_of state.consumers s c)) state) refl
next_after state (Session s) (DoneWith c ok) =
    let free : State = record state { consumers = set_busy s c false state.consumers } in
    next_if (settles_at_once (mode_of state.life s)) (with_done s c ok (key_at (consumer_of state.consumers s c)) free) free state.next_place (next_done s c ok (key_at (consumer_of state.consumers s c)) free) refl
next_after state (Session s) _ = refl

-- what a step brings to the queue stands at places from the next one on, each once, and below the next one after it
pub record Brings (is_it : Content → Bool) (place : ℕ) (old new : ℕ) (came : List PlacedRow) : Type 0 where
  pub grows : old ≤ new
  pub low : place < old → rows_holding is_it place came ≡ 0
  pub high : new ≤ place → rows_holding is_it place came ≡ 0
  pub once : rows_holding is_it place came ≤ 1

pub brings_none : (is_it : Content → Bool) (place old new : ℕ) → new ≡ old → Brings is_it place old new []
brings_none is_it place old new h = record { grows = omega arith; low = λ i. refl; high = λ i. refl; once = omega arith }

brings_all : (is_it : Content → Bool) (place : ℕ) (name : List ℕ) (state : State) (old : ℕ) (ms : List Content) → state.next_place ≡ old → Brings is_it place old (published state ms).next_place (rows_to name old ms)
brings_all is_it place name state old ms e =
    let n = published_next state ms in
    record { grows = omega (arith, n, e); low = λ i. rows_low is_it place name old ms i; high = λ i. rows_high is_it place name old ms (omega (arith, n, e)); once = rows_once is_it place name old ms }

pub brings_asked : (is_it : Content → Bool) (place : ℕ) (o : Option Refusal) (x state : State) → x.next_place ≡ state.next_place → Brings is_it place state.next_place (moved o x state).next_place []
brings_asked is_it place None x state h = brings_none is_it place state.next_place x.next_place h
brings_asked is_it place (Some r) x state h = brings_none is_it place state.next_place state.next_place refl

brings_moved : (is_it : Content → Bool) (place : ℕ) (name : List ℕ) (o : Option Refusal) (x state : State) (ms : List Content) → x.next_place ≡ state.next_place → Brings is_it place state.next_place (moved o (published x ms) state).next_place (rows_unless (is_none o) (rows_to name state.next_place ms))
brings_moved is_it place name None x state ms h = brings_all is_it place name x state.next_place ms h
brings_moved is_it place name (Some r) x state ms h = brings_none is_it place state.next_place state.next_place refl

step_brings : (is_it : Content → Bool) (place : ℕ) (name : List ℕ) (state : State) (who : Who) (call : Call) → Brings is_it place state.next_place (step state who call).next_place (came_at name state who call)
unfolding step came_at after_commit commit_refusal
step_brings is_it place name state who (Ask request) = brings_asked is_it place (refusal state.life state.consumers (held state who request) who request) (after state who request) state (next_after state who request)
step_brings is_it place name state who (Publish messages) = brings_moved is_it place name (publish_refusal state who messages) state state messages refl
step_brings is_it place name state (Connection c) (Commit messages) = brings_none is_it place state.next_place state.next_place refl
step_brings is_it place name state (Session s) (Commit messages) = brings_moved is_it place name (commit_refusal state (Session s) messages) (settled (of_session s) state) state messages refl

run_low : (is_it : Content → Bool) (place : ℕ) (name : List ℕ) (steps : List Step) (state : State) → place < state.next_place → rows_holding is_it place (all_came name state steps) ≡ 0
run_low is_it place name [] state h = refl
run_low is_it place name (s ∷ steps) state h =
    let next : State = step state s.who s.call in
    let b = step_brings is_it place name state s.who s.call in
    let g = b.grows in
    let i = b.low h in
    let j = run_low is_it place name steps next (omega (arith, g, h)) in
    let k = at_append is_it place (came_at name state s.who s.call) (all_came name next steps) in
    omega (arith, i, j, k)

pub below : (place n : ℕ) (x y : ℕ) → (place < n → y ≡ 0) → (n ≤ place → x ≡ 0) → x ≤ 1 → y ≤ 1 → x + y ≤ 1
below place n x y p q h g = grind (arith, nat_tests)

run_once : (is_it : Content → Bool) (place : ℕ) (name : List ℕ) (steps : List Step) (state : State) → rows_holding is_it place (all_came name state steps) ≤ 1
run_once is_it place name [] state = omega arith
run_once is_it place name (s ∷ steps) state =
    let next : State = step state s.who s.call in
    let b = step_brings is_it place name state s.who s.call in
    let k = at_append is_it place (came_at name state s.who s.call) (all_came name next steps) in
    let w = below place next.next_place (rows_holding is_it place (came_at name state s.who s.call)) (rows_holding is_it place (all_came name next steps)) (run_low is_it place name steps next) b.high b.once (run_once is_it place name steps next) in
    omega (arith, k, w)

pub queue_keeps : QueueKeeps
queue_keeps state steps name place passes r = (
  run_balance passes place name steps state,
  below place state.next_place (rows_at place (state.queues name)) (rows_at place (all_came name state steps)) (run_low (λ m. true) place name steps state)
      (λ i. none_from state.next_place place i (state.queues name) (queues_in_order state r name)) ((one_place_each state r).0 name place) (run_once (λ m. true) place name steps state),
)
