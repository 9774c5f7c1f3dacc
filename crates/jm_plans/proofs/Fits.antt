-- Each call's reply and what it leaves are the machine's.
use Rattle.std.proofs.Common.{◌≡◌, ◌≢◌, ℕ, Bool, true, false, cond, List, length, get_or, refl, ap, sym, subst, ◌∙◌, arith, Option, Some, None, Ok, Err}
use Rattle.std.specs.Prelude.{◌&&◌, IfSome, is_some, slice_get, MatchBool}
use Rattle.std.specs.List.{All}
use Rattle.std.proofs.lemmas.Option.{get_or_from_slice_get}
use Rattle.jm_base.specs.declared.refusal.Refusal.{Refusal}
use Rattle.jm_base.specs.declared.refusal.Refusal.TheVariants.{IllegalState, Memory}
use Rattle.jm_dest.specs.declared.session.SessionId.{SessionId}
use Rattle.jm_dest.specs.declared.key.Key.{Key}
use Rattle.jm_dest.specs.declared.destination.Destination.{Destination}
use Rattle.jm_dest.specs.declared.key.Key.TheVariants.{Queue, Own, SharedOwn, Durable}
use Rattle.jm_header.specs.declared.content.Content.{Content}
use Rattle.jm_dest.specs.Keys.{key_eq}
use Rattle.jm_machine.specs.declared.answer.Answer.{Answer}
use Rattle.jm_machine.specs.declared.answer.Answer.TheVariants.{Nothing}
use Rattle.jm_machine.specs.declared.call.Who.TheVariants.{Session}
use Rattle.jm_machine.specs.declared.call.Call.TheVariants.{Ask}
use Rattle.jm_machine.specs.declared.call.Request.TheVariants.{CreateConsumer, Receive}
use Rattle.jm_machine.specs.declared.state.Consumer.{Consumer}
use Rattle.jm_machine.specs.declared.state.PlacedRow.{PlacedRow}
use Rattle.jm_machine.specs.declared.state.Station.{Station}
use Rattle.jm_machine.specs.Life.{Life, is_started, mode_of}
use Rattle.jm_machine.specs.Rows.{bare, deliver_chosen, deliver_placed, live, next}
use Rattle.jm_selector.specs.Selectors.{selector_refusal}
use Rattle.jm_machine.specs.Machine.{State, after, answer, at_key, at_queue, consumer_of, delivered, delivery, first_cause, held, holding_at, key_at, may_begin, may_receive, missed_of, receive, refusal, replied, reply, rows_of, rows_under, selected_by, station_of, step, unless, with_rows}
use Rattle.jm_machine.specs.Wants.{is_held_after, is_want, is_next_held_after, may_want, next_placed, placed_rows}
use Rattle.jm_stations.specs.Backlogs.{Backlog, answered_where, copy_wanted, empty}
use Rattle.jm_stations.specs.Stations.{index_in}
use Rattle.jm_sub.specs.Subscriptions.{Subscription}
use Rattle.jm_parts.specs.declared.receive.Receiver.{Receiver}
use Rattle.jm_parts.specs.declared.receive.Taking.{Taking}
use Rattle.jm_parts.specs.State.{stations_of, keys_of, IsSound}
use Rattle.jm_plans.specs.Plans.{IsRefused}
use Rattle.jm_plans.specs.Steps.{StepFits}
use Rattle.jm_parts.specs.Takings.{IsMissed, IsPickedAt, IsTaken, IsTold, backlog_at, is_queue, left_by, settles, source_of, taken_from, wants_copy, wants_copy_of, wants_from}
use Rattle.jm_queues.proofs.Found.{found_at, found_none, fails_all}
use Rattle.jm_parts.proofs.Stations.{key_found, key_missing, copy_is_copied, length-keys}
use Rattle.jm_plans.proofs.Sound.{sound_received}

-- a state of these parts
abbrev pub state_from : ℕ → ℕ → Life → List Consumer → List Subscription → List Backlog → (List ℕ → List PlacedRow) → ℕ → State
state_from opening limit life consumers ss list queues place = record { opening = opening; limit = limit; life = life; consumers = consumers; stations = stations_of ss list; queues = queues; next_place = place }

-- ---- a consumer that is made, or refused

pub not_wanted : (r : Refusal) → is_want (Err r) ≡ false → r ≢ Memory
not_wanted r e n = let f = rw n at e in cc

illegal_is_told : (r : Refusal) → r ≡ IllegalState → is_want (Err r) ≡ false
illegal_is_told r e = ap (λ x. is_want (Err x)) e

pub create_refused : (state : State) (s : SessionId) (c : ℕ) (destination : Destination) (selector : Option (List ℕ)) (no_local : Bool) (r : Refusal) →
    (may_begin state.life state.consumers s c ≡ false → r ≡ IllegalState) → (may_begin state.life state.consumers s c ≡ true → r ≢ Memory → selector_refusal selector ≡ Some r) →
    IsRefused state (Session s) (Ask (CreateConsumer c destination selector no_local)) r
unfolding reply refusal may_want
create_refused state s c destination selector no_local r f k =
    go (may_begin state.life state.consumers s c) (answer state.life state.consumers (held state (Session s) (CreateConsumer c destination selector no_local)) (Session s) (CreateConsumer c destination selector no_local)) (is_want (Err r)) refl f k
  where
    go : (m : Bool) (a : Answer) (b : Bool) → is_want (Err r) ≡ b → (m ≡ false → r ≡ IllegalState) → (m ≡ true → r ≢ Memory → selector_refusal selector ≡ Some r) →
        MatchBool b (m ≡ true) (Err r ≡ replied (first_cause (unless m IllegalState) (selector_refusal selector)) a)
    go true a true e f k = refl
    go true a false e f k = let is : selector_refusal selector ≡ Some r = k refl (not_wanted r e) in rw is refl
    go false a true e f k = absurd (let told = illegal_is_told r (f refl) in cc)
    go false a false e f k = ap (λ x. Err x) (f refl)

-- ---- a receive

pub rows_bare : (o : Option Station) → rows_of o ≡ bare (placed_rows o)
rows_bare None = refl
rows_bare (Some x) = refl

pub receive_refused : (state : State) (s : SessionId) (c now : ℕ) (r : Refusal) → r ≡ IllegalState → may_receive state.life state.consumers s c ≡ false → IsRefused state (Session s) (Ask (Receive c now)) r
unfolding reply refusal
receive_refused state s c now r e m = rw (e, m) refl

module _ (opening limit : ℕ) (life : Life) (consumers : List Consumer) (ss : List Subscription) (list : List Backlog) (queues : List ℕ → List PlacedRow) (place : ℕ) where
  -- before the receive
  abbrev before : State
  before = state_from opening limit life consumers ss list queues place

  -- what was told, and what is left, where the consumer has that key
  pub from_key : (r : Receiver) (key : Key) (o : Option Taking) (a : Answer) → length list ≡ length ss → IsTaken (Some key) r (keys_of ss) list o → IsTold o r.moment list a →
      (a ≡ delivery (next r.moment (live r.moment (rows_of (station_of key (stations_of ss list)))))) × (stations_of ss (taken_from o r list) ≡ at_key key (with_rows (deliver_placed r.moment (left_by r))) (stations_of ss list))
  from_key r key None a n t e =
      let none = key_missing key (with_rows (deliver_placed r.moment (left_by r))) ss list (fails_all (λ x. key_eq x key) (keys_of ss) (found_none (λ x. key_eq x key) (keys_of ss) t)) in
      (e ∙ ap (λ o. delivery (next r.moment (live r.moment (rows_of o)))) (sym none.1), sym none.0)
  from_key r key (Some x) a n t e =
      let at = found_at (λ y. key_eq y key) (keys_of ss) x.index t.0 in
      let d : Backlog = empty None in
      let found = key_found key (deliver_placed r.moment (left_by r)) ss list d x.index n at.0 (omega (arith, at.1, length-keys ss)) in
      (e d ∙ ap (λ rows. delivery (next r.moment (live r.moment (bare rows)))) (sym found.1) ∙ ap (λ rows. delivery (next r.moment (live r.moment rows))) (sym (rows_bare (station_of key (stations_of ss list)))), sym found.0)

  idle : (r : Receiver) (o : Option Taking) (a : Answer) → o ≡ None → IsTold o r.moment list a → (a ≡ Nothing) × (state_from opening limit life consumers ss (taken_from o r list) queues place ≡ before)
  idle r None a t told = (told, refl)
  idle r (Some x) a t told = cc

  pub receive_made : (r : Receiver) (k : Option Key) (o : Option Taking) (a : Answer) → length list ≡ length ss → mode_of life r.session ≡ Some r.mode → may_receive life consumers r.session r.consumer ≡ true → k ≡ key_at (source_of life consumers r.session r.consumer) →
      is_queue k ≡ false → IsTaken k r (keys_of ss) list o → IsTold o r.moment list a →
      StepFits before (Session r.session) (Ask (Receive r.consumer r.moment)) (Ok a) (state_from opening limit life consumers ss (taken_from o r list) queues place)
  unfolding reply step refusal answer after
  receive_made r k o a n mode m e apart t told =
      let made = go (is_started life r.session.connection) (consumer_of consumers r.session r.consumer) (subst (λ x. is_queue x ≡ false) e apart) (subst (λ x. IsTaken x r (keys_of ss) list o) e t) in
      rw (m, mode) (ap (λ x. Ok x) made.0, made.1)
    where
      by : (pass : Content → Bool) (key : Key) → is_queue (Some key) ≡ false → IsTaken (Some key) r (keys_of ss) list o →
          (a ≡ delivery (next r.moment (live r.moment (rows_under pass key before)))) × (state_from opening limit life consumers ss (taken_from o r list) queues place ≡ receive pass (left_by r) r.moment (Some key) before)
      by pass (Queue name) q t = cc
      by pass (Own s c) q t = let made = from_key r (Own s c) o a n t told in (made.0, ap (λ xs. record before { stations = xs }) made.1)
      by pass (SharedOwn client name) q t = let made = from_key r (SharedOwn client name) o a n t told in (made.0, ap (λ xs. record before { stations = xs }) made.1)
      by pass (Durable client name) q t = let made = from_key r (Durable client name) o a n t told in (made.0, ap (λ xs. record before { stations = xs }) made.1)

      go : (started : Bool) (source : Option Consumer) → is_queue (key_at (cond started source None)) ≡ false → IsTaken (key_at (cond started source None)) r (keys_of ss) list o →
          (a ≡ delivered started r.moment (holding_at (selected_by source) (key_at source) before).rows) × (state_from opening limit life consumers ss (taken_from o r list) queues place ≡ cond started (receive (selected_by source) (left_by r) r.moment (key_at source) before) before)
      go false source q t = idle r o a t told
      go true None q t = idle r o a t told
      go true (Some x) q t = by (selected_by (Some x)) x.key q t

  -- what was told by a queue, and what is left, where the consumer has its key
  pub receive_made_from : (r : Receiver) (source : Consumer) (name : List ℕ) (a : Answer) (after_it : List ℕ → List PlacedRow) → mode_of life r.session ≡ Some r.mode → may_receive life consumers r.session r.consumer ≡ true →
      source_of life consumers r.session r.consumer ≡ Some source → source.key ≡ Queue name → All (λ x. key_eq x (Queue name) ≡ false) (keys_of ss) → a ≡ answered_where (selected_by (Some source)) r.moment (queues name) →
      after_it ≡ at_queue name (deliver_chosen (selected_by (Some source)) r.moment (left_by r)) queues → StepFits before (Session r.session) (Ask (Receive r.consumer r.moment)) (Ok a) (state_from opening limit life consumers ss list after_it place)
  unfolding reply step refusal answer after
  receive_made_from r source name a after_it mode m e key none told left =
      let made = go (is_started life r.session.connection) (consumer_of consumers r.session r.consumer) e in
      rw (m, mode) (ap (λ x. Ok x) made.0, made.1)
    where
      -- for that key
      Fits : (Content → Bool) → Key → Type 0
      Fits pass k = (a ≡ delivery (next r.moment (live r.moment (rows_under pass k before)))) × (state_from opening limit life consumers ss list after_it place ≡ receive pass (left_by r) r.moment (Some k) before)

      there : Fits (selected_by (Some source)) (Queue name)
      there =
          let same = sym (key_missing (Queue name) (with_rows (deliver_placed r.moment (left_by r))) ss list none).0 in
          (told, λ i. record before { stations = same i; queues = left i })

      go : (started : Bool) (o : Option Consumer) → cond started o None ≡ Some source →
          (a ≡ delivered started r.moment (holding_at (selected_by o) (key_at o) before).rows) × (state_from opening limit life consumers ss list after_it place ≡ cond started (receive (selected_by o) (left_by r) r.moment (key_at o) before) before)
      go false o e = cc
      go true None e = cc
      go true (Some x) e =
          let same : x ≡ source = cc in
          subst (λ y. Fits (selected_by (Some y)) y.key) (sym same) (subst (Fits (selected_by (Some source))) (sym key) there)

  -- memory is wanted for a copy alone
  pub wants_copied : (r : Receiver) (key : Key) → length list ≡ length ss → wants_copy (Some key) r (keys_of ss) list ≡ true → is_held_after (Some r.mode) (stations_of ss list) (next_placed r.moment (placed_rows (station_of key (stations_of ss list)))) ≡ true
  wants_copied r key n w = there (index_in (keys_of ss) key) refl w
    where
      at : (i : ℕ) (o : Option Backlog) → slice_get list i ≡ o → index_in (keys_of ss) key ≡ Some i → wants_from r list o ≡ true → is_held_after (Some r.mode) (stations_of ss list) (next_placed r.moment (placed_rows (station_of key (stations_of ss list)))) ≡ true
      at i None e f w = cc
      at i (Some b) e f w =
          let same : get_or list i b ≡ b = get_or_from_slice_get list i b b e in
          sym (copy_is_copied (Some r.mode) r.moment key ss list i b n f) ∙ ap (λ (x : Backlog). is_some (copy_wanted (settles r) r.moment list x.rows)) same ∙ w

      there : (o : Option ℕ) → index_in (keys_of ss) key ≡ o → wants_from r list (backlog_at list o) ≡ true → is_held_after (Some r.mode) (stations_of ss list) (next_placed r.moment (placed_rows (station_of key (stations_of ss list)))) ≡ true
      there None e w = cc
      there (Some i) e w = at i (slice_get list i) refl e w

  pub receive_wants : (r : Receiver) (k : Option Key) (f : Refusal) → length list ≡ length ss → mode_of life r.session ≡ Some r.mode → may_receive life consumers r.session r.consumer ≡ true → k ≡ key_at (source_of life consumers r.session r.consumer) →
      is_queue k ≡ false → wants_copy k r (keys_of ss) list ≡ true → f ≡ Memory → IsRefused before (Session r.session) (Ask (Receive r.consumer r.moment)) f
  unfolding may_want
  receive_wants r k f n mode m e apart w is =
      rw (is, m, mode) (go (is_started life r.session.connection) (consumer_of consumers r.session r.consumer) (subst (λ x. is_queue x ≡ false) e apart) (subst (λ x. wants_copy x r (keys_of ss) list ≡ true) e w))
    where
      by : (pass : Content → Bool) (key : Key) → is_queue (Some key) ≡ false → wants_copy (Some key) r (keys_of ss) list ≡ true → is_next_held_after (Some r.mode) r.moment pass (Some key) before ≡ true
      by pass (Queue name) q w = cc
      by pass (Own s c) q w = wants_copied r (Own s c) n w
      by pass (SharedOwn client name) q w = wants_copied r (SharedOwn client name) n w
      by pass (Durable client name) q w = wants_copied r (Durable client name) n w

      go : (started : Bool) (source : Option Consumer) → is_queue (key_at (cond started source None)) ≡ false → wants_copy (key_at (cond started source None)) r (keys_of ss) list ≡ true →
          (started && is_next_held_after (Some r.mode) r.moment (selected_by source) (key_at source) before) ≡ true
      go false source q w = cc
      go true None q w = cc
      go true (Some x) q w = by (selected_by (Some x)) x.key q w

  -- of a queue it is wanted where a row stays
  pub receive_wants_from : (r : Receiver) (source : Consumer) (name : List ℕ) (f : Refusal) → mode_of life r.session ≡ Some r.mode → may_receive life consumers r.session r.consumer ≡ true → source_of life consumers r.session r.consumer ≡ Some source → source.key ≡ Queue name →
      wants_copy_of (selected_by (Some source)) r (queues name) ≡ true → f ≡ Memory → IsRefused before (Session r.session) (Ask (Receive r.consumer r.moment)) f
  unfolding may_want
  receive_wants_from r source name f mode m e key w is = rw (is, m, mode) (go (is_started life r.session.connection) (consumer_of consumers r.session r.consumer) e)
    where
      go : (started : Bool) (o : Option Consumer) → cond started o None ≡ Some source → (started && is_next_held_after (Some r.mode) r.moment (selected_by o) (key_at o) before) ≡ true
      go false o e = cc
      go true None e = cc
      go true (Some x) e =
          let same : x ≡ source = cc in
          subst (λ y. is_next_held_after (Some r.mode) r.moment (selected_by (Some y)) (Some y.key) before ≡ true) (sym same)
          (subst (λ k. is_next_held_after (Some r.mode) r.moment (selected_by (Some source)) (Some k) before ≡ true) (sym key) w)

  -- what was missed under the key of a consumer
  pub missed_seen : (key : Key) (number : ℕ) → length list ≡ length ss → IsMissed (index_in (keys_of ss) key) list number → number ≡ missed_of (station_of key (stations_of ss list))
  missed_seen key number n h = go (index_in (keys_of ss) key) refl h
    where
      go : (o : Option ℕ) → index_in (keys_of ss) key ≡ o → IsMissed o list number → number ≡ missed_of (station_of key (stations_of ss list))
      go None e h =
          let none = key_missing key (λ x. x) ss list (fails_all (λ x. key_eq x key) (keys_of ss) (found_none (λ x. key_eq x key) (keys_of ss) e)) in
          h ∙ ap (λ o. missed_of o) (sym none.1)
      go (Some i) e h =
          let at = found_at (λ y. key_eq y key) (keys_of ss) i e in
          let d : Backlog = empty None in
          let found = key_found key (λ rows. rows) ss list d i n at.0 (omega (arith, at.1, length-keys ss)) in
          h d ∙ sym found.2

-- what every core keeps, after a delivery
pub sound_taken : (limit : ℕ) (consumers : List Consumer) (ss : List Subscription) (keys : List Key) (list : List Backlog) (place : ℕ) (r : Receiver) (k : Option Key) (o : Option Taking) → IsSound limit consumers ss keys list place → IsTaken k r keys list o → IsSound limit consumers ss keys (taken_from o r list) place
sound_taken limit consumers ss keys list place r k None h t = h
sound_taken limit consumers ss keys list place r None (Some x) h t = cc
sound_taken limit consumers ss keys list place r (Some key) (Some x) h t = sound_received limit consumers ss keys list place x.index r.moment key (Some r.mode) r.session r.consumer h t.0

-- what is picked is what the delivery takes
pub picked_taken : (keys : List Key) (list : List Backlog) (r : Receiver) (k : Option Key) (o : Option Taking) → IsTaken k r keys list o → IfSome o (IsPickedAt r list)
picked_taken keys list r k None t = tt
picked_taken keys list r None (Some x) t = cc
picked_taken keys list r (Some key) (Some x) t = t.1
