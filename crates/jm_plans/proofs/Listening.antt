-- What listeners are answered, and what they leave, are the machine's.
use Rattle.std.proofs.Common.{◌≡◌, ◌==◌, ℕ, Bool, true, false, cond, List, [], ◌∷◌, map, length, refl, ap, sym, subst, ◌∙◌, arith, Option, Some, None, Ok}
use Rattle.std.specs.Prelude.{◌&&◌, not, is_some}
use Rattle.std.specs.List.{All}
use Rattle.std.proofs.lemmas.List.Elements.{All-weaker}
use Rattle.jm_base.specs.declared.mode.Mode.{Mode}
use Rattle.jm_base.specs.declared.mode.Mode.TheVariants.{Client}
use Rattle.jm_base.specs.declared.refusal.Refusal.{Refusal}
use Rattle.jm_base.specs.declared.refusal.Refusal.TheVariants.{IllegalState, Memory}
use Rattle.jm_dest.specs.declared.session.SessionId.{SessionId}
use Rattle.jm_dest.specs.declared.key.Key.{Key}
use Rattle.jm_dest.specs.declared.key.Key.TheVariants.{Queue, Own, SharedOwn, Durable}
use Rattle.jm_dest.specs.Keys.{key_eq}
use Rattle.jm_dest.specs.Names.{session_eq}
use Rattle.jm_header.specs.declared.content.Content.{Content}
use Rattle.jm_machine.specs.declared.answer.Answer.{Answer}
use Rattle.jm_machine.specs.declared.answer.Answer.TheVariants.{Done, Nothing}
use Rattle.jm_machine.specs.declared.call.Who.{Who}
use Rattle.jm_machine.specs.declared.call.Who.TheVariants.{Session}
use Rattle.jm_machine.specs.declared.call.Call.{Call}
use Rattle.jm_machine.specs.declared.call.Call.TheVariants.{Ask}
use Rattle.jm_machine.specs.declared.call.Request.TheVariants.{Take}
use Rattle.jm_machine.specs.declared.consumers.Consumers.{Consumers}
use Rattle.jm_machine.specs.declared.consumers.Consumers.TheVariants.{One}
use Rattle.jm_machine.specs.declared.state.Consumer.{Consumer}
use Rattle.jm_machine.specs.declared.state.Definition.{Definition}
use Rattle.jm_machine.specs.declared.state.PlacedRow.{PlacedRow}
use Rattle.jm_machine.specs.declared.state.Row.{Row}
use Rattle.jm_machine.specs.declared.state.Station.{Station}
use Rattle.jm_machine.specs.Accepted.{AllAccepted, HoldsAccepted}
use Rattle.jm_machine.specs.Life.{Life, is_started, mode_of}
use Rattle.jm_machine.specs.Rows.{deliver_chosen, deliver_placed, left_of, live, next, sent_out, settles_at_once, taken, is_out}
use Rattle.jm_machine.specs.Machine.{State, after, answer, are_meant, at_key, at_queue, busy_if, consumer_of, delivered, delivery, done, has_number, held, holding_at, is_active, is_busy, is_coming, is_listening, key_at, listening_if, may_take, refusal, reply, rows_under, selected_by, set_busy, set_listening, station_of, step, take, with_done, with_rows}
use Rattle.jm_machine.specs.Wants.{is_held_after, is_next_held_after, may_want, next_placed, placed_rows}
use Rattle.jm_stations.specs.Backlogs.{Backlog, answered_where, empty}
use Rattle.jm_stations.specs.Stations.{index_in}
use Rattle.jm_sub.specs.Subscriptions.{Subscription}
use Rattle.jm_parts.specs.declared.receive.Receiver.{Receiver}
use Rattle.jm_parts.specs.declared.receive.Taking.{Taking}
use Rattle.jm_plans.specs.declared.plan.Change.TheVariants as change
use Rattle.jm_parts.specs.Listening.{ended, ended_queues, ended_rows, ended_under, ending_key, is_delivered}
use Rattle.jm_plans.specs.Plans.{IsIdling, IsPlan, IsRefused}
use Rattle.jm_plans.specs.Provider.{Provider, state_of}
use Rattle.jm_machine.specs.Attached.{AllOwn, IsOfSubscription, IsOwn}
use Rattle.jm_parts.specs.State.{IsSound, keys_of, stations_of}
use Rattle.jm_plans.specs.Steps.{StepFits}
use Rattle.jm_parts.specs.Takings.{IsTaken, IsTold, is_queue, left_by, taken_from, wants_copy, wants_copy_of}
use Rattle.jm_parts.proofs.Accepted.{filtered, returned}
use Rattle.jm_plans.proofs.Fits.{from_key, state_from, wants_copied}
use Rattle.jm_parts.proofs.Stations.{changed_limited, key_found, key_missing, length-keys}
use Rattle.jm_queues.proofs.Found.{fails_all, found_at, found_none, length-changed}

-- ---- marks of a consumer

-- a change of consumers that leaves whose each is, and what it receives from
abbrev KeepsSources : (Consumer → Consumer) → Type 0
KeepsSources f = (x : Consumer) → ((f x).session ≡ x.session) × ((f x).id ≡ x.id) × ((f x).key ≡ x.key)

pub keeps_listening : (s : SessionId) (c : ℕ) (on : Bool) → KeepsSources (listening_if s c on)
keeps_listening s c on x = go (has_number s c x)
  where
    go : (b : Bool) → ((cond b (record x { is_listening = on }) x).session ≡ x.session) × ((cond b (record x { is_listening = on }) x).id ≡ x.id) × ((cond b (record x { is_listening = on }) x).key ≡ x.key)
    go true = (refl, refl, refl)
    go false = (refl, refl, refl)

pub keeps_busy : (s : SessionId) (c : ℕ) (on : Bool) → KeepsSources (busy_if s c on)
keeps_busy s c on x = go (has_number s c x)
  where
    go : (b : Bool) → ((cond b (record x { is_busy = on }) x).session ≡ x.session) × ((cond b (record x { is_busy = on }) x).id ≡ x.id) × ((cond b (record x { is_busy = on }) x).key ≡ x.key)
    go true = (refl, refl, refl)
    go false = (refl, refl, refl)

own_moved : (s t : SessionId) (c d : ℕ) (k l : Key) → t ≡ s → d ≡ c → l ≡ k → IsOwn s c k → IsOwn t d l
own_moved s t c d k l e f g h = rw (e, f, g) h

own_kept : (f : Consumer → Consumer) → KeepsSources f → (xs : List Consumer) → AllOwn xs → AllOwn (map f xs)
own_kept f keeps [] k = tt
own_kept f keeps (x ∷ xs) k = (
  own_moved x.session (f x).session x.id (f x).id x.key (f x).key (keeps x).0 (keeps x).1 (keeps x).2 k.0,
  own_kept f keeps xs k.1,
)

key_kept : (f : Consumer → Consumer) → KeepsSources f → (s : SessionId) (c : ℕ) (xs : List Consumer) → key_at (consumer_of (map f xs) s c) ≡ key_at (consumer_of xs s c)
key_kept f keeps s c [] = refl
key_kept f keeps s c (x ∷ xs) =
    (λ i. key_at (cond (session_eq ((keeps x).0 i) s && ((keeps x).1 i == c)) (Some (f x)) (consumer_of (map f xs) s c)))
    ∙ go (has_number s c x) (key_kept f keeps s c xs)
  where
    go : (b : Bool) → key_at (consumer_of (map f xs) s c) ≡ key_at (consumer_of xs s c) → key_at (cond b (Some (f x)) (consumer_of (map f xs) s c)) ≡ key_at (cond b (Some x) (consumer_of xs s c))
    go true e = ap (λ (k : Key). Some k) (keeps x).2
    go false e = e

made_kept : (f : Consumer → Consumer) → KeepsSources f → (xs : List Consumer) (k : Key) → IsOfSubscription xs k → IsOfSubscription (map f xs) k
made_kept f keeps xs (Own s c) h = key_kept f keeps s c xs ∙ h
made_kept f keeps xs (Queue name) h = absurd h
made_kept f keeps xs (SharedOwn client name) h = tt
made_kept f keeps xs (Durable client name) h = tt

-- what every core keeps, after consumers are marked
pub sound_marked : (limit : ℕ) (f : Consumer → Consumer) → KeepsSources f → (xs : List Consumer) (ss : List Subscription) (keys : List Key) (bs : List Backlog) (place : ℕ) → IsSound limit xs ss keys bs place → IsSound limit (map f xs) ss keys bs place
sound_marked limit f keeps xs ss keys bs place h = record {
  same = h.same;
  number = h.number;
  once = h.once;
  made = All-weaker (IsOfSubscription xs) (IsOfSubscription (map f xs)) (made_kept f keeps xs) keys h.made;
  own = own_kept f keeps xs h.own;
  limited = h.limited;
  accepted = h.accepted;
  places = h.places;
}

pub listener_set : (p : Provider) (who : Who) (call : Call) (s : SessionId) (c : ℕ) (on : Bool) (new : State) → IsPlan p who call (change.SetListener s c on) → new ≡ record (state_of p) { consumers = set_listening s c on p.known.consumers } → StepFits (state_of p) who call (Ok Done) new
unfolding reply step refusal answer after
listener_set p who call s c on new h e = rw (h.0, h.1, h.2) (refl, e)

-- ---- a take

-- what a take leaves of a row is what a delivery leaves where the client acknowledges
pub left_client : (s : SessionId) (c : ℕ) → left_of (Some Client) s c ≡ taken s c
unfolding left_of
left_client s c = λ i r. sent_out s c r ∷ []

left_taken : (r : Receiver) → r.mode ≡ Client → left_by r ≡ taken r.session r.consumer
left_taken r e = ap (λ (m : Mode). left_of (Some m) r.session r.consumer) e ∙ left_client r.session r.consumer

-- a message is handed out where a row is next
told_next : (o : Option Row) → is_delivered (delivery o) ≡ is_some o
told_next None = refl
told_next (Some r) = refl

-- a listener that may take has a consumer
nobody_takes : {B : Type 0} (a : Bool) → ((a && false) && (false && not false)) ≡ true → B
nobody_takes true h = absurd cc
nobody_takes false h = absurd cc

pub take_refused : (state : State) (s : SessionId) (c now : ℕ) (r : Refusal) → r ≡ IllegalState → may_take state.life state.consumers s c ≡ false → IsRefused state (Session s) (Ask (Take c now)) r
unfolding reply refusal
take_refused state s c now r e m = rw (e, m) refl

pub idle_told : (p : Provider) (who : Who) (call : Call) → IsIdling p who call → StepFits (state_of p) who call (Ok Nothing) (state_of p)
unfolding reply step refusal answer after
idle_told p who call h = rw (h.sender, h.asked, h.allowed, h.stopped) (refl, refl)

module _ (opening limit : ℕ) (life : Life) (consumers : List Consumer) (ss : List Subscription) (list : List Backlog) (queues : List ℕ → List PlacedRow) (place : ℕ) where
  -- before the take
  abbrev start : State
  start = state_from opening limit life consumers ss list queues place

  -- after it: the consumer is busy where a message came
  abbrev took : Receiver → Answer → List Station → (List ℕ → List PlacedRow) → State
  took r a xs qs = record { opening = opening; limit = limit; life = life; consumers = set_busy r.session r.consumer (is_delivered a) consumers; stations = xs; queues = qs; next_place = place }

  -- what it leaves is what the machine leaves
  took_same : (r : Receiver) (a : Answer) (xs : List Station) (qs : List ℕ → List PlacedRow) (pass : Content → Bool) (key : Key) → a ≡ delivery (next r.moment (live r.moment (rows_under pass key start))) →
      xs ≡ (take pass r.session r.consumer r.moment (Some key) start).stations → qs ≡ (take pass r.session r.consumer r.moment (Some key) start).queues →
      took r a xs qs ≡ take pass r.session r.consumer r.moment (Some key) start
  took_same r a xs qs pass key told e f =
      let comes : is_delivered a ≡ is_coming r.moment (rows_under pass key start) = ap is_delivered told ∙ told_next (next r.moment (live r.moment (rows_under pass key start))) in
      λ i. record start { consumers = set_busy r.session r.consumer (comes i) consumers; stations = e i; queues = f i }

  pub take_made : (r : Receiver) (k : Option Key) (o : Option Taking) (a : Answer) → length list ≡ length ss → r.mode ≡ Client → is_started life r.session.connection ≡ true → may_take life consumers r.session r.consumer ≡ true → k ≡ key_at (consumer_of consumers r.session r.consumer) →
      is_queue k ≡ false → IsTaken k r (keys_of ss) list o → IsTold o r.moment list a →
      StepFits start (Session r.session) (Ask (Take r.consumer r.moment)) (Ok a) (took r a (stations_of ss (taken_from o r list)) queues)
  unfolding reply step refusal answer after
  take_made r k o a n mode started m e apart t told =
      let made = go (consumer_of consumers r.session r.consumer) m (subst (λ x. is_queue x ≡ false) e apart) (subst (λ x. IsTaken x r (keys_of ss) list o) e t) in
      rw (m, started) (ap (λ x. Ok x) made.0, made.1)
    where
      -- for that key
      Fits : (Content → Bool) → Key → Type 0
      Fits pass key = (a ≡ delivery (next r.moment (live r.moment (rows_under pass key start)))) × (took r a (stations_of ss (taken_from o r list)) queues ≡ take pass r.session r.consumer r.moment (Some key) start)

      stations_left : (key : Key) → IsTaken (Some key) r (keys_of ss) list o → stations_of ss (taken_from o r list) ≡ at_key key (with_rows (deliver_placed r.moment (taken r.session r.consumer))) (stations_of ss list)
      stations_left key t =
          (from_key opening limit life consumers ss list queues place r key o a n t told).1
          ∙ ap (λ (f : Row → List Row). at_key key (with_rows (deliver_placed r.moment f)) (stations_of ss list)) (left_taken r mode)

      by : (pass : Content → Bool) (key : Key) → is_queue (Some key) ≡ false → IsTaken (Some key) r (keys_of ss) list o → Fits pass key
      by pass (Queue name) q t = cc
      by pass (Own s c) q t =
          let answered = (from_key opening limit life consumers ss list queues place r (Own s c) o a n t told).0 in
          (answered, took_same r a (stations_of ss (taken_from o r list)) queues pass (Own s c) answered (stations_left (Own s c) t) refl)
      by pass (SharedOwn client name) q t =
          let answered = (from_key opening limit life consumers ss list queues place r (SharedOwn client name) o a n t told).0 in
          (answered, took_same r a (stations_of ss (taken_from o r list)) queues pass (SharedOwn client name) answered (stations_left (SharedOwn client name) t) refl)
      by pass (Durable client name) q t =
          let answered = (from_key opening limit life consumers ss list queues place r (Durable client name) o a n t told).0 in
          (answered, took_same r a (stations_of ss (taken_from o r list)) queues pass (Durable client name) answered (stations_left (Durable client name) t) refl)

      go : (source : Option Consumer) → ((is_some (mode_of life r.session) && is_active source) && (is_listening source && not (is_busy source))) ≡ true → is_queue (key_at source) ≡ false → IsTaken (key_at source) r (keys_of ss) list o →
          (a ≡ delivery (next r.moment (live r.moment (holding_at (selected_by source) (key_at source) start).rows))) × (took r a (stations_of ss (taken_from o r list)) queues ≡ take (selected_by source) r.session r.consumer r.moment (key_at source) start)
      go None m q t = nobody_takes (is_some (mode_of life r.session)) m
      go (Some x) m q t = by (selected_by (Some x)) x.key q t

  -- of a queue, where the consumer has its key
  pub take_made_from : (r : Receiver) (source : Consumer) (name : List ℕ) (a : Answer) (after_it : List ℕ → List PlacedRow) → r.mode ≡ Client → is_started life r.session.connection ≡ true → may_take life consumers r.session r.consumer ≡ true →
      consumer_of consumers r.session r.consumer ≡ Some source → source.key ≡ Queue name → All (λ x. key_eq x (Queue name) ≡ false) (keys_of ss) → a ≡ answered_where (selected_by (Some source)) r.moment (queues name) →
      after_it ≡ at_queue name (deliver_chosen (selected_by (Some source)) r.moment (left_by r)) queues → StepFits start (Session r.session) (Ask (Take r.consumer r.moment)) (Ok a) (took r a (stations_of ss list) after_it)
  unfolding reply step refusal answer after
  take_made_from r source name a after_it mode started m e key none told left =
      let made = go (consumer_of consumers r.session r.consumer) e in
      rw (m, started) (ap (λ x. Ok x) made.0, made.1)
    where
      -- for that key
      Fits : (Content → Bool) → Key → Type 0
      Fits pass k = (a ≡ delivery (next r.moment (live r.moment (rows_under pass k start)))) × (took r a (stations_of ss list) after_it ≡ take pass r.session r.consumer r.moment (Some k) start)

      there : Fits (selected_by (Some source)) (Queue name)
      there =
          let same = sym (key_missing (Queue name) (with_rows (deliver_placed r.moment (taken r.session r.consumer))) ss list none).0 in
          let rows = left ∙ ap (λ (f : Row → List Row). at_queue name (deliver_chosen (selected_by (Some source)) r.moment f) queues) (left_taken r mode) in
          (told, took_same r a (stations_of ss list) after_it (selected_by (Some source)) (Queue name) told same rows)

      go : (o : Option Consumer) → o ≡ Some source →
          (a ≡ delivery (next r.moment (live r.moment (holding_at (selected_by o) (key_at o) start).rows))) × (took r a (stations_of ss list) after_it ≡ take (selected_by o) r.session r.consumer r.moment (key_at o) start)
      go None e = cc
      go (Some x) e =
          let same : x ≡ source = cc in
          subst (λ y. Fits (selected_by (Some y)) y.key) (sym same) (subst (Fits (selected_by (Some source))) (sym key) there)

  -- memory is wanted for a copy alone
  pub take_wants : (r : Receiver) (k : Option Key) (f : Refusal) → length list ≡ length ss → r.mode ≡ Client → is_started life r.session.connection ≡ true → may_take life consumers r.session r.consumer ≡ true → k ≡ key_at (consumer_of consumers r.session r.consumer) →
      is_queue k ≡ false → wants_copy k r (keys_of ss) list ≡ true → f ≡ Memory → IsRefused start (Session r.session) (Ask (Take r.consumer r.moment)) f
  unfolding may_want
  take_wants r k f n mode started m e apart w is =
      rw (is, m, started) (go (consumer_of consumers r.session r.consumer) (subst (λ x. is_queue x ≡ false) e apart) (subst (λ x. wants_copy x r (keys_of ss) list ≡ true) e w))
    where
      copied : (key : Key) → wants_copy (Some key) r (keys_of ss) list ≡ true → is_held_after (Some Client) (stations_of ss list) (next_placed r.moment (placed_rows (station_of key (stations_of ss list)))) ≡ true
      copied key w = subst (λ (x : Mode). is_held_after (Some x) (stations_of ss list) (next_placed r.moment (placed_rows (station_of key (stations_of ss list)))) ≡ true) mode (wants_copied opening limit life consumers ss list queues place r key n w)

      by : (pass : Content → Bool) (key : Key) → is_queue (Some key) ≡ false → wants_copy (Some key) r (keys_of ss) list ≡ true → is_next_held_after (Some Client) r.moment pass (Some key) start ≡ true
      by pass (Queue name) q w = cc
      by pass (Own s c) q w = copied (Own s c) w
      by pass (SharedOwn client name) q w = copied (SharedOwn client name) w
      by pass (Durable client name) q w = copied (Durable client name) w

      go : (source : Option Consumer) → is_queue (key_at source) ≡ false → wants_copy (key_at source) r (keys_of ss) list ≡ true → is_next_held_after (Some Client) r.moment (selected_by source) (key_at source) start ≡ true
      go None q w = cc
      go (Some x) q w = by (selected_by (Some x)) x.key q w

  -- of a queue it is wanted where a row is next
  pub take_wants_from : (r : Receiver) (source : Consumer) (name : List ℕ) (f : Refusal) → r.mode ≡ Client → is_started life r.session.connection ≡ true → may_take life consumers r.session r.consumer ≡ true → consumer_of consumers r.session r.consumer ≡ Some source → source.key ≡ Queue name →
      wants_copy_of (selected_by (Some source)) r (queues name) ≡ true → f ≡ Memory → IsRefused start (Session r.session) (Ask (Take r.consumer r.moment)) f
  unfolding may_want
  take_wants_from r source name f mode started m e key w is = rw (is, m, started) (go (consumer_of consumers r.session r.consumer) e)
    where
      there : is_next_held_after (Some Client) r.moment (selected_by (Some source)) (Some (Queue name)) start ≡ true
      there = subst (λ (x : Mode). is_next_held_after (Some x) r.moment (selected_by (Some source)) (Some (Queue name)) start ≡ true) mode w

      go : (o : Option Consumer) → o ≡ Some source → is_next_held_after (Some Client) r.moment (selected_by o) (key_at o) start ≡ true
      go None e = cc
      go (Some x) e =
          let same : x ≡ source = cc in
          subst (λ y. is_next_held_after (Some Client) r.moment (selected_by (Some y)) (Some y.key) start ≡ true) (sym same)
          (subst (λ k. is_next_held_after (Some Client) r.moment (selected_by (Some source)) (Some k) start ≡ true) (sym key) there)

-- ---- a listener that is done

-- what is held under a key, where there is one, of which the rows that are out through those consumers go, or wait again
abbrev ended_stations : Option Key → Consumers → Bool → List Station → List Station
ended_stations None which ok xs = xs
ended_stations (Some key) which ok xs = at_key key (with_rows (ended_rows which ok)) xs

-- what callers see of it
pub ended_seen : (which : Consumers) (ok : Bool) (k : Option Key) (ss : List Subscription) (keys : List Key) (list : List Backlog) → keys_of ss ≡ keys → length list ≡ length ss → stations_of ss (ended_under k which ok keys list) ≡ ended_stations k which ok (stations_of ss list)
ended_seen which ok None ss keys list same n = refl
ended_seen which ok (Some key) ss keys list same n =
    ap (λ (ks : List Key). stations_of ss (ended_under (Some key) which ok ks list)) (sym same) ∙ go (index_in (keys_of ss) key) refl
  where
    go : (o : Option ℕ) → index_in (keys_of ss) key ≡ o → stations_of ss (ended_under (Some key) which ok (keys_of ss) list) ≡ at_key key (with_rows (ended_rows which ok)) (stations_of ss list)
    go None e = rw e (sym (key_missing key (with_rows (ended_rows which ok)) ss list (fails_all (λ x. key_eq x key) (keys_of ss) (found_none (λ x. key_eq x key) (keys_of ss) e))).0)
    go (Some i) e =
        let at = found_at (λ y. key_eq y key) (keys_of ss) i e in
        rw e (sym (key_found key (ended_rows which ok) ss list (empty None) i n at.0 (omega (arith, at.1, length-keys ss))).0)

-- each row stays accepted
accepted_ended : (which : Consumers) (ok : Bool) (d : Definition) (rows : List PlacedRow) → AllAccepted d rows → AllAccepted d (ended_rows which ok rows)
accepted_ended which true d rows h = filtered d (λ x. not (is_out (are_meant which) x.row)) rows h
accepted_ended which false d rows h = returned (are_meant which) d rows h

hold_ended : (which : Consumers) (ok : Bool) (k : Key) (xs : List Station) → HoldsAccepted xs → HoldsAccepted (at_key k (with_rows (ended_rows which ok)) xs)
hold_ended which ok k [] h = h
hold_ended which ok k (x ∷ xs) h = go (key_eq x.key k) (hold_ended which ok k xs h.1)
  where
    go : (b : Bool) → HoldsAccepted (at_key k (with_rows (ended_rows which ok)) xs) → HoldsAccepted (cond b (with_rows (ended_rows which ok) x ∷ xs) (x ∷ at_key k (with_rows (ended_rows which ok)) xs))
    go true rest = (accepted_ended which ok x.definition x.rows h.0, h.1)
    go false rest = (h.0, rest)

hold_under : (which : Consumers) (ok : Bool) (k : Option Key) (xs : List Station) → HoldsAccepted xs → HoldsAccepted (ended_stations k which ok xs)
hold_under which ok None xs h = h
hold_under which ok (Some key) xs h = hold_ended which ok key xs h

-- what every core keeps of it
pub sound_ended : (limit : ℕ) (which : Consumers) (ok : Bool) (k : Option Key) (consumers : List Consumer) (ss : List Subscription) (keys : List Key) (list : List Backlog) (place : ℕ) → IsSound limit consumers ss keys list place →
    IsSound limit consumers ss keys (ended_under k which ok keys list) place
sound_ended limit which ok None consumers ss keys list place h = h
sound_ended limit which ok (Some key) consumers ss keys list place h = go (index_in keys key) refl
  where
    seen : stations_of ss (ended_under (Some key) which ok keys list) ≡ ended_stations (Some key) which ok (stations_of ss list)
    seen = ended_seen which ok (Some key) ss keys list h.same h.number

    go : (o : Option ℕ) → index_in keys key ≡ o → IsSound limit consumers ss keys (ended_under (Some key) which ok keys list) place
    go None e = rw e h
    go (Some i) e =
        let accepted = subst HoldsAccepted (sym seen) (hold_under which ok (Some key) (stations_of ss list) h.accepted) in
        rw e (record {
          same = h.same;
          number = length-changed i (ended which ok) list ∙ h.number;
          once = h.once;
          made = h.made;
          own = h.own;
          limited = changed_limited limit i (ended which ok) (λ b. refl) keys list h.limited;
          accepted = rw e at accepted;
          places = h.places;
        })

-- what a listener leaves that is done
pub done_left : (state : State) (s : SessionId) (c : ℕ) (mode : Mode) (ok : Bool) (x : Option Consumer) (xs : List Station) (qs : List ℕ → List PlacedRow) → xs ≡ ended_stations (ending_key mode x) (One s c) ok state.stations → qs ≡ ended_queues (ending_key mode x) (One s c) ok state.queues →
    record state { consumers = set_busy s c false state.consumers; stations = xs; queues = qs } ≡ done s c ok (Some mode) (key_at x) state
done_left state s c mode ok x xs qs e f = go (settles_at_once (Some mode)) (key_at x) e f
  where
    go : (b : Bool) (k : Option Key) → xs ≡ ended_stations (cond b k None) (One s c) ok state.stations → qs ≡ ended_queues (cond b k None) (One s c) ok state.queues →
        record state { consumers = set_busy s c false state.consumers; stations = xs; queues = qs } ≡ cond b (with_done s c ok k (record state { consumers = set_busy s c false state.consumers })) (record state { consumers = set_busy s c false state.consumers })
    go true None e f = λ i. record state { consumers = set_busy s c false state.consumers; stations = e i; queues = f i }
    go true (Some key) e f = λ i. record state { consumers = set_busy s c false state.consumers; stations = e i; queues = f i }
    go false k e f = λ i. record state { consumers = set_busy s c false state.consumers; stations = e i; queues = f i }

pub done_told : (p : Provider) (who : Who) (call : Call) (s : SessionId) (c : ℕ) (mode : Mode) (ok : Bool) (new : State) → IsPlan p who call (change.Done s c mode ok) → new ≡ done s c ok (Some mode) (key_at (consumer_of p.known.consumers s c)) (state_of p) → StepFits (state_of p) who call (Ok Done) new
unfolding reply step refusal answer after
done_told p who call s c mode ok new h e = rw (h.0, h.1, h.3, h.2) (refl, e)
