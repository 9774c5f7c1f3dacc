-- What every core keeps, through each change.
use Rattle.std.proofs.Common.{◌≡◌, ◌<◌, ◌≤◌, ℕ, Bool, true, false, cond, List, [], ◌∷◌, ◌++◌, map, length, refl, ap, sym, subst, ◌∙◌, arith, Option, Some, None}
use Rattle.std.specs.Prelude.{◌&&◌, not, find, position, is_some}
use Rattle.std.specs.List.{All, AllByRecursion, IsDistinct}
use Rattle.std.proofs.lemmas.List.{map-append, length-append}
use Rattle.std.proofs.lemmas.List.Elements.{All-head, All-tail, All-nil, All-push, All-weaker}
use Rattle.jm_base.specs.declared.mode.Mode.{Mode}
use Rattle.jm_dest.specs.declared.session.SessionId.{SessionId}
use Rattle.jm_dest.specs.declared.key.Key.{Key}
use Rattle.jm_dest.specs.declared.key.Key.TheVariants.{Queue, Own, SharedOwn, Durable}
use Rattle.jm_dest.specs.Keys.{key_eq}
use Rattle.jm_machine.specs.declared.state.Consumer.{Consumer}
use Rattle.jm_machine.specs.declared.state.PlacedRow.{PlacedRow}
use Rattle.jm_machine.specs.declared.state.Station.{Station}
use Rattle.jm_machine.specs.Life.{Life, mode_of}
use Rattle.jm_machine.specs.Rows.{deliver_placed, left_of}
use Rattle.jm_machine.specs.Machine.{State, has_number, consumer_of, key_at, may_begin, new_consumer, places_end, without}
use Rattle.jm_stations.specs.Backlogs.{Backlog, HasMoreRoom, changed_at, empty, kept_under}
use Rattle.jm_machine.proofs.Keys.{key_refl}
use Rattle.jm_sub.specs.Subscriptions as subs
use Rattle.jm_sub.specs.Subscriptions.{Subscription}
use Rattle.jm_parts.specs.declared.publish.Publication.{Publication}
use Rattle.jm_machine.specs.Accepted.{HoldsAccepted}
use Rattle.jm_parts.specs.Closing.{is_other, kept_keys, kept_subscriptions}
use Rattle.jm_plans.specs.Named.{IsDecided, put_decided}
use Rattle.jm_parts.specs.Named.{IsRoomy, keys_with, list_with, subscriptions_with}
use Rattle.jm_plans.specs.Provider.{Provider}
use Rattle.jm_parts.specs.Publications.{IsRouted, ArePublished, station_indexes}
use Rattle.jm_machine.specs.Attached.{AllOwn, IsOfSubscription, IsOwn}
use Rattle.jm_parts.specs.State.{AreLimited, limit_of, station, stations_of, keys_of, IsSound}
use Rattle.jm_parts.specs.Takings.{is_queue, with_delivery}
use Rattle.jm_parts.proofs.Accepted.{published_hold, with_empty, at_key_holds}
use Rattle.jm_parts.proofs.Kept.{kept_stations, others_apart, sound_kept}
use Rattle.jm_queues.proofs.Found.{found_at, length-changed}
use Rattle.jm_parts.proofs.Stations.{key_found, stations_push, more_room, room_limited, changed_limited, length-keys}
use Rattle.jm_parts.proofs.Publishing.{published_all}

-- nothing was made and nothing is held
pub sound_none : (limit : ℕ) → IsSound limit [] [] [] [] 1
unfolding IsDistinct
sound_none limit = record { same = refl; number = refl; once = tt; made = All-nil (IsOfSubscription []); own = tt; limited = tt; accepted = tt; places = omega arith }

-- where there is more room
pub sound_room : (limit : ℕ) (consumers : List Consumer) (ss : List Subscription) (keys : List Key) (old new : List Backlog) (place : ℕ) → IsSound limit consumers ss keys old place → HasMoreRoom old new → IsSound limit consumers ss keys new place
sound_room limit consumers ss keys old new place h r = record {
  same = h.same;
  number = r.number ∙ h.number;
  once = h.once;
  made = h.made;
  own = h.own;
  limited = room_limited limit keys old new r h.limited;
  accepted = subst HoldsAccepted (sym (more_room ss old new r)) h.accepted;
  places = h.places;
}

-- after a delivery
pub sound_received : (limit : ℕ) (consumers : List Consumer) (ss : List Subscription) (keys : List Key) (list : List Backlog) (place i now : ℕ) (k : Key) (mode : Option Mode) (s : SessionId) (c : ℕ) → IsSound limit consumers ss keys list place → position (λ x. key_eq x k) keys ≡ Some i →
    IsSound limit consumers ss keys (changed_at i (with_delivery (left_of mode s c) now) list) place
sound_received limit consumers ss keys list place i now k mode s c h e =
    let at = found_at (λ x. key_eq x k) (keys_of ss) i (rw h.same e) in
    let inside : i < length ss = omega (arith, at.1, length-keys ss) in
    let d : Backlog = empty None in
    let after = (key_found k (deliver_placed now (left_of mode s c)) ss list d i h.number at.0 inside).0 in
    record {
      same = h.same;
      number = length-changed i (with_delivery (left_of mode s c) now) list ∙ h.number;
      once = h.once;
      made = h.made;
      own = h.own;
      limited = changed_limited limit i (with_delivery (left_of mode s c) now) (λ b. refl) keys list h.limited;
      accepted = subst HoldsAccepted after (at_key_holds k mode s c now (stations_of ss list) h.accepted);
      places = h.places;
    }

-- the subscriptions have their limits
pub all_limited : (limit : ℕ) (consumers : List Consumer) (ss : List Subscription) (keys : List Key) (list : List Backlog) (place : ℕ) → IsSound limit consumers ss keys list place → AreLimited limit (keys_of ss) list
all_limited limit consumers ss keys list place h = subst (λ (ks : List Key). AreLimited limit ks list) (sym h.same) h.limited

-- after publications
pub sound_published : (limit : ℕ) (life : Life) (consumers : List Consumer) (ss : List Subscription) (keys : List Key) (old new : List Backlog) (place next : ℕ) (xs : List Publication) → IsSound limit consumers ss keys old place → All (λ (x : Publication). IsRouted life ss x.message (station_indexes x.goal)) xs → ArePublished xs place old new → next ≤ places_end →
    IsSound limit consumers ss keys new next
sound_published limit life consumers ss keys old new place next xs h r p le =
    let all = published_all limit life ss xs place old new h.number (all_limited limit consumers ss keys old place h) r p in
    record {
      same = h.same;
      number = all.1;
      once = h.once;
      made = h.made;
      own = h.own;
      limited = subst (λ (ks : List Key). AreLimited limit ks new) h.same all.2;
      accepted = subst HoldsAccepted (sym all.0) (published_hold limit life place (map (λ (x : Publication). x.message) xs) (stations_of ss old) h.accepted);
      places = le;
    }

-- ---- a new consumer's key

key_still : (p : Consumer → Bool) (xs ys : List Consumer) (k : Key) → key_at (find p xs) ≡ Some k → key_at (find p (xs ++ ys)) ≡ Some k
key_still p [] ys k h = cc
key_still p (x ∷ xs) ys k h = go (p x) h (key_still p xs ys k)
  where
    go : (b : Bool) → key_at (cond b (Some x) (find p xs)) ≡ Some k → (key_at (find p xs) ≡ Some k → key_at (find p (xs ++ ys)) ≡ Some k) → key_at (cond b (Some x) (find p (xs ++ ys))) ≡ Some k
    go true h rest = h
    go false h rest = rest h

key_last : (p : Consumer → Bool) (xs : List Consumer) (y : Consumer) → is_some (find p xs) ≡ false → p y ≡ true → key_at (find p (xs ++ y ∷ [])) ≡ Some y.key
key_last p [] y n h = rw h refl
key_last p (x ∷ xs) y n h = go (p x) n (λ m. key_last p xs y m h)
  where
    go : (b : Bool) → is_some (cond b (Some x) (find p xs)) ≡ false → (is_some (find p xs) ≡ false → key_at (find p (xs ++ y ∷ [])) ≡ Some y.key) → key_at (cond b (Some x) (find p (xs ++ y ∷ []))) ≡ Some y.key
    go true n rest = cc
    go false n rest = rest n

still_made : (consumers : List Consumer) (y : Consumer) (k : Key) → IsOfSubscription consumers k → IsOfSubscription (consumers ++ y ∷ []) k
still_made consumers y (Own s c) h = key_still (has_number s c) consumers (y ∷ []) (Own s c) h
still_made consumers y (Queue name) h = absurd h
still_made consumers y (SharedOwn client name) h = tt
still_made consumers y (Durable client name) h = tt

own_number : (s : SessionId) (c : ℕ) → key_eq (Own s c) (Own s c) ≡ true
own_number s c = key_refl (Own s c)

pub key_parts : (t s : SessionId) (d c : ℕ) → Own t d ≡ Own s c → (t ≡ s) × (d ≡ c)
key_parts t s d c h = let a : t ≡ s = cc in let b : d ≡ c = cc in (a, b)

-- of two checks the second fails
not_used : (a b : Bool) → (a && not b) ≡ true → b ≡ false
not_used a false h = refl
not_used true true h = cc
not_used false true h = cc

-- what a new consumer receives from, where it is no queue, is a subscription's
new_made : (life : Life) (consumers : List Consumer) (s : SessionId) (c : ℕ) (k : Key) (selector : Option (List ℕ)) → may_begin life consumers s c ≡ true → IsOwn s c k → is_queue (Some k) ≡ false → IsOfSubscription (consumers ++ new_consumer s c k selector ∷ []) k
new_made life consumers s c (Own t d) selector b own q =
    let y : Consumer = new_consumer s c (Own t d) selector in
    let parts = key_parts t s d c own in
    let last = key_last (has_number s c) consumers y (not_used (is_some (mode_of life s)) (is_some (consumer_of consumers s c)) b) (own_number s c) in
    (λ i. key_at (consumer_of (consumers ++ y ∷ []) (parts.0 i) (parts.1 i))) ∙ last
new_made life consumers s c (Queue name) selector b own q = absurd cc
new_made life consumers s c (SharedOwn client name) selector b own q = tt
new_made life consumers s c (Durable client name) selector b own q = tt

apart_push : (a k : Key) (keys : List Key) → AllByRecursion (λ y. key_eq a y ≡ false) keys → key_eq a k ≡ false → AllByRecursion (λ y. key_eq a y ≡ false) (keys ++ k ∷ [])
apart_push a k [] h e = (e, tt)
apart_push a k (x ∷ keys) h e = (h.0, apart_push a k keys h.1 e)

distinct_push : (keys : List Key) (k : Key) → IsDistinct key_eq keys → All (λ x. key_eq x k ≡ false) keys → IsDistinct key_eq (keys ++ k ∷ [])
unfolding IsDistinct
distinct_push [] k h n = (tt, tt)
distinct_push (x ∷ keys) k h n = (apart_push x k keys h.0 (All-head (λ x. key_eq x k ≡ false) x keys n), distinct_push keys k h.1 (All-tail (λ x. key_eq x k ≡ false) x keys n))

own_push : (y : Consumer) → IsOwn y.session y.id y.key → (xs : List Consumer) → AllOwn xs → AllOwn (xs ++ y ∷ [])
own_push y h [] k = (h, tt)
own_push y h (x ∷ xs) k = (k.0, own_push y h xs k.1)

-- after a consumer is made
pub sound_joined : (limit : ℕ) (consumers : List Consumer) (ss : List Subscription) (keys : List Key) (list : List Backlog) (place : ℕ) (s : SessionId) (c : ℕ) (k : Key) (selector : Option (List ℕ)) → IsSound limit consumers ss keys list place → IsOwn s c k →
    IsSound limit (consumers ++ new_consumer s c k selector ∷ []) ss keys list place
sound_joined limit consumers ss keys list place s c k selector h own =
    let y : Consumer = new_consumer s c k selector in
    record {
      same = h.same;
      number = h.number;
      once = h.once;
      made = All-weaker (IsOfSubscription consumers) (IsOfSubscription (consumers ++ y ∷ [])) (still_made consumers y) keys h.made;
      own = own_push y own consumers h.own;
      limited = h.limited;
      accepted = h.accepted;
      places = h.places;
    }

-- ---- a subscription that is put

limited_push : (limit : ℕ) (keys : List Key) (list : List Backlog) (k : Key) (b : Backlog) → length list ≡ length keys → AreLimited limit keys list → b.limit ≡ limit_of limit k → AreLimited limit (keys ++ k ∷ []) (list ++ b ∷ [])
limited_push limit [] [] k b n u e = (e, tt)
limited_push limit [] (x ∷ list) k b n u e = absurd (omega (arith, n))
limited_push limit (y ∷ keys) [] k b n u e = absurd (omega (arith, n))
limited_push limit (y ∷ keys) (x ∷ list) k b n u e = (u.0, limited_push limit keys list k b (omega (arith, n)) u.1 e)

as_many_keys : (ss : List Subscription) (keys : List Key) (list : List Backlog) → keys_of ss ≡ keys → length list ≡ length ss → length list ≡ length keys
as_many_keys ss keys list e n = n ∙ sym (length-keys ss) ∙ ap (λ (ks : List Key). length ks) e

-- what every core keeps, after a subscription is put in place of any other of its key
sound_put : (limit : ℕ) (consumers : List Consumer) (ss : List Subscription) (keys : List Key) (list : List Backlog) (place : ℕ) (x : Subscription) → IsSound limit consumers ss keys list place → IsOfSubscription consumers x.key →
    IsSound limit consumers (subs.put x ss) (kept_keys (is_other x.key) keys ++ x.key ∷ []) (kept_under (is_other x.key) keys list ++ empty (limit_of limit x.key) ∷ []) place
sound_put limit consumers ss keys list place x h made =
    let p = is_other x.key in
    let others = sound_kept p limit consumers ss keys list place h in
    let b : Backlog = empty (limit_of limit x.key) in
    record {
      same = map-append (λ (s : Subscription). s.key) (kept_subscriptions p ss) (x ∷ []) ∙ ap (λ (ks : List Key). ks ++ x.key ∷ []) others.same;
      number = omega (arith, length-append (kept_under p keys list) (b ∷ []), length-append (kept_subscriptions p ss) (x ∷ []), others.number);
      once = distinct_push (kept_keys p keys) x.key others.once (others_apart x.key keys);
      made = All-push (IsOfSubscription consumers) (kept_keys p keys) x.key others.made made;
      own = h.own;
      limited = limited_push limit (kept_keys p keys) (kept_under p keys list) x.key b (as_many_keys (kept_subscriptions p ss) (kept_keys p keys) (kept_under p keys list) others.same others.number) others.limited refl;
      accepted = subst HoldsAccepted (sym (stations_push (kept_subscriptions p ss) (kept_under p keys list) x b others.number)) (with_empty x.key x.definition (stations_of (kept_subscriptions p ss) (kept_under p keys list)) others.accepted);
      places = h.places;
    }

-- what callers see of it
put_stations : (limit : ℕ) (consumers : List Consumer) (ss : List Subscription) (keys : List Key) (list : List Backlog) (place : ℕ) (x : Subscription) → IsSound limit consumers ss keys list place →
    stations_of (subs.put x ss) (kept_under (is_other x.key) keys list ++ empty (limit_of limit x.key) ∷ []) ≡ without x.key (stations_of ss list) ++ record { key = x.key; definition = x.definition; missed = 0; rows = [] } ∷ []
put_stations limit consumers ss keys list place x h =
    let p = is_other x.key in
    let others = sound_kept p limit consumers ss keys list place h in
    let b : Backlog = empty (limit_of limit x.key) in
    stations_push (kept_subscriptions p ss) (kept_under p keys list) x b others.number
    ∙ ap (λ (xs : List Station). xs ++ station x b ∷ []) (kept_stations p limit consumers ss keys list place h)

-- what every core keeps, after a consumer is made with what was decided for it
pub sound_created : (limit : ℕ) (life : Life) (consumers : List Consumer) (ss : List Subscription) (keys : List Key) (list : List Backlog) (place : ℕ) (s : SessionId) (c : ℕ) (k : Key) (selector : Option (List ℕ)) (q : Provider) (o : Option (Key × Subscription)) →
    IsSound limit consumers ss keys list place → may_begin life consumers s c ≡ true → IsOwn s c k → IsDecided q k o →
    IsSound limit (consumers ++ new_consumer s c k selector ∷ []) (subscriptions_with o ss) (keys_with o keys) (list_with limit o keys list) place
sound_created limit life consumers ss keys list place s c k selector q None h b own t = sound_joined limit consumers ss keys list place s c k selector h own
sound_created limit life consumers ss keys list place s c k selector q (Some d) h b own t =
    let ys : List Consumer = consumers ++ new_consumer s c k selector ∷ [] in
    let joined = sound_joined limit consumers ss keys list place s c k selector h own in
    let made = subst (IsOfSubscription ys) (sym t.1) (new_made life consumers s c k selector b own t.2) in
    subst (λ (x : Key). IsSound limit ys (subs.put d.1 ss) (kept_keys (is_other x) keys ++ x ∷ []) (kept_under (is_other x) keys list ++ empty (limit_of limit x) ∷ []) place) (t.1 ∙ sym t.0)
    (sound_put limit ys ss keys list place d.1 joined made)

-- what callers see of what was decided
decided_stations : (limit : ℕ) (consumers : List Consumer) (ss : List Subscription) (keys : List Key) (list : List Backlog) (place : ℕ) (k : Key) (q : Provider) (d : Key × Subscription) → IsSound limit consumers ss keys list place → IsDecided q k (Some d) →
    stations_of (subscriptions_with (Some d) ss) (list_with limit (Some d) keys list) ≡ without d.1.key (stations_of ss list) ++ record { key = d.1.key; definition = d.1.definition; missed = 0; rows = [] } ∷ []
decided_stations limit consumers ss keys list place k q d h t =
    ap (λ (x : Key). stations_of (subs.put d.1 ss) (kept_under (is_other x) keys list ++ empty (limit_of limit x) ∷ [])) (t.0 ∙ sym t.1)
    ∙ put_stations limit consumers ss keys list place d.1 h

pub decided_state : (opening limit : ℕ) (life : Life) (consumers : List Consumer) (ss : List Subscription) (keys : List Key) (list : List Backlog) (queues : List ℕ → List PlacedRow) (place : ℕ) (k : Key) (q : Provider) (o : Option (Key × Subscription)) → IsSound limit consumers ss keys list place → IsDecided q k o →
    record { opening = opening; limit = limit; life = life; consumers = consumers; stations = stations_of (subscriptions_with o ss) (list_with limit o keys list); queues = queues; next_place = place }
    ≡ put_decided o (record { opening = opening; limit = limit; life = life; consumers = consumers; stations = stations_of ss list; queues = queues; next_place = place })
decided_state opening limit life consumers ss keys list queues place k q None h t = refl
decided_state opening limit life consumers ss keys list queues place k q (Some d) h t =
    let after : List Station → State = λ xs. record { opening = opening; limit = limit; life = life; consumers = consumers; stations = xs; queues = queues; next_place = place } in
    ap after (decided_stations limit consumers ss keys list place k q d h t)

-- there is room for what was decided
pub roomy : (p : Provider) (k : Key) (o : Option (Key × Subscription)) → IsDecided p k o → IsRoomy o p.subscriptions p.held
roomy p k None t = tt
roomy p k (Some d) t = (t.3, t.4)
