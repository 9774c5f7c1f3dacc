-- A publication by indexes is the machine's: it comes to the subscriptions that accept it.
use Rattle.std.proofs.Common.{◌≡◌, ◌<◌, ◌≤◌, ◌+◌, ◌-◌, ℕ, Bool, true, false, cond, List, [], ◌∷◌, ◌++◌, map, length, get_or, refl, ap, sym, subst, ◌∙◌, arith, Option, Some, None, zero, suc, nat_eq, take, add-one}
use Rattle.std.specs.Prelude.{◌&&◌, nat_le}
use Rattle.std.specs.List.{All, IsDistinct}
use Rattle.std.proofs.Math.Seq.{take-suc}
use Rattle.std.proofs.lemmas.List.{append-nil, length-map, map-append}
use Rattle.std.proofs.lemmas.List.Elements.{All-head, All-tail, All-nil, All-push}
use Rattle.jm_dest.specs.declared.session.SessionId.{SessionId}
use Rattle.jm_dest.specs.declared.destination.Destination.{Destination}
use Rattle.jm_dest.specs.declared.destination.Destination.TheVariants.{Queue, Topic}
use Rattle.jm_dest.specs.declared.key.Key.{Key}
use Rattle.jm_dest.specs.declared.key.Key.TheVariants.{Queue as OfQueue}
use Rattle.jm_header.specs.declared.content.Content.{Content}
use Rattle.jm_machine.specs.Life.{Life}
use Rattle.jm_machine.specs.Machine.{Publisher, State, publisher_of, accepts, brought, is_full, is_limited, offered, one_missed, published, queued, with_message, with_rows}
use Rattle.jm_machine.specs.declared.state.PlacedRow.{PlacedRow}
use Rattle.jm_machine.specs.Rows.{fresh}
use Rattle.jm_pending.specs.Rows.{is_at_limit}
use Rattle.jm_stations.specs.Backlogs.{Backlog, IsPublished, HasMoreRoom, is_named, added, settled}
use Rattle.jm_stations.specs.Stations.{Stations, index_in}
use Rattle.jm_sub.specs.Subscriptions.{Subscription, takes, accepting_places}
use Rattle.jm_sub.proofs.AcceptingPlaces.{accepting_named, accepting_once, accepting_within}
use Rattle.jm_parts.specs.State.{AreLimited, limit_of, station, stations_of, keys_of}
use Rattle.jm_parts.specs.Publications.{published_stations, IsRouted, IsReady, ArePublished, HasMessageRoom, HasRoom, queue_indexes, station_indexes}
use Rattle.jm_parts.specs.declared.publish.Publication.{Publication}
use Rattle.jm_parts.specs.declared.publish.Goal.{Goal}
use Rattle.jm_parts.specs.declared.publish.Goal.TheVariants as to
use Rattle.jm_queues.specs.Queues.{IsReserved, HaveMoreRoom, IsQueued, published_queues}
use Rattle.jm_parts.proofs.Stations.{limits_same}

-- ---- the places of the subscriptions that accept a message

-- they name those subscriptions
pub routed : (life : Life) (ss : List Subscription) (m : Content) (is : List ℕ) → is ≡ accepting_places (publisher_of life m) m ss → IsRouted life ss m is
routed life ss m is same = record { each = λ k d l. ap (λ js. is_named js k) same ∙ accepting_named (publisher_of life m) m ss k d l }

-- what is held for them stands there too
pub places_within : (p : Publisher) (m : Content) (ss : List Subscription) (list : List Backlog) (is : List ℕ) → is ≡ accepting_places p m ss → length list ≡ length ss → All (λ i. i < length list) is
places_within p m ss list is same number = subst (λ n. All (λ i. i < n) is) (sym number) (subst (All (λ i. i < length ss)) (sym same) (accepting_within p m ss))

-- no subscription accepts what is sent to a queue
pub none_routed : (life : Life) (ss : List Subscription) (m : Content) (name : List ℕ) → m.destination ≡ Queue name → IsRouted life ss m []
unfolding accepts
none_routed life ss m name e = record { each = λ k d l. rw e refl }

-- ---- what callers see of a publication

-- what is held under a key is at its limit exactly where the key's subscription is
limit_same : (limit : ℕ) (k : Key) (o : Option ℕ) (n : ℕ) → o ≡ limit_of limit k → is_at_limit o n ≡ is_full limit k n
limit_same limit k o n e = ap (λ x. is_at_limit x n) e ∙ go (is_limited k)
  where
    go : (b : Bool) → is_at_limit (cond b (Some limit) None) n ≡ (b && nat_le limit n)
    go true = refl
    go false = refl

-- a subscription misses a message exactly where what is held for it is at the limit
brought_is : (limit : ℕ) (m : Content) (place : ℕ) (s : Subscription) (x : Backlog) → x.limit ≡ limit_of limit s.key → station s (added place m x) ≡ brought limit m place (station s x)
brought_is limit m place s x e = go (is_at_limit x.limit (length x.rows)) (is_full limit s.key (length x.rows)) (limit_same limit s.key x.limit (length x.rows) e)
  where
    go : (a b : Bool) → a ≡ b →
        station s (cond a (record x { missed = one_missed x.missed }) (record x { rows = x.rows ++ record { place = place; row = fresh m } ∷ []; room = x.room - 1 }))
        ≡ cond b (record { key = s.key; definition = s.definition; missed = one_missed x.missed; rows = x.rows }) (with_rows (λ rows. rows ++ record { place = place; row = fresh m } ∷ []) (station s x))
    go true true e = refl
    go false false e = refl
    go true false e = absurd (cc)
    go false true e = absurd (cc)

offered_each : (limit : ℕ) (p : Publisher) (m : Content) (place : ℕ) (ss : List Subscription) (old new : List Backlog) (named : ℕ → Bool) → length old ≡ length ss → length new ≡ length ss → AreLimited limit (keys_of ss) old →
    ((k : ℕ) (d : Subscription) → k < length ss → named k ≡ takes p m (get_or ss k d)) → ((k : ℕ) (d : Backlog) → k < length old → get_or new k d ≡ cond (named k) (added place m (get_or old k d)) (get_or old k d)) →
    stations_of ss new ≡ map (offered limit p m place) (stations_of ss old)
offered_each limit p m place [] old new named n n' u t each = refl
offered_each limit p m place (s ∷ ss) [] new named n n' u t each = absurd (omega arith)
offered_each limit p m place (s ∷ ss) (x ∷ old) [] named n n' u t each = absurd (omega arith)
offered_each limit p m place (s ∷ ss) (x ∷ old) (y ∷ new) named n n' u t each =
    let here : station s y ≡ offered limit p m place (station s x) = ap (station s) (each zero x (omega arith)) ∙ go (named zero) (accepts s.key s.definition p m) (t zero s (omega arith)) in
    let rest = offered_each limit p m place ss old new (λ k. named (suc k)) (omega arith) (omega arith) u.1 (λ k d l. t (suc k) d (omega arith)) (λ k d l. each (suc k) d (omega arith)) in
    λ i. here i ∷ rest i
  where
    go : (b a : Bool) → b ≡ a → station s (cond b (added place m x) x) ≡ cond a (brought limit m place (station s x)) (station s x)
    go true true e = brought_is limit m place s x u.0
    go false false e = refl
    go true false e = absurd (cc)
    go false true e = absurd (cc)

pub published_one : (limit : ℕ) (life : Life) (m : Content) (place : ℕ) (ss : List Subscription) (old new : List Backlog) (is : List ℕ) → length old ≡ length ss → AreLimited limit (keys_of ss) old → IsRouted life ss m is → IsPublished is place m old new →
    stations_of ss new ≡ map (offered limit (publisher_of life m) m place) (stations_of ss old)
published_one limit life m place ss old new is n u r h = offered_each limit (publisher_of life m) m place ss old new (is_named is) n (h.number ∙ n) u r.each h.each

pub limited_one : (limit : ℕ) (keys : List Key) (m : Content) (place : ℕ) (old new : List Backlog) (is : List ℕ) → AreLimited limit keys old → IsPublished is place m old new → AreLimited limit keys new
limited_one limit keys m place old new is u h = limits_same limit keys old new h.number (λ k d l. ap (λ (b : Backlog). b.limit) (h.each k d l) ∙ go (is_named is k) (get_or old k d)) u
  where
    inside : (b : Bool) (x : Backlog) → (cond b (record x { missed = one_missed x.missed }) (record x { rows = x.rows ++ record { place = place; row = fresh m } ∷ []; room = x.room - 1 })).limit ≡ x.limit
    inside true x = refl
    inside false x = refl

    go : (b : Bool) (x : Backlog) → (cond b (added place m x) x).limit ≡ x.limit
    go true x = inside (is_at_limit x.limit (length x.rows)) x
    go false x = refl

-- many in turn
pub published_all : (limit : ℕ) (life : Life) (ss : List Subscription) (xs : List Publication) (place : ℕ) (old new : List Backlog) → length old ≡ length ss → AreLimited limit (keys_of ss) old → All (λ (x : Publication). IsRouted life ss x.message (station_indexes x.goal)) xs → ArePublished xs place old new →
    (stations_of ss new ≡ published_stations limit life place (map (λ (x : Publication). x.message) xs) (stations_of ss old)) × (length new ≡ length ss) × AreLimited limit (keys_of ss) new
published_all limit life ss [] place old new n u r h = (ap (stations_of ss) h, ap (λ (l : List Backlog). length l) h ∙ n, subst (AreLimited limit (keys_of ss)) (sym h) u)
published_all limit life ss (x ∷ xs) place old new n u r h =
    let routes = All-head (λ (x : Publication). IsRouted life ss x.message (station_indexes x.goal)) x xs r in
    let one = published_one limit life x.message place ss old h.0 (station_indexes x.goal) n u routes h.1 in
    let rest = published_all limit life ss xs (place + 1) h.0 new (h.1.number ∙ n) (limited_one limit (keys_of ss) x.message place old h.0 (station_indexes x.goal) u h.1) (All-tail (λ (x : Publication). IsRouted life ss x.message (station_indexes x.goal)) x xs r) h.2 in
    (rest.0 ∙ ap (published_stations limit life (place + 1) (map (λ (x : Publication). x.message) xs)) one, rest.1, rest.2)

-- the state after messages is that of its stations and queues, and as many places further
pub published_is : (state : State) (ms : List Content) →
    published state ms ≡ record state { stations = published_stations state.limit state.life state.next_place ms state.stations; queues = published_queues state.next_place ms state.queues; next_place = state.next_place + length ms }
unfolding published
published_is state [] = ap (λ n. record state { next_place = n }) (omega arith)
published_is state (m ∷ ms) =
    published_is (with_message state m) ms
    ∙ ap (λ n. record state { stations = published_stations state.limit state.life (state.next_place + 1) ms (map (offered state.limit (publisher_of state.life m) m state.next_place) state.stations); queues = published_queues (state.next_place + 1) ms (queued m.destination m state.next_place state.queues); next_place = n }) (omega arith)

-- nothing comes where no index is named
pub none_published : (place : ℕ) (m : Content) (list : List Backlog) → IsPublished [] place m list list
none_published place m list = record { number = refl; each = λ k d l. refl }

-- ---- one publication more

pub are_published_push : (xs : List Publication) (x : Publication) (place at : ℕ) (old mid new : List Backlog) → at ≡ place + length xs → ArePublished xs place old mid → IsPublished (station_indexes x.goal) at x.message mid new → ArePublished (xs ++ x ∷ []) place old new
are_published_push [] x place at old mid new e h k = (new, subst (λ (l : List Backlog). IsPublished (station_indexes x.goal) place x.message l new) h (subst (λ n. IsPublished (station_indexes x.goal) n x.message mid new) (omega arith) k), refl)
are_published_push (y ∷ xs) x place at old mid new e h k = (h.0, h.1, are_published_push xs x (place + 1) at h.0 mid new (omega arith) h.2 k)

pub queues_push : (xs : List Publication) (x : Publication) (place at : ℕ) (old mid new : List ℕ → List PlacedRow) → at ≡ place + length xs → mid ≡ published_queues place (map (λ (x : Publication). x.message) xs) old → new ≡ queued x.message.destination x.message at mid →
    new ≡ published_queues place (map (λ (x : Publication). x.message) (xs ++ x ∷ [])) old
queues_push [] x place at old mid new e h k =
    let here : at ≡ place = omega (arith, e) in
    k ∙ (λ i. queued x.message.destination x.message (here i) (h i))
queues_push (y ∷ xs) x place at old mid new e h k = queues_push xs x (place + 1) at (queued y.message.destination y.message place old) mid new (omega (arith, e)) h k

-- a message is received by the queue that it was sent to, and by none where it was sent to a topic
pub nothing_queued : (keys : List Key) (d : Destination) (m : Content) (place : ℕ) (queues : List ℕ → List PlacedRow) → IsQueued keys d [] → queues ≡ queued d m place queues
nothing_queued keys (Queue name) m place queues h = absurd (let no : [] ≡ h.0 ∷ [] = h.1 in cc)
nothing_queued keys (Topic name) m place queues h = refl

pub one_queued : (keys : List Key) (d : Destination) (m : Content) (place index : ℕ) (old new : List ℕ → List PlacedRow) → IsQueued keys d (index ∷ []) → ((name : List ℕ) → index_in keys (OfQueue name) ≡ Some index → new ≡ queued (Queue name) m place old) → new ≡ queued d m place old
one_queued keys (Queue name) m place index old new h f = let same : index ≡ h.0 = let e : index ∷ [] ≡ h.0 ∷ [] = h.1 in cc in f name (h.2 ∙ ap (λ n. Some n) (sym same))
one_queued keys (Topic name) m place index old new h f = absurd (let e : index ∷ [] ≡ [] = h in cc)

-- ---- room

-- for less than there is
pub reserved_for : (n m : ℕ) (list : List Backlog) (is : List ℕ) → m ≤ n → IsReserved n list is → IsReserved m list is
reserved_for n m list is le r = record { within = r.within; once = r.once; room = λ k d l e. let was = r.room k d l e in omega (arith, le, was) }

pub none_reserved : (n : ℕ) (list : List Backlog) → IsReserved n list []
unfolding IsDistinct
none_reserved n list = record { within = All-nil (λ i. i < length list); once = tt; room = All-nil (λ i. (d : Backlog) → n ≤ (get_or list i d).room) }

-- where room was made at the places of the subscriptions that accept a message, it is reserved
pub reserved_there : (n : ℕ) (p : Publisher) (m : Content) (ss : List Subscription) (old new : List Backlog) (is : List ℕ) → is ≡ accepting_places p m ss → length old ≡ length ss →
    HasMoreRoom old new → All (λ i. (d : Backlog) → n ≤ (get_or new i d).room) is → IsReserved n new is
reserved_there n p m ss old new is same number more room = record {
  within = places_within p m ss new is same (more.number ∙ number);
  once = subst (IsDistinct nat_eq) (sym same) (accepting_once p m ss);
  room = room;
}

-- further room leaves what is there
pub reserved_more : (n : ℕ) (old new : List Backlog) (is : List ℕ) → HasMoreRoom old new → IsReserved n old is → IsReserved n new is
reserved_more n old new is h r = record {
  within = λ k d l. let at = r.within k d l in omega (arith, h.number, at);
  once = r.once;
  room = λ k d l e.
      let at = r.within k d l in
      let was = r.room k d l e in
      let more = h.room (get_or is k d) e at in
      omega (arith, was, more);
}

pub reserved_wider : (n : ℕ) (old new : Stations) (is : List ℕ) → HaveMoreRoom old new → IsReserved n old.list is → IsReserved n new.list is
reserved_wider n old new is h r = record {
  within = λ k d l. let at = r.within k d l in omega (arith, h.number, at);
  once = r.once;
  room = λ k d l e.
      let at = r.within k d l in
      let was = r.room k d l e in
      let more = h.room (get_or is k d) e at in
      omega (arith, was, more);
}

message_room : (n m : ℕ) (held queues after queues_after : Stations) (g : Goal) → (n ≤ held.message_room → m ≤ after.message_room) → (n ≤ queues.message_room → m ≤ queues_after.message_room) → HasMessageRoom n held queues g → HasMessageRoom m after queues_after g
message_room n m held queues after queues_after (to.Subscriptions is) f g h = f h
message_room n m held queues after queues_after (to.Queue i) f g h = g h

pub room_more : (n : ℕ) (held queues after queues_after : Stations) (g : Goal) → HasMoreRoom held.list after.list → held.message_room ≤ after.message_room → HaveMoreRoom queues queues_after → HasRoom n held queues g → HasRoom n after queues_after g
room_more n held queues after queues_after g h m q r = record {
  subscriptions = reserved_more n held.list after.list (station_indexes g) h r.subscriptions;
  queue = reserved_wider n queues queues_after (queue_indexes g) q r.queue;
  messages = message_room n n held queues after queues_after g (λ e. omega (arith, e, m)) (λ e. omega (arith, e, q.messages)) r.messages;
}

queued_still : (old new : List Key) (d : Destination) (is : List ℕ) → ((key : Key) (i : ℕ) → index_in old key ≡ Some i → index_in new key ≡ Some i) → IsQueued old d is → IsQueued new d is
queued_still old new (Queue name) is f h = (h.0, h.1, f (OfQueue name) h.0 h.2)
queued_still old new (Topic name) is f h = h

pub ready_more : (n : ℕ) (life : Life) (ss : List Subscription) (held queues after queues_after : Stations) (xs : List Publication) → HasMoreRoom held.list after.list → held.message_room ≤ after.message_room → HaveMoreRoom queues queues_after →
    All (IsReady n life ss held queues) xs → All (IsReady n life ss after queues_after) xs
ready_more n life ss held queues after queues_after xs h m q r = λ k d l.
    let x = r k d l in
    record {
      room = room_more n held queues after queues_after (get_or xs k d).goal h m q x.room;
      aimed = record { routed = x.aimed.routed; queued = queued_still queues.keys queues_after.keys (get_or xs k d).message.destination (queue_indexes (get_or xs k d).goal) q.found x.aimed.queued };
    }

-- a publication uses room for one row at most
pub reserved_less : (n : ℕ) (m : Content) (place : ℕ) (old new : List Backlog) (named is : List ℕ) → IsPublished named place m old new → IsReserved (n + 1) old is → IsReserved n new is
reserved_less n m place old new named is h r = record {
  within = λ k d l. let at = r.within k d l in omega (arith, h.number, at);
  once = r.once;
  room = λ k d l e.
      let at = r.within k d l in
      let was = r.room k d l e in
      subst (λ (b : Backlog). n ≤ b.room) (sym (h.each (get_or is k d) e at)) (go (is_named named (get_or is k d)) (get_or old (get_or is k d) e) was);
}
  where
    inside : (b : Bool) (x : Backlog) → n + 1 ≤ x.room → n ≤ (cond b (record x { missed = one_missed x.missed }) (record x { rows = x.rows ++ record { place = place; row = fresh m } ∷ []; room = x.room - 1 })).room
    inside true x w = omega (arith, w)
    inside false x w = omega (arith, w)

    go : (b : Bool) (x : Backlog) → n + 1 ≤ x.room → n ≤ (cond b (added place m x) x).room
    go true x w = inside (is_at_limit x.limit (length x.rows)) x w
    go false x w = omega (arith, w)

-- a publication that is made leaves room for one less
pub record IsMade (x : Publication) (place : ℕ) (held queues after queues_after : Stations) : Type 0 where
  pub list : IsPublished (station_indexes x.goal) place x.message held.list after.list
  pub room : held.message_room ≤ after.message_room + 1
  pub queue_list : IsPublished (queue_indexes x.goal) place x.message queues.list queues_after.list
  pub queue_room : queues.message_room ≤ queues_after.message_room + 1

room_less : (n place : ℕ) (x : Publication) (held queues after queues_after : Stations) (g : Goal) → IsMade x place held queues after queues_after → HasRoom (n + 1) held queues g → HasRoom n after queues_after g
room_less n place x held queues after queues_after g h r = record {
  subscriptions = reserved_less n x.message place held.list after.list (station_indexes x.goal) (station_indexes g) h.list r.subscriptions;
  queue = reserved_less n x.message place queues.list queues_after.list (queue_indexes x.goal) (queue_indexes g) h.queue_list r.queue;
  messages = message_room (n + 1) n held queues after queues_after g (λ e. omega (arith, e, h.room)) (λ e. omega (arith, e, h.queue_room)) r.messages;
}

room_for : (n m : ℕ) (held queues : Stations) (g : Goal) → m ≤ n → HasRoom n held queues g → HasRoom m held queues g
room_for n m held queues g le r = record {
  subscriptions = reserved_for n m held.list (station_indexes g) le r.subscriptions;
  queue = reserved_for n m queues.list (queue_indexes g) le r.queue;
  messages = message_room n m held queues held queues g (λ e. omega (arith, e, le)) (λ e. omega (arith, e, le)) r.messages;
}

-- what is settled leaves the room that there is
room_settled : (p : SessionId → ℕ → Bool) (bs : List Backlog) (k : ℕ) (d : Backlog) → (get_or (map (settled p) bs) k d).room ≡ (get_or bs k d).room
room_settled p [] k d = refl
room_settled p (b ∷ bs) zero d = refl
room_settled p (b ∷ bs) (suc k) d = room_settled p bs k d

reserved_settled : (p : SessionId → ℕ → Bool) (n : ℕ) (list : List Backlog) (is : List ℕ) → IsReserved n list is → IsReserved n (map (settled p) list) is
reserved_settled p n list is r = record {
  within = λ k d l. let at = r.within k d l in omega (arith, length-map list (settled p), at);
  once = r.once;
  room = λ k d l e. let was = r.room k d l e in let same = room_settled p list (get_or is k d) e in omega (arith, was, same);
}

pub room_after_settling : (p : SessionId → ℕ → Bool) (n m : ℕ) (life : Life) (ss : List Subscription) (held queues after queues_after : Stations) (xs : List Publication) → m ≡ n → after.list ≡ map (settled p) held.list → held.message_room ≤ after.message_room → queues_after.list ≡ map (settled p) queues.list → queues.message_room ≤ queues_after.message_room →
    All (IsReady n life ss held queues) xs → All (λ (x : Publication). HasRoom m after queues_after x.goal) xs
room_after_settling p n m life ss held queues after queues_after xs e list room queue_list queue_room r = λ k d l.
    let g = (get_or xs k d).goal in
    let was = (r k d l).room in
    record {
      subscriptions = subst (λ (ys : List Backlog). IsReserved m ys (station_indexes g)) (sym list) (reserved_settled p m held.list (station_indexes g) (subst (λ j. IsReserved j held.list (station_indexes g)) (sym e) was.subscriptions));
      queue = subst (λ (ys : List Backlog). IsReserved m ys (queue_indexes g)) (sym queue_list) (reserved_settled p m queues.list (queue_indexes g) (subst (λ j. IsReserved j queues.list (queue_indexes g)) (sym e) was.queue));
      messages = message_room n m held queues after queues_after g (λ h. omega (arith, h, e, room)) (λ h. omega (arith, h, e, queue_room)) was.messages;
    }

-- what is ready has room, and is sent where it belongs
pub ready_room : (n m : ℕ) (life : Life) (ss : List Subscription) (held queues : Stations) (xs : List Publication) → m ≡ n → All (IsReady n life ss held queues) xs → All (λ (x : Publication). HasRoom m held queues x.goal) xs
ready_room n m life ss held queues xs e r = λ k d l. subst (λ j. HasRoom j held queues (get_or xs k d).goal) (sym e) (r k d l).room

pub ready_queued : (n : ℕ) (life : Life) (ss : List Subscription) (held queues : Stations) (xs : List Publication) → All (IsReady n life ss held queues) xs → All (λ (x : Publication). IsQueued queues.keys x.message.destination (queue_indexes x.goal)) xs
ready_queued n life ss held queues xs r = λ k d l. (r k d l).aimed.queued

-- the first of those that are left has room for one at least, and all others for one less
pub first_room : (held queues : Stations) (x : Publication) (xs left : List Publication) → left ≡ x ∷ xs → All (λ (y : Publication). HasRoom (length left) held queues y.goal) left → HasRoom 1 held queues x.goal
first_room held queues x xs left e r =
    let all = subst (λ (ys : List Publication). All (λ (y : Publication). HasRoom (length ys) held queues y.goal) ys) e r in
    room_for (length (x ∷ xs)) 1 held queues x.goal (omega arith) (All-head (λ (y : Publication). HasRoom (length (x ∷ xs)) held queues y.goal) x xs all)

pub others_room : (place : ℕ) (held queues after queues_after : Stations) (x : Publication) (xs left : List Publication) → left ≡ x ∷ xs → IsMade x place held queues after queues_after → All (λ (y : Publication). HasRoom (length left) held queues y.goal) left →
    All (λ (y : Publication). HasRoom (length xs) after queues_after y.goal) xs
others_room place held queues after queues_after x xs left e h r =
    let all = subst (λ (ys : List Publication). All (λ (y : Publication). HasRoom (length ys) held queues y.goal) ys) e r in
    let rest = All-tail (λ (y : Publication). HasRoom (length (x ∷ xs)) held queues y.goal) x xs all in
    let more : length (x ∷ xs) ≡ length xs + 1 = omega arith in
    λ k d l. room_less (length xs) place x held queues after queues_after (get_or xs k d).goal h (subst (λ n. HasRoom n held queues (get_or xs k d).goal) more (rest k d l))

-- where they are queued
pub first_queued : (keys : List Key) (x : Publication) (xs left : List Publication) → left ≡ x ∷ xs → All (λ (y : Publication). IsQueued keys y.message.destination (queue_indexes y.goal)) left → IsQueued keys x.message.destination (queue_indexes x.goal)
first_queued keys x xs left e r = All-head (λ (y : Publication). IsQueued keys y.message.destination (queue_indexes y.goal)) x xs (subst (All (λ (y : Publication). IsQueued keys y.message.destination (queue_indexes y.goal))) e r)

pub others_queued : (old new : List Key) (x : Publication) (xs left : List Publication) → left ≡ x ∷ xs → new ≡ old → All (λ (y : Publication). IsQueued old y.message.destination (queue_indexes y.goal)) left → All (λ (y : Publication). IsQueued new y.message.destination (queue_indexes y.goal)) xs
others_queued old new x xs left e same r =
    let rest = All-tail (λ (y : Publication). IsQueued old y.message.destination (queue_indexes y.goal)) x xs (subst (All (λ (y : Publication). IsQueued old y.message.destination (queue_indexes y.goal))) e r) in
    subst (λ ks. All (λ (y : Publication). IsQueued ks y.message.destination (queue_indexes y.goal)) xs) (sym same) rest

nothing_in : {A : Type 0} (xs : List A) → length xs ≡ 0 → xs ≡ []
nothing_in [] h = refl
nothing_in (x ∷ xs) h = absurd (omega arith)

pub list_assoc : {A : Type 0} (a b c : List A) → a ++ (b ++ c) ≡ (a ++ b) ++ c
list_assoc [] b c = refl
list_assoc (x ∷ a) b c = ap (λ t. x ∷ t) (list_assoc a b c)

-- where nothing is left, all was yielded
pub nothing_left : {A : Type 0} (all done rest : List A) → all ≡ done ++ rest → length rest ≡ 0 → done ≡ all
nothing_left all done rest e h = sym (e ∙ ap (λ xs. done ++ xs) (nothing_in rest h) ∙ append-nil done)

-- one element more of a front
pub one_more : {A : Type 0} (i : ℕ) (xs : List A) (x : A) → i < length xs → x ≡ get_or xs i x → take i xs ++ x ∷ [] ≡ take (i + 1) xs
one_more i xs x h e = ap (λ y. take i xs ++ y ∷ []) e ∙ sym (rw add-one (take-suc xs i x h))

-- one message more is prepared
pub messages_more : (xs : List Publication) (x : Publication) (i : ℕ) (ms : List Content) (m : Content) → i < length ms → m ≡ get_or ms i m → map (λ (x : Publication). x.message) xs ≡ take i ms → x.message ≡ m → map (λ (x : Publication). x.message) (xs ++ x ∷ []) ≡ take (i + 1) ms
messages_more xs x i ms m l at w e = map-append (λ (x : Publication). x.message) xs (x ∷ []) ∙ (λ j. w j ++ e j ∷ []) ∙ one_more i ms m l at

pub ready_push : (n : ℕ) (life : Life) (ss : List Subscription) (held queues after queues_after : Stations) (xs : List Publication) (x : Publication) → HasMoreRoom held.list after.list → held.message_room ≤ after.message_room → HaveMoreRoom queues queues_after →
    All (IsReady n life ss held queues) xs → IsReady n life ss after queues_after x → All (IsReady n life ss after queues_after) (xs ++ x ∷ [])
ready_push n life ss held queues after queues_after xs x h m q r y = All-push (IsReady n life ss after queues_after) xs x (ready_more n life ss held queues after queues_after xs h m q r) y
