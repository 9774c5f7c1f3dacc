-- Acknowledgement and closing of what is held are the machine's.
use Rattle.std.proofs.Common.{◌≡◌, ℕ, Bool, true, false, cond, List, [], ◌∷◌, map, length, refl, ap, sym, subst, ◌∙◌, Option, Some, suc}
use Rattle.std.specs.Prelude.{filter, not}
use Rattle.std.specs.List.{All}
use Rattle.std.proofs.lemmas.List.Elements.{All-head, All-tail, All-weaker}
use Rattle.jm_base.specs.declared.mode.Mode.{Mode}
use Rattle.jm_base.specs.declared.mode.Mode.TheVariants.{Auto, Client, Dups, Transacted}
use Rattle.jm_dest.specs.declared.session.SessionId.{SessionId}
use Rattle.jm_dest.specs.declared.key.Key.{Key}
use Rattle.jm_dest.specs.declared.key.Key.TheVariants.{Queue, Own, SharedOwn, Durable}
use Rattle.jm_machine.specs.declared.consumers.Consumers.{Consumers}
use Rattle.jm_machine.specs.declared.state.Consumer.{Consumer}
use Rattle.jm_machine.specs.declared.state.PlacedRow.{PlacedRow}
use Rattle.jm_machine.specs.declared.state.Station.{Station}
use Rattle.jm_machine.specs.Attached.{AllOwn, AreCounted, Counts, IsOfSubscription, IsOwn}
use Rattle.jm_machine.specs.Rows.{is_out}
use Rattle.jm_machine.specs.Machine.{are_meant, closed_consumer, consumer_of, ends, has_number, key_at, is_client, of_session, returned_rows, settled_rows, shut, with_rows}
use Rattle.jm_stations.specs.Backlogs.{Backlog, kept_under, settled}
use Rattle.jm_machine.proofs.Ends.{ends_so}
use Rattle.jm_sub.specs.Subscriptions.{Subscription}
use Rattle.jm_machine.specs.Accepted.{HoldsAccepted}
use Rattle.jm_parts.specs.Closing.{acknowledged, given_back, is_kept, kept_keys, kept_subscriptions}
use Rattle.jm_parts.specs.State.{AreLimited, station, stations_of, keys_of, IsSound}
use Rattle.jm_parts.proofs.Accepted.{all_returned_hold, all_settled_hold}
use Rattle.jm_parts.proofs.Kept.{kept_stations, sound_kept}
use Rattle.jm_queues.proofs.Found.{with}

-- ---- consumers that close

own_closed : (p : SessionId → ℕ → Bool) (xs : List Consumer) → AllOwn xs → AllOwn (map (closed_consumer p) xs)
own_closed p [] k = tt
own_closed p (x ∷ xs) k = (go (p x.session x.id), own_closed p xs k.1)
  where
    go : (b : Bool) → IsOwn (cond b (shut x) x).session (cond b (shut x) x).id (cond b (shut x) x).key
    go true = k.0
    go false = k.0

key_closed : (p : SessionId → ℕ → Bool) (s : SessionId) (c : ℕ) (xs : List Consumer) → key_at (consumer_of (map (closed_consumer p) xs) s c) ≡ key_at (consumer_of xs s c)
key_closed p s c [] = refl
key_closed p s c (x ∷ xs) = go (p x.session x.id) (key_closed p s c xs)
  where
    pick : (t : Bool) (a b : Consumer) (m n : Option Consumer) → a.key ≡ b.key → key_at m ≡ key_at n → key_at (cond t (Some a) m) ≡ key_at (cond t (Some b) n)
    pick true a b m n k e = ap (λ y. Some y) k
    pick false a b m n k e = e

    go : (b : Bool) → key_at (consumer_of (map (closed_consumer p) xs) s c) ≡ key_at (consumer_of xs s c) →
        key_at (cond (has_number s c (cond b (shut x) x)) (Some (cond b (shut x) x)) (consumer_of (map (closed_consumer p) xs) s c)) ≡ key_at (cond (has_number s c x) (Some x) (consumer_of xs s c))
    go true e = pick (has_number s c x) (shut x) x (consumer_of (map (closed_consumer p) xs) s c) (consumer_of xs s c) refl e
    go false e = pick (has_number s c x) x x (consumer_of (map (closed_consumer p) xs) s c) (consumer_of xs s c) refl e

made_closed : (p : SessionId → ℕ → Bool) (xs : List Consumer) (k : Key) → IsOfSubscription xs k → IsOfSubscription (map (closed_consumer p) xs) k
made_closed p xs (Own s c) h = key_closed p s c xs ∙ h
made_closed p xs (Queue name) h = absurd h
made_closed p xs (SharedOwn client name) h = tt
made_closed p xs (Durable client name) h = tt

-- what every core keeps, after consumers close
sound_consumers : (limit : ℕ) (p : SessionId → ℕ → Bool) (xs : List Consumer) (ss : List Subscription) (keys : List Key) (bs : List Backlog) (place : ℕ) → IsSound limit xs ss keys bs place → IsSound limit (map (closed_consumer p) xs) ss keys bs place
sound_consumers limit p xs ss keys bs place h = record {
  same = h.same;
  number = h.number;
  once = h.once;
  made = All-weaker (IsOfSubscription xs) (IsOfSubscription (map (closed_consumer p) xs)) (made_closed p xs) keys h.made;
  own = own_closed p xs h.own;
  limited = h.limited;
  accepted = h.accepted;
  places = h.places;
}

-- ---- the subscriptions that end

-- so the same stay
stay_so : (which : Consumers) (xs : List Consumer) (left : Counts) (ss : List Subscription) (bs : List Backlog) → AllOwn xs → AreCounted (map (closed_consumer (are_meant which)) xs) left → All (IsOfSubscription xs) (keys_of ss) →
    filter (λ x. is_kept which left x.key) (stations_of ss bs) ≡ filter (λ x. not (ends (are_meant which) xs x.key)) (stations_of ss bs)
stay_so which xs left [] bs own counted h = refl
stay_so which xs left (s ∷ ss) [] own counted h = refl
stay_so which xs left (s ∷ ss) (b ∷ bs) own counted h =
    let here : is_kept which left s.key ≡ not (ends (are_meant which) xs s.key) = ap (λ e. not e) (ends_so which xs left own counted s.key (All-head (IsOfSubscription xs) s.key (keys_of ss) h)) in
    let rest = stay_so which xs left ss bs own counted (All-tail (IsOfSubscription xs) s.key (keys_of ss) h) in
    λ i. cond (here i) (station s b ∷ rest i) (rest i)

-- what callers see of the subscriptions that stay
pub ended_stations : (limit : ℕ) (which : Consumers) (left : Counts) (xs : List Consumer) (ss : List Subscription) (keys : List Key) (bs : List Backlog) (place : ℕ) → IsSound limit xs ss keys bs place → AreCounted (map (closed_consumer (are_meant which)) xs) left →
    stations_of (kept_subscriptions (is_kept which left) ss) (kept_under (is_kept which left) keys bs) ≡ filter (λ x. not (ends (are_meant which) xs x.key)) (stations_of ss bs)
ended_stations limit which left xs ss keys bs place h counted =
    kept_stations (is_kept which left) limit xs ss keys bs place h
    ∙ stay_so which xs left ss bs h.own counted (subst (All (IsOfSubscription xs)) (sym h.same) h.made)

-- what every core keeps, after consumers close and subscriptions end
pub sound_ended : (limit : ℕ) (which : Consumers) (left : Counts) (xs : List Consumer) (ss : List Subscription) (keys : List Key) (bs : List Backlog) (place : ℕ) → IsSound limit xs ss keys bs place →
    IsSound limit (map (closed_consumer (are_meant which)) xs) (kept_subscriptions (is_kept which left) ss) (kept_keys (is_kept which left) keys) (kept_under (is_kept which left) keys bs) place
sound_ended limit which left xs ss keys bs place h =
    sound_kept (is_kept which left) limit (map (closed_consumer (are_meant which)) xs) ss keys bs place (sound_consumers limit (are_meant which) xs ss keys bs place h)

-- ---- rows that wait again, and rows that are settled

rows_seen : (g : List PlacedRow → List PlacedRow) (ss : List Subscription) (bs : List Backlog) → stations_of ss (map (with g) bs) ≡ map (with_rows g) (stations_of ss bs)
rows_seen g [] bs = refl
rows_seen g (s ∷ ss) [] = refl
rows_seen g (s ∷ ss) (b ∷ bs) = ap (λ ys. station s (with g b) ∷ ys) (rows_seen g ss bs)

rows_number : (g : List PlacedRow → List PlacedRow) (bs : List Backlog) → length (map (with g) bs) ≡ length bs
rows_number g [] = refl
rows_number g (b ∷ bs) = ap suc (rows_number g bs)

rows_limited : (limit : ℕ) (g : List PlacedRow → List PlacedRow) (keys : List Key) (bs : List Backlog) → AreLimited limit keys bs → AreLimited limit keys (map (with g) bs)
rows_limited limit g [] bs u = tt
rows_limited limit g (k ∷ keys) [] u = tt
rows_limited limit g (k ∷ keys) (b ∷ bs) u = (u.0, rows_limited limit g keys bs u.1)

sound_rows : (limit : ℕ) (g : List PlacedRow → List PlacedRow) (xs : List Consumer) (ss : List Subscription) (keys : List Key) (bs : List Backlog) (place : ℕ) → HoldsAccepted (map (with_rows g) (stations_of ss bs)) → IsSound limit xs ss keys bs place →
    IsSound limit xs ss keys (map (with g) bs) place
sound_rows limit g xs ss keys bs place a h = record {
  same = h.same;
  number = rows_number g bs ∙ h.number;
  once = h.once;
  made = h.made;
  own = h.own;
  limited = rows_limited limit g keys bs h.limited;
  accepted = subst HoldsAccepted (sym (rows_seen g ss bs)) a;
  places = h.places;
}

pub sound_returned : (limit : ℕ) (which : Consumers) (xs : List Consumer) (ss : List Subscription) (keys : List Key) (bs : List Backlog) (place : ℕ) → IsSound limit xs ss keys bs place → IsSound limit xs ss keys (given_back which bs) place
sound_returned limit which xs ss keys bs place h = sound_rows limit (returned_rows (are_meant which)) xs ss keys bs place (all_returned_hold (are_meant which) (stations_of ss bs) h.accepted) h

pub returned_stations : (which : Consumers) (ss : List Subscription) (bs : List Backlog) → stations_of ss (given_back which bs) ≡ map (with_rows (returned_rows (are_meant which))) (stations_of ss bs)
returned_stations which ss bs = rows_seen (returned_rows (are_meant which)) ss bs

-- both
pub closed_stations : (limit : ℕ) (which : Consumers) (left : Counts) (xs : List Consumer) (ss : List Subscription) (keys : List Key) (bs : List Backlog) (place : ℕ) → IsSound limit xs ss keys bs place → AreCounted (map (closed_consumer (are_meant which)) xs) left →
    stations_of (kept_subscriptions (is_kept which left) ss) (kept_under (is_kept which left) keys (given_back which bs)) ≡ filter (λ x. not (ends (are_meant which) xs x.key)) (map (with_rows (returned_rows (are_meant which))) (stations_of ss bs))
closed_stations limit which left xs ss keys bs place h counted =
    ended_stations limit which left xs ss keys (given_back which bs) place (sound_returned limit which xs ss keys bs place h) counted
    ∙ ap (filter (λ (x : Station). not (ends (are_meant which) xs x.key))) (returned_stations which ss bs)

pub sound_settled : (limit : ℕ) (s : SessionId) (xs : List Consumer) (ss : List Subscription) (keys : List Key) (bs : List Backlog) (place : ℕ) → IsSound limit xs ss keys bs place → IsSound limit xs ss keys (map (settled (of_session s)) bs) place
sound_settled limit s xs ss keys bs place h = sound_rows limit (settled_rows (of_session s)) xs ss keys bs place (all_settled_hold (λ x. not (is_out (of_session s) x.row)) (stations_of ss bs) h.accepted) h

pub settled_stations : (s : SessionId) (ss : List Subscription) (bs : List Backlog) → stations_of ss (map (settled (of_session s)) bs) ≡ map (with_rows (settled_rows (of_session s))) (stations_of ss bs)
settled_stations s ss bs = rows_seen (settled_rows (of_session s)) ss bs

pub sound_acknowledged : (limit : ℕ) (mode : Mode) (s : SessionId) (xs : List Consumer) (ss : List Subscription) (keys : List Key) (bs : List Backlog) (place : ℕ) → IsSound limit xs ss keys bs place → IsSound limit xs ss keys (acknowledged mode s bs) place
sound_acknowledged limit Auto s xs ss keys bs place h = h
sound_acknowledged limit Client s xs ss keys bs place h = sound_settled limit s xs ss keys bs place h
sound_acknowledged limit Dups s xs ss keys bs place h = h
sound_acknowledged limit Transacted s xs ss keys bs place h = h

pub acknowledged_stations : (mode : Mode) (s : SessionId) (ss : List Subscription) (bs : List Backlog) → stations_of ss (acknowledged mode s bs) ≡ cond (is_client (Some mode)) (map (with_rows (settled_rows (of_session s))) (stations_of ss bs)) (stations_of ss bs)
acknowledged_stations Auto s ss bs = refl
acknowledged_stations Client s ss bs = settled_stations s ss bs
acknowledged_stations Dups s ss bs = refl
acknowledged_stations Transacted s ss bs = refl
