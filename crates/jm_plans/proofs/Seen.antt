-- What readers and copies of the core show.
use Rattle.std.proofs.Common.{◌≡◌, ◌<◌, ℕ, Bool, true, false, List, [], ◌∷◌, map, length, get_or, refl, ap, sym, subst, ◌∙◌, arith, Some, None, zero, suc}
use Rattle.std.specs.Prelude.{position, slice_get, option_map}
use Rattle.std.specs.List.{position_or_len}
use Rattle.std.proofs.lemmas.List.{length-map}
use Rattle.jm_dest.specs.declared.key.Key.{Key}
use Rattle.jm_dest.specs.Keys.{key_eq}
use Rattle.jm_machine.specs.declared.state.Consumer.{Consumer}
use Rattle.jm_machine.specs.declared.state.Definition.{Definition}
use Rattle.jm_machine.specs.Machine.{station_of}
use Rattle.jm_stations.specs.Backlogs as spec
use Rattle.jm_stations.specs.Backlogs.{Backlog, without_room}
use Rattle.jm_machine.proofs.Keys.{key_same}
use Rattle.jm_sub.specs.Subscriptions.{Subscription}
use Rattle.jm_machine.specs.Accepted.{HoldsAccepted}
use Rattle.jm_plans.specs.Kept.{IsNumberOfMessages}
use Rattle.jm_parts.specs.State.{AreLimited, station, stations_of, keys_of, IsSound}
use Rattle.jm_queues.proofs.Found.{found_at, found_none, fails_all}
use Rattle.jm_parts.proofs.Stations.{key_missing, holders_same, length-keys}

pub length-stations : (ss : List Subscription) (bs : List Backlog) → length bs ≡ length ss → length (stations_of ss bs) ≡ length ss
length-stations [] bs n = refl
length-stations (s ∷ ss) [] n = absurd (omega arith)
length-stations (s ∷ ss) (b ∷ bs) n = ap suc (length-stations ss bs (omega arith))

-- a copy, whose room may differ
pub stations_copied : (ss : List Subscription) (bs : List Backlog) → stations_of ss (map without_room bs) ≡ stations_of ss bs
stations_copied [] bs = refl
stations_copied (s ∷ ss) [] = refl
stations_copied (s ∷ ss) (b ∷ bs) = ap (λ xs. station s b ∷ xs) (stations_copied ss bs)

limited_copied : (limit : ℕ) (keys : List Key) (bs : List Backlog) → AreLimited limit keys bs → AreLimited limit keys (map without_room bs)
limited_copied limit [] bs u = tt
limited_copied limit (k ∷ keys) [] u = tt
limited_copied limit (k ∷ keys) (b ∷ bs) u = (u.0, limited_copied limit keys bs u.1)

pub sound_copied : (limit : ℕ) (consumers : List Consumer) (ss : List Subscription) (keys : List Key) (bs : List Backlog) (place : ℕ) → IsSound limit consumers ss keys bs place → IsSound limit consumers ss keys (map without_room bs) place
sound_copied limit consumers ss keys bs place h = record {
  same = h.same;
  number = length-map bs without_room ∙ h.number;
  once = h.once;
  made = h.made;
  own = h.own;
  limited = limited_copied limit keys bs h.limited;
  accepted = subst HoldsAccepted (sym (stations_copied ss bs)) h.accepted;
  places = h.places;
}

-- the number of messages
pub kept_same : (n : ℕ) (ss : List Subscription) (bs : List Backlog) → length bs ≡ length ss → spec.IsNumberOfMessages n bs → IsNumberOfMessages n (stations_of ss bs)
kept_same n ss bs number h = record {
  places = h.places;
  once = h.once;
  each = λ p. rw (← holders_same p ss bs number) (h.each p);
  number = h.number;
}

-- the station of a key that is found
there : (k : Key) (ss : List Subscription) (bs : List Backlog) (i : ℕ) (d : Definition) (e : Backlog) → length bs ≡ length ss → position_or_len (λ x. key_eq x k) (keys_of ss) ≡ i → i < length ss → option_map (λ (s : Subscription). s.definition) (slice_get ss i) ≡ Some d →
    Some (record { key = k; definition = d; missed = (get_or bs i e).missed; rows = (get_or bs i e).rows }) ≡ station_of k (stations_of ss bs)
there k [] bs i d e n at l is = absurd (omega arith)
there k (s ∷ ss) [] i d e n at l is = absurd (omega arith)
there k (s ∷ ss) (b ∷ bs) zero d e n at l is = go (key_eq s.key k) refl
  where
    go : (t : Bool) → key_eq s.key k ≡ t → Some (record { key = k; definition = d; missed = b.missed; rows = b.rows }) ≡ station_of k (stations_of (s ∷ ss) (b ∷ bs))
    go true t =
        let key : k ≡ s.key = sym (key_same s.key k t) in
        let definition : d ≡ s.definition = cc in
        rw t (λ j. Some (record { key = key j; definition = definition j; missed = b.missed; rows = b.rows }))
    go false t = absurd (omega (arith, rw t at at))
there k (s ∷ ss) (b ∷ bs) (suc i) d e n at l is = go (key_eq s.key k) refl (there k ss bs i d e (omega arith))
  where
    go : (t : Bool) → key_eq s.key k ≡ t → (position_or_len (λ x. key_eq x k) (keys_of ss) ≡ i → i < length ss → option_map (λ (s : Subscription). s.definition) (slice_get ss i) ≡ Some d → Some (record { key = k; definition = d; missed = (get_or bs i e).missed; rows = (get_or bs i e).rows }) ≡ station_of k (stations_of ss bs)) →
        Some (record { key = k; definition = d; missed = (get_or bs i e).missed; rows = (get_or bs i e).rows }) ≡ station_of k (stations_of (s ∷ ss) (b ∷ bs))
    go true t rest = absurd (omega (arith, rw t at at))
    go false t rest = rw t (rest (omega (arith, rw t at at)) (omega arith) is)

pub station_found : (k : Key) (ss : List Subscription) (bs : List Backlog) (i : ℕ) (d : Definition) (e : Backlog) → length bs ≡ length ss → position (λ x. key_eq x k) (keys_of ss) ≡ Some i → option_map (λ (s : Subscription). s.definition) (slice_get ss i) ≡ Some d →
    Some (record { key = k; definition = d; missed = (get_or bs i e).missed; rows = (get_or bs i e).rows }) ≡ station_of k (stations_of ss bs)
station_found k ss bs i d e n at is =
    let found = found_at (λ x. key_eq x k) (keys_of ss) i at in
    there k ss bs i d e n found.0 (omega (arith, found.1, length-keys ss)) is

pub station_missing : (k : Key) (ss : List Subscription) (bs : List Backlog) → position (λ x. key_eq x k) (keys_of ss) ≡ None → None ≡ station_of k (stations_of ss bs)
station_missing k ss bs at = sym (key_missing k (λ x. x) ss bs (fails_all (λ x. key_eq x k) (keys_of ss) (found_none (λ x. key_eq x k) (keys_of ss) at))).1
