-- What callers see of the subscriptions with what is held for each, through each change.
use Rattle.std.proofs.Common.{◌≡◌, ◌<◌, ◌==◌, ℕ, Bool, true, false, cond, List, [], ◌∷◌, ◌++◌, length, get_or, refl, ap, sym, ◌∙◌, arith, Option, Some, None, zero, suc}
use Rattle.std.specs.Prelude.{◌+◌, ◌&&◌, ◌||◌, find, not, option_map, position, is_some}
use Rattle.std.specs.List.{All, position_or_len}
use Rattle.std.proofs.lemmas.List.Elements.{All-head, All-tail}
use Rattle.std.proofs.lemmas.List.Sums.{sum_by-cons}
use Rattle.jm_base.specs.declared.mode.Mode.{Mode}
use Rattle.jm_dest.specs.declared.key.Key.{Key}
use Rattle.jm_dest.specs.Keys.{key_eq}
use Rattle.jm_machine.specs.declared.state.PlacedRow.{PlacedRow}
use Rattle.jm_machine.specs.declared.state.Station.{Station}
use Rattle.jm_machine.specs.Machine.{definition_of, station_of, at_key, missed_of, with_rows, without}
use Rattle.jm_machine.specs.Rows.{settles_at_once}
use Rattle.jm_machine.specs.Wants.{holders_of, next_placed, placed_rows, is_held_after}
use Rattle.jm_stations.specs.Backlogs.{Backlog, HasMoreRoom, changed_at, holders_at, kept_message, copy_wanted, placed_at}
use Rattle.jm_sub.specs.Subscriptions as subs
use Rattle.jm_sub.specs.Subscriptions.{Subscription}
use Rattle.jm_parts.specs.State.{AreLimited, station, stations_of, keys_of}
use Rattle.jm_queues.proofs.Found.{found_at, with}

pub length-keys : (ss : List Subscription) → length (keys_of ss) ≡ length ss
length-keys [] = refl
length-keys (s ∷ ss) = ap suc (length-keys ss)

-- what stands under a key that is found
pub key_found : (k : Key) (g : List PlacedRow → List PlacedRow) (ss : List Subscription) (bs : List Backlog) (d : Backlog) (i : ℕ) → length bs ≡ length ss → position_or_len (λ x. key_eq x k) (keys_of ss) ≡ i → i < length ss →
    (at_key k (with_rows g) (stations_of ss bs) ≡ stations_of ss (changed_at i (with g) bs)) × (placed_rows (station_of k (stations_of ss bs)) ≡ (get_or bs i d).rows) × (missed_of (station_of k (stations_of ss bs)) ≡ (get_or bs i d).missed)
key_found k g [] bs d i n e h = absurd (omega arith)
key_found k g (s ∷ ss) [] d i n e h = absurd (omega arith)
key_found k g (s ∷ ss) (b ∷ bs) d zero n e h = go (key_eq s.key k) refl
  where
    go : (t : Bool) → key_eq s.key k ≡ t → (at_key k (with_rows g) (stations_of (s ∷ ss) (b ∷ bs)) ≡ stations_of (s ∷ ss) (with g b ∷ bs)) × (placed_rows (station_of k (stations_of (s ∷ ss) (b ∷ bs))) ≡ b.rows) × (missed_of (station_of k (stations_of (s ∷ ss) (b ∷ bs))) ≡ b.missed)
    go true t = (rw t refl, rw t refl, rw t refl)
    go false t = absurd (omega (arith, rw t at e))
key_found k g (s ∷ ss) (b ∷ bs) d (suc i) n e h = go (key_eq s.key k) refl (key_found k g ss bs d i (omega arith))
  where
    go : (t : Bool) → key_eq s.key k ≡ t → (position_or_len (λ x. key_eq x k) (keys_of ss) ≡ i → i < length ss → (at_key k (with_rows g) (stations_of ss bs) ≡ stations_of ss (changed_at i (with g) bs)) × (placed_rows (station_of k (stations_of ss bs)) ≡ (get_or bs i d).rows) × (missed_of (station_of k (stations_of ss bs)) ≡ (get_or bs i d).missed)) →
        (at_key k (with_rows g) (stations_of (s ∷ ss) (b ∷ bs)) ≡ station s b ∷ stations_of ss (changed_at i (with g) bs)) × (placed_rows (station_of k (stations_of (s ∷ ss) (b ∷ bs))) ≡ (get_or bs i d).rows) × (missed_of (station_of k (stations_of (s ∷ ss) (b ∷ bs))) ≡ (get_or bs i d).missed)
    go true t rest = absurd (omega (arith, rw t at e))
    go false t rest =
        let j : position_or_len (λ x. key_eq x k) (keys_of ss) ≡ i = omega (arith, rw t at e) in
        let r = rest j (omega arith) in
        (rw t (ap (λ ys. station s b ∷ ys) r.0), rw t r.1, rw t r.2)

-- a key that nothing stands under
pub key_missing : (k : Key) (g : Station → Station) (ss : List Subscription) (bs : List Backlog) → All (λ x. key_eq x k ≡ false) (keys_of ss) →
    (at_key k g (stations_of ss bs) ≡ stations_of ss bs) × (station_of k (stations_of ss bs) ≡ None) × (without k (stations_of ss bs) ≡ stations_of ss bs)
key_missing k g [] bs h = (refl, refl, refl)
key_missing k g (s ∷ ss) [] h = (refl, refl, refl)
key_missing k g (s ∷ ss) (b ∷ bs) h =
    let t : key_eq s.key k ≡ false = All-head (λ x. key_eq x k ≡ false) s.key (keys_of ss) h in
    let r = key_missing k g ss bs (All-tail (λ x. key_eq x k ≡ false) s.key (keys_of ss) h) in
    (rw t (ap (λ ys. station s b ∷ ys) r.0), rw t r.1, rw t (ap (λ ys. station s b ∷ ys) r.2))

-- what the subscription of a key asks for
pub definition_seen : (k : Key) (ss : List Subscription) (bs : List Backlog) → length bs ≡ length ss → subs.definition_at k ss ≡ definition_of (station_of k (stations_of ss bs))
definition_seen k [] bs n = refl
definition_seen k (s ∷ ss) [] n = absurd (omega (arith, n))
definition_seen k (s ∷ ss) (b ∷ bs) n = go (key_eq s.key k) (definition_seen k ss bs (omega (arith, n)))
  where
    go : (t : Bool) → subs.definition_at k ss ≡ definition_of (station_of k (stations_of ss bs)) →
        option_map (λ (s : Subscription). s.definition) (cond t (Some s) (find (λ (s : Subscription). key_eq s.key k) ss)) ≡ definition_of (cond t (Some (station s b)) (station_of k (stations_of ss bs)))
    go true r = refl
    go false r = r

-- a subscription more
pub stations_push : (ss : List Subscription) (bs : List Backlog) (s : Subscription) (b : Backlog) → length bs ≡ length ss → stations_of (ss ++ s ∷ []) (bs ++ b ∷ []) ≡ stations_of ss bs ++ station s b ∷ []
stations_push [] [] s b n = refl
stations_push [] (x ∷ bs) s b n = absurd (omega arith)
stations_push (y ∷ ss) [] s b n = absurd (omega arith)
stations_push (y ∷ ss) (x ∷ bs) s b n = ap (λ ys. station y x ∷ ys) (stations_push ss bs s b (omega arith))

-- more room
room_tail : (x y : Backlog) (xs ys : List Backlog) → HasMoreRoom (x ∷ xs) (y ∷ ys) → HasMoreRoom xs ys
room_tail x y xs ys h = record { number = omega (arith, h.number); same = λ k d l. h.same (suc k) d (omega (arith, l)); room = λ k d l. h.room (suc k) d (omega (arith, l)) }

pub more_room : (ss : List Subscription) (xs ys : List Backlog) → HasMoreRoom xs ys → stations_of ss ys ≡ stations_of ss xs
more_room [] xs ys h = refl
more_room (s ∷ ss) [] [] h = refl
more_room (s ∷ ss) [] (y ∷ ys) h = absurd (omega (arith, h.number))
more_room (s ∷ ss) (x ∷ xs) [] h = absurd (omega (arith, h.number))
more_room (s ∷ ss) (x ∷ xs) (y ∷ ys) h =
    let rows = ap (λ (b : Backlog). b.rows) (h.same zero x (omega arith)) in
    let missed = ap (λ (b : Backlog). b.missed) (h.same zero x (omega arith)) in
    let rest = more_room ss xs ys (room_tail x y xs ys h) in
    λ i. record { key = s.key; definition = s.definition; missed = missed i; rows = rows i } ∷ rest i

pub room_same : (xs : List Backlog) → HasMoreRoom xs xs
room_same xs = record { number = refl; same = λ k d l. refl; room = λ k d l. omega arith }

pub room_again : (xs ys zs : List Backlog) → HasMoreRoom xs ys → HasMoreRoom ys zs → HasMoreRoom xs zs
room_again xs ys zs h g = record {
  number = g.number ∙ h.number;
  same = λ k d l.
      let within : k < length ys = omega (arith, h.number, l) in
      g.same k d within ∙ ap (λ (b : Backlog). record b { room = (get_or zs k d).room }) (h.same k d l);
  room = λ k d l.
      let within : k < length ys = omega (arith, h.number, l) in
      let one = h.room k d l in
      let two = g.room k d within in
      omega (arith, one, two);
}

-- the same limits are there where each is as before
pub limits_same : (limit : ℕ) (keys : List Key) (old new : List Backlog) → length new ≡ length old → ((k : ℕ) (d : Backlog) → k < length old → (get_or new k d).limit ≡ (get_or old k d).limit) → AreLimited limit keys old → AreLimited limit keys new
limits_same limit [] old new n same h = tt
limits_same limit (k ∷ keys) [] [] n same h = tt
limits_same limit (k ∷ keys) [] (y ∷ new) n same h = absurd (omega (arith, n))
limits_same limit (k ∷ keys) (x ∷ old) [] n same h = tt
limits_same limit (k ∷ keys) (x ∷ old) (y ∷ new) n same h = (same zero x (omega arith) ∙ h.0, limits_same limit keys old new (omega (arith, n)) (λ i d l. same (suc i) d (omega (arith, l))) h.1)

pub room_limited : (limit : ℕ) (keys : List Key) (xs ys : List Backlog) → HasMoreRoom xs ys → AreLimited limit keys xs → AreLimited limit keys ys
room_limited limit keys xs ys h u = limits_same limit keys xs ys h.number (λ k d l. ap (λ (b : Backlog). b.limit) (h.same k d l)) u

pub changed_limited : (limit i : ℕ) (f : Backlog → Backlog) → ((b : Backlog) → (f b).limit ≡ b.limit) → (keys : List Key) (bs : List Backlog) → AreLimited limit keys bs → AreLimited limit keys (changed_at i f bs)
changed_limited limit i f same [] bs u = tt
changed_limited limit i f same (k ∷ keys) [] u = tt
changed_limited limit zero f same (k ∷ keys) (b ∷ bs) u = (same b ∙ u.0, u.1)
changed_limited limit (suc i) f same (k ∷ keys) (b ∷ bs) u = (u.0, changed_limited limit i f same keys bs u.1)

-- the rows at a place
pub holders_same : (place : ℕ) (ss : List Subscription) (bs : List Backlog) → length bs ≡ length ss → holders_at place bs ≡ holders_of place (stations_of ss bs)
holders_same place [] [] n = refl
holders_same place [] (b ∷ bs) n = absurd (omega arith)
holders_same place (s ∷ ss) [] n = absurd (omega arith)
holders_same place (s ∷ ss) (b ∷ bs) n =
    sum_by-cons (λ (x : Backlog). placed_at place x.rows) b bs
    ∙ (λ i. placed_at place b.rows + holders_same place ss bs (omega arith) i)
    ∙ sym (sum_by-cons (λ (x : Station). placed_at place x.rows) (station s b) (stations_of ss bs))

copied_same : (mode : Option Mode) (ss : List Subscription) (bs : List Backlog) (o : Option PlacedRow) → length bs ≡ length ss → is_some (kept_message (settles_at_once mode) bs o) ≡ is_held_after mode (stations_of ss bs) o
copied_same mode ss bs None n = refl
copied_same mode ss bs (Some x) n = go (settles_at_once mode) (holders_at x.place bs == 1) ∙ ap (λ h. not (settles_at_once mode) || not (h == 1)) (holders_same x.place ss bs n)
  where
    go : (s b : Bool) → is_some (cond (s && b) None (Some x.row.message)) ≡ (not s || not b)
    go true true = refl
    go true false = refl
    go false b = refl

-- where a delivery from a subscription wants a copy, the machine's hands one out
pub copy_is_copied : (mode : Option Mode) (now : ℕ) (k : Key) (ss : List Subscription) (bs : List Backlog) (i : ℕ) (d : Backlog) → length bs ≡ length ss → position (λ x. key_eq x k) (keys_of ss) ≡ Some i →
    is_some (copy_wanted (settles_at_once mode) now bs (get_or bs i d).rows) ≡ is_held_after mode (stations_of ss bs) (next_placed now (placed_rows (station_of k (stations_of ss bs))))
copy_is_copied mode now k ss bs i d n e =
    let at = found_at (λ x. key_eq x k) (keys_of ss) i e in
    let found = key_found k (λ rows. rows) ss bs d i n at.0 (omega (arith, at.1, length-keys ss)) in
    copied_same mode ss bs (next_placed now (get_or bs i d).rows) n ∙ ap (λ rows. is_held_after mode (stations_of ss bs) (next_placed now rows)) (sym found.1)
