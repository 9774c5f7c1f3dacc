-- Subscriptions of which some go, with what is held under their keys.
use Rattle.std.proofs.Common.{◌≡◌, ◌<◌, ℕ, Bool, true, false, cond, List, [], ◌∷◌, length, refl, ap, sym, subst, ◌∙◌, arith, Some, None, zero, suc}
use Rattle.std.specs.Prelude.{filter, nat_lt, not, position}
use Rattle.std.specs.List.{All, AllByRecursion, IsDistinct, position_or_len, remove}
use Rattle.std.proofs.lemmas.Bool.Decides.{nat_tests}
use Rattle.std.proofs.lemmas.List.Elements.{All-head, All-tail, All-nil, All-cons}
use Rattle.jm_dest.specs.declared.key.Key.{Key}
use Rattle.jm_dest.specs.Keys.{key_eq}
use Rattle.jm_machine.specs.declared.state.Consumer.{Consumer}
use Rattle.jm_stations.specs.Backlogs.{Backlog, kept_under}
use Rattle.jm_stations.specs.Stations.{index_in}
use Rattle.jm_machine.proofs.Keys.{key_same, key_sym}
use Rattle.jm_sub.specs.Subscriptions.{Subscription}
use Rattle.jm_machine.specs.Accepted.{HoldsAccepted}
use Rattle.jm_parts.specs.Closing.{is_other, kept_keys, kept_subscriptions}
use Rattle.jm_machine.specs.Attached.{IsOfSubscription}
use Rattle.jm_parts.specs.State.{AreLimited, IsSound, keys_of, station, stations_of}
use Rattle.jm_parts.proofs.Accepted.{kept_hold}
use Rattle.jm_queues.proofs.Found.{fails_all, found_at, found_none}

nothing_of : (ss : List Subscription) → stations_of ss [] ≡ []
nothing_of [] = refl
nothing_of (s ∷ ss) = refl

kept_both : (p : Key → Bool) (ss : List Subscription) (bs : List Backlog) → stations_of (kept_subscriptions p ss) (kept_under p (keys_of ss) bs) ≡ filter (λ x. p x.key) (stations_of ss bs)
kept_both p [] bs = refl
kept_both p (s ∷ ss) [] = nothing_of (kept_subscriptions p (s ∷ ss))
kept_both p (s ∷ ss) (b ∷ bs) = go (p s.key) (kept_both p ss bs)
  where
    go : (t : Bool) → stations_of (kept_subscriptions p ss) (kept_under p (keys_of ss) bs) ≡ filter (λ x. p x.key) (stations_of ss bs) →
        stations_of (cond t (s ∷ kept_subscriptions p ss) (kept_subscriptions p ss)) (cond t (b ∷ kept_under p (keys_of ss) bs) (kept_under p (keys_of ss) bs))
        ≡ cond t (station s b ∷ filter (λ x. p x.key) (stations_of ss bs)) (filter (λ x. p x.key) (stations_of ss bs))
    go true r = ap (λ ys. station s b ∷ ys) r
    go false r = r

kept_same : (p : Key → Bool) (ss : List Subscription) → keys_of (kept_subscriptions p ss) ≡ kept_keys p (keys_of ss)
kept_same p [] = refl
kept_same p (s ∷ ss) = go (p s.key) (kept_same p ss)
  where
    go : (t : Bool) → keys_of (kept_subscriptions p ss) ≡ kept_keys p (keys_of ss) → keys_of (cond t (s ∷ kept_subscriptions p ss) (kept_subscriptions p ss)) ≡ cond t (s.key ∷ kept_keys p (keys_of ss)) (kept_keys p (keys_of ss))
    go true r = ap (λ ks. s.key ∷ ks) r
    go false r = r

kept_number : (p : Key → Bool) (ss : List Subscription) (bs : List Backlog) → length bs ≡ length ss → length (kept_under p (keys_of ss) bs) ≡ length (kept_subscriptions p ss)
kept_number p [] bs n = refl
kept_number p (s ∷ ss) [] n = absurd (omega arith)
kept_number p (s ∷ ss) (b ∷ bs) n = go (p s.key) (kept_number p ss bs (omega arith))
  where
    go : (t : Bool) → length (kept_under p (keys_of ss) bs) ≡ length (kept_subscriptions p ss) →
        length (cond t (b ∷ kept_under p (keys_of ss) bs) (kept_under p (keys_of ss) bs)) ≡ length (cond t (s ∷ kept_subscriptions p ss) (kept_subscriptions p ss))
    go true r = ap suc r
    go false r = r

kept_limited : (limit : ℕ) (p : Key → Bool) (keys : List Key) (bs : List Backlog) → AreLimited limit keys bs → AreLimited limit (kept_keys p keys) (kept_under p keys bs)
kept_limited limit p [] bs u = tt
kept_limited limit p (k ∷ keys) [] u = limited_none limit (kept_keys p (k ∷ keys))
  where
    limited_none : (limit : ℕ) (ks : List Key) → AreLimited limit ks []
    limited_none limit [] = tt
    limited_none limit (x ∷ ks) = tt
kept_limited limit p (k ∷ keys) (b ∷ bs) u = go (p k) (kept_limited limit p keys bs u.1)
  where
    go : (t : Bool) → AreLimited limit (kept_keys p keys) (kept_under p keys bs) → AreLimited limit (cond t (k ∷ kept_keys p keys) (kept_keys p keys)) (cond t (b ∷ kept_under p keys bs) (kept_under p keys bs))
    go true r = (u.0, r)
    go false r = r

all_kept : (P : Key → Type 0) (p : Key → Bool) (ks : List Key) → All P ks → All P (kept_keys p ks)
all_kept P p [] h = h
all_kept P p (k ∷ ks) h = go (p k) (all_kept P p ks (All-tail P k ks h))
  where
    go : (b : Bool) → All P (kept_keys p ks) → All P (cond b (k ∷ kept_keys p ks) (kept_keys p ks))
    go true r = All-cons P k (kept_keys p ks) (All-head P k ks h) r
    go false r = r

apart_kept : (a : Key) (p : Key → Bool) (ks : List Key) → AllByRecursion (λ y. key_eq a y ≡ false) ks → AllByRecursion (λ y. key_eq a y ≡ false) (kept_keys p ks)
apart_kept a p [] h = h
apart_kept a p (k ∷ ks) h = go (p k) (apart_kept a p ks h.1)
  where
    go : (b : Bool) → AllByRecursion (λ y. key_eq a y ≡ false) (kept_keys p ks) → AllByRecursion (λ y. key_eq a y ≡ false) (cond b (k ∷ kept_keys p ks) (kept_keys p ks))
    go true r = (h.0, r)
    go false r = r

distinct_kept : (p : Key → Bool) (ks : List Key) → IsDistinct key_eq ks → IsDistinct key_eq (kept_keys p ks)
unfolding IsDistinct
distinct_kept p [] h = h
distinct_kept p (k ∷ ks) h = go (p k) (distinct_kept p ks h.1)
  where
    go : (b : Bool) → IsDistinct key_eq (kept_keys p ks) → IsDistinct key_eq (cond b (k ∷ kept_keys p ks) (kept_keys p ks))
    go true r = (apart_kept k p ks h.0, r)
    go false r = r

-- what callers see of the subscriptions that stay
pub kept_stations : (p : Key → Bool) (limit : ℕ) (xs : List Consumer) (ss : List Subscription) (keys : List Key) (bs : List Backlog) (place : ℕ) → IsSound limit xs ss keys bs place →
    stations_of (kept_subscriptions p ss) (kept_under p keys bs) ≡ filter (λ x. p x.key) (stations_of ss bs)
kept_stations p limit xs ss keys bs place h =
    subst (λ (ks : List Key). stations_of (kept_subscriptions p ss) (kept_under p ks bs) ≡ filter (λ x. p x.key) (stations_of ss bs)) h.same (kept_both p ss bs)

-- what every core keeps, where some go
pub sound_kept : (p : Key → Bool) (limit : ℕ) (xs : List Consumer) (ss : List Subscription) (keys : List Key) (bs : List Backlog) (place : ℕ) → IsSound limit xs ss keys bs place →
    IsSound limit xs (kept_subscriptions p ss) (kept_keys p keys) (kept_under p keys bs) place
sound_kept p limit xs ss keys bs place h = record {
  same = kept_same p ss ∙ ap (kept_keys p) h.same;
  number = subst (λ (ks : List Key). length (kept_under p ks bs) ≡ length (kept_subscriptions p ss)) h.same (kept_number p ss bs h.number);
  once = distinct_kept p keys h.once;
  made = all_kept (IsOfSubscription xs) p keys h.made;
  own = h.own;
  limited = kept_limited limit p keys bs h.limited;
  accepted = subst HoldsAccepted (sym (kept_stations p limit xs ss keys bs place h)) (kept_hold (λ x. p x.key) (stations_of ss bs) h.accepted);
  places = h.places;
}

-- ---- all but one key

stays_keys : (k : Key) (keys : List Key) → All (λ x. key_eq x k ≡ false) keys → keys ≡ kept_keys (is_other k) keys
stays_keys k [] h = refl
stays_keys k (y ∷ keys) h =
    let e : key_eq y k ≡ false = All-head (λ x. key_eq x k ≡ false) y keys h in
    rw e (ap (λ ys. y ∷ ys) (stays_keys k keys (All-tail (λ x. key_eq x k ≡ false) y keys h)))

stays_list : (k : Key) (keys : List Key) (list : List Backlog) → length keys ≡ length list → All (λ x. key_eq x k ≡ false) keys → list ≡ kept_under (is_other k) keys list
stays_list k [] [] n h = refl
stays_list k [] (b ∷ list) n h = absurd (omega (arith, n))
stays_list k (y ∷ keys) [] n h = absurd (omega (arith, n))
stays_list k (y ∷ keys) (b ∷ list) n h =
    let e : key_eq y k ≡ false = All-head (λ x. key_eq x k ≡ false) y keys h in
    rw e (ap (λ bs. b ∷ bs) (stays_list k keys list (omega (arith, n)) (All-tail (λ x. key_eq x k ≡ false) y keys h)))

-- the keys that stand apart from one are other than an equal one
others_of : (y k : Key) (keys : List Key) → key_eq y k ≡ true → AllByRecursion (λ z. key_eq y z ≡ false) keys → All (λ x. key_eq x k ≡ false) keys
others_of y k [] e h = All-nil (λ x. key_eq x k ≡ false)
others_of y k (z ∷ keys) e h = All-cons (λ x. key_eq x k ≡ false) z keys (ap (key_eq z) (sym (key_same y k e)) ∙ key_sym z y ∙ h.0) (others_of y k keys e h.1)

keys_at : (k : Key) (keys : List Key) (i : ℕ) → IsDistinct key_eq keys → position_or_len (λ x. key_eq x k) keys ≡ i → i < length keys → remove keys i ≡ kept_keys (is_other k) keys
unfolding IsDistinct
keys_at k [] i h e l = absurd (omega (arith, l))
keys_at k (y ∷ keys) zero h e l = go (key_eq y k) refl
  where
    go : (t : Bool) → key_eq y k ≡ t → keys ≡ cond (not t) (y ∷ kept_keys (is_other k) keys) (kept_keys (is_other k) keys)
    go true t = stays_keys k keys (others_of y k keys t h.0)
    go false t = absurd (omega (arith, rw t at e))
keys_at k (y ∷ keys) (suc i) h e l = go (key_eq y k) refl (keys_at k keys i h.1)
  where
    go : (t : Bool) → key_eq y k ≡ t → (position_or_len (λ x. key_eq x k) keys ≡ i → i < length keys → remove keys i ≡ kept_keys (is_other k) keys) → y ∷ remove keys i ≡ cond (not t) (y ∷ kept_keys (is_other k) keys) (kept_keys (is_other k) keys)
    go true t rest = absurd (omega (arith, rw t at e))
    go false t rest = ap (λ ys. y ∷ ys) (rest (omega (arith, rw t at e)) (omega (arith, l)))

list_at : (k : Key) (keys : List Key) (list : List Backlog) (i : ℕ) → length keys ≡ length list → IsDistinct key_eq keys → position_or_len (λ x. key_eq x k) keys ≡ i → i < length keys → remove list i ≡ kept_under (is_other k) keys list
unfolding IsDistinct
list_at k [] list i n h e l = absurd (omega (arith, l))
list_at k (y ∷ keys) [] i n h e l = absurd (omega (arith, n))
list_at k (y ∷ keys) (b ∷ list) zero n h e l = go (key_eq y k) refl
  where
    go : (t : Bool) → key_eq y k ≡ t → list ≡ cond (not t) (b ∷ kept_under (is_other k) keys list) (kept_under (is_other k) keys list)
    go true t = stays_list k keys list (omega (arith, n)) (others_of y k keys t h.0)
    go false t = absurd (omega (arith, rw t at e))
list_at k (y ∷ keys) (b ∷ list) (suc i) n h e l = go (key_eq y k) refl (list_at k keys list i (omega (arith, n)) h.1)
  where
    go : (t : Bool) → key_eq y k ≡ t → (position_or_len (λ x. key_eq x k) keys ≡ i → i < length keys → remove list i ≡ kept_under (is_other k) keys list) → b ∷ remove list i ≡ cond (not t) (b ∷ kept_under (is_other k) keys list) (kept_under (is_other k) keys list)
    go true t rest = absurd (omega (arith, rw t at e))
    go false t rest = ap (λ bs. b ∷ bs) (rest (omega (arith, rw t at e)) (omega (arith, l)))

-- a key that stands there goes, with what is held under it
pub keys_removed : (k : Key) (keys : List Key) (i : ℕ) → IsDistinct key_eq keys → Some i ≡ index_in keys k → remove keys i ≡ kept_keys (is_other k) keys
keys_removed k keys i h e = let at = found_at (λ x. key_eq x k) keys i (sym e) in keys_at k keys i h at.0 at.1

pub list_removed : (k : Key) (keys : List Key) (list : List Backlog) (i : ℕ) → length keys ≡ length list → IsDistinct key_eq keys → Some i ≡ index_in keys k → remove list i ≡ kept_under (is_other k) keys list
list_removed k keys list i n h e = let at = found_at (λ x. key_eq x k) keys i (sym e) in list_at k keys list i n h at.0 at.1

-- a key that stands nowhere leaves all as it is
none_there : (k : Key) (keys : List Key) → None ≡ index_in keys k → All (λ x. key_eq x k ≡ false) keys
none_there k keys e = fails_all (λ x. key_eq x k) keys (found_none (λ x. key_eq x k) keys (sym e))

pub keys_stay : (k : Key) (keys : List Key) → None ≡ index_in keys k → keys ≡ kept_keys (is_other k) keys
keys_stay k keys e = stays_keys k keys (none_there k keys e)

pub list_stays : (k : Key) (keys : List Key) (list : List Backlog) → length keys ≡ length list → None ≡ index_in keys k → list ≡ kept_under (is_other k) keys list
list_stays k keys list n e = stays_list k keys list n (none_there k keys e)

-- ---- a key that is gone

-- a key stands not among the others
pub others_apart : (k : Key) (keys : List Key) → All (λ x. key_eq x k ≡ false) (kept_keys (is_other k) keys)
others_apart k [] = All-nil (λ x. key_eq x k ≡ false)
others_apart k (y ∷ keys) = go (key_eq y k) refl (others_apart k keys)
  where
    go : (b : Bool) → key_eq y k ≡ b → All (λ x. key_eq x k ≡ false) (kept_keys (is_other k) keys) → All (λ x. key_eq x k ≡ false) (cond (not b) (y ∷ kept_keys (is_other k) keys) (kept_keys (is_other k) keys))
    go true e r = r
    go false e r = All-cons (λ x. key_eq x k ≡ false) y (kept_keys (is_other k) keys) e r

past_all : {A : Type 0} (p : A → Bool) (xs : List A) → All (λ x. p x ≡ false) xs → position_or_len p xs ≡ length xs
past_all p [] h = refl
past_all p (x ∷ xs) h =
    let e : p x ≡ false = All-head (λ x. p x ≡ false) x xs h in
    let rest = past_all p xs (All-tail (λ x. p x ≡ false) x xs h) in
    rw e (omega (arith, rest))

pub found_nowhere : {A : Type 0} (p : A → Bool) (xs : List A) → All (λ x. p x ≡ false) xs → position p xs ≡ None
found_nowhere p xs h = go (position_or_len p xs) (length xs) (past_all p xs h) (nat_lt (position_or_len p xs) (length xs)) refl
  where
    go : (n m : ℕ) → n ≡ m → (b : Bool) → nat_lt n m ≡ b → cond b (Some n) None ≡ None
    go n m e true f = absurd (let less : n < m = grind (arith, nat_tests) in omega (arith, e, less))
    go n m e false f = refl

pub key_gone : (k : Key) (keys : List Key) → index_in (kept_keys (is_other k) keys) k ≡ None
key_gone k keys = found_nowhere (λ x. key_eq x k) (kept_keys (is_other k) keys) (others_apart k keys)
