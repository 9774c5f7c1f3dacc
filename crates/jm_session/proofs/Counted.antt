-- How the numbers of active consumers follow the consumers.
use Rattle.std.proofs.Common.{◌≡◌, ◌≤◌, ◌<◌, ◌+◌, ℕ, zero, suc, length, length-append, Bool, true, false, cond, List, [], ◌∷◌, ◌++◌, Some, None, refl, sym, ap, ◌∙◌, arith}
use Rattle.std.specs.Prelude.{◌==◌, ◌&&◌, not, filter, slice_get, unwrap_or}
use Rattle.std.proofs.lemmas.Bool.Decides.{nat_tests}
use Rattle.std.specs.List.{list_any}
use Rattle.std.specs.Map.{values_of}
use Rattle.indexmap.specs.IndexMap.{set_value_at}
use Rattle.jm_dest.specs.declared.session.SessionId.{SessionId}
use Rattle.jm_dest.specs.declared.key.Key.{Key}
use Rattle.jm_dest.specs.declared.key.Key.TheVariants.{Own, SharedOwn, Durable, Queue}
use Rattle.jm_dest.specs.Keys.{key_eq}
use Rattle.jm_machine.specs.declared.state.Consumer.{Consumer}
use Rattle.jm_machine.specs.Attached.{AreCounted, Counts, active_at, is_at, is_named, number_at}
use Rattle.jm_machine.specs.Machine.{closed_consumer, shut}
use Rattle.jm_session.specs.Sources.{IsFollowed, counted_as, one_at}

-- those of a list are those of its first, and of the rest
active_first : (key : Key) (x : Consumer) (xs : List Consumer) → active_at key (x ∷ xs) ≡ one_at key x + active_at key xs
active_first key x xs = go (is_at key x)
  where
    go : (b : Bool) → length (cond b (x ∷ filter (is_at key) xs) (filter (is_at key) xs)) ≡ cond b 1 0 + active_at key xs
    go true = omega arith
    go false = omega arith

-- no more are active than there are
pub active_within : (key : Key) (xs : List Consumer) → active_at key xs ≤ length xs
active_within key [] = omega arith
active_within key (x ∷ xs) = omega (arith, active_first key x xs, few (is_at key x), active_within key xs)
  where
    few : (b : Bool) → cond b 1 0 ≤ 1
    few true = omega arith
    few false = omega arith

-- one more stands last
pub active_more : (key : Key) (xs : List Consumer) (x : Consumer) → active_at key (xs ++ x ∷ []) ≡ active_at key xs + one_at key x
active_more key [] x = active_first key x [] ∙ omega arith
active_more key (y ∷ ys) x = omega (arith, active_first key y (ys ++ x ∷ []), active_first key y ys, active_more key ys x)

-- one consumer in the place of another
active_set : {K : Type 0} (key : Key) (w v : Consumer) (entries : List (K × Consumer)) (at : ℕ) → slice_get (values_of entries) at ≡ Some v →
    active_at key (values_of (set_value_at entries at w)) + one_at key v ≡ active_at key (values_of entries) + one_at key w
active_set key w v [] at there = cc
active_set key w v (e ∷ entries) zero there =
    let same : one_at key e.1 ≡ one_at key v = ap (λ o. one_at key (unwrap_or o v)) there in
    omega (arith, same, active_first key w (values_of entries), active_first key e.1 (values_of entries))
active_set key w v (e ∷ entries) (suc at) there =
    omega (arith, active_set key w v entries at there, active_first key e.1 (values_of (set_value_at entries at w)), active_first key e.1 (values_of entries))

-- where one consumer closes and the numbers follow, they are those of the consumers
pub counted_set : {K : Type 0} (entries : List (K × Consumer)) (at : ℕ) (v w : Consumer) (old new : Counts) → slice_get (values_of entries) at ≡ Some v → ((key : Key) → one_at key w ≤ one_at key v) →
    IsFollowed v w old new → AreCounted (values_of entries) old → AreCounted (values_of (set_value_at entries at w)) new
counted_set entries at v w old new there less followed counted = λ key named.
    omega (arith, followed key named, counted key named, active_set key w v entries at there, less key)

-- the last of two fails
and_none : (b : Bool) → (b && false) ≡ false
and_none true = refl
and_none false = refl

-- where one consumer is marked, and is counted as before, the numbers stay those of the consumers
pub counted_marked : {K : Type 0} (entries : List (K × Consumer)) (at : ℕ) (v w : Consumer) (counts : Counts) → slice_get (values_of entries) at ≡ Some v → ((key : Key) → one_at key w ≡ one_at key v) →
    AreCounted (values_of entries) counts → AreCounted (values_of (set_value_at entries at w)) counts
counted_marked entries at v w counts there same counted = λ key named. omega (arith, counted key named, active_set key w v entries at there, same key)

-- a closed consumer is active at no key
pub one_ended : (x : Consumer) (key : Key) → one_at key (shut x) ≡ 0
one_ended x key = ap (λ b. cond b 1 0) (and_none (key_eq x.key key))

pub ended_less : (x : Consumer) (key : Key) → one_at key (shut x) ≤ one_at key x
ended_less x key = omega (arith, one_ended x key)

-- a consumer that may have closed is active at no more keys
pub closed_less : (p : SessionId → ℕ → Bool) (x : Consumer) (key : Key) → one_at key (closed_consumer p x) ≤ one_at key x
closed_less p x key = go (p x.session x.id)
  where
    go : (b : Bool) → one_at key (cond b (shut x) x) ≤ one_at key x
    go true = ended_less x key
    go false = omega arith

-- a key that has a name is none that has not
named_apart : (a b : Key) → is_named a ≡ false → is_named b ≡ true → key_eq a b ≡ false
named_apart (Queue a) (SharedOwn k n) h g = refl
named_apart (Queue a) (Durable k n) h g = refl
named_apart (Own s c) (SharedOwn k n) h g = refl
named_apart (Own s c) (Durable k n) h g = refl
named_apart (SharedOwn k n) b h g = cc
named_apart (Durable k n) b h g = cc
named_apart a (Queue b) h g = cc
named_apart a (Own s c) h g = cc

-- a consumer of a key without a name is counted nowhere
pub one_unnamed : (x : Consumer) (key : Key) → is_named x.key ≡ false → is_named key ≡ true → one_at key x ≡ 0
one_unnamed x key h g = ap (λ b. cond (b && x.is_active) 1 0) (named_apart x.key key h g)

-- one that is active is counted where its key is
pub one_active : (x : Consumer) (key : Key) → x.is_active ≡ true → one_at key x ≡ cond (key_eq x.key key) 1 0
one_active x key active = ap (λ b. cond (key_eq x.key key && b) 1 0) active ∙ ap (λ b. cond b 1 0) (and_all (key_eq x.key key))
  where
    and_all : (b : Bool) → (b && true) ≡ b
    and_all true = refl
    and_all false = refl

-- one that is not is counted nowhere
pub one_inactive : (x : Consumer) (key : Key) → x.is_active ≡ false → one_at key x ≡ 0
one_inactive x key none = ap (λ b. cond (key_eq x.key key && b) 1 0) none ∙ ap (λ b. cond b 1 0) (and_none (key_eq x.key key))

-- more than none
some : (n : ℕ) → (suc n == 0) ≡ false
some n = grind (arith, nat_tests)

-- no consumer of the key is active where there are none of those
pub idle : (key : Key) (xs : List Consumer) → (active_at key xs == 0) ≡ not (list_any (λ x. x.is_active) (filter (λ x. key_eq x.key key) xs))
idle key [] = refl
idle key (x ∷ xs) = go (key_eq x.key key) x.is_active refl refl (idle key xs)
  where
    go : (a b : Bool) → key_eq x.key key ≡ a → x.is_active ≡ b → (active_at key xs == 0) ≡ not (list_any (λ x. x.is_active) (filter (λ x. key_eq x.key key) xs)) →
        (active_at key (x ∷ xs) == 0) ≡ not (list_any (λ x. x.is_active) (filter (λ x. key_eq x.key key) (x ∷ xs)))
    go true true e f rest = rw (e, f) (some (length (filter (is_at key) xs)))
    go true false e f rest = rw (e, f) rest
    go false b e f rest = rw e rest

-- the key at which a consumer is counted is its own, and has a name
counted_own : (key k : Key) → counted_as key ≡ Some k → (is_named k ≡ true) × (key ≡ k)
counted_own key k is = go (is_named key) refl is
  where
    go : (b : Bool) → is_named key ≡ b → cond b (Some key) None ≡ Some k → (is_named k ≡ true) × (key ≡ k)
    go true e is = let same : key ≡ k = cc in (ap is_named (sym same) ∙ e, same)
    go false e is = cc

-- one that is counted at none has no name
counted_none : (key : Key) → counted_as key ≡ None → is_named key ≡ false
counted_none key is = go (is_named key) refl is
  where
    go : (b : Bool) → is_named key ≡ b → cond b (Some key) None ≡ None → b ≡ false
    go true e is = cc
    go false e is = refl

module _ (xs ys : List Consumer) (x : Consumer) (more : ys ≡ xs ++ x ∷ []) where
  -- how many have a key, where one more stands last
  active_last : (key : Key) → active_at key ys ≡ active_at key xs + one_at key x
  active_last key = ap (active_at key) more ∙ active_more key xs x

  -- one more that is active is counted
  pub counted_joined : (k : Key) (old new : Counts) → x.is_active ≡ true → counted_as x.key ≡ Some k → ((j : Key) → number_at new j ≡ number_at old j + cond (key_eq k j) 1 0) → AreCounted xs old → AreCounted ys new
  counted_joined k old new active is joins counted = λ key named.
      let one : one_at key x ≡ cond (key_eq k key) 1 0 = one_active x key active ∙ ap (λ j. cond (key_eq j key) 1 0) (counted_own x.key k is).1 in
      omega (arith, joins key, counted key named, active_last key, one)

  -- one more of a key without a name changes no number
  pub counted_still : (counts : Counts) → counted_as x.key ≡ None → AreCounted xs counts → AreCounted ys counts
  counted_still counts is counted = λ key named. omega (arith, counted key named, active_last key, one_unnamed x key (counted_none x.key is) named)

  -- there are fewer before than the length of a list may be
  pub counted_fits : (k : Key) (counts : Counts) (n : ℕ) → counted_as x.key ≡ Some k → AreCounted xs counts → length ys < n → number_at counts k + 1 < n
  counted_fits k counts n is counted less =
      omega (arith, counted k (counted_own x.key k is).0, active_within k xs, ap length more, length-append xs (x ∷ []), less)
