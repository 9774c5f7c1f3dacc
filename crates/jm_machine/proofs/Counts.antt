-- The number at each key after one more, and after one less.
use Rattle.std.proofs.Common.{◌≡◌, ◌+◌, ◌-◌, ◌≤◌, ◌<◌, ℕ, zero, suc, Bool, true, false, cond, List, [], ◌∷◌, length, take, filter, get_or, Option, None, Some, Result, Ok, Err, OnOk, IsOk, refl, sym, ap, ◌∙◌, arith}
use Rattle.std.specs.Prelude.{unwrap_or, if◌then◌else◌}
use Rattle.std.specs.Map.{lookup}
use Rattle.std.proofs.lemmas.List.Filters.{length-filter_more}
use Rattle.jm_dest.specs.declared.key.Key.{Key}
use Rattle.jm_dest.specs.Keys.{key_eq}
use Rattle.jm_machine.specs.declared.state.Consumer.{Consumer}
use Rattle.jm_machine.specs.Attached.{Counts, AreCounted, is_at, is_named, number_at}
use Rattle.jm_machine.proofs.Keys.{key_same, set_eq, set_is}

-- a request that was granted has what it promised
pub granted : {T E P : Type 0} (r : Result T E) → IsOk r → OnOk r P → P
granted (Ok x) ok h = h
granted (Err x) ok h = cc

-- what is found is found by either test
found : (key : Key) (entries : List (Key × ℕ)) → lookup (set_eq key) entries ≡ lookup (key_eq key) entries
found key entries = λ i. lookup (λ k. set_is key k i) entries

-- n is noted at the key, and each other stays
abbrev pub Notes : List (Key × ℕ) → List (Key × ℕ) → Key → Option ℕ → Type 0
Notes old new key n = (k : Key) → lookup (set_eq k) new ≡ cond (set_eq key k) n (lookup (set_eq k) old)

noted : (old new : List (Key × ℕ)) (key : Key) (n : Option ℕ) → Notes old new key n → (k : Key) → lookup (key_eq k) new ≡ cond (key_eq key k) n (lookup (key_eq k) old)
noted old new key n h k = sym (found k new) ∙ h k ∙ (λ i. cond (set_is key k i) n (found k old i))

-- the number at a key among the entries
abbrev pub held : List (Key × ℕ) → Key → ℕ
held entries key = unwrap_or (lookup (key_eq key) entries) 0

pub one_more : (old new : List (Key × ℕ)) (key : Key) (n : ℕ) → n ≡ held old key + 1 → Notes old new key (Some n) → (k : Key) → held new k ≡ held old k + (if key_eq key k then 1 else 0)
one_more old new key n next h k = ap (λ o. unwrap_or o 0) (noted old new key (Some n) h k) ∙ go (key_eq key k) refl
  where
    go : (b : Bool) → key_eq key k ≡ b → unwrap_or (cond b (Some n) (lookup (key_eq k) old)) 0 ≡ held old k + (if b then 1 else 0)
    go true e = next ∙ ap (λ x. held old x + 1) (key_same key k e)
    go false e = omega arith

-- where nothing is found, none is held
pub none_held : (entries : List (Key × ℕ)) (key : Key) → lookup (set_eq key) entries ≡ None → held entries key ≡ 0
none_held entries key none = ap (λ o. unwrap_or o 0) (sym (found key entries) ∙ none)

-- and else what is found
pub some_held : (entries : List (Key × ℕ)) (key : Key) (n : ℕ) → lookup (set_eq key) entries ≡ Some n → held entries key ≡ n
some_held entries key n some = ap (λ o. unwrap_or o 0) (sym (found key entries) ∙ some)

-- the number at the key is one less, where it was noted
pub one_less : (old new : List (Key × ℕ)) (key : Key) (n : ℕ) → n ≡ held old key - 1 → Notes old new key (Some n) → (k : Key) → held new k ≡ held old k - (if key_eq key k then 1 else 0)
one_less old new key n next h k = ap (λ o. unwrap_or o 0) (noted old new key (Some n) h k) ∙ go (key_eq key k) refl
  where
    go : (b : Bool) → key_eq key k ≡ b → unwrap_or (cond b (Some n) (lookup (key_eq k) old)) 0 ≡ held old k - (if b then 1 else 0)
    go true e = next ∙ ap (λ x. held old x - 1) (key_same key k e)
    go false e = omega arith

-- the last one at the key goes
pub none_left : (old new : List (Key × ℕ)) (key : Key) → held old key ≤ 1 → Notes old new key None → (k : Key) → held new k ≡ held old k - (if key_eq key k then 1 else 0)
none_left old new key few h k = ap (λ o. unwrap_or o 0) (noted old new key None h k) ∙ go (key_eq key k) refl
  where
    go : (b : Bool) → key_eq key k ≡ b → unwrap_or (cond b None (lookup (key_eq k) old)) 0 ≡ held old k - (if b then 1 else 0)
    go true e = let most : held old k ≤ 1 = rw (← ap (held old) (key_same key k e)) few in omega (arith, most)
    go false e = omega arith

-- each next consumer is counted where it is active
pub counted_more : (consumers : List Consumer) (i : ℕ) (x : Consumer) (old new : Counts) → i < length consumers → x ≡ get_or consumers i x → AreCounted (take i consumers) old →
    ((key : Key) → is_named key ≡ true → number_at new key ≡ number_at old key + (if is_at key x then 1 else 0)) → AreCounted (take (i + 1) consumers) new
counted_more consumers i x old new within is h more = λ key named.
    more key named
    ∙ (λ j. h key named j + (if is_at key (is j) then 1 else 0))
    ∙ sym (length-filter_more (is_at key) consumers i x within)

-- as many as there are consumers at most
pub counted_few : (consumers : List Consumer) (i : ℕ) (counts : Counts) → i ≤ length consumers → AreCounted (take i consumers) counts → (key : Key) → is_named key ≡ true → number_at counts key ≤ i
counted_few consumers i counts within h key named = omega (arith, h key named, few (is_at key) i consumers within)
  where
    few : (p : Consumer → Bool) (i : ℕ) (xs : List Consumer) → i ≤ length xs → length (filter p (take i xs)) ≤ i
    few p zero xs le = omega arith
    few p (suc i) [] le = omega arith
    few p (suc i) (x ∷ xs) le = let rest = few p i xs (omega (arith, le)) in by (p x) rest
      where
        by : (b : Bool) → length (filter p (take i xs)) ≤ i → length (cond b (x ∷ filter p (take i xs)) (filter p (take i xs))) ≤ suc i
        by true r = omega (arith, r)
        by false r = omega (arith, r)
