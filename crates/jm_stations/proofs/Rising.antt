-- Indexes that rise, and which are among them through each change.
use Rattle.std.proofs.Common.{◌≡◌, ◌≢◌, ◌+◌, ◌-◌, ◌<◌, ◌≤◌, ◌==◌, ◌||◌, ◌&&◌, ◌++◌, ℕ, zero, suc, List, [], ◌∷◌, length, get_or, map, Bool, true, false, not, cond, refl, ap, sym, subst, ◌∙◌, arith, inl, inr}
use Rattle.std.specs.Prelude.{nat_lt}
use Rattle.std.specs.List.{filter, insert}
use Rattle.std.proofs.lemmas.Bool.Decides.{nat_tests, eqb_tells}
use Rattle.std.proofs.lemmas.List.Edits.{length-insert}
use Rattle.std.proofs.lemmas.List.Folds.{list_any-append, list_any_at}
use Rattle.jm_stations.specs.Backlogs.{is_named}
use Rattle.jm_stations.specs.Outstanding.{AreRising, moved_up, moved_down}

-- there are no more of them than numbers
pub rising_few : (low high : ℕ) (is : List ℕ) → AreRising low high is → low + length is ≤ high
rising_few low high [] h = omega (arith, h)
rising_few low high (i ∷ is) h = omega (arith, h.0, rising_few (suc i) high is h.1)

-- a wider range
pub rising_wider : (low high low' high' : ℕ) (is : List ℕ) → low' ≤ low → high ≤ high' → AreRising low high is → AreRising low' high' is
rising_wider low high low' high' [] l g h = omega (arith, l, g, h)
rising_wider low high low' high' (i ∷ is) l g h = (omega (arith, l, h.0), rising_wider (suc i) high (suc i) high' is (omega arith) g h.1)

-- each is within the range
pub rising_from : (low high : ℕ) (is : List ℕ) → AreRising low high is → (k d : ℕ) → k < length is → low ≤ get_or is k d
rising_from low high [] h k d l = absurd (omega (arith, l))
rising_from low high (i ∷ is) h zero d l = h.0
rising_from low high (i ∷ is) h (suc k) d l = omega (arith, h.0, rising_from (suc i) high is h.1 k d (omega (arith, l)))

pub rising_below : (low high : ℕ) (is : List ℕ) → AreRising low high is → (k d : ℕ) → k < length is → get_or is k d < high
rising_below low high [] h k d l = absurd (omega (arith, l))
rising_below low high (i ∷ is) h zero d l = omega (arith, rising_few (suc i) high is h.1)
rising_below low high (i ∷ is) h (suc k) d l = rising_below (suc i) high is h.1 k d (omega (arith, l))

-- each is below the later ones
pub rising_order : (low high : ℕ) (is : List ℕ) → AreRising low high is → (j k : ℕ) → j < k → k < length is → get_or is j 0 < get_or is k 0
rising_order low high [] h j k lt l = absurd (omega (arith, l))
rising_order low high (i ∷ is) h j zero lt l = absurd (omega (arith, lt))
rising_order low high (i ∷ is) h zero (suc k) lt l = rising_from (suc i) high is h.1 k 0 (omega (arith, l))
rising_order low high (i ∷ is) h (suc j) (suc k) lt l = rising_order (suc i) high is h.1 j k (omega (arith, lt)) (omega (arith, l))

-- one comes between
pub rising_insert : (low high at i : ℕ) (is : List ℕ) → AreRising low high is → at ≤ length is → low ≤ i → i < high → ((k : ℕ) → k < at → get_or is k 0 < i) → ((k : ℕ) → at ≤ k → k < length is → i < get_or is k 0) → AreRising low high (insert is at i)
rising_insert low high zero i [] h l from below before behind = (from, below)
rising_insert low high zero i (j ∷ js) h l from below before behind = (from, (behind 0 (omega arith) (omega arith), h.1))
rising_insert low high (suc at) i [] h l from below before behind = absurd (omega (arith, l))
rising_insert low high (suc at) i (j ∷ js) h l from below before behind =
    (h.0, rising_insert (suc j) high at i js h.1 (omega (arith, l)) (before 0 (omega arith)) below (λ k lt. before (suc k) (omega (arith, lt))) (λ k le lt. behind (suc k) (omega (arith, le)) (omega (arith, lt))))

-- one comes behind all
pub rising_push : (low high i : ℕ) (is : List ℕ) → AreRising low high is → high ≤ i → AreRising low (suc i) (is ++ i ∷ [])
rising_push low high i [] h l = (omega (arith, h, l), omega arith)
rising_push low high i (j ∷ js) h l = (h.0, rising_push (suc j) high i js h.1 l)

-- one goes
pub rising_drop : (low high i : ℕ) (xs ys : List ℕ) → AreRising low high (xs ++ i ∷ ys) → AreRising low high (xs ++ ys)
rising_drop low high i [] ys h = rising_wider (suc i) high low high ys (omega (arith, h.0)) (omega arith) h.1
rising_drop low high i (x ∷ xs) ys h = (h.0, rising_drop (suc x) high i xs ys h.1)

-- those that pass
pub rising_filter : (low high : ℕ) (p : ℕ → Bool) (is : List ℕ) → AreRising low high is → AreRising low high (filter p is)
rising_filter low high p [] h = h
rising_filter low high p (i ∷ is) h = go (p i) (rising_filter (suc i) high p is h.1)
  where
    go : (b : Bool) → AreRising (suc i) high (filter p is) → AreRising low high (cond b (i ∷ filter p is) (filter p is))
    go true rest = (h.0, rest)
    go false rest = rising_wider (suc i) high low high (filter p is) (omega (arith, h.0)) (omega arith) rest

-- the gap of one that went is closed
shifted : (low high index : ℕ) (is : List ℕ) → index ≤ low → AreRising (suc low) (suc high) is → AreRising low high (map (moved_up index) (filter (λ j. not (j == index)) is))
shifted low high index [] le h = omega (arith, h)
shifted low high index (j ∷ js) le h =
    let there : (j == index) ≡ false = grind (arith, nat_tests, h.0) in
    let above : nat_lt index j ≡ true = grind (arith, nat_tests, h.0) in
    let same : suc (j - 1) ≡ j = omega (arith, h.0) in
    let rest = shifted j high index js (omega (arith, le, h.0)) h.1 in
    rw (there, above) (omega (arith, h.0), rw same rest)

pub rising_gap : (low high index : ℕ) (is : List ℕ) → AreRising low (suc high) is → low ≤ index → index ≤ high → AreRising low high (map (moved_up index) (filter (λ j. not (j == index)) is))
rising_gap low high index [] h l g = omega (arith, l, g)
rising_gap low high index (j ∷ js) h l g = go (nat_lt index j) (j == index) refl refl (λ lt. rising_gap (suc j) high index js h.1 lt g)
  where
    go : (b e : Bool) → nat_lt index j ≡ b → (j == index) ≡ e → (suc j ≤ index → AreRising (suc j) high (map (moved_up index) (filter (λ j. not (j == index)) js))) → AreRising low high (map (moved_up index) (filter (λ j. not (j == index)) (j ∷ js)))
    go b true above there rest =
        let same : j ≡ index = grind (arith, nat_tests, there) in
        rw there (rising_wider index high low high (map (moved_up index) (filter (λ j. not (j == index)) js)) l (omega arith) (shifted index high index js (omega arith) (rw same at h.1)))
    go true false above there rest =
        let lt : index < j = grind (arith, nat_tests, above) in
        let same : suc (j - 1) ≡ j = omega (arith, lt) in
        rw (there, above) (omega (arith, lt, l), rw same (shifted j high index js (omega (arith, lt)) h.1))
    go false false above there rest =
        let lt : j < index = grind (arith, nat_tests, above, there) in
        rw (there, above) (h.0, rest (omega (arith, lt)))

-- which are named, once one more comes
pub named_insert : (at i k : ℕ) (is : List ℕ) → at ≤ length is → is_named (insert is at i) k ≡ (is_named is k || (i == k))
named_insert zero i k is l = swapped (i == k) (is_named is k)
  where
    swapped : (a b : Bool) → (a || b) ≡ (b || a)
    swapped true true = refl
    swapped true false = refl
    swapped false true = refl
    swapped false false = refl
named_insert (suc at) i k [] l = absurd (omega (arith, l))
named_insert (suc at) i k (j ∷ js) l = ap (λ b. (j == k) || b) (named_insert at i k js (omega (arith, l))) ∙ joined (j == k) (is_named js k) (i == k)
  where
    joined : (a b c : Bool) → (a || (b || c)) ≡ ((a || b) || c)
    joined true b c = refl
    joined false b c = refl

-- where it was there already
pub named_there : (at i k : ℕ) (is : List ℕ) → at < length is → get_or is at 0 ≡ i → is_named is k ≡ (is_named is k || (i == k))
named_there at i k is l e = go (i == k) refl
  where
    either : (a : Bool) → a ≡ (a || false)
    either true = refl
    either false = refl

    go : (b : Bool) → (i == k) ≡ b → is_named is k ≡ (is_named is k || b)
    go true same = let there : is_named is k ≡ true = list_any_at (λ j. j == k) is at 0 l (rw e same) in rw there refl
    go false same = either (is_named is k)

-- once one is out
pub named_filter : (i k : ℕ) (is : List ℕ) → is_named (filter (λ j. not (j == i)) is) k ≡ (is_named is k && not (k == i))
named_filter i k [] = refl
named_filter i k (j ∷ js) = go (j == i) (j == k) (k == i) refl refl refl (named_filter i k js)
  where
    nothing : (b : Bool) → (b && false) ≡ false
    nothing true = refl
    nothing false = refl

    go : (a b c : Bool) → (j == i) ≡ a → (j == k) ≡ b → (k == i) ≡ c → is_named (filter (λ j. not (j == i)) js) k ≡ (is_named js k && not (k == i)) → is_named (cond (not a) (j ∷ filter (λ j. not (j == i)) js) (filter (λ j. not (j == i)) js)) k ≡ (((j == k) || is_named js k) && not (k == i))
    go true true true ea eb ec rest = rw (eb, ec) (rest ∙ rw ec (nothing (is_named js k)))
    go true true false ea eb ec rest = absurd (grind (arith, nat_tests, ea, eb, ec))
    go true false c ea eb ec rest = rw eb rest
    go false true true ea eb ec rest = absurd (grind (arith, nat_tests, ea, eb, ec))
    go false true false ea eb ec rest = rw (eb, ec) refl
    go false false c ea eb ec rest = rw eb rest

-- once the gap is closed
pub named_gap : (i k : ℕ) (is : List ℕ) → is_named (map (moved_up i) (filter (λ j. not (j == i)) is)) k ≡ is_named is (moved_down i k)
named_gap i k [] = refl
named_gap i k (j ∷ js) = go (j == i) refl (named_gap i k js)
  where
    here : (j == i) ≡ true → (j == moved_down i k) ≡ false
    here e = grind (arith, nat_tests, e)

    there : (j == i) ≡ false → (moved_up i j == k) ≡ (j == moved_down i k)
    there e = grind (arith, nat_tests, e)

    go : (a : Bool) → (j == i) ≡ a → is_named (map (moved_up i) (filter (λ j. not (j == i)) js)) k ≡ is_named js (moved_down i k) → is_named (map (moved_up i) (cond (not a) (j ∷ filter (λ j. not (j == i)) js) (filter (λ j. not (j == i)) js))) k ≡ ((j == moved_down i k) || is_named js (moved_down i k))
    go true e rest = rest ∙ ap (λ b. b || is_named js (moved_down i k)) (sym (here e))
    go false e rest = rw (there e, rest) refl

-- one goes of which it is known that it is another
pub named_drop : (i k : ℕ) (xs ys : List ℕ) → k ≢ i → is_named (xs ++ ys) k ≡ false → is_named (xs ++ i ∷ ys) k ≡ false
named_drop i k xs ys ne h =
    let apart : (i == k) ≡ false = grind (arith, nat_tests, ne) in
    rw (list_any-append (λ j. j == k) xs (i ∷ ys), apart) (rw (list_any-append (λ j. j == k) xs ys) at h)

pub named_push : (i k : ℕ) (xs : List ℕ) → is_named (xs ++ i ∷ []) k ≡ (is_named xs k || (i == k))
named_push i k xs = rw (list_any-append (λ j. j == k) xs (i ∷ [])) (ap (λ b. is_named xs k || b) (alone (i == k)))
  where
    alone : (b : Bool) → (b || false) ≡ b
    alone true = refl
    alone false = refl

-- where one that comes is among them, there is room for it
pub rising_room : (high at i : ℕ) (is : List ℕ) → at ≤ length is → AreRising 0 high (insert is at i) → length is < high
rising_room high at i is l h = omega (arith, rising_few 0 high (insert is at i) h, length-insert is at i l)

-- one that is not there comes where it belongs
pub rising_between : (number at index : ℕ) (is : List ℕ) → AreRising 0 number is → index < number → at ≤ length is → ((k : ℕ) → k < at → get_or is k 0 < index) → ((k : ℕ) → at ≤ k → k < length is → index ≤ get_or is k 0) → (at < length is → get_or is at 0 ≢ index) → AreRising 0 number (insert is at index)
rising_between number at index is h within l before behind apart =
    rising_insert 0 number at index is h l (omega arith) within before (λ k le lt. elim (eqb_tells k at) [
      | inl same ↦ subst (λ (j : ℕ). index < get_or is j 0) (sym same.1) (here (omega (arith, le, lt)))
      | inr ne ↦ later k (omega (arith, le, ne.1)) lt
    ])
  where
    here : at < length is → index < get_or is at 0
    here lt = let le : index ≤ get_or is at 0 = behind at (omega arith) lt in let ne : get_or is at 0 ≢ index = apart lt in omega (arith, le, ne)

    later : (k : ℕ) → at < k → k < length is → index < get_or is k 0
    later k lt l = let le : index ≤ get_or is at 0 = behind at (omega arith) (omega (arith, lt, l)) in let less = rising_order 0 number is h at k lt l in omega (arith, le, less)

-- what comes before one that is lower, and behind one that is not
pub half_before : (high index middle : ℕ) (is : List ℕ) → AreRising 0 high is → middle < length is → get_or is middle 0 < index → (k : ℕ) → k < middle + 1 → get_or is k 0 < index
half_before high index middle is h l lt k le = elim (eqb_tells k middle) [
  | inl same ↦ subst (λ (j : ℕ). get_or is j 0 < index) (sym same.1) lt
  | inr ne ↦ let less = rising_order 0 high is h k middle (omega (arith, le, ne.1)) l in omega (arith, less, lt)
]

pub half_behind : (high index middle : ℕ) (is : List ℕ) → AreRising 0 high is → middle < length is → index ≤ get_or is middle 0 → (k : ℕ) → middle ≤ k → k < length is → index ≤ get_or is k 0
half_behind high index middle is h l ge k le lt = elim (eqb_tells k middle) [
  | inl same ↦ subst (λ (j : ℕ). index ≤ get_or is j 0) (sym same.1) ge
  | inr ne ↦ let less = rising_order 0 high is h middle k (omega (arith, le, ne.1)) lt in omega (arith, less, ge)
]
