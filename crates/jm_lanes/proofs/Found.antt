-- The first row that a test finds in all lanes, and its lane.
use Rattle.std.proofs.Common.{◌≡◌, ◌≢◌, ℕ, ◌+◌, ◌-◌, ◌<◌, ◌≤◌, List, [], ◌∷◌, ◌++◌, length, get_or, set, take, drop, true, false, Bool, cond, Option, Some, None, refl, ap, sym, subst, ◌∙◌, arith, suc, zero, ◌⊎◌, inl, inr, is_some}
use Rattle.std.specs.List.{filter, find, All}
use Rattle.std.specs.Option.{IsSome}
use Rattle.std.proofs.lemmas.List.{length-set, get_or-set_same, get_or-set_other, take_more, take-append-drop, drop_more, get_or-take, get_or-drop, length-take, length-drop, append-nil, get_or_default, length-append}
use Rattle.std.proofs.lemmas.Grind.{flat_map-append}
use Rattle.std.proofs.lemmas.Bool.{eq-eqb, ne_eqb}
use Rattle.std.proofs.lemmas.List.Elements.{All-cons, All-nil, filter-append}
use Rattle.std.proofs.lemmas.Bool.Decides.{eqb_tells, leb_tells}
use Rattle.jm_lane.specs.declared.row.Row.{Row}
use Rattle.jm_lane.specs.Lanes.{Lane, is_at}
use Rattle.jm_lanes.specs.Lanes.{Becomes, EachBecomes, all_rows, IsApart}
use Rattle.jm_lanes.proofs.Places.{all_front, all_back, apart_before, apart_behind, apart_tail}

pub none_of : {X : Type 0} (o : Option X) → is_some o ≡ false → o ≡ None
none_of None h = refl
none_of (Some x) h = absurd (cc)

-- where no row is found at a place, all are at others
pub none_found : (p : ℕ) (xs : List Row) → find (is_at p) xs ≡ None → All (λ (y : Row). y.place ≢ p) xs
none_found p [] h = All-nil (λ (y : Row). y.place ≢ p)
none_found p (x ∷ xs) h = elim (eqb_tells x.place p) [
  | inl s ↦ absurd (let here : find (is_at p) (x ∷ xs) ≡ Some x = rw (eq-eqb x.place p s.1) refl in cc)
  | inr n ↦ All-cons (λ (y : Row). y.place ≢ p) x xs n.1 (none_found p xs (rw (ne_eqb x.place p n.1) at h))
]

-- a row that is found at a place is there
pub found_place : (p : ℕ) (xs : List Row) (r : Row) → find (is_at p) xs ≡ Some r → r.place ≡ p
found_place p [] r h = absurd (cc)
found_place p (x ∷ xs) r h = elim (eqb_tells x.place p) [
  | inl s ↦
      let here : find (is_at p) (x ∷ xs) ≡ Some x = rw (eq-eqb x.place p s.1) refl in
      let is : x ≡ r = cc in
      rw (← is) s.1
  | inr n ↦ found_place p xs r (rw (ne_eqb x.place p n.1) at h)
]

pub find_past : (p : Row → Bool) (xs ys : List Row) → find p xs ≡ None → find p (xs ++ ys) ≡ find p ys
find_past p [] ys h = refl
find_past p (x ∷ xs) ys h = go (p x) (find_past p xs ys) h
  where
    go : (b : Bool) → (find p xs ≡ None → find p (xs ++ ys) ≡ find p ys) → cond b (Some x) (find p xs) ≡ None → cond b (Some x) (find p (xs ++ ys)) ≡ find p ys
    go true rec h = absurd (cc)
    go false rec h = rec h

pub find_within : (p : Row → Bool) (xs ys : List Row) → IsSome (find p xs) → find p (xs ++ ys) ≡ find p xs
find_within p [] ys h = absurd (cc)
find_within p (x ∷ xs) ys h = go (p x) (find_within p xs ys) h
  where
    go : (b : Bool) → (IsSome (find p xs) → find p (xs ++ ys) ≡ find p xs) → IsSome (cond b (Some x) (find p xs)) → cond b (Some x) (find p (xs ++ ys)) ≡ cond b (Some x) (find p xs)
    go true rec h = refl
    go false rec h = rec h

pub all_rows_more : (lanes : List Lane) (i : ℕ) (d : Lane) → i < length lanes → all_rows (take (i + 1) lanes) ≡ all_rows (take i lanes) ++ (get_or lanes i d).rows
all_rows_more lanes i d l =
    ap all_rows (take_more lanes i d l) ∙ flat_map-append (λ (l : Lane). l.rows) (take i lanes) (get_or lanes i d ∷ []) ∙ ap (λ zs. all_rows (take i lanes) ++ zs) (append-nil (get_or lanes i d).rows)

pub all_rows_split : (lanes : List Lane) (i : ℕ) (d : Lane) → i < length lanes → all_rows lanes ≡ all_rows (take i lanes) ++ ((get_or lanes i d).rows ++ all_rows (drop (i + 1) lanes))
all_rows_split lanes i d l =
    ap all_rows (sym (take-append-drop i lanes)) ∙ flat_map-append (λ (l : Lane). l.rows) (take i lanes) (drop i lanes) ∙ ap (λ zs. all_rows (take i lanes) ++ all_rows zs) (drop_more lanes i d l)

pub find_more : (p : Row → Bool) (lanes : List Lane) (i : ℕ) (d : Lane) → i < length lanes → find p (all_rows (take i lanes)) ≡ None → find p (get_or lanes i d).rows ≡ None → find p (all_rows (take (i + 1) lanes)) ≡ None
find_more p lanes i d l before here =
    ap (find p) (all_rows_more lanes i d l) ∙ find_past p (all_rows (take i lanes)) (get_or lanes i d).rows before ∙ here

pub find_here : (p : Row → Bool) (lanes : List Lane) (i : ℕ) (d : Lane) → i < length lanes → find p (all_rows (take i lanes)) ≡ None → IsSome (find p (get_or lanes i d).rows) → find p (all_rows lanes) ≡ find p (get_or lanes i d).rows
find_here p lanes i d l before here =
    ap (find p) (all_rows_split lanes i d l) ∙ find_past p (all_rows (take i lanes)) ((get_or lanes i d).rows ++ all_rows (drop (i + 1) lanes)) before ∙ find_within p (get_or lanes i d).rows (all_rows (drop (i + 1) lanes)) here

pub all_in_lane : (P : Row → Type 0) (lanes : List Lane) (k : ℕ) (d : Lane) → k < length lanes → All P (all_rows lanes) → All P (get_or lanes k d).rows
all_in_lane P [] k d l a = absurd (omega arith)
all_in_lane P (x ∷ xs) zero d l a = all_front P x.rows (all_rows xs) a
all_in_lane P (x ∷ xs) (suc k) d l a = all_in_lane P xs k d (omega arith) (all_back P x.rows (all_rows xs) a)

lt_or_gt : (k at : ℕ) → k ≢ at → (k < at) ⊎ (at < k)
lt_or_gt k at ne = elim (leb_tells k at) [ inl h ↦ inl (let le : k ≤ at = h.1 in omega arith) | inr h ↦ inr (let gt : at < k = h.1 in gt) ]

-- the rows of a lane are at other places than those of the lanes before it, and than those of the lanes behind it
pub apart_lanes : (lanes : List Lane) (at : ℕ) (d : Lane) → IsApart (all_rows lanes) → at < length lanes → All (λ (x : Row). All (λ (y : Row). y.place ≢ x.place) (all_rows (take at lanes))) (get_or lanes at d).rows × All (λ (x : Row). All (λ (y : Row). y.place ≢ x.place) (all_rows (drop (at + 1) lanes))) (get_or lanes at d).rows
apart_lanes lanes at d apart l =
    let fronts : List Row = all_rows (take at lanes) in
    let rows : List Row = (get_or lanes at d).rows in
    let backs : List Row = all_rows (drop (at + 1) lanes) in
    let split : IsApart (fronts ++ (rows ++ backs)) = subst IsApart (all_rows_split lanes at d l) apart in
    (all_front (λ (x : Row). All (λ (y : Row). y.place ≢ x.place) fronts) rows backs (apart_before fronts (rows ++ backs) split), apart_behind rows backs (apart_tail fronts (rows ++ backs) split))

-- so those of all other lanes are at other places than one of its rows
pub others_at : (lanes : List Lane) (at : ℕ) (r : Row) → at < length lanes → All (λ (y : Row). y.place ≢ r.place) (all_rows (take at lanes)) → All (λ (y : Row). y.place ≢ r.place) (all_rows (drop (at + 1) lanes)) → (k : ℕ) (e : Lane) → k < length lanes → k ≢ at → All (λ (y : Row). y.place ≢ r.place) (get_or lanes k e).rows
others_at lanes at r l before behind k e kl ne = elim (lt_or_gt k at ne) [
  | inl lt ↦ rw (← get_or-take at lanes k e lt) (all_in_lane (λ (y : Row). y.place ≢ r.place) (take at lanes) k e (omega (arith, length-take at lanes)) before)
  | inr gt ↦
      let back_at : at + 1 + (k - (at + 1)) ≡ k = omega arith in
      rw (← back_at, ← get_or-drop (at + 1) lanes (k - (at + 1)) e) (all_in_lane (λ (y : Row). y.place ≢ r.place) (drop (at + 1) lanes) (k - (at + 1)) e (omega (arith, length-drop (at + 1) lanes)) behind)
]

-- an edit that leaves the rows of all lanes but one
pub each_but : (f : List Row → List Row) (lanes : List Lane) (at : ℕ) (d after : Lane) → at < length lanes → Becomes f (get_or lanes at d) after → ((k : ℕ) (e : Lane) → k < length lanes → k ≢ at → f (get_or lanes k e).rows ≡ (get_or lanes k e).rows) → EachBecomes f lanes (set lanes at after)
each_but f lanes at d after l here rest = record {
  len = length-set lanes at after;
  at = λ k e kl. elim (eqb_tells k at) [
    | inl h ↦ rw (h.1, get_or-set_same lanes at after e l, get_or_default lanes at e d l) here
    | inr n ↦ rw (get_or-set_other lanes at k after e n.1) (record { priority = refl; rows = sym (rest k e kl n.1); room = omega arith })
  ];
}

-- the lanes up to one have its rows and those before, and no more than all
pub rows_taken : (lanes : List Lane) (i : ℕ) (d : Lane) → i < length lanes → (length (all_rows (take (i + 1) lanes)) ≡ length (all_rows (take i lanes)) + length (get_or lanes i d).rows) × (length (all_rows (take (i + 1) lanes)) ≤ length (all_rows lanes))
rows_taken lanes i d l =
    let fronts : List Row = all_rows (take i lanes) in
    let rows : List Row = (get_or lanes i d).rows in
    let backs : List Row = all_rows (drop (i + 1) lanes) in
    let more = ap length (all_rows_more lanes i d l) ∙ length-append fronts rows in
    (more, omega (arith, more, ap length (all_rows_split lanes i d l), length-append fronts (rows ++ backs), length-append rows backs))

-- the same of those that pass a test
pub rows_passed : (q : Row → Bool) (lanes : List Lane) (i : ℕ) (d : Lane) → i < length lanes → (length (filter q (all_rows (take (i + 1) lanes))) ≡ length (filter q (all_rows (take i lanes))) + length (filter q (get_or lanes i d).rows)) × (length (filter q (all_rows (take (i + 1) lanes))) ≤ length (all_rows lanes))
rows_passed q lanes i d l =
    let more = ap (λ rs. length (filter q rs)) (all_rows_more lanes i d l) ∙ ap length (filter-append q (all_rows (take i lanes)) (get_or lanes i d).rows) ∙ length-append (filter q (all_rows (take i lanes))) (filter q (get_or lanes i d).rows) in
    (more, omega (arith, few_pass q (all_rows (take (i + 1) lanes)), (rows_taken lanes i d l).1))
  where
    few_pass : (q : Row → Bool) (xs : List Row) → length (filter q xs) ≤ length xs
    few_pass q [] = omega arith
    few_pass q (x ∷ xs) = elim (q x) as (λ b. length (cond b (x ∷ filter q xs) (filter q xs)) ≤ length (x ∷ xs)) [ true ↦ omega (arith, few_pass q xs) | false ↦ omega (arith, few_pass q xs) ]
