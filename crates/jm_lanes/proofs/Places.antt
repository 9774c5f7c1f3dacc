-- Lists by place: what filters, edits and one more row do to them.
use Rattle.std.proofs.Common.{◌≡◌, ◌≢◌, ◌<◌, nat_lt, List, [], ◌∷◌, ◌++◌, get_or, map, true, false, Bool, cond, Some, refl, ap, sym, ◌∙◌, arith}
use Rattle.std.specs.List.{filter, find, All}
use Rattle.std.specs.Option.{IfSome}
use Rattle.std.proofs.lemmas.Bool.{ltb-true, lt-ltb, le-ltb}
use Rattle.std.proofs.lemmas.List.Elements.{All-nil, All-cons, All-head, All-tail, All-filter, All-weaker}
use Rattle.jm_lane.specs.declared.row.Row.{Row}
use Rattle.jm_lanes.specs.Lists.{put, sorted}
use Rattle.jm_lane.specs.Rows.{IsRising}
use Rattle.jm_lanes.specs.Lanes.{IsApart, is_lower}

-- each element of the list, and x
pub all_put : (P : Row → Type 0) (x : Row) (l : List Row) → P x → All P l → All P (put is_lower x l)
all_put P x [] h a = All-cons P x [] h a
all_put P x (y ∷ ys) h a =
    elim (is_lower x y) as (λ b. All P (cond b (x ∷ y ∷ ys) (y ∷ put is_lower x ys))) [
      | true ↦ All-cons P x (y ∷ ys) h a
      | false ↦ All-cons P y (put is_lower x ys) (All-head P y ys a) (all_put P x ys h (All-tail P y ys a))
    ]

pub all_unput : (P : Row → Type 0) (x : Row) (l : List Row) → All P (put is_lower x l) → P x × All P l
all_unput P x [] a = (All-head P x [] a, All-nil P)
all_unput P x (y ∷ ys) a = go (is_lower x y) (all_unput P x ys) a
  where
    go : (b : Bool) → (All P (put is_lower x ys) → P x × All P ys) → All P (cond b (x ∷ y ∷ ys) (y ∷ put is_lower x ys)) → P x × All P (y ∷ ys)
    go true rec a = (All-head P x (y ∷ ys) a, All-tail P x (y ∷ ys) a)
    go false rec a = let h : P x × All P ys = rec (All-tail P y (put is_lower x ys) a) in (h.0, All-cons P y ys (All-head P y (put is_lower x ys) a) h.1)

pub all_sorted : (P : Row → Type 0) (xs : List Row) → All P xs → All P (sorted is_lower xs)
all_sorted P [] a = a
all_sorted P (x ∷ xs) a = all_put P x (sorted is_lower xs) (All-head P x xs a) (all_sorted P xs (All-tail P x xs a))

pub all_unsorted : (P : Row → Type 0) (xs : List Row) → All P (sorted is_lower xs) → All P xs
all_unsorted P [] a = a
all_unsorted P (x ∷ xs) a = let h = all_unput P x (sorted is_lower xs) a in All-cons P x xs h.0 (all_unsorted P xs h.1)

-- what rises with x in it rises without, and has no row of its place
pub rising_unput : (x : Row) (l : List Row) → IsRising (put is_lower x l) → All (λ (y : Row). y.place ≢ x.place) l × IsRising l
rising_unput x [] h = (All-nil (λ (y : Row). y.place ≢ x.place), tt)
rising_unput x (y ∷ ys) h = go (is_lower x y) (rising_unput x ys) h
  where
    go : (b : Bool) → (IsRising (put is_lower x ys) → All (λ (y : Row). y.place ≢ x.place) ys × IsRising ys) → IsRising (cond b (x ∷ y ∷ ys) (y ∷ put is_lower x ys)) → All (λ (y : Row). y.place ≢ x.place) (y ∷ ys) × IsRising (y ∷ ys)
    go true rec h = (All-weaker (λ (z : Row). x.place < z.place) (λ (z : Row). z.place ≢ x.place) (λ z l. omega arith) (y ∷ ys) h.0, h.1)
    go false rec h =
        let rest : All (λ (y : Row). y.place ≢ x.place) ys × IsRising ys = rec h.1 in
        let up = all_unput (λ (z : Row). y.place < z.place) x ys h.0 in
        (All-cons (λ (z : Row). z.place ≢ x.place) y ys (let k : y.place < x.place = up.0 in omega arith) rest.0, (up.1, rest.1))

pub put_front : (x : Row) (l : List Row) → All (λ (y : Row). x.place < y.place) l → put is_lower x l ≡ x ∷ l
put_front x [] a = refl
put_front x (y ∷ ys) a = rw (lt-ltb x.place y.place (All-head (λ (y : Row). x.place < y.place) y ys a)) refl

filter_put_no : (p : Row → Bool) (x : Row) (l : List Row) → p x ≡ false → filter p (put is_lower x l) ≡ filter p l
filter_put_no p x [] e = rw e refl
filter_put_no p x (y ∷ ys) e =
    elim (is_lower x y) as (λ b. filter p (cond b (x ∷ y ∷ ys) (y ∷ put is_lower x ys)) ≡ filter p (y ∷ ys)) [
      | true ↦ rw e refl
      | false ↦ ap (λ zs. cond (p y) (y ∷ zs) zs) (filter_put_no p x ys e)
    ]

filter_put_yes : (p : Row → Bool) (x : Row) (l : List Row) → p x ≡ true → IsRising l → filter p (put is_lower x l) ≡ put is_lower x (filter p l)
filter_put_yes p x [] e h = rw e refl
filter_put_yes p x (y ∷ ys) e h = go (is_lower x y) refl (filter_put_yes p x ys e h.1)
  where
    go : (b : Bool) → is_lower x y ≡ b → filter p (put is_lower x ys) ≡ put is_lower x (filter p ys) → filter p (cond b (x ∷ y ∷ ys) (y ∷ put is_lower x ys)) ≡ put is_lower x (filter p (y ∷ ys))
    go true t rec =
        let lt : x.place < y.place = ltb-true x.place y.place t in
        let up : All (λ (z : Row). x.place < z.place) (y ∷ ys) = All-cons (λ (z : Row). x.place < z.place) y ys lt (All-weaker (λ (z : Row). y.place < z.place) (λ (z : Row). x.place < z.place) (λ z k. omega arith) ys h.0) in
        rw (e, put_front x (filter p (y ∷ ys)) (All-filter p (λ (z : Row). x.place < z.place) (y ∷ ys) up)) refl
    go false t rec =
        elim (p y) as (λ b. cond b (y ∷ filter p (put is_lower x ys)) (filter p (put is_lower x ys)) ≡ put is_lower x (cond b (y ∷ filter p ys) (filter p ys))) [
          | true ↦ rw (t, rec) refl
          | false ↦ rec
        ]

pub sorted-filter : (p : Row → Bool) (xs : List Row) → IsRising (sorted is_lower xs) → sorted is_lower (filter p xs) ≡ filter p (sorted is_lower xs)
sorted-filter p [] h = refl
sorted-filter p (x ∷ xs) h =
    let rest = rising_unput x (sorted is_lower xs) h in
    go (p x) refl rest.1 (sorted-filter p xs rest.1)
  where
    go : (b : Bool) → p x ≡ b → IsRising (sorted is_lower xs) → sorted is_lower (filter p xs) ≡ filter p (sorted is_lower xs) → sorted is_lower (cond b (x ∷ filter p xs) (filter p xs)) ≡ filter p (put is_lower x (sorted is_lower xs))
    go true e rest rec = rw (filter_put_yes p x (sorted is_lower xs) e rest, rec) refl
    go false e rest rec = rw (filter_put_no p x (sorted is_lower xs) e) rec

map_put_by : (f : Row → Row) (x y : Row) (ys zs ws : List Row) (b c : Bool) → b ≡ c → map f zs ≡ ws → map f (cond b (x ∷ y ∷ ys) (y ∷ zs)) ≡ cond c (f x ∷ f y ∷ map f ys) (f y ∷ ws)
map_put_by f x y ys zs ws true true e h = refl
map_put_by f x y ys zs ws true false e h = absurd (cc)
map_put_by f x y ys zs ws false true e h = absurd (cc)
map_put_by f x y ys zs ws false false e h = ap (λ vs. f y ∷ vs) h

map_put : (f : Row → Row) → ((r : Row) → (f r).place ≡ r.place) → (x : Row) (l : List Row) → map f (put is_lower x l) ≡ put is_lower (f x) (map f l)
map_put f same x [] = refl
map_put f same x (y ∷ ys) =
    map_put_by f x y ys (put is_lower x ys) (put is_lower (f x) (map f ys)) (is_lower x y) (is_lower (f x) (f y)) (ap (λ n. nat_lt n y.place) (sym (same x)) ∙ ap (λ n. nat_lt (f x).place n) (sym (same y))) (map_put f same x ys)

pub sorted-map : (f : Row → Row) → ((r : Row) → (f r).place ≡ r.place) → (xs : List Row) → sorted is_lower (map f xs) ≡ map f (sorted is_lower xs)
sorted-map f same [] = refl
sorted-map f same (x ∷ xs) = rw (sorted-map f same xs, map_put f same x (sorted is_lower xs)) refl

put_push : (y x : Row) (l : List Row) → y.place < x.place → put is_lower y (l ++ x ∷ []) ≡ put is_lower y l ++ x ∷ []
put_push y x [] lt = rw (lt-ltb y.place x.place lt) refl
put_push y x (z ∷ zs) lt =
    elim (is_lower y z) as (λ b. cond b (y ∷ z ∷ (zs ++ x ∷ [])) (z ∷ put is_lower y (zs ++ x ∷ [])) ≡ cond b (y ∷ z ∷ zs) (z ∷ put is_lower y zs) ++ x ∷ []) [
      | true ↦ refl
      | false ↦ ap (λ ws. z ∷ ws) (put_push y x zs lt)
    ]

put_end : (x : Row) (l : List Row) → All (λ (y : Row). y.place < x.place) l → put is_lower x l ≡ l ++ x ∷ []
put_end x [] a = refl
put_end x (y ∷ ys) a =
    let lt : y.place < x.place = All-head (λ (y : Row). y.place < x.place) y ys a in
    rw (le-ltb x.place y.place (omega arith)) (ap (λ zs. y ∷ zs) (put_end x ys (All-tail (λ (y : Row). y.place < x.place) y ys a)))

-- a row above all others comes last, wherever it stands
pub sorted-last : (front : List Row) (x : Row) (cs : List Row) → All (λ (y : Row). y.place < x.place) (front ++ cs) → sorted is_lower (front ++ x ∷ cs) ≡ sorted is_lower (front ++ cs) ++ x ∷ []
sorted-last [] x cs a = put_end x (sorted is_lower cs) (all_sorted (λ (y : Row). y.place < x.place) cs a)
sorted-last (y ∷ front) x cs a =
    rw (sorted-last front x cs (All-tail (λ (y : Row). y.place < x.place) y (front ++ cs) a)) (put_push y x (sorted is_lower (front ++ cs)) (All-head (λ (y : Row). y.place < x.place) y (front ++ cs) a))

pub apart_from_rising : (xs : List Row) → IsRising (sorted is_lower xs) → IsApart xs
apart_from_rising [] h = tt
apart_from_rising (x ∷ xs) h =
    let rest = rising_unput x (sorted is_lower xs) h in
    (all_unsorted (λ (y : Row). y.place ≢ x.place) xs rest.0, apart_from_rising xs rest.1)

pub all_back : (P : Row → Type 0) (xs ys : List Row) → All P (xs ++ ys) → All P ys
all_back P [] ys a = a
all_back P (x ∷ xs) ys a = all_back P xs ys (All-tail P x (xs ++ ys) a)

pub all_front : (P : Row → Type 0) (xs ys : List Row) → All P (xs ++ ys) → All P xs
all_front P [] ys a = All-nil P
all_front P (x ∷ xs) ys a = All-cons P x xs (All-head P x (xs ++ ys) a) (all_front P xs ys (All-tail P x (xs ++ ys) a))

pub apart_behind : (xs ys : List Row) → IsApart (xs ++ ys) → All (λ (x : Row). All (λ (y : Row). y.place ≢ x.place) ys) xs
apart_behind [] ys h = All-nil (λ (x : Row). All (λ (y : Row). y.place ≢ x.place) ys)
apart_behind (x ∷ xs) ys h =
    All-cons (λ (x : Row). All (λ (y : Row). y.place ≢ x.place) ys) x xs (all_back (λ (y : Row). y.place ≢ x.place) xs ys h.0) (apart_behind xs ys h.1)

pub apart_before : (xs ys : List Row) → IsApart (xs ++ ys) → All (λ (y : Row). All (λ (x : Row). x.place ≢ y.place) xs) ys
apart_before [] ys h = λ k d l. All-nil (λ (x : Row). x.place ≢ (get_or ys k d).place)
apart_before (x ∷ xs) ys h =
    λ k d l. All-cons (λ (z : Row). z.place ≢ (get_or ys k d).place) x xs (λ e. all_back (λ (y : Row). y.place ≢ x.place) xs ys h.0 k d l (sym e)) (apart_before xs ys h.1 k d l)

pub apart_tail : (xs ys : List Row) → IsApart (xs ++ ys) → IsApart ys
apart_tail [] ys h = h
apart_tail (x ∷ xs) ys h = apart_tail xs ys h.1

-- what is found has what all have
pub find_has : (P : Row → Type 0) (p : Row → Bool) (xs : List Row) → All P xs → IfSome (find p xs) P
find_has P p [] a = tt
find_has P p (x ∷ xs) a =
    elim (p x) as (λ b. IfSome (cond b (Some x) (find p xs)) P) [ true ↦ All-head P x xs a | false ↦ find_has P p xs (All-tail P x xs a) ]
