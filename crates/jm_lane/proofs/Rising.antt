-- Rows that rise by place, and what edits leave of that.
use Rattle.std.proofs.Common.{◌≡◌, ◌≢◌, ℕ, ◌<◌, List, [], ◌∷◌, ◌++◌, length, get_or, set, map, take, true, false, Bool, not, cond, Some, None, refl, ap, arith, suc, zero}
use Rattle.std.specs.Prelude.{slice_get}
use Rattle.std.specs.List.{filter, find, remove, All}
use Rattle.std.proofs.lemmas.List.Elements.{All-nil, All-cons, All-head, All-tail, All-append, All-filter, All-map, All-weaker}
use Rattle.std.proofs.lemmas.Bool.{eq-eqb, ne_eqb}
use Rattle.jm_dest.specs.declared.session.SessionId.{SessionId}
use Rattle.jm_lane.specs.declared.row.Row.{Row}
use Rattle.jm_lane.specs.Rows.{IsRising, is_elsewhere, sent, sent_at}
use Rattle.jm_lane.proofs.Sieve.{filter_all}

-- rows that rise still rise without some of them
pub rising-filter : (p : Row → Bool) (rs : List Row) → IsRising rs → IsRising (filter p rs)
rising-filter p [] h = tt
rising-filter p (x ∷ xs) h =
    elim (p x) as (λ b. IsRising (cond b (x ∷ filter p xs) (filter p xs))) [
      | true ↦ (All-filter p (λ (y : Row). x.place < y.place) xs h.0, rising-filter p xs h.1)
      | false ↦ rising-filter p xs h.1
    ]

-- and after an edit that leaves their places
pub rising-map : (f : Row → Row) → ((r : Row) → (f r).place ≡ r.place) → (rs : List Row) → IsRising rs → IsRising (map f rs)
rising-map f same [] h = tt
rising-map f same (x ∷ xs) h =
    (All-map (λ (y : Row). (f x).place < y.place) f xs (All-weaker (λ (y : Row). x.place < y.place) (λ (y : Row). (f x).place < (f y).place) (λ y l. omega (arith, same x, same y)) xs h.0), rising-map f same xs h.1)

-- and with a row above all of them
pub rising-push : (rs : List Row) (row : Row) → All (λ (r : Row). r.place < row.place) rs → IsRising rs → IsRising (rs ++ row ∷ [])
rising-push [] row above h = (All-nil (λ (y : Row). row.place < y.place), tt)
rising-push (x ∷ xs) row above h =
    (All-append (λ (y : Row). x.place < y.place) xs (row ∷ []) h.0 (All-cons (λ (y : Row). x.place < y.place) row [] (All-head (λ (r : Row). r.place < row.place) x xs above) (All-nil (λ (y : Row). x.place < y.place))), rising-push xs row (All-tail (λ (r : Row). r.place < row.place) x xs above) h.1)

-- the row at the place is sent
pub sent_here : (s : SessionId) (c : ℕ) (r : Row) (p : ℕ) → r.place ≡ p → sent_at p s c r ≡ sent s c r
sent_here s c r p e = rw (eq-eqb r.place p e) refl

-- and no other row
pub sent_elsewhere : (s : SessionId) (c : ℕ) (r : Row) (p : ℕ) → r.place ≢ p → sent_at p s c r ≡ r
sent_elsewhere s c r p ne = rw (ne_eqb r.place p ne) refl

-- where no row is at the place, none is sent
pub map_elsewhere : (s : SessionId) (c p : ℕ) (rs : List Row) → All (λ (r : Row). r.place ≢ p) rs → map (sent_at p s c) rs ≡ rs
map_elsewhere s c p [] h = refl
map_elsewhere s c p (x ∷ xs) h =
    rw (sent_elsewhere s c x p (All-head (λ (r : Row). r.place ≢ p) x xs h), map_elsewhere s c p xs (All-tail (λ (r : Row). r.place ≢ p) x xs h)) refl

-- and all of them are elsewhere
pub filter_elsewhere : (p : ℕ) (rs : List Row) → All (λ (r : Row). r.place ≢ p) rs → filter (is_elsewhere p) rs ≡ rs
filter_elsewhere p rs h =
    filter_all (is_elsewhere p) rs (All-weaker (λ (r : Row). r.place ≢ p) (λ r. is_elsewhere p r ≡ true) (λ r ne. ap not (ne_eqb r.place p ne)) rs h)

others_above : (x : Row) (xs : List Row) → All (λ (y : Row). x.place < y.place) xs → All (λ (y : Row). y.place ≢ x.place) xs
others_above x = All-weaker (λ (y : Row). x.place < y.place) (λ (y : Row). y.place ≢ x.place) (λ y k. omega arith)

-- sending the row at an index is sending at its place
pub set_sent : (s : SessionId) (c : ℕ) (rs : List Row) (i : ℕ) (d : Row) → IsRising rs → i < length rs → set rs i (sent s c (get_or rs i d)) ≡ map (sent_at (get_or rs i d).place s c) rs
set_sent s c [] i d h l = absurd (omega arith)
set_sent s c (x ∷ xs) zero d h l = rw (sent_here s c x x.place refl, map_elsewhere s c x.place xs (others_above x xs h.0)) refl
set_sent s c (x ∷ xs) (suc i) d h l =
    let up : x.place < (get_or xs i d).place = h.0 i d (omega arith) in
    rw (sent_elsewhere s c x (get_or xs i d).place (omega arith), set_sent s c xs i d h.1 (omega arith)) refl

-- taking out the row at an index is taking out what is at its place
pub remove_at : (rs : List Row) (i : ℕ) (d : Row) → IsRising rs → i < length rs → remove rs i ≡ filter (is_elsewhere (get_or rs i d).place) rs
remove_at [] i d h l = absurd (omega arith)
remove_at (x ∷ xs) zero d h l = rw (eq-eqb x.place x.place refl, filter_elsewhere x.place xs (others_above x xs h.0)) refl
remove_at (x ∷ xs) (suc i) d h l =
    let up : x.place < (get_or xs i d).place = h.0 i d (omega arith) in
    rw (ne_eqb x.place (get_or xs i d).place (omega arith), remove_at xs i d h.1 (omega arith)) refl

-- the rows before one are elsewhere
pub others_before : (rs : List Row) (i : ℕ) (d : Row) → IsRising rs → i < length rs → All (λ r. is_elsewhere (get_or rs i d).place r ≡ true) (take i rs)
others_before [] i d h l = absurd (omega arith)
others_before (x ∷ xs) zero d h l = All-nil (λ r. is_elsewhere x.place r ≡ true)
others_before (x ∷ xs) (suc i) d h l =
    let up : x.place < (get_or xs i d).place = h.0 i d (omega arith) in
    All-cons (λ r. is_elsewhere (get_or xs i d).place r ≡ true) x (take i xs) (ap not (ne_eqb x.place (get_or xs i d).place (omega arith))) (others_before xs i d h.1 (omega arith))

-- nothing is found where nothing passes
pub find_none : {X : Type 0} (p : X → Bool) (xs : List X) → All (λ x. p x ≡ false) xs → find p xs ≡ None
find_none p [] h = refl
find_none p (x ∷ xs) h = rw (All-head (λ x. p x ≡ false) x xs h) (find_none p xs (All-tail (λ x. p x ≡ false) x xs h))

-- the first that passes is found
pub find_at : {X : Type 0} (p : X → Bool) (xs : List X) (i : ℕ) (d : X) → All (λ x. p x ≡ false) (take i xs) → i < length xs → p (get_or xs i d) ≡ true → find p xs ≡ Some (get_or xs i d)
find_at p [] i d h l e = absurd (omega arith)
find_at p (x ∷ xs) zero d h l e = rw e refl
find_at p (x ∷ xs) (suc i) d h l e = rw (All-head (λ x. p x ≡ false) x (take i xs) h) (find_at p xs i d (All-tail (λ x. p x ≡ false) x (take i xs) h) (omega arith) e)

-- what stands where the first passes is what is found
pub get_found : {X : Type 0} (p : X → Bool) (xs : List X) (i : ℕ) → All (λ x. p x ≡ false) (take i xs) → ((d : X) → i < length xs → p (get_or xs i d) ≡ true) → slice_get xs i ≡ find p xs
get_found p [] i h f = refl
get_found p (x ∷ xs) zero h f = rw (f x (omega arith)) refl
get_found p (x ∷ xs) (suc i) h f =
    rw (All-head (λ x. p x ≡ false) x (take i xs) h) (get_found p xs i (All-tail (λ x. p x ≡ false) x (take i xs) h) (λ d l. f d (omega arith)))
