-- One more row.
use Rattle.std.proofs.Common.{◌≡◌, ℕ, ◌+◌, ◌-◌, ◌^◌, ◌<◌, ◌≤◌, List, [], ◌∷◌, ◌++◌, length, get_or, set, take, drop, true, false, cond, refl, ap, sym, subst, ◌∙◌, arith, inl, inr}
use Rattle.std.specs.List.{All}
use Rattle.std.specs.Result.{OnErr}
use Rattle.std.specs.Prelude.{Result, Ok, Err}
use Rattle.std.proofs.lemmas.List.{length-set, get_or-set_same, get_or-set_other, append_assoc, take-set, drop-set-lt}
use Rattle.std.proofs.lemmas.List.Elements.{All-cons, All-head, All-tail, All-weaker, All-append}
use Rattle.std.proofs.lemmas.Bool.Decides.{eqb_tells}
use Rattle.jm_lane.specs.declared.row.Row.{Row}
use Rattle.jm_lanes.specs.Lists.{sorted, put}
use Rattle.jm_lane.specs.Rows.{IsRising}
use Rattle.jm_lane.specs.Lanes.{Lane}
use Rattle.jm_lanes.specs.Lanes.{all_rows, rows_of, is_lower, IsHeld, IsPushed}
use Rattle.jm_lane.proofs.Rising.{rising-push}
use Rattle.jm_lanes.proofs.Places.{sorted-last, all_front, all_back, all_unsorted, all_sorted}
use Rattle.jm_lanes.proofs.Found.{all_rows_split}

all_insert : (P : Row → Type 0) (us : List Row) (x : Row) (vs : List Row) → P x → All P (us ++ vs) → All P (us ++ x ∷ vs)
all_insert P us x vs h a = All-append P us (x ∷ vs) (all_front P us vs a) (All-cons P x vs h (all_back P us vs a))

regroup : (us xs : List Row) (x : Row) (vs : List Row) → us ++ ((xs ++ x ∷ []) ++ vs) ≡ (us ++ xs) ++ (x ∷ vs)
regroup us xs x vs = ap (λ zs. us ++ zs) (append_assoc xs (x ∷ []) vs) ∙ sym (append_assoc us xs (x ∷ vs))

pub length_put : (x : Row) (l : List Row) → length (put is_lower x l) ≡ length l + 1
length_put x [] = refl
length_put x (y ∷ ys) =
    elim (is_lower x y) as (λ b. length (cond b (x ∷ y ∷ ys) (y ∷ put is_lower x ys)) ≡ length (y ∷ ys) + 1) [ true ↦ omega arith | false ↦ omega (arith, length_put x ys) ]

pub length_sorted : (xs : List Row) → length (sorted is_lower xs) ≡ length xs
length_sorted [] = refl
length_sorted (x ∷ xs) = omega (arith, length_put x (sorted is_lower xs), length_sorted xs)

-- rows that rise from a place on and stay below another are no more than the places between
few_between : (low top : ℕ) (rs : List Row) → low ≤ top → IsRising rs → All (λ (r : Row). low ≤ r.place) rs → All (λ (r : Row). r.place < top) rs → low + length rs ≤ top
few_between low top [] l h from to = omega (arith, l)
few_between low top (x ∷ xs) l h from to =
    let here : low ≤ x.place = All-head (λ (r : Row). low ≤ r.place) x xs from in
    let below : x.place < top = All-head (λ (r : Row). r.place < top) x xs to in
    omega (arith, here, few_between (x.place + 1) top xs (omega (arith, below)) h.1 (All-weaker (λ (y : Row). x.place < y.place) (λ (r : Row). x.place + 1 ≤ r.place) (λ r k. omega (arith, k)) xs h.0) (All-tail (λ (r : Row). r.place < top) x xs to))

-- there are no more rows than places
pub few_rows : (xs : List Lane) (room : ℕ) → IsHeld xs room → length (all_rows xs) ≤ 2 ^ 63
few_rows xs room h =
    omega (arith, length_sorted (all_rows xs), few_between 0 (2 ^ 63) (rows_of xs) (omega arith) h.rising (λ k d l. omega arith) (all_sorted (λ (r : Row). r.place < 2 ^ 63) (all_rows xs) h.bounded))

pub on_err : {T E : Type 0} (r : Result T E) (P : Type 0) → P → OnErr r P
on_err (Ok x) P p = tt
on_err (Err e) P p = p

pub held_push : (xs : List Lane) (room at : ℕ) (row : Row) (after : Lane) → IsHeld xs room → 0 < room → row.place < 2 ^ 63 → All (λ (r : Row). r.place < row.place) (rows_of xs) → at < length xs → IsPushed row (get_or xs at after) after → IsHeld (set xs at after) (room - 1) × (rows_of (set xs at after) ≡ rows_of xs ++ row ∷ [])
held_push xs room at row after h some bound above l pushed =
    let fronts : List Row = all_rows (take at xs) in
    let rows : List Row = (get_or xs at after).rows in
    let backs : List Row = all_rows (drop (at + 1) xs) in
    let below : All (λ (r : Row). r.place < row.place) (all_rows xs) = all_unsorted (λ (r : Row). r.place < row.place) (all_rows xs) above in
    let split : all_rows xs ≡ (fronts ++ rows) ++ backs = all_rows_split xs at after l ∙ sym (append_assoc fronts rows backs) in
    let l' : at < length (set xs at after) = omega (arith, length-set xs at after) in
    let changed : all_rows (set xs at after) ≡ fronts ++ (after.rows ++ backs) =
    rw (all_rows_split (set xs at after) at after l', take-set xs at after, get_or-set_same xs at after after l, drop-set-lt (at + 1) xs at after (omega arith)) refl in
    let all : all_rows (set xs at after) ≡ (fronts ++ rows) ++ (row ∷ backs) = changed ∙ ap (λ zs. fronts ++ (zs ++ backs)) pushed.rows ∙ regroup fronts rows row backs in
    let last : rows_of (set xs at after) ≡ rows_of xs ++ row ∷ [] =
    ap (sorted is_lower) all ∙ sorted-last (fronts ++ rows) row backs (subst (All (λ (r : Row). r.place < row.place)) split below) ∙ ap (λ zs. sorted is_lower zs ++ row ∷ []) (sym split) in (
      record {
        number = λ there. length-set xs at after ∙ h.made some;
        made = λ more. length-set xs at after ∙ h.made some;
        priorities = λ k d kl. elim (eqb_tells k at) [
          | inl e ↦ rw (e.1, get_or-set_same xs at after d l, pushed.priority) (h.priorities at after l)
          | inr n ↦ rw (get_or-set_other xs at k after d n.1) (h.priorities k d (omega (arith, length-set xs at after)))
        ];
        rising = rw last (rising-push (rows_of xs) row above h.rising);
        bounded = rw all (all_insert (λ (r : Row). r.place < 2 ^ 63) (fronts ++ rows) row backs bound (subst (All (λ (r : Row). r.place < 2 ^ 63)) split h.bounded));
        spare = λ k d kl. elim (eqb_tells k at) [
          | inl e ↦ rw (e.1, get_or-set_same xs at after d l) (omega (arith, pushed.room, h.spare at after l))
          | inr n ↦ rw (get_or-set_other xs at k after d n.1) (omega (arith, h.spare k d (omega (arith, length-set xs at after))))
        ];
      },
      last,
    )
