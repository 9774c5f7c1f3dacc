-- What all lanes keep through each call.
use Rattle.std.proofs.Common.{◌≡◌, ℕ, ◌^◌, ◌<◌, ◌≤◌, List, [], ◌∷◌, length, get_or, map, Bool, refl, ap, ◌∙◌, arith, suc, zero}
use Rattle.std.specs.List.{filter, All, AllZip}
use Rattle.std.proofs.lemmas.List.{map-append}
use Rattle.std.proofs.lemmas.List.Elements.{filter-append, All-filter, All-map, All-weaker}
use Rattle.jm_lane.specs.declared.row.Row.{Row}
use Rattle.jm_lanes.specs.Lists.{sorted}
use Rattle.jm_lane.specs.Lanes.{Lane, IsCopied}
use Rattle.jm_lanes.specs.Lanes.{EachBecomes, IsLaneOf, all_rows, rows_of, is_lower, IsHeld}
use Rattle.jm_lane.proofs.Rising.{rising-filter, rising-map}
use Rattle.jm_lanes.proofs.Places.{sorted-filter, sorted-map}
use Rattle.jm_lanes.proofs.Edited.{all_rows_each}

-- the parts that do not speak of rows
each_number : (f : List Row → List Row) (xs ys : List Lane) (room : ℕ) → IsHeld xs room → EachBecomes f xs ys → 0 < length ys → length ys ≡ 30
each_number f xs ys room h e some = e.len ∙ h.number (omega (arith, e.len))

each_made : (f : List Row → List Row) (xs ys : List Lane) (room : ℕ) → IsHeld xs room → EachBecomes f xs ys → 0 < room → length ys ≡ 30
each_made f xs ys room h e some = e.len ∙ h.made some

each_priorities : (f : List Row → List Row) (xs ys : List Lane) (room : ℕ) → IsHeld xs room → EachBecomes f xs ys → (k : ℕ) (d : Lane) → k < length ys → IsLaneOf k (get_or ys k d).priority
each_priorities f xs ys room h e k d l =
    let lt : k < length xs = omega (arith, e.len) in
    rw ((e.at k d lt).priority) (h.priorities k d lt)

each_spare : (f : List Row → List Row) (xs ys : List Lane) (room : ℕ) → IsHeld xs room → EachBecomes f xs ys → All (λ (l : Lane). room ≤ l.spare) ys
each_spare f xs ys room h e k d l =
    let lt : k < length xs = omega (arith, e.len) in
    omega (arith, (e.at k d lt).room, h.spare k d lt)

rows_each : (f : List Row → List Row) (xs ys : List Lane) → EachBecomes f xs ys → (k : ℕ) (d : Lane) → k < length ys → (get_or ys k d).rows ≡ f (get_or xs k d).rows
rows_each f xs ys e k d l = (e.at k d (omega (arith, e.len))).rows

pub held_filter : (p : Row → Bool) (xs ys : List Lane) (room : ℕ) → IsHeld xs room → EachBecomes (filter p) xs ys → IsHeld ys room × (rows_of ys ≡ filter p (rows_of xs))
held_filter p xs ys room h e =
    let all : all_rows ys ≡ filter p (all_rows xs) = all_rows_each (filter p) refl (filter-append p) xs ys e in
    let rows : rows_of ys ≡ filter p (rows_of xs) = ap (sorted is_lower) all ∙ sorted-filter p (all_rows xs) h.rising in (
      record {
        number = each_number (filter p) xs ys room h e;
        made = each_made (filter p) xs ys room h e;
        priorities = each_priorities (filter p) xs ys room h e;
        rising = rw rows (rising-filter p (rows_of xs) h.rising);
        bounded = rw all (All-filter p (λ (r : Row). r.place < 2 ^ 63) (all_rows xs) h.bounded);
        spare = each_spare (filter p) xs ys room h e;
      },
      rows,
    )

pub held_map : (f : Row → Row) → ((r : Row) → (f r).place ≡ r.place) → ((r : Row) → (f r).priority ≡ r.priority) → (xs ys : List Lane) (room : ℕ) → IsHeld xs room → EachBecomes (map f) xs ys → IsHeld ys room × (rows_of ys ≡ map f (rows_of xs))
held_map f place priority xs ys room h e =
    let all : all_rows ys ≡ map f (all_rows xs) = all_rows_each (map f) refl (map-append f) xs ys e in
    let rows : rows_of ys ≡ map f (rows_of xs) = ap (sorted is_lower) all ∙ sorted-map f place (all_rows xs) in (
      record {
        number = each_number (map f) xs ys room h e;
        made = each_made (map f) xs ys room h e;
        priorities = each_priorities (map f) xs ys room h e;
        rising = rw rows (rising-map f place (rows_of xs) h.rising);
        bounded = rw all (All-map (λ (r : Row). r.place < 2 ^ 63) f (all_rows xs) (All-weaker (λ (r : Row). r.place < 2 ^ 63) (λ (r : Row). (f r).place < 2 ^ 63) (λ r b. omega (arith, place r, b)) (all_rows xs) h.bounded));
        spare = each_spare (map f) xs ys room h e;
      },
      rows,
    )

pub held_same : (xs ys : List Lane) (room : ℕ) → IsHeld xs room → EachBecomes (λ rs. rs) xs ys → IsHeld ys room × (rows_of ys ≡ rows_of xs)
held_same xs ys room h e =
    let all : all_rows ys ≡ all_rows xs = all_rows_each (λ rs. rs) refl (λ us vs. refl) xs ys e in (
      record {
        number = each_number (λ rs. rs) xs ys room h e;
        made = each_made (λ rs. rs) xs ys room h e;
        priorities = each_priorities (λ rs. rs) xs ys room h e;
        rising = rw all h.rising;
        bounded = rw all h.bounded;
        spare = each_spare (λ rs. rs) xs ys room h e;
      },
      ap (sorted is_lower) all,
    )

-- more room, in lanes that are there
pub held_room : (xs : List Lane) (room more : ℕ) → IsHeld xs room → 0 < length xs → All (λ (l : Lane). more ≤ l.spare) xs → IsHeld xs more
held_room xs room more h there a =
    record { number = h.number; made = λ some. h.number there; priorities = h.priorities; rising = h.rising; bounded = h.bounded; spare = a }

-- lanes with the same rows
pub copied_number : (xs ys : List Lane) → AllZip IsCopied xs ys → length ys ≡ length xs
copied_number [] [] e = refl
copied_number [] (y ∷ ys) e = absurd e
copied_number (x ∷ xs) [] e = absurd e
copied_number (x ∷ xs) (y ∷ ys) e = omega (arith, copied_number xs ys e.1)

copied_priority : (xs ys : List Lane) (k : ℕ) (d : Lane) → AllZip IsCopied xs ys → (get_or ys k d).priority ≡ (get_or xs k d).priority
copied_priority [] [] k d e = refl
copied_priority [] (y ∷ ys) k d e = absurd e
copied_priority (x ∷ xs) [] k d e = absurd e
copied_priority (x ∷ xs) (y ∷ ys) zero d e = e.0.priority
copied_priority (x ∷ xs) (y ∷ ys) (suc k) d e = copied_priority xs ys k d e.1

all_rows_copied : (xs ys : List Lane) → AllZip IsCopied xs ys → all_rows ys ≡ all_rows xs
all_rows_copied [] [] e = refl
all_rows_copied [] (y ∷ ys) e = absurd e
all_rows_copied (x ∷ xs) [] e = absurd e
all_rows_copied (x ∷ xs) (y ∷ ys) e = rw (e.0.rows, all_rows_copied xs ys e.1) refl

pub held_copied : (xs ys : List Lane) (room : ℕ) → IsHeld xs room → AllZip IsCopied xs ys → IsHeld ys 0 × (rows_of ys ≡ rows_of xs)
held_copied xs ys room h e =
    let n : length ys ≡ length xs = copied_number xs ys e in
    let all : all_rows ys ≡ all_rows xs = all_rows_copied xs ys e in (
      record {
        number = λ some. n ∙ h.number (omega (arith, n));
        made = λ some. absurd (omega arith);
        priorities = λ k d l. rw (copied_priority xs ys k d e) (h.priorities k d (omega (arith, n, l)));
        rising = rw all h.rising;
        bounded = rw all h.bounded;
        spare = λ k d l. omega arith;
      },
      ap (sorted is_lower) all,
    )
