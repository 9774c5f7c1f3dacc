-- How many rows there are, through each call.
use Rattle.std.proofs.Common.{◌≡◌, ◌≢◌, ℕ, ◌+◌, ◌==◌, List, [], ◌∷◌, length, map, Bool, true, false, cond, Option, Some, None, refl, ap, sym, subst, ◌∙◌, arith}
use Rattle.std.specs.List.{filter, find}
use Rattle.std.specs.Option.{IfSome}
use Rattle.std.proofs.lemmas.Bool.{eq-eqb, ne_eqb, eqb-true}
use Rattle.std.proofs.lemmas.List.{length-map, map-append}
use Rattle.std.proofs.lemmas.List.Elements.{filter-append}
use Rattle.jm_dest.specs.declared.session.SessionId.{SessionId}
use Rattle.jm_lane.specs.declared.row.Row.{Row}
use Rattle.jm_lane.specs.Rows.{is_elsewhere, sent_at}
use Rattle.jm_lane.specs.Lanes.{Lane, is_at}
use Rattle.jm_lanes.specs.Lanes.{all_rows, rows_of, EachBecomes, IsApart}
use Rattle.jm_lanes.proofs.Edited.{all_rows_each}
use Rattle.jm_lanes.proofs.Places.{find_has}
use Rattle.jm_lane.proofs.Rising.{filter_elsewhere}
use Rattle.jm_pending.proofs.Shown.{length_shown}
use Rattle.jm_lanes.proofs.Found.{found_place}
use Rattle.jm_pending.proofs.Taking.{none_left}

-- where none is counted, there is none
pub none_there : (rows : List Row) (count : ℕ) → count ≡ length rows → (count == 0) ≡ true → rows ≡ []
none_there [] count is none = refl
none_there (x ∷ xs) count is none = let zero : count ≡ 0 = eqb-true count 0 none in absurd (omega (arith, zero, is))

-- a row that is found goes: there is one less
elsewhere_number : (q : Row → Bool) (xs : List Row) (r : Row) → IsApart xs → find q xs ≡ Some r → length (filter (is_elsewhere r.place) xs) + 1 ≡ length xs
elsewhere_number q [] r h f = absurd (cc)
elsewhere_number q (x ∷ xs) r h f = go (q x) (elsewhere_number q xs r h.1) (find_has (λ (y : Row). y.place ≢ x.place) q xs h.0) f
  where
    go : (b : Bool) → (find q xs ≡ Some r → length (filter (is_elsewhere r.place) xs) + 1 ≡ length xs) → IfSome (find q xs) (λ (y : Row). y.place ≢ x.place) → cond b (Some x) (find q xs) ≡ Some r → length (filter (is_elsewhere r.place) (x ∷ xs)) + 1 ≡ length (x ∷ xs)
    go true rec other e =
        let is : x ≡ r = cc in
        let kept : filter (is_elsewhere x.place) (x ∷ xs) ≡ xs = rw (eq-eqb x.place x.place refl) (filter_elsewhere x.place xs h.0) in
        subst (λ (s : Row). length (filter (is_elsewhere s.place) (x ∷ xs)) + 1 ≡ length (x ∷ xs)) is (omega (arith, ap length kept))
    go false rec other e =
        let ne : r.place ≢ x.place = subst (λ o. IfSome o (λ (y : Row). y.place ≢ x.place)) e other in
        rw (ne_eqb x.place r.place (λ s. ne (sym s))) (omega (arith, rec e))

-- a sending leaves as many
pub sent_number : (s : SessionId) (c place : ℕ) (ys zs : List Lane) → EachBecomes (map (sent_at place s c)) ys zs → length (rows_of zs) ≡ length (all_rows ys)
sent_number s c place ys zs e =
    length_shown zs ∙ ap length (all_rows_each (map (sent_at place s c)) refl (map-append (sent_at place s c)) ys zs e) ∙ length-map (all_rows ys) (sent_at place s c)

-- a removal leaves one less, or as many where nothing is there
pub removed_number : (place : ℕ) (row : Row) (ys zs : List Lane) → IsApart (all_rows ys) → find (is_at place) (all_rows ys) ≡ Some row → EachBecomes (filter (is_elsewhere place)) ys zs → length (rows_of zs) + 1 ≡ length (all_rows ys)
removed_number place row ys zs apart found e =
    let left = all_rows_each (filter (is_elsewhere place)) refl (filter-append (is_elsewhere place)) ys zs e in
    let one = subst (λ (n : ℕ). length (filter (is_elsewhere n) (all_rows ys)) + 1 ≡ length (all_rows ys)) (found_place place (all_rows ys) row found) (elsewhere_number (is_at place) (all_rows ys) row apart found) in
    omega (arith, length_shown zs, ap length left, one)

pub kept_number : (place : ℕ) (ys zs : List Lane) → find (is_at place) (all_rows ys) ≡ None → EachBecomes (filter (is_elsewhere place)) ys zs → length (rows_of zs) ≡ length (all_rows ys)
kept_number place ys zs none e = length_shown zs ∙ ap length (none_left place ys zs none e)
