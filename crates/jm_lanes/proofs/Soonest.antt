-- The row that goes first is found at its place.
use Rattle.std.proofs.Common.{◌≡◌, ◌≢◌, ◌<◌, ◌≤◌, List, [], ◌∷◌, true, false, Bool, cond, Some, refl, ap, sym, subst, arith, inl, inr}
use Rattle.std.specs.List.{find, All, Contains}
use Rattle.std.specs.Option.{IfSome}
use Rattle.std.proofs.lemmas.Bool.{eq-eqb, ne_eqb}
use Rattle.std.proofs.lemmas.Bool.Decides.{eqb_tells}
use Rattle.std.proofs.lemmas.List.Elements.{All-head, All-tail, All-contains}
use Rattle.jm_lane.specs.declared.row.Row.{Row}
use Rattle.jm_lane.specs.Rows.{IsRising}
use Rattle.jm_lane.specs.Lanes.{is_at}
use Rattle.jm_lanes.specs.Lanes.{IsApart}
use Rattle.jm_lanes.proofs.Places.{find_has}
use Rattle.jm_lane.proofs.Soonest.{in_rest}

-- where no two rows are of one place, a row is found at its own
pub found_there : (xs : List Row) (r : Row) → IsApart xs → Contains xs r → find (is_at r.place) xs ≡ Some r
found_there [] r a c = absurd (let l = c.1 in omega (arith, l))
found_there (x ∷ xs) r a c = elim (in_rest x r xs c.0 c.1 c.2) [
  | inl s ↦ rw (eq-eqb x.place r.place (ap (λ (y : Row). y.place) s)) (ap Some s)
  | inr rest ↦
      let ne : r.place ≢ x.place = All-contains (λ (y : Row). y.place ≢ x.place) xs r a.0 rest in
      rw (ne_eqb x.place r.place (λ q. ne (sym q))) (found_there xs r a.1 rest)
]

-- in rows by place, the row of least place that passes is the first that passes
pub find_least : (f : Row → Bool) (zs : List Row) (r : Row) → IsRising zs → find (is_at r.place) zs ≡ Some r → f r ≡ true → All (λ y. f y ≡ true → r.place ≤ y.place) zs → find f zs ≡ Some r
find_least f [] r up at e least = absurd (cc)
find_least f (x ∷ xs) r up at e least = elim (eqb_tells x.place r.place) [
  | inl s ↦ here (rw (eq-eqb x.place r.place s.1) at at)
  | inr n ↦
      let is : find (is_at r.place) xs ≡ Some r = rw (ne_eqb x.place r.place n.1) at at in
      later (f x) refl is (find_least f xs r up.1 is e (All-tail (λ y. f y ≡ true → r.place ≤ y.place) x xs least))
]
  where
    here : Some x ≡ Some r → find f (x ∷ xs) ≡ Some r
    here is =
        let same : x ≡ r = cc in
        rw (same, e) refl

    later : (b : Bool) → f x ≡ b → find (is_at r.place) xs ≡ Some r → find f xs ≡ Some r → cond b (Some x) (find f xs) ≡ Some r
    later true t is rest =
        let low : r.place ≤ x.place = All-head (λ y. f y ≡ true → r.place ≤ y.place) x xs least t in
        let above : x.place < r.place = subst (λ o. IfSome o (λ (y : Row). x.place < y.place)) is (find_has (λ (y : Row). x.place < y.place) (is_at r.place) xs up.0) in
        absurd (omega (arith, low, above))
    later false t is rest = rest
