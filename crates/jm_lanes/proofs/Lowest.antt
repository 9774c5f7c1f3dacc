-- The row of the lowest place that passes, lane by lane, and that it is the first by place.
use Rattle.std.proofs.Common.{◌≡◌, ℕ, ◌+◌, ◌<◌, ◌≤◌, nat_lt, List, [], ◌∷◌, ◌++◌, length, get_or, take, true, false, Bool, cond, Option, Some, None, refl, sym, subst, ◌∙◌, arith, inl, inr}
use Rattle.std.specs.List.{find}
use Rattle.std.specs.Option.{option_or}
use Rattle.std.proofs.lemmas.Bool.{ltb-true, ltb-false}
use Rattle.std.proofs.lemmas.List.Elements.{All-nil, All-cons, All-append, All-weaker, Contains-get_or, Contains-append_left, Contains-append_right}
use Rattle.jm_lane.specs.declared.row.Row.{Row}
use Rattle.jm_lanes.specs.Lists.{sorted}
use Rattle.jm_lane.specs.Rows.{IsRising}
use Rattle.jm_lane.specs.Lanes.{Lane, is_at}
use Rattle.jm_lanes.specs.Lanes.{all_rows, is_lower}
use Rattle.jm_lane.specs.Cursors.{improves}
use Rattle.jm_lanes.specs.Cursors.{IsLowestOf}
use Rattle.jm_lane.proofs.Rising.{find_none}
use Rattle.jm_lanes.proofs.Places.{all_sorted, apart_from_rising}
use Rattle.jm_lanes.proofs.Ranks.{at_sorted}
use Rattle.jm_lanes.proofs.Found.{all_rows_more}
use Rattle.jm_lanes.proofs.Soonest.{find_least, found_there}
use Rattle.jm_lane.proofs.Lowest.{not_under, under_and, under_or}

-- in rows by place the first that passes is the lowest
pub first_lowest : (p : Row → Bool) (rs : List Row) → IsRising rs → IsLowestOf p rs (find p rs)
first_lowest p [] up = All-nil (λ y. p y ≡ false)
first_lowest p (x ∷ xs) up = go (p x) refl (find p xs) (first_lowest p xs up.1)
  where
    go : (b : Bool) → p x ≡ b → (o : Option Row) → IsLowestOf p xs o → IsLowestOf p (x ∷ xs) (cond b (Some x) o)
    go true e o rest = record {
      pass = e;
      there = Contains-get_or (x ∷ xs) 0 x (omega arith);
      first = All-cons (λ (y : Row). p y ≡ true → x.place ≤ y.place) x xs (λ h. omega arith) (All-weaker (λ (y : Row). x.place < y.place) (λ (y : Row). p y ≡ true → x.place ≤ y.place) (λ y l h. omega (arith, l)) xs up.0);
    }
    go false e None rest = All-cons (λ y. p y ≡ false) x xs e rest
    go false e (Some r) rest =
        record { pass = rest.pass; there = Contains-append_right (x ∷ []) xs r rest.there; first = All-cons (λ (y : Row). p y ≡ true → r.place ≤ y.place) x xs (λ h. absurd (cc)) rest.first }

-- of two lists it is the one that improves, or the best so far
pub lowest_both : (p : Row → Bool) (us vs : List Row) (best o : Option Row) → IsLowestOf p us best → IsLowestOf (improves best p) vs o → IsLowestOf p (us ++ vs) (option_or o best)
lowest_both p us vs None None h k = All-append (λ y. p y ≡ false) us vs h k
lowest_both p us vs (Some b) None h k = record {
  pass = h.pass;
  there = Contains-append_left us vs b h.there;
  first = All-append (λ (y : Row). p y ≡ true → b.place ≤ y.place) us vs h.first (All-weaker (λ y. improves (Some b) p y ≡ false) (λ (y : Row). p y ≡ true → b.place ≤ y.place) (λ y e t. ltb-false y.place b.place (not_under (nat_lt y.place b.place) (p y) e t)) vs k);
}
lowest_both p us vs None (Some r) h k = record {
  pass = k.pass;
  there = Contains-append_right us vs r k.there;
  first = All-append (λ (y : Row). p y ≡ true → r.place ≤ y.place) us vs (All-weaker (λ y. p y ≡ false) (λ (y : Row). p y ≡ true → r.place ≤ y.place) (λ y e t. absurd (cc)) us h) k.first;
}
lowest_both p us vs (Some b) (Some r) h k =
    let both = under_and (nat_lt r.place b.place) (p r) k.pass in
    let low : r.place < b.place = ltb-true r.place b.place both.0 in
    record {
      pass = both.1;
      there = Contains-append_right us vs r k.there;
      first = All-append (λ (y : Row). p y ≡ true → r.place ≤ y.place) us vs (All-weaker (λ (y : Row). p y ≡ true → b.place ≤ y.place) (λ (y : Row). p y ≡ true → r.place ≤ y.place) (λ y f t. let le = f t in omega (arith, le, low)) us h.first) (All-weaker (λ (y : Row). improves (Some b) p y ≡ true → r.place ≤ y.place) (λ (y : Row). p y ≡ true → r.place ≤ y.place) (λ y f t.
          elim (under_or (nat_lt y.place b.place) (p y) t) [
            | inl u ↦ f u.1
            | inr n ↦ let over : b.place ≤ y.place = ltb-false y.place b.place n in omega (arith, over, low)
          ]) vs k.first);
    }

-- one lane more
pub lowest_more : (p : Row → Bool) (lanes : List Lane) (i : ℕ) (d : Lane) (best res : Option Row) → i < length lanes → IsLowestOf p (all_rows (take i lanes)) best → IsRising (get_or lanes i d).rows → res ≡ option_or (find (improves best p) (get_or lanes i d).rows) best → IsLowestOf p (all_rows (take (i + 1) lanes)) res
lowest_more p lanes i d best res l h up is =
    let rows : List Row = (get_or lanes i d).rows in
    subst (IsLowestOf p (all_rows (take (i + 1) lanes))) (sym is) (subst (λ rs. IsLowestOf p rs (option_or (find (improves best p) rows) best)) (sym (all_rows_more lanes i d l)) (lowest_both p (all_rows (take i lanes)) rows best (find (improves best p) rows) h (first_lowest (improves best p) rows up)))

-- in rows by place it is the first that passes
pub lowest_found : (p : Row → Bool) (xs : List Row) (o : Option Row) → IsRising (sorted is_lower xs) → IsLowestOf p xs o → o ≡ find p (sorted is_lower xs)
lowest_found p xs None up h = sym (find_none p (sorted is_lower xs) (all_sorted (λ y. p y ≡ false) xs h))
lowest_found p xs (Some r) up h =
    let at : find (is_at r.place) (sorted is_lower xs) ≡ Some r = at_sorted r.place xs up ∙ found_there xs r (apart_from_rising xs up) h.there in
    sym (find_least p (sorted is_lower xs) r up at h.pass (all_sorted (λ (y : Row). p y ≡ true → r.place ≤ y.place) xs h.first))
