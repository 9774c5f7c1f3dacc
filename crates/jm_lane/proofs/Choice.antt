-- The row that goes first of those that pass: the better of two lists, and where none behind a row is better.
use Rattle.std.proofs.Common.{◌≡◌, ℕ, ◌<◌, ◌==◌, nat_lt, List, [], ◌∷◌, ◌++◌, length, get_or, take, true, false, Bool, ◌&&◌, ◌||◌, cond, Option, Some, None, refl, sym, subst, ◌∙◌, arith, suc, zero}
use Rattle.std.specs.List.{filter, All, Contains, slice_get}
use Rattle.std.proofs.lemmas.List.{get_or_default}
use Rattle.std.proofs.lemmas.Bool.Decides.{nat_tests}
use Rattle.std.proofs.lemmas.List.Elements.{All-nil, All-cons, All-head, All-tail, All-append, All-weaker, All-contains, All-contains_itself, Contains-append_left, Contains-append_right}
use Rattle.jm_lane.specs.declared.row.Row.{Row}
use Rattle.jm_lane.specs.Rows.{IsRising}
use Rattle.jm_lane.specs.Lanes.{Lane, IsSoonestOf, is_sooner}
use Rattle.jm_lane.specs.Chosen.{goes_before}
use Rattle.jm_lane.proofs.Soonest.{all_that_pass, not_both, not_later, soonest_second}

pub left_true : (a b : Bool) → (a && b) ≡ true → a ≡ true
left_true true b h = refl
left_true false b h = h

right_true : (a b : Bool) → (a && b) ≡ true → b ≡ true
right_true true b h = h
right_true false b h = absurd (cc)

both_hold : (a b : Bool) → a ≡ true → b ≡ true → (a && b) ≡ true
both_hold true b h k = k
both_hold false b h k = absurd (cc)

left_fails : (a b : Bool) → (a && b) ≡ false → b ≡ true → a ≡ false
left_fails true b h k = absurd (cc)
left_fails false b h k = refl

-- what all have that pass, all have that a filter leaves
kept_each : (P : Row → Type 0) (q : Row → Bool) (xs : List Row) → All (λ y. q y ≡ true → P y) xs → All P (filter q xs)
kept_each P q [] a = All-nil P
kept_each P q (x ∷ xs) a = go (q x) refl (kept_each P q xs (All-tail (λ y. q y ≡ true → P y) x xs a))
  where
    go : (b : Bool) → q x ≡ b → All P (filter q xs) → All P (cond b (x ∷ filter q xs) (filter q xs))
    go true e rest = All-cons P x (filter q xs) (All-head (λ y. q y ≡ true → P y) x xs a e) rest
    go false e rest = rest

-- what goes first of those that pass two tests goes first of those that pass the one, in what the other leaves
pub soonest_left : (p q : Row → Bool) (xs : List Row) (o : Option Row) → IsSoonestOf (λ r. p r && q r) xs o → IsSoonestOf p (filter q xs) o
soonest_left p q xs None h =
    kept_each (λ y. p y ≡ false) q xs (All-weaker (λ y. (p y && q y) ≡ false) (λ y. q y ≡ true → p y ≡ false) (λ y e t. left_fails (p y) (q y) e t) xs h)
soonest_left p q xs (Some r) h = record {
  pass = left_true (p r) (q r) h.pass;
  there = All-contains (λ y. q y ≡ true → Contains (filter q xs) y) xs r (all_that_pass (Contains (filter q xs)) q xs (All-contains_itself (filter q xs))) h.there (right_true (p r) (q r) h.pass);
  first = kept_each (λ y. p y ≡ true → is_sooner y r ≡ false) q xs (All-weaker (λ y. (p y && q y) ≡ true → is_sooner y r ≡ false) (λ y. q y ≡ true → p y ≡ true → is_sooner y r ≡ false) (λ y f t u. f (both_hold (p y) (q y) u t)) xs h.first);
}

-- a row that was found, or else the best so far
abbrev pub better_of : Option Row → Option Row → Option Row
better_of best None = best
better_of best (Some r) = Some r

-- of two lists it is the better of two, where of the second only those were looked at that go before the first
pub soonest_better : (p : Row → Bool) (us vs : List Row) (a b : Option Row) → IsSoonestOf p us a → IsSoonestOf (λ r. goes_before a r && p r) vs b → IsSoonestOf p (us ++ vs) (better_of a b)
soonest_better p us vs None None h k = soonest_second p us vs None h k
soonest_better p us vs None (Some y) h k = soonest_second p us vs (Some y) h k
soonest_better p us vs (Some x) None h k = record {
  pass = h.pass;
  there = Contains-append_left us vs x h.there;
  first = All-append (λ z. p z ≡ true → is_sooner z x ≡ false) us vs h.first (All-weaker (λ z. (is_sooner z x && p z) ≡ false) (λ z. p z ≡ true → is_sooner z x ≡ false) (λ z e t. left_fails (is_sooner z x) (p z) e t) vs k);
}
soonest_better p us vs (Some x) (Some y) h k =
    let before : is_sooner y x ≡ true = left_true (is_sooner y x) (p y) k.pass in
    let behind : (z : Row) → is_sooner z x ≡ false → is_sooner z y ≡ false = λ z e. not_later y.priority y.place x.priority x.place z.priority z.place (not_both y.priority y.place x.priority x.place before) e in
    record {
      pass = right_true (is_sooner y x) (p y) k.pass;
      there = Contains-append_right us vs y k.there;
      first = All-append (λ z. p z ≡ true → is_sooner z y ≡ false) us vs (All-weaker (λ z. p z ≡ true → is_sooner z x ≡ false) (λ z. p z ≡ true → is_sooner z y ≡ false) (λ z f t. behind z (f t)) us h.first) (All-weaker (λ z. (is_sooner z x && p z) ≡ true → is_sooner z y ≡ false) (λ z. p z ≡ true → is_sooner z y ≡ false) (λ z f t. here z f t (is_sooner z x) refl) vs k.first);
    }
  where
    here : (z : Row) → ((is_sooner z x && p z) ≡ true → is_sooner z y ≡ false) → p z ≡ true → (b : Bool) → is_sooner z x ≡ b → is_sooner z y ≡ false
    here z f t true e = f (both_hold (is_sooner z x) (p z) e t)
    here z f t false e = not_later y.priority y.place x.priority x.place z.priority z.place (not_both y.priority y.place x.priority x.place (left_true (is_sooner y x) (p y) k.pass)) e

-- what is found in a lane, or else the best so far
pub found_better : (p : Row → Bool) (lanes : List Lane) (at index : ℕ) (d lane : Lane) (best seen got o : Option Row) (rows : List Row) → at < length lanes → lane ≡ get_or lanes at lane → seen ≡ best → got ≡ slice_get lane.rows index → got ≡ o → IsSoonestOf (λ r. goes_before seen r && p r) lane.rows (slice_get lane.rows index) → IsSoonestOf p rows best
    → IsSoonestOf p (rows ++ (get_or lanes at d).rows) (better_of best o)
found_better p lanes at index d lane best seen got o rows within is same row case here before =
    let lane_is : lane ≡ get_or lanes at d = is ∙ get_or_default lanes at lane d within in
    let one = subst (λ r. IsSoonestOf (λ r. goes_before seen r && p r) lane.rows r) (sym row ∙ case) here in
    let two = subst (λ b. IsSoonestOf (λ r. goes_before b r && p r) lane.rows o) same one in
    soonest_better p rows (get_or lanes at d).rows best o before (subst (λ (x : Lane). IsSoonestOf (λ r. goes_before best r && p r) x.rows o) lane_is two)

-- a row behind one that does not go before another does not either
still_behind : (p r q s u v : ℕ) → u ≡ p → r < v → (nat_lt q p || (p == q && nat_lt r s)) ≡ false → (nat_lt q u || (u == q && nat_lt v s)) ≡ false
still_behind p r q s u v e l h = grind (arith, nat_tests)

behind_best : (best : Option Row) (x y : Row) → y.priority ≡ x.priority → x.place < y.place → goes_before best x ≡ false → goes_before best y ≡ false
behind_best None x y same up h = absurd (cc)
behind_best (Some b) x y same up h = still_behind x.priority x.place b.priority b.place y.priority y.place same up h

pub fails_left : (a b : Bool) → a ≡ false → (a && b) ≡ false
fails_left true b h = absurd (cc)
fails_left false b h = refl

pub fails_right : (a b : Bool) → b ≡ false → (a && b) ≡ false
fails_right true b h = h
fails_right false b h = refl

-- of rows of one priority by place none is better from the first on that does not go before the best
pub none_behind : (best : Option Row) (p : Row → Bool) (pr : ℕ) (rs : List Row) (i : ℕ) (d : Row) → All (λ (r : Row). r.priority ≡ pr) rs → IsRising rs → i < length rs → goes_before best (get_or rs i d) ≡ false → All (λ r. (goes_before best r && p r) ≡ false) (take i rs) → All (λ r. (goes_before best r && p r) ≡ false) rs
none_behind best p pr [] i d same up l e before = absurd (omega (arith, l))
none_behind best p pr (x ∷ xs) zero d same up l e before =
    All-cons (λ r. (goes_before best r && p r) ≡ false) x xs (fails_left (goes_before best x) (p x) e) (λ k f m.
    let y : Row = get_or xs k f in
    let one : y.priority ≡ x.priority = All-tail (λ (r : Row). r.priority ≡ pr) x xs same k f m ∙ sym (All-head (λ (r : Row). r.priority ≡ pr) x xs same) in
    fails_left (goes_before best y) (p y) (behind_best best x y one (up.0 k f m) e))
none_behind best p pr (x ∷ xs) (suc i) d same up l e before =
    All-cons (λ r. (goes_before best r && p r) ≡ false) x xs (All-head (λ r. (goes_before best r && p r) ≡ false) x (take i xs) before) (none_behind best p pr xs i d (All-tail (λ (r : Row). r.priority ≡ pr) x xs same) up.1 (omega (arith, l)) e (All-tail (λ r. (goes_before best r && p r) ≡ false) x (take i xs) before))

-- a row that does not wait is not better
pub out_not_ready : (g w e : Bool) → w ≡ false → (g && (w && e)) ≡ false
out_not_ready g w e h = fails_right g (w && e) (fails_left w e h)

pub out_not_better : (g w e s : Bool) → w ≡ false → (g && ((w && e) && s)) ≡ false
out_not_better g w e s h = fails_right g ((w && e) && s) (fails_left (w && e) s (fails_left w e h))
