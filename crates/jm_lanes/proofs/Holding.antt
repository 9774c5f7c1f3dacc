-- What the table keeps while rows of all lanes move and go.
use Rattle.std.proofs.Common.{◌≡◌, ◌≢◌, ℕ, ◌+◌, ◌<◌, ◌≤◌, ◌==◌, List, [], ◌∷◌, length, get_or, set, map, true, false, Bool, cond, Option, Some, None, refl, ap, sym, subst, ◌∙◌, arith, suc, zero}
use Rattle.std.specs.List.{filter, find}
use Rattle.std.specs.Option.{IfSome}
use Rattle.std.proofs.lemmas.Bool.{eq-eqb, eqb-true, ne_eqb}
use Rattle.std.proofs.lemmas.List.{map-append, get_or_default}
use Rattle.std.proofs.lemmas.List.Elements.{All-weaker}
use Rattle.jm_dest.specs.declared.session.SessionId.{SessionId}
use Rattle.jm_lane.specs.declared.row.Row.{Row}
use Rattle.jm_lanes.specs.Lists.{sorted, put}
use Rattle.jm_lane.specs.Rows.{IsRising, is_elsewhere, sent_at}
use Rattle.jm_lane.specs.Lanes.{Lane}
use Rattle.jm_lanes.specs.Lanes.{all_rows, rows_of, is_lower, EachBecomes, IsApart}
use Rattle.jm_lane.specs.Holders.{Messages, holders_of, last_message, rows_at, Follows, Covers, KeepsMessages, LosesHolder}
use Rattle.jm_lane.proofs.Rising.{filter_elsewhere}
use Rattle.jm_lanes.proofs.Places.{find_has}
use Rattle.jm_lanes.proofs.Edited.{all_rows_each, IsEdited, edited_more}
use Rattle.jm_lane.proofs.Steps.{sent_at_place}
use Rattle.jm_lane.proofs.Holding.{covers_after, covers_same, filter_count, map_count, none_at, row_first, rows_both, same_test}

put_count : (p : ℕ) (x : Row) (l : List Row) → rows_at p (put is_lower x l) ≡ rows_at p (x ∷ l)
put_count p x [] = refl
put_count p x (y ∷ ys) =
    elim (is_lower x y) as (λ b. rows_at p (cond b (x ∷ y ∷ ys) (y ∷ put is_lower x ys)) ≡ rows_at p (x ∷ y ∷ ys)) [
      | true ↦ refl
      | false ↦ omega (arith, row_first p y (put is_lower x ys), put_count p x ys, row_first p x (y ∷ ys), row_first p y ys, row_first p x ys)
    ]

pub sorted_count : (p : ℕ) (xs : List Row) → rows_at p (sorted is_lower xs) ≡ rows_at p xs
sorted_count p [] = refl
sorted_count p (x ∷ xs) = omega (arith, put_count p x (sorted is_lower xs), row_first p x (sorted is_lower xs), row_first p x xs, sorted_count p xs)

set_count : (p : ℕ) (lanes : List Lane) (i : ℕ) (lane : Lane) (d : Lane) → i < length lanes → rows_at p (all_rows (set lanes i lane)) + rows_at p (get_or lanes i d).rows ≡ rows_at p (all_rows lanes) + rows_at p lane.rows
set_count p [] i lane d l = absurd (omega arith)
set_count p (x ∷ xs) zero lane d l = omega (arith, rows_both p x.rows (all_rows xs), rows_both p lane.rows (all_rows xs))
set_count p (x ∷ xs) (suc i) lane d l = omega (arith, rows_both p x.rows (all_rows (set xs i lane)), rows_both p x.rows (all_rows xs), set_count p xs i lane d (omega arith))

pub record IsLet (origin t : Messages) (init lanes : List Lane) : Type 0 where
  pub follows : Follows origin t (all_rows init) (all_rows lanes)
  pub covers : Covers t (all_rows lanes)

pub let_none : (t : Messages) (init : List Lane) → Covers t (all_rows init) → IsLet t t init init
let_none t init c = record { follows = record { holders = λ p. refl; messages = record { same = λ p h. refl; room = omega arith } }; covers = c }

lane_part : (p : ℕ) (lanes : List Lane) (i : ℕ) (d : Lane) → i < length lanes → rows_at p (get_or lanes i d).rows ≤ rows_at p (all_rows lanes)
lane_part p [] i d l = absurd (omega arith)
lane_part p (x ∷ xs) zero d l = omega (arith, rows_both p x.rows (all_rows xs))
lane_part p (x ∷ xs) (suc i) d l = omega (arith, rows_both p x.rows (all_rows xs), lane_part p xs i d (omega arith))

pub covers_lane : (t : Messages) (lanes : List Lane) (i : ℕ) (d : Lane) → Covers t (all_rows lanes) → i < length lanes → Covers t (get_or lanes i d).rows
covers_lane t lanes i d c l = record { held = λ p. omega (arith, lane_part p lanes i d l, c.held p) }

pub let_more : (q : Row → Bool) (origin t t' : Messages) (init lanes : List Lane) (i : ℕ) (d lane : Lane) → IsLet origin t init lanes → i < length lanes → lane.rows ≡ filter q (get_or lanes i d).rows → Follows t t' (get_or lanes i d).rows lane.rows → IsLet origin t' init (set lanes i lane)
let_more q origin t t' init lanes i d lane w l is f =
    let fewer : (p : ℕ) → rows_at p lane.rows ≤ rows_at p (get_or lanes i d).rows = λ p. rw is (filter_count q p (get_or lanes i d).rows) in
    record {
      follows = record {
        holders = λ p. omega (arith, set_count p lanes i lane d l, f.holders p, w.follows.holders p);
        messages = record { same = λ p h. f.messages.same p h ∙ w.follows.messages.same p (omega (arith, h, f.holders p, fewer p)); room = omega (arith, f.messages.room, w.follows.messages.room) };
      };
      covers = record { held = λ p. omega (arith, set_count p lanes i lane d l, f.holders p, w.covers.held p) };
    }

-- by place, of all lanes
pub follows_shown : (origin t : Messages) (xs ys : List Lane) (us vs : List Row) → ((p : ℕ) → rows_at p us ≡ rows_at p (all_rows xs)) → ((p : ℕ) → rows_at p vs ≡ rows_at p (all_rows ys)) → Follows origin t (all_rows xs) (all_rows ys) → Follows origin t us vs
follows_shown origin t xs ys us vs a b f = record { holders = λ p. omega (arith, a p, b p, f.holders p); messages = f.messages }

pub shown_count : (p : ℕ) (xs : List Lane) → rows_at p (rows_of xs) ≡ rows_at p (all_rows xs)
shown_count p xs = sorted_count p (all_rows xs)

pub covers_all : (t : Messages) (xs : List Lane) → Covers t (rows_of xs) → Covers t (all_rows xs)
covers_all t xs c = covers_same t (rows_of xs) (all_rows xs) (λ p. sym (shown_count p xs)) c

pub follows_all : (origin t : Messages) (xs ys : List Lane) → Follows origin t (all_rows xs) (all_rows ys) → Follows origin t (rows_of xs) (rows_of ys)
follows_all origin t xs ys f = follows_shown origin t xs ys (rows_of xs) (rows_of ys) (λ p. shown_count p xs) (λ p. shown_count p ys) f

-- a row that goes out is counted where it was
pub follows_sent : (origin t : Messages) (s : SessionId) (c place : ℕ) (xs ys zs : List Lane) → EachBecomes (map (sent_at place s c)) ys zs → Follows origin t (all_rows xs) (all_rows ys) → Follows origin t (rows_of xs) (rows_of zs)
follows_sent origin t s c place xs ys zs e f =
    follows_shown origin t xs ys (rows_of xs) (rows_of zs) (λ p. shown_count p xs) (λ p. shown_count p zs ∙ ap (rows_at p) (all_rows_each (map (sent_at place s c)) refl (map-append (sent_at place s c)) ys zs e) ∙ map_count (sent_at place s c) (sent_at_place place s c) p (all_rows ys)) f

pub edited_one : (q : Row → Bool) (init lanes : List Lane) (i : ℕ) (d lane : Lane) → IsEdited (filter q) init lanes i → i < length init → lane.priority ≡ (get_or lanes i d).priority → lane.rows ≡ filter q (get_or lanes i d).rows → (get_or lanes i d).spare ≤ lane.spare → IsEdited (filter q) init (set lanes i lane) (i + 1)
edited_one q init lanes i d lane e l pr rows room =
    edited_more (filter q) init lanes i lane e l (λ d'. rw (get_or_default lanes i d' d (omega (arith, e.len))) (record { priority = pr; rows = rows; room = room }))

-- a row of each place at most
pub apart_once : (p : ℕ) (xs : List Row) → IsApart xs → rows_at p xs ≤ 1
apart_once p [] h = omega arith
apart_once p (x ∷ xs) h = go (x.place == p) refl (apart_once p xs h.1)
  where
    go : (b : Bool) → (x.place == p) ≡ b → rows_at p xs ≤ 1 → rows_at p (x ∷ xs) ≤ 1
    go true e rest =
        let here : x.place ≡ p = eqb-true x.place p e in
        let one : cond {A = ℕ} (x.place == p) 1 0 ≡ 1 = rw e refl in
        omega (arith, one, row_first p x xs, none_at p xs (rw (← here) h.0))
    go false e rest =
        let zero : cond {A = ℕ} (x.place == p) 1 0 ≡ 0 = rw e refl in
        omega (arith, zero, row_first p x xs, rest)

-- a row that is found goes: its place has one row less
pub elsewhere_count : (q : Row → Bool) (p : ℕ) (xs : List Row) (r : Row) → IsApart xs → find q xs ≡ Some r → rows_at p (filter (is_elsewhere r.place) xs) + cond {A = ℕ} (p == r.place) 1 0 ≡ rows_at p xs
elsewhere_count q p [] r h f = absurd (cc)
elsewhere_count q p (x ∷ xs) r h f = go (q x) (elsewhere_count q p xs r h.1) (find_has (λ (y : Row). y.place ≢ x.place) q xs h.0) f
  where
    go : (b : Bool) → (find q xs ≡ Some r → rows_at p (filter (is_elsewhere r.place) xs) + cond {A = ℕ} (p == r.place) 1 0 ≡ rows_at p xs) → IfSome (find q xs) (λ (y : Row). y.place ≢ x.place) → cond b (Some x) (find q xs) ≡ Some r → rows_at p (filter (is_elsewhere r.place) (x ∷ xs)) + cond {A = ℕ} (p == r.place) 1 0 ≡ rows_at p (x ∷ xs)
    go true rec other e =
        let is : x ≡ r = cc in
        let kept : filter (is_elsewhere x.place) (x ∷ xs) ≡ xs = rw (eq-eqb x.place x.place refl) (filter_elsewhere x.place xs h.0) in
        subst (λ (s : Row). rows_at p (filter (is_elsewhere s.place) (x ∷ xs)) + cond {A = ℕ} (p == s.place) 1 0 ≡ rows_at p (x ∷ xs)) is (omega (arith, row_first p x xs, same_test p x.place, ap (rows_at p) kept))
    go false rec other e =
        let ne : r.place ≢ x.place = subst (λ o. IfSome o (λ (y : Row). y.place ≢ x.place)) e other in
        rw (ne_eqb x.place r.place (λ s. ne (sym s))) (omega (arith, rec e, row_first p x (filter (is_elsewhere r.place) xs), row_first p x xs))

-- a row that is found lets its message go
pub first_settled : (q : Row → Bool) (t t' : Messages) (ys : List Row) (r : Row) → IsApart ys → find q ys ≡ Some r → LosesHolder t t' r.place → KeepsMessages t t' → Follows t t' ys (filter (is_elsewhere r.place) ys)
first_settled q t t' ys r apart found lost kept =
    record { holders = λ p. omega (arith, elsewhere_count q p ys r apart found, lost.holders p); messages = kept }

-- its place has a holder
pub first_holder : (q : Row → Bool) (t : Messages) (ys : List Row) (r : Row) → IsApart ys → find q ys ≡ Some r → Covers t ys → 0 < holders_of t r.place
first_holder q t ys r apart found c =
    let one : cond {A = ℕ} (r.place == r.place) 1 0 ≡ 1 = rw (eq-eqb r.place r.place refl) refl in
    omega (arith, one, elsewhere_count q r.place ys r apart found, c.held r.place)

-- and what was dropped before changes neither its holders nor its message
pub first_message : (q : Row → Bool) (origin second : Messages) (xs : List Row) (p : Row → Bool) (r : Row) → IsApart xs → IsApart (filter p xs) → find q (filter p xs) ≡ Some r → Covers origin xs → Follows origin second xs (filter p xs) → last_message second r.place ≡ last_message origin r.place
first_message q origin second xs p r apart apart' found c f =
    let there : 0 < holders_of second r.place = first_holder q second (filter p xs) r apart' found (covers_after origin second xs (filter p xs) c f) in
    let one : cond {A = ℕ} (r.place == r.place) 1 0 ≡ 1 = rw (eq-eqb r.place r.place refl) refl in
    let same : holders_of second r.place ≡ holders_of origin r.place = omega (arith, one, f.holders r.place, apart_once r.place xs apart, filter_count p r.place xs, elsewhere_count q r.place (filter p xs) r apart' found) in
    rw (same, f.messages.same r.place there) refl

-- rows that rise have no two of one place
rising_apart : (xs : List Row) → IsRising xs → IsApart xs
rising_apart [] h = tt
rising_apart (x ∷ xs) h = (All-weaker (λ (y : Row). x.place < y.place) (λ (y : Row). y.place ≢ x.place) (λ y l. omega (arith, l)) xs h.0, rising_apart xs h.1)

-- so at most one of each
pub rising_once : (p : ℕ) (xs : List Row) → IsRising xs → rows_at p xs ≤ 1
rising_once p xs h = apart_once p xs (rising_apart xs h)
