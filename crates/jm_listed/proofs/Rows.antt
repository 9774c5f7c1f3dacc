-- Rows that are found, as listing reads them.
use Rattle.std.proofs.Common.{◌≡◌, ◌<◌, ◌≤◌, ℕ, Bool, true, false, cond, List, [], ◌∷◌, refl, arith, Option, Some, None}
use Rattle.std.specs.Prelude.{◌&&◌, IfSome, filter, find, nat_le, option_map}
use Rattle.jm_dest.specs.declared.key.Key.{Key}
use Rattle.jm_dest.specs.declared.key.Key.TheVariants.{Queue, Own, SharedOwn, Durable}
use Rattle.jm_dest.specs.Numbers.{long_end}
use Rattle.jm_header.specs.declared.content.Content.{Content}
use Rattle.jm_machine.specs.declared.state.Consumer.{Consumer}
use Rattle.jm_machine.specs.declared.state.PlacedRow.{PlacedRow}
use Rattle.jm_machine.specs.declared.state.Row.{Row}
use Rattle.jm_machine.specs.Rows.{AllAbove, InOrder, bare, is_next, is_next_chosen, live, live_placed}
use Rattle.jm_machine.specs.Machine.{State, selected_by}
use Rattle.jm_machine.specs.Under.{lasts_at, next_under, placed_under}
use Rattle.jm_keep.specs.Steps.{StandsInOrder}
use Rattle.jm_changes.specs.declared.planned.Standing.{Standing}
use Rattle.jm_changes.specs.Standing.{first_where, standing}
use Rattle.jm_keep_law.proofs.Published.{under_in_order}
use Rattle.jm_core.specs.Reading as reading

-- ---- fewer rows stand in order

above_filter : (n : ℕ) (p : PlacedRow → Bool) (rows : List PlacedRow) → AllAbove n rows → AllAbove n (filter p rows)
above_filter n p [] h = h
above_filter n p (x ∷ rows) h = go (p x) (above_filter n p rows h.1)
  where
    go : (b : Bool) → AllAbove n (filter p rows) → AllAbove n (cond b (x ∷ filter p rows) (filter p rows))
    go true r = (h.0, r)
    go false r = r

order_filter : (n : ℕ) (p : PlacedRow → Bool) (rows : List PlacedRow) → InOrder n rows → InOrder n (filter p rows)
order_filter n p [] h = h
order_filter n p (x ∷ rows) h = go (p x) (order_filter n p rows h.2)
  where
    go : (b : Bool) → InOrder n (filter p rows) → InOrder n (cond b (x ∷ filter p rows) (filter p rows))
    go true r = (h.0, above_filter x.place p rows h.1, r)
    go false r = r

-- ---- a row that is found stands below the end of places

if_map : {X Y : Type 0} (f : X → Y) (P : Y → Type 0) (o : Option X) → IfSome o (λ x. P (f x)) → IfSome (option_map f o) P
if_map f P None h = tt
if_map f P (Some x) h = h

below : (n : ℕ) (q : PlacedRow → Bool) (rows : List PlacedRow) → n ≤ long_end → InOrder n rows → IfSome (find q rows) (λ x. x.place < long_end)
below n q [] e h = tt
below n q (x ∷ rows) e h = go (q x) (below n q rows e h.2)
  where
    go : (b : Bool) → IfSome (find q rows) (λ y. y.place < long_end) → IfSome (cond b (Some x) (find q rows)) (λ y. y.place < long_end)
    go true r = let low = h.0 in omega (arith, low, e)
    go false r = r

pub first_below : (state : State) (q : Row → Bool) (place : ℕ) (key : Key) → StandsInOrder state → state.next_place ≤ long_end → IfSome (option_map standing (first_where q place (placed_under state key))) (λ r. r.place < long_end)
first_below state q place key o e =
    if_map standing (λ (r : Standing). r.place < long_end) (first_where q place (placed_under state key))
    (below state.next_place (λ x. nat_le place x.place && q x.row) (placed_under state key) e (under_in_order state o key))

next_below : (state : State) (p : Content → Bool) (now : ℕ) (key : Key) → StandsInOrder state → state.next_place ≤ long_end → IfSome (next_under p now key (placed_under state key)) (λ x. x.place < long_end)
next_below state p now (Queue name) o e =
    below state.next_place (λ x. is_next_chosen p now (live now (bare (placed_under state (Queue name)))) x.row) (live_placed now (placed_under state (Queue name))) e
    (order_filter state.next_place (λ x. _) (placed_under state (Queue name)) (under_in_order state o (Queue name)))
next_below state p now (Own s c) o e =
    below state.next_place (λ x. is_next now (live now (bare (placed_under state (Own s c)))) x.row) (live_placed now (placed_under state (Own s c))) e
    (order_filter state.next_place (λ x. _) (placed_under state (Own s c)) (under_in_order state o (Own s c)))
next_below state p now (SharedOwn client name) o e =
    below state.next_place (λ x. is_next now (live now (bare (placed_under state (SharedOwn client name)))) x.row) (live_placed now (placed_under state (SharedOwn client name))) e
    (order_filter state.next_place (λ x. _) (placed_under state (SharedOwn client name)) (under_in_order state o (SharedOwn client name)))
next_below state p now (Durable client name) o e =
    below state.next_place (λ x. is_next now (live now (bare (placed_under state (Durable client name)))) x.row) (live_placed now (placed_under state (Durable client name))) e
    (order_filter state.next_place (λ x. _) (placed_under state (Durable client name)) (under_in_order state o (Durable client name)))

-- ---- the row that a delivery lasts_at

pub taken_below : (state : State) (d : Option (ℕ × Consumer)) → StandsInOrder state → state.next_place ≤ long_end → IfSome (reading.place_taken state d) (λ n. n < long_end)
taken_below state None o e = tt
taken_below state (Some d) o e =
    if_map (λ (r : PlacedRow). r.place) (λ (k : ℕ). k < long_end) (next_under (selected_by (Some d.1)) d.0 d.1.key (placed_under state d.1.key)) (next_below state (selected_by (Some d.1)) d.0 d.1.key o e)

-- ---- each row is meant

each : (b : Bool) → b ≡ (b && true)
each true = refl
each false = refl

find_same : (p q : PlacedRow → Bool) → ((x : PlacedRow) → p x ≡ q x) → (rows : List PlacedRow) → find p rows ≡ find q rows
find_same p q e rows = λ i. find (λ x. e x i) rows

pub all_meant : (place : ℕ) (rows : List PlacedRow) → find (λ x. nat_le place x.place) rows ≡ find (λ x. nat_le place x.place && true) rows
all_meant place rows = find_same (λ x. nat_le place x.place) (λ x. nat_le place x.place && true) (λ x. each (nat_le place x.place)) rows
