-- Rows that stand by place hold each message once.
use Rattle.std.proofs.Common.{◌≡◌, ℕ, ◌+◌, ◌≤◌, Bool, true, false, cond, List, [], ◌∷◌, refl, arith}
use Rattle.std.specs.Prelude.{◌==◌, ◌&&◌}
use Rattle.std.proofs.lemmas.Bool.Decides.{nat_tests}
use Rattle.jm_machine.specs.declared.state.PlacedRow.{PlacedRow}
use Rattle.jm_machine.specs.declared.state.Station.{Station}
use Rattle.jm_machine.specs.Rows.{AllAbove, InOrder}
use Rattle.jm_machine.specs.Machine.{AllInOrder}
use Rattle.jm_machine.specs.Places.{rows_at, EachOnePlace, OnePlaceEach}
use Rattle.jm_machine.proofs.Order.{reached_in_order, queues_in_order}

-- no row stands at a place below which none stands
none_below : (place n : ℕ) → place ≤ n → (rows : List PlacedRow) → AllAbove n rows → rows_at place rows ≡ 0
none_below place n h [] a = refl
none_below place n h (x ∷ rows) a = let i = a.0 in grind (arith, nat_tests, none_below place n h rows a.1)

pub one_place : (n place : ℕ) (rows : List PlacedRow) → InOrder n rows → rows_at place rows ≤ 1
one_place n place [] h = omega arith
one_place n place (x ∷ rows) h = go (x.place == place) refl (one_place n place rows h.2)
  where
    go : (b : Bool) → (x.place == place) ≡ b → rows_at place rows ≤ 1 → cond (b && true) (rows_at place rows + 1) (rows_at place rows) ≤ 1
    go true e r =
        let i : place ≤ x.place = grind (arith, nat_tests) in
        let z : rows_at place rows ≡ 0 = none_below place x.place i rows h.1 in
        omega arith
    go false e r = r

-- none stands at the next place, nor above it
pub none_from : (n place : ℕ) → n ≤ place → (rows : List PlacedRow) → InOrder n rows → rows_at place rows ≡ 0
none_from n place h [] o = refl
none_from n place h (x ∷ rows) o = let i = o.0 in grind (arith, nat_tests, none_from n place h rows o.2)

each_one : (n : ℕ) (stations : List Station) → AllInOrder n stations → EachOnePlace stations
each_one n [] h = tt
each_one n (x ∷ stations) h = (λ place. one_place n place x.rows h.0, each_one n stations h.1)

pub one_place_each : OnePlaceEach
one_place_each state r = (λ name place. one_place state.next_place place (state.queues name) (queues_in_order state r name), each_one state.next_place state.stations (reached_in_order state r))
