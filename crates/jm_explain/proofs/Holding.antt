-- What is held of a key that has a name, as a cause looks at it.
use Rattle.std.proofs.Common.{◌≡◌, ℕ, suc, Bool, true, false, cond, List, [], ◌∷◌, filter, length, Option, Some, None, refl, ap, ◌∙◌}
use Rattle.std.specs.Prelude.{◌&&◌, ◌||◌, ◌==◌, not}
use Rattle.std.specs.List.{list_any}
use Rattle.std.proofs.lemmas.Bool.Decides.{nat_tests}
use native.Mathlib.Omega.{arith}
use Rattle.jm_dest.specs.declared.key.Key.{Key}
use Rattle.jm_dest.specs.declared.key.Key.TheVariants.{SharedOwn, Durable}
use Rattle.jm_dest.specs.Keys.{key_eq}
use Rattle.jm_header.specs.declared.content.Content.{Content}
use Rattle.jm_machine.specs.declared.state.Consumer.{Consumer}
use Rattle.jm_machine.specs.declared.state.PlacedRow.{PlacedRow}
use Rattle.jm_machine.specs.declared.state.Station.{Station}
use Rattle.jm_machine.specs.declared.state.RowState.{RowState}
use Rattle.jm_machine.specs.declared.state.RowState.TheVariants.{Waiting, Out}
use Rattle.jm_machine.specs.Machine.{State, holding_of, is_home, is_idle, rows_of, station_of}
use Rattle.jm_machine.specs.Rows.{bare, goes_out, is_out, is_waiting, waits}
use Rattle.jm_machine.specs.Wants.{placed_rows}
use Rattle.jm_machine.specs.Under.{placed_under}
use Rattle.jm_overview.specs.Overview.{out_in}
use Rattle.jm_explain.specs.Held.{is_any_active, is_any_out}

-- of the consumers of a key one is active where one is active at the key
active_is : (key : Key) (consumers : List Consumer) → list_any (λ (x : Consumer). x.is_active) (filter (λ (x : Consumer). key_eq x.key key) consumers) ≡ is_any_active key consumers
active_is key [] = refl
active_is key (x ∷ consumers) = go (key_eq x.key key) (active_is key consumers)
  where
    go : (b : Bool) → list_any (λ (y : Consumer). y.is_active) (filter (λ (y : Consumer). key_eq y.key key) consumers) ≡ is_any_active key consumers →
        list_any (λ (y : Consumer). y.is_active) (cond b (x ∷ filter (λ (y : Consumer). key_eq y.key key) consumers) (filter (λ (y : Consumer). key_eq y.key key) consumers)) ≡ ((b && x.is_active) || is_any_active key consumers)
    go true h = ap (λ r. x.is_active || r) h
    go false h = h

-- no consumer of the key is active
pub idle_is : (p : Content → Bool) (key : Key) (state : State) → is_idle (holding_of p key state) ≡ not (is_any_active key state.consumers)
idle_is p key state = ap not (active_is key state.consumers)

-- rows without their places are out as they are with them
out_is : (rows : List PlacedRow) → list_any (is_out (λ s c. true)) (bare rows) ≡ is_any_out rows
out_is [] = refl
out_is (x ∷ rows) = ap (λ r. is_out (λ s c. true) x.row || r) (out_is rows)

bare_of : (o : Option Station) → rows_of o ≡ bare (placed_rows o)
bare_of None = refl
bare_of (Some x) = refl

home_at : (o : Option Station) → not (list_any (λ r. is_out (λ s c. true) r) (rows_of o)) ≡ not (is_any_out (placed_rows o))
home_at o = ap (λ rows. not (list_any (is_out (λ s c. true)) rows)) (bare_of o) ∙ ap not (out_is (placed_rows o))

-- no row of the key is out
pub durable_home : (p : Content → Bool) (client : Option (List ℕ)) (name : List ℕ) (state : State) → is_home (holding_of p (Durable client name) state) ≡ not (is_any_out (placed_under state (Durable client name)))
durable_home p client name state = home_at (station_of (Durable client name) state.stations)

pub shared_home : (p : Content → Bool) (client : Option (List ℕ)) (name : List ℕ) (state : State) → is_home (holding_of p (SharedOwn client name) state) ≡ not (is_any_out (placed_under state (SharedOwn client name)))
shared_home p client name state = home_at (station_of (SharedOwn client name) state.stations)

not_none : (n : ℕ) → (suc n == 0) ≡ false
not_none n = grind (arith, nat_tests)

-- no row is out where none is counted as out
pub none_out : (rows : List PlacedRow) → (out_in rows == 0) ≡ not (is_any_out rows)
none_out [] = refl
none_out (x ∷ rows) = go x.row.state (none_out rows)
  where
    go : (s : RowState) → (out_in rows == 0) ≡ not (is_any_out rows) →
        (length (cond (not (waits s)) (x ∷ filter (λ (y : PlacedRow). not (is_waiting y.row)) rows) (filter (λ (y : PlacedRow). not (is_waiting y.row)) rows)) == 0) ≡ not (goes_out (λ s c. true) s || is_any_out rows)
    go Waiting h = h
    go (Out s c) h = not_none _
