-- Where each message passes, a delivery is of all rows.
use Rattle.std.proofs.Common.{◌≡◌, ℕ, List, [], ◌∷◌, refl, ap}
use Rattle.jm_machine.specs.declared.state.Row.{Row}
use Rattle.jm_machine.specs.declared.state.PlacedRow.{PlacedRow}
use Rattle.jm_machine.specs.Machine.{delivery}
use Rattle.jm_machine.specs.Rows.{bare, change_placed, chosen, deliver_chosen, deliver_placed, is_next, live, live_placed, next}
use Rattle.jm_machine.specs.Wants.{next_chosen, next_placed}
use Rattle.std.specs.List.{find}
use Rattle.jm_stations.specs.Backlogs.{Backlog, answered, answered_where, any, changed_at}

chosen_any : (rows : List Row) → chosen any rows ≡ rows
chosen_any [] = refl
chosen_any (r ∷ rows) = ap (λ xs. r ∷ xs) (chosen_any rows)

pub next_any : (now : ℕ) (rows : List PlacedRow) → next_chosen any now rows ≡ next_placed now rows
next_any now rows = ap (λ xs. find (λ (x : PlacedRow). is_next now xs x.row) (live_placed now rows)) (chosen_any (live now (bare rows)))

pub answered_any : (now : ℕ) (rows : List PlacedRow) → answered_where any now rows ≡ answered now rows
answered_any now rows = ap (λ xs. delivery (next now (live now xs))) (chosen_any (bare rows))

pub deliver_any : (now : ℕ) (f : Row → List Row) (rows : List PlacedRow) → deliver_chosen any now f rows ≡ deliver_placed now f rows
deliver_any now f rows = ap (λ xs. change_placed (is_next now xs) f (live_placed now rows)) (chosen_any (live now (bare rows)))

-- what is held after a delivery from those that pass is what is held after one from all
pub changed_any : (now index : ℕ) (f : Row → List Row) (list : List Backlog) → changed_at index (λ (b : Backlog). record b { rows = deliver_chosen any now f b.rows }) list ≡ changed_at index (λ (b : Backlog). record b { rows = deliver_placed now f b.rows }) list
changed_any now index f list = λ i. changed_at index (λ (b : Backlog). record b { rows = deliver_any now f b.rows i }) list
