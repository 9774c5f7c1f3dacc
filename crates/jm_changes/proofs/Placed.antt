-- The row that a delivery takes stands in the state.
use Rattle.std.proofs.Common.{◌≡◌, ℕ, Bool, true, false, cond, refl, sym, ◌∙◌, ap, Option, Some, None}
use Rattle.std.specs.Prelude.{not, option_map}
use Rattle.jm_dest.specs.declared.key.Key.{Key}
use Rattle.jm_header.specs.declared.content.Content.{Content}
use Rattle.jm_machine.specs.declared.state.PlacedRow.{PlacedRow}
use Rattle.jm_machine.specs.declared.state.Row.{Row}
use Rattle.jm_machine.specs.Rows.{has_lapsed}
use Rattle.jm_machine.specs.Machine.{State}
use Rattle.jm_machine.specs.Under.{next_under, placed_under}
use Rattle.jm_keep.specs.Persisted.{row_at}
use Rattle.jm_keep.specs.Steps.{StandsInOrder}
use Rattle.jm_keep_law.proofs.Counted.{next_stands}
use Rattle.jm_keep_law.proofs.Placed.{if_passes, row_at-filter}
use Rattle.jm_keep_law.proofs.Published.{under_in_order}
use Rattle.jm_changes.specs.Standing.{taken_row}
use Rattle.jm_changes.proofs.First.{first_at}

-- a row that has not lapsed was there
stood : (now : ℕ) (r : Row) (o : Option Row) → if_passes (λ r. not (has_lapsed now r)) o ≡ Some r → o ≡ Some r
stood now r None e = cc
stood now r (Some x) e = go (has_lapsed now x) e
  where
    go : (b : Bool) → cond (not b) (Some x) None ≡ Some r → Some x ≡ Some r
    go true e = cc
    go false e = e

pub next_at : (p : Content → Bool) (now : ℕ) (k : Key) (state : State) (x : PlacedRow) → StandsInOrder state → next_under p now k (placed_under state k) ≡ Some x → row_at x.place (placed_under state k) ≡ Some x.row
next_at p now k state x o e =
    stood now x.row (row_at x.place (placed_under state k))
    (sym (row_at-filter state.next_place x.place (λ r. not (has_lapsed now r)) (placed_under state k) (under_in_order state o k)) ∙ next_stands p now state.next_place k (placed_under state k) (under_in_order state o k) x e)

-- and is the one that is read at its place
pub taken_next : (p : Content → Bool) (now : ℕ) (k : Key) (state : State) (taken : Option ℕ) → StandsInOrder state → taken ≡ option_map (λ (r : PlacedRow). r.place) (next_under p now k (placed_under state k)) → taken_row taken (placed_under state k) ≡ next_under p now k (placed_under state k)
taken_next p now k state taken o e = ap (λ t. taken_row t (placed_under state k)) e ∙ go (next_under p now k (placed_under state k)) refl
  where
    go : (next : Option PlacedRow) → next_under p now k (placed_under state k) ≡ next → taken_row (option_map (λ (r : PlacedRow). r.place) next) (placed_under state k) ≡ next
    go None f = refl
    go (Some x) f = first_at state.next_place (placed_under state k) x (under_in_order state o k) (next_at p now k state x o f)
