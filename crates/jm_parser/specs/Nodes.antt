-- What a rule does once its operands were read: it keeps the place of one that does not fit, and makes the node.
use Rattle.std.specs.Prelude.{ℕ, Bool}
use Rattle.jm_tree.specs.declared.tree.Additive.{Additive}
use Rattle.jm_tree.specs.declared.tree.Comparison.{Comparison}
use Rattle.jm_tree.specs.declared.tree.Tree.{Tree}
use Rattle.jm_tree.specs.declared.tree.Tree.TheVariants as e
use Rattle.jm_tree.specs.Input.{Parser, ◌>>◌, pure, note, unless}
use Rattle.jm_tree.specs.Sorts.{fits_number, fits_truth, fits_comparison}
use Rattle.jm_parser.specs.Leaves.{signed_by}

-- a sign, after its operand
unfoldable pub signed : Additive → Tree → ℕ → Parser Tree
signed sign operand at = note (unless (fits_number operand) at) >> pure (signed_by sign operand)

-- NOT, after its operand
unfoldable pub denied : Tree → ℕ → Parser Tree
denied operand at = note (unless (fits_truth operand) at) >> pure (e.Not operand)

-- a comparison, after its operands
unfoldable pub compared : Comparison → Tree → ℕ → Tree → ℕ → Parser Tree
compared op left left_at right right_at = do
  note (unless (fits_comparison op left) left_at)
  note (unless (fits_comparison op right) right_at)
  pure (e.Compare op left right)

-- BETWEEN, after its operands
unfoldable pub ranged : Bool → Tree → ℕ → Tree → ℕ → Tree → ℕ → Parser Tree
ranged negated operand at low low_at high high_at = do
  note (unless (fits_number operand) at)
  note (unless (fits_number low) low_at)
  note (unless (fits_number high) high_at)
  pure (e.Between negated operand low high)
