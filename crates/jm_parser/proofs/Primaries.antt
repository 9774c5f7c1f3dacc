-- A primary is a leaf, or begins with a parenthesis.
use Rattle.std.proofs.Common.{◌≡◌, ℕ, ◌==◌, true, false, if◌then◌else◌, Option, Some, None, refl}
use Rattle.jm_base.specs.declared.refusal.Cause.TheVariants as causes
use Rattle.jm_lexer.specs.declared.token.Mark.TheVariants as m
use Rattle.jm_lexer.specs.declared.token.Kind.{Kind}
use Rattle.jm_lexer.specs.declared.token.Kind.TheVariants as kinds
use Rattle.jm_tree.specs.declared.tree.Tree.{Tree}
use Rattle.jm_tree.specs.Input.{Input, Parser, kind, sees, is_mark, stop}
use Rattle.jm_tree.specs.Operators.{Line}
use Rattle.jm_tree.specs.FaultOrder.{primary, primary_by, opened, deeper}
use Rattle.jm_parser.specs.Leaves.{number, leaf, leaf_by}

module _ (n : ℕ) (lower : Line → Parser Tree) where
  no_open : (i : Input) (k : Option Kind) → is_mark m.Open k ≡ false → primary_by n lower k i ≡ leaf_by k i
  unfolding number
  no_open i None h = refl
  no_open i (Some (kinds.Name w)) h = refl
  no_open i (Some (kinds.Number v)) h = refl
  no_open i (Some (kinds.Text w)) h = refl
  no_open i (Some (kinds.Mark m.True)) h = refl
  no_open i (Some (kinds.Mark m.False)) h = refl
  no_open i (Some (kinds.Mark m.Open)) h = absurd (cc)
  no_open i (Some (kinds.Mark _)) h = refl

  is_open : (i : Input) (k : Option Kind) → is_mark m.Open k ≡ true → primary_by n lower k i ≡ deeper n lower (opened n lower) i
  is_open i None h = absurd (cc)
  is_open i (Some (kinds.Name w)) h = absurd (cc)
  is_open i (Some (kinds.Number v)) h = absurd (cc)
  is_open i (Some (kinds.Text w)) h = absurd (cc)
  is_open i (Some (kinds.Mark m.Open)) h = refl
  is_open i (Some (kinds.Mark _)) h = absurd (cc)

  pub primary_leaf : (i : Input) → sees m.Open i ≡ false → primary n lower i ≡ leaf i
  unfolding primary sees leaf
  primary_leaf i h = no_open i (kind i) h

  pub primary_open : (i : Input) → sees m.Open i ≡ true → primary n lower i ≡ (if n == 0 then stop causes.TooDeep else opened n lower) i
  unfolding primary sees
  primary_open i h = is_open i (kind i) h
