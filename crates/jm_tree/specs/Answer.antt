-- What a list of tokens is answered with.
use Rattle.std.specs.Prelude.{ℕ, List, Option, Some, None, Result, Ok, Err, if◌then◌else◌}
use Rattle.jm_base.specs.declared.refusal.Cause.TheVariants as causes
use Rattle.jm_lexer.specs.declared.token.Token.{Token}
use Rattle.jm_lexer.specs.declared.fault.SyntaxFault.{SyntaxFault}
use Rattle.jm_tree.specs.declared.tree.Tree.{Tree}
use Rattle.jm_tree.specs.Sorts.{fits_truth}
use Rattle.jm_lexer.specs.Faults.{fault_at}
use Rattle.jm_tree.specs.Input.{Outcome, Parser, ◌>>=◌, ◌>>◌, here, note, refuse, is_end, start_of, unless}
use Rattle.jm_tree.specs.FaultOrder.{either, below}

-- the outcome, or Kind at the place of a wrong operand where there is one
abbrev pub checked : Option ℕ → Outcome Tree → Outcome Tree
checked None done = done
checked (Some at) done = Err (fault_at at causes.Kind)

-- the tree, if no operand was of a wrong kind
unfoldable pub settled : Tree → Parser Tree
settled t = λ i. checked i.wrong (Ok (t, i))

-- nothing is left, and the whole is a condition
unfoldable pub finished : Tree → ℕ → Parser Tree
finished t at = λ i. if is_end i then (note (unless (fits_truth t) at) >> settled t) i else refuse i

-- a whole selector: `or` with 64 levels, and then the end
unfoldable pub whole : Parser Tree
whole = do
  at ← here
  t ← either 64 (below 64)
  finished t at

-- the tree of an outcome, or its fault
abbrev pub tree_of : Outcome Tree → Result Tree SyntaxFault
tree_of (Ok p) = Ok p.0
tree_of (Err e) = Err e

-- the tree that the tokens of a text of this length spell, or the first fault in the order of reading
unfoldable pub answer : List Token → ℕ → Result Tree SyntaxFault
answer toks end = tree_of (whole (start_of toks end))
