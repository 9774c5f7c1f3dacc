-- One turn of a chain.
use Rattle.std.proofs.Common.{◌≡◌, ℕ, suc, Bool, List, [], ◌∷◌, ◌++◌, Option, Some, None, Ok, Err, refl}
use Rattle.jm_lexer.specs.declared.fault.SyntaxFault.{SyntaxFault}
use Rattle.jm_lexer.specs.declared.token.Mark.{Mark}
use Rattle.jm_tree.specs.declared.tree.Tree.{Tree}
use Rattle.jm_tree.specs.Input.{Input, Parser, start, operator_at, after_operator, or_else, unless}
use Rattle.jm_tree.specs.FaultOrder.{settle, chain_from}

module _ {O I : Type 0} (operators : Mark → Option O) (item : O → Tree → I) (fits : Tree → Bool) (make : Tree → List I → Tree) (part : Parser Tree)
    (n : ℕ) (first : Tree) (found : List I) (own : Option ℕ) (i : Input) where
  pub chain_stop : operator_at operators i ≡ None
      → chain_from operators item fits make part (suc n) first found own i ≡ settle make first found own (after_operator operators i)
  unfolding chain_from
  chain_stop none = rw none refl

  pub chain_step : (o : O) (j k : Input) (x : Tree) → operator_at operators i ≡ Some o → after_operator operators i ≡ j → part j ≡ Ok (x, k)
      → chain_from operators item fits make part (suc n) first found own i
      ≡ chain_from operators item fits make part n first (found ++ item o x ∷ []) (or_else own (unless (fits x) (start j))) k
  unfolding chain_from
  chain_step o j k x some past read = rw (some, past, read) refl

  pub chain_fail : (o : O) (j : Input) (e : SyntaxFault) → operator_at operators i ≡ Some o → after_operator operators i ≡ j → part j ≡ Err e
      → chain_from operators item fits make part (suc n) first found own i ≡ Err e
  unfolding chain_from
  chain_fail o j e some past read = rw (some, past, read) refl
