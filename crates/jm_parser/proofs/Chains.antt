-- A turn of a loop that counts up beside a chain.
use Rattle.std.proofs.Common.{◌≡◌, ℕ, Bool, true, false, if◌then◌else◌, List, [], ◌∷◌, ◌++◌, Option, Some, None, Result, Ok, Err, refl, ap, ◌∙◌, ◌+◌, ◌-◌, ◌<◌, ◌≤◌}
use Rattle.jm_lexer.proofs.Turns.{one_more}
use Rattle.jm_parser.proofs.Turns.{no_more}
use Rattle.jm_lexer.specs.declared.fault.SyntaxFault.{SyntaxFault}
use Rattle.jm_lexer.specs.declared.token.Mark.{Mark}
use Rattle.jm_lexer.specs.declared.token.Mark.TheVariants as m
use Rattle.jm_lexer.specs.declared.token.Kind.{Kind}
use Rattle.jm_lexer.specs.declared.token.Kind.TheVariants as kinds
use Rattle.jm_tree.specs.declared.tree.Tree.{Tree}
use Rattle.jm_lexer.specs.Words.{if_some}
use Rattle.jm_tree.specs.Input.{Input, Outcome, Parser, Reads, start, kind, next, sees, after, is_mark, operator_at, after_operator, or_else, unless}
use Rattle.jm_tree.specs.Operators.{operator_in, and_of, or_of}
use Rattle.jm_tree.specs.FaultOrder.{settle, chain_from}
use Rattle.jm_tree.proofs.Chains.{chain_stop, chain_step, chain_fail}

-- what reads as one rule reads as an equal one
pub reads_same : {A : Type 0} (x y : Outcome A) (r : Result A SyntaxFault) (i : Input) → x ≡ y → Reads y r i → Reads x r i
reads_same x y r i e h = rw e h

module _ {O I : Type 0} (operators : Mark → Option O) (item : O → Tree → I) (fits : Tree → Bool) (make : Tree → List I → Tree) (part : Parser Tree)
    (x : Outcome Tree) (end turn : ℕ) where
  abbrev At : Tree → List I → Option ℕ → Input → Type 0
  At first found own i = x ≡ chain_from operators item fits make part (end - turn) first found own i

  abbrev After : Tree → List I → Option ℕ → Input → Type 0
  After first found own i = x ≡ chain_from operators item fits make part (end - (turn + 1)) first found own i

  pub turn_stop : (first : Tree) (found : List I) (own : Option ℕ) (i : Input) → turn < end → At first found own i
      → (j : Input) → operator_at operators i ≡ None → after_operator operators i ≡ j → x ≡ settle make first found own j
  turn_stop first found own i more h j none past =
      one_more (λ n. chain_from operators item fits make part n first found own i) end turn more h
      ∙ chain_stop operators item fits make part (end - (turn + 1)) first found own i none ∙ ap (settle make first found own) past

  pub turn_step : (first : Tree) (found : List I) (own : Option ℕ) (i : Input) → turn < end → At first found own i
      → (o : O) (j k : Input) (y : Tree) → operator_at operators i ≡ Some o → after_operator operators i ≡ j → part j ≡ Ok (y, k)
      → After first (found ++ item o y ∷ []) (or_else own (unless (fits y) (start j))) k
  turn_step first found own i more h o j k y some past read =
      one_more (λ n. chain_from operators item fits make part n first found own i) end turn more h
      ∙ chain_step operators item fits make part (end - (turn + 1)) first found own i o j k y some past read

  pub turn_fail : (first : Tree) (found : List I) (own : Option ℕ) (i : Input) → turn < end → At first found own i
      → (o : O) (j : Input) (e : SyntaxFault) → operator_at operators i ≡ Some o → after_operator operators i ≡ j → part j ≡ Err e → x ≡ Err e
  turn_fail first found own i more h o j e some past read =
      one_more (λ n. chain_from operators item fits make part n first found own i) end turn more h
      ∙ chain_fail operators item fits make part (end - (turn + 1)) first found own i o j e some past read

  pub turn_end : (first : Tree) (found : List I) (own : Option ℕ) (i : Input) → end ≤ turn → At first found own i → x ≡ settle make first found own i
  unfolding chain_from
  turn_end first found own i done h = no_more (λ n. chain_from operators item fits make part n first found own i) end turn done h

module _ {O : Type 0} (operators : Mark → Option O) (mark : Mark) (o : O)
    (same : (k : Option Kind) → operator_in operators k ≡ (if is_mark mark k then Some o else None)) where
  pub joint_none : (i : Input) → sees mark i ≡ false → operator_at operators i ≡ None
  unfolding sees operator_at
  joint_none i h = same (kind i) ∙ rw h refl

  pub joint_some : (i : Input) → sees mark i ≡ true → operator_at operators i ≡ Some o
  unfolding sees operator_at
  joint_some i h = same (kind i) ∙ rw h refl

  pub joint_after : (i : Input) → after_operator operators i ≡ after mark i
  unfolding sees operator_at after after_operator
  joint_after i = by_test (is_mark mark (kind i)) (same (kind i))
    where
      by_test : (b : Bool) → operator_in operators (kind i) ≡ (if b then Some o else None)
          → if_some (operator_in operators (kind i)) i (λ _. next i) ≡ (if b then next i else i)
      by_test true h = rw h refl
      by_test false h = rw h refl

pub and_same : (k : Option Kind) → operator_in and_of k ≡ (if is_mark m.And k then Some tt else None)
and_same None = refl
and_same (Some (kinds.Name w)) = refl
and_same (Some (kinds.Number n)) = refl
and_same (Some (kinds.Text w)) = refl
and_same (Some (kinds.Mark m.And)) = refl
and_same (Some (kinds.Mark _)) = refl

pub or_same : (k : Option Kind) → operator_in or_of k ≡ (if is_mark m.Or k then Some tt else None)
or_same None = refl
or_same (Some (kinds.Name w)) = refl
or_same (Some (kinds.Number n)) = refl
or_same (Some (kinds.Text w)) = refl
or_same (Some (kinds.Mark m.Or)) = refl
or_same (Some (kinds.Mark _)) = refl
