-- What the forms of a condition stand for, in the words of Jakarta Messaging 3.1, section 3.8.1.
use Rattle.std.specs.Prelude.{◌≡◌, ℕ, true, false, List, [], ◌∷◌, length, map, Option, Ok}
use Rattle.jm_lexer.specs.Lex.{place}
use Rattle.jm_lexer.specs.Lexes.{Lexes}
use Rattle.jm_lexer.specs.declared.token.Kind.TheVariants as kinds
use Rattle.jm_tree.specs.declared.tree.Comparison.TheVariants.{Equal, Less, LessOrEqual, Greater, GreaterOrEqual}
use Rattle.jm_tree.specs.declared.tree.Tree.{Tree}
use Rattle.jm_tree.specs.declared.tree.Tree.TheVariants as e
use Rattle.jm_eval.specs.Values.{Value}
use Rattle.jm_eval.specs.Evaluation.{value}

-- BETWEEN is two comparisons joined by AND, and NOT BETWEEN two comparisons joined by OR
abbrev pub BetweenIsTwoComparisons : (List ℕ → Value) → Tree → Tree → Tree → Type 0
BetweenIsTwoComparisons view operand low high =
    (value view (e.Between false operand low high) ≡ value view (e.All (e.Compare GreaterOrEqual operand low ∷ e.Compare LessOrEqual operand high ∷ [])))
    × (value view (e.Between true operand low high) ≡ value view (e.AnyOf (e.Compare Less operand low ∷ e.Compare Greater operand high ∷ [])))

-- IN is the equalities with each member of the list, joined by OR
abbrev pub InIsEqualities : (List ℕ → Value) → List ℕ → List ℕ → List (List ℕ) → Type 0
InIsEqualities view name first rest =
    value view (e.In false name (first ∷ rest)) ≡ value view (e.AnyOf (map (λ text. e.Compare Equal (e.Name name) (e.Text text)) (first ∷ rest)))

-- NOT IN, NOT LIKE and IS NOT NULL are the NOT of IN, LIKE and IS NULL
pub record AreNegations (view : List ℕ → Value) (name pattern : List ℕ) (list : List (List ℕ)) (escape : Option ℕ) : Type 0 where
  pub not_in : value view (e.In true name list) ≡ value view (e.Not (e.In false name list))
  pub not_like : value view (e.Like true name pattern escape) ≡ value view (e.Not (e.Like false name pattern escape))
  pub is_not_null : value view (e.IsNull true name) ≡ value view (e.Not (e.IsNull false name))

-- the words of this text are one identifier, itself
abbrev pub IsOneIdentifier : List ℕ → Type 0
IsOneIdentifier name = Lexes name (Ok (place (kinds.Name name) 0 (length name) ∷ []))
