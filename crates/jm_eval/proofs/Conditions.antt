-- A condition is the condition of its value, and chains of AND and OR of conditions.
use Rattle.std.proofs.Common.{◌≡◌, ℕ, ℤ, Bool, true, false, ◌||◌, List, [], ◌∷◌, map, fold, Option, refl, ap, sym, ◌∙◌}
use Rattle.std.specs.List.{list_any}
use Rattle.jm_tree.specs.declared.tree.Comparison.{Comparison}
use Rattle.jm_tree.specs.declared.tree.Comparison.TheVariants.{Equal, Less, LessOrEqual, Greater, GreaterOrEqual}
use Rattle.jm_tree.specs.declared.tree.Tree.{Tree}
use Rattle.jm_tree.specs.declared.tree.Tree.TheOpen.{Tree-F}
use Rattle.jm_tree.specs.declared.tree.Tree.TheFolds.{fold-roll-Tree}
use Rattle.jm_tree.specs.declared.tree.Tree.TheVariants as e
use Rattle.jm_tree.specs.declared.tree.Tree.TheVariants.{rolls-Text, rolls-Name, rolls-Compare, rolls-Between, rolls-In, rolls-Like, rolls-IsNull, rolls-Not, rolls-All, rolls-AnyOf}
use Rattle.jm_eval.specs.declared.truth.Truth.{Truth}
use Rattle.jm_eval.specs.declared.truth.Truth.TheVariants as t
use Rattle.jm_eval.specs.Values.{Value, Unknown, Boolean, Number, Text, truth_of, condition_of, value_of, not_of, and_of, or_of, comparison, between, is_in, is_like, is_null, negated_if}
use Rattle.jm_tree.specs.Names.{texts_equal, is_among}
use Rattle.jm_eval.specs.Evaluation.{value, node, and_next, or_next}
use Rattle.jm_eval.specs.Laws.{BetweenIsTwoComparisons, InIsEqualities, AreNegations}

condition-value : (x : Truth) → condition_of (value_of x) ≡ x
condition-value t.True = refl
condition-value t.False = refl
condition-value t.Unknown = refl

-- the value of a condition is that of itself as a condition
pub stays : (x : Truth) (v : Value) → v ≡ value_of x → value_of (condition_of v) ≡ v
stays x v h = rw h (ap value_of (condition-value x))

and_first : (x : Truth) → and_of t.True x ≡ x
and_first t.True = refl
and_first t.False = refl
and_first t.Unknown = refl

or_first : (x : Truth) → or_of t.False x ≡ x
or_first t.True = refl
or_first t.False = refl
or_first t.Unknown = refl

both : (x y : Truth) → and_next (and_next t.True (value_of x)) (value_of y) ≡ and_of x y
both x y = rw (condition-value x, condition-value y, and_first x) refl

either : (x y : Truth) → or_next (or_next t.False (value_of x)) (value_of y) ≡ or_of x y
either x y = rw (condition-value x, condition-value y, or_first x) refl

-- ---- the value of each form

pub compare-is : (view : List ℕ → Value) (op : Comparison) (left right : Tree) → value view (e.Compare op left right) ≡ value_of (comparison op (value view left) (value view right))
unfolding value
compare-is view op left right = ap (value view) (sym (rolls-Compare op left right)) ∙ fold-roll-Tree Value (node view) (Tree-F.Compare op left right)

equality-is : (view : List ℕ → Value) (name text : List ℕ) → value view (e.Compare Equal (e.Name name) (e.Text text)) ≡ value_of (comparison Equal (view name) (Text text))
unfolding value
equality-is view name text =
    let n : value view (e.Name name) ≡ view name = ap (value view) (sym (rolls-Name name)) ∙ fold-roll-Tree Value (node view) (Tree-F.Name name) in
    let x : value view (e.Text text) ≡ Text text = ap (value view) (sym (rolls-Text text)) ∙ fold-roll-Tree Value (node view) (Tree-F.Text text) in
    compare-is view Equal (e.Name name) (e.Text text) ∙ ap (λ v. value_of (comparison Equal v (value view (e.Text text)))) n ∙ ap (λ v. value_of (comparison Equal (view name) v)) x

pub between-is : (view : List ℕ → Value) (negated : Bool) (operand low high : Tree) → value view (e.Between negated operand low high) ≡ value_of (between negated (value view operand) (value view low) (value view high))
unfolding value
between-is view negated operand low high = ap (value view) (sym (rolls-Between negated operand low high)) ∙ fold-roll-Tree Value (node view) (Tree-F.Between negated operand low high)

pub in-is : (view : List ℕ → Value) (negated : Bool) (name : List ℕ) (list : List (List ℕ)) → value view (e.In negated name list) ≡ value_of (negated_if negated (is_in (view name) list))
unfolding value
in-is view negated name list = ap (value view) (sym (rolls-In negated name list)) ∙ fold-roll-Tree Value (node view) (Tree-F.In negated name list)

pub like-is : (view : List ℕ → Value) (negated : Bool) (name pattern : List ℕ) (escape : Option ℕ) → value view (e.Like negated name pattern escape) ≡ value_of (negated_if negated (is_like (view name) pattern escape))
unfolding value
like-is view negated name pattern escape = ap (value view) (sym (rolls-Like negated name pattern escape)) ∙ fold-roll-Tree Value (node view) (Tree-F.Like negated name pattern escape)

pub null-is : (view : List ℕ → Value) (negated : Bool) (name : List ℕ) → value view (e.IsNull negated name) ≡ value_of (negated_if negated (is_null (view name)))
unfolding value
null-is view negated name = ap (value view) (sym (rolls-IsNull negated name)) ∙ fold-roll-Tree Value (node view) (Tree-F.IsNull negated name)

pub not-is : (view : List ℕ → Value) (operand : Tree) → value view (e.Not operand) ≡ value_of (not_of (condition_of (value view operand)))
unfolding value
not-is view operand = ap (value view) (sym (rolls-Not operand)) ∙ fold-roll-Tree Value (node view) (Tree-F.Not operand)

pub all-is : (view : List ℕ → Value) (members : List Tree) → value view (e.All members) ≡ value_of (fold and_next t.True (map (value view) members))
unfolding value
all-is view members = ap (value view) (sym (rolls-All members)) ∙ fold-roll-Tree Value (node view) (Tree-F.All members)

pub any-is : (view : List ℕ → Value) (members : List Tree) → value view (e.AnyOf members) ≡ value_of (fold or_next t.False (map (value view) members))
unfolding value
any-is view members = ap (value view) (sym (rolls-AnyOf members)) ∙ fold-roll-Tree Value (node view) (Tree-F.AnyOf members)

-- ---- the laws

both_conditions : (view : List ℕ → Value) (x y : Truth) (left right : Tree) → value view left ≡ value_of x → value view right ≡ value_of y
    → value view (e.All (left ∷ right ∷ [])) ≡ value_of (and_of x y)
both_conditions view x y left right h k =
    all-is view (left ∷ right ∷ []) ∙ ap (λ v. value_of (and_next (and_next t.True v) (value view right))) h
    ∙ ap (λ v. value_of (and_next (and_next t.True (value_of x)) v)) k ∙ ap value_of (both x y)

one_condition : (view : List ℕ → Value) (x y : Truth) (left right : Tree) → value view left ≡ value_of x → value view right ≡ value_of y
    → value view (e.AnyOf (left ∷ right ∷ [])) ≡ value_of (or_of x y)
one_condition view x y left right h k =
    any-is view (left ∷ right ∷ []) ∙ ap (λ v. value_of (or_next (or_next t.False v) (value view right))) h
    ∙ ap (λ v. value_of (or_next (or_next t.False (value_of x)) v)) k ∙ ap value_of (either x y)

pub between_is : (view : List ℕ → Value) (operand low high : Tree) → BetweenIsTwoComparisons view operand low high
between_is view operand low high = (
  between-is view false operand low high
      ∙ sym (both_conditions view _ _ _ _ (compare-is view GreaterOrEqual operand low) (compare-is view LessOrEqual operand high)),
  between-is view true operand low high
      ∙ sym (one_condition view _ _ _ _ (compare-is view Less operand low) (compare-is view Greater operand high)),
)

negation : (view : List ℕ → Value) (x : Truth) (negated plain : Tree) → value view negated ≡ value_of (not_of x) → value view plain ≡ value_of x → value view negated ≡ value view (e.Not plain)
negation view x negated plain h k =
    h ∙ ap (λ y. value_of (not_of y)) (sym (condition-value x)) ∙ ap (λ v. value_of (not_of (condition_of v))) (sym k) ∙ sym (not-is view plain)

pub negations : (view : List ℕ → Value) (name pattern : List ℕ) (list : List (List ℕ)) (escape : Option ℕ) → AreNegations view name pattern list escape
negations view name pattern list escape = record {
  not_in = negation view _ _ _ (in-is view true name list) (in-is view false name list);
  not_like = negation view _ _ _ (like-is view true name pattern escape) (like-is view false name pattern escape);
  is_not_null = negation view _ _ _ (null-is view true name) (null-is view false name);
}

or_truths : (a b : Bool) → or_next (truth_of a) (value_of (truth_of b)) ≡ truth_of (a || b)
or_truths true true = refl
or_truths true false = refl
or_truths false true = refl
or_truths false false = refl

or_assoc : (a b c : Bool) → (a || b) || c ≡ a || (b || c)
or_assoc true b c = refl
or_assoc false b c = refl

or_none : (a : Bool) → truth_of a ≡ truth_of (a || false)
or_none true = refl
or_none false = refl

-- the equalities of a value with each text of a list
abbrev equalities : Value → List (List ℕ) → List Value
equalities v texts = map (λ text. value_of (comparison Equal v (Text text))) texts

members_values : (view : List ℕ → Value) (name : List ℕ) (texts : List (List ℕ)) → map (value view) (map (λ text. e.Compare Equal (e.Name name) (e.Text text)) texts) ≡ equalities (view name) texts
members_values view name [] = refl
members_values view name (text ∷ texts) =
    ap (λ v. v ∷ map (value view) (map (λ text. e.Compare Equal (e.Name name) (e.Text text)) texts)) (equality-is view name text)
    ∙ ap (λ values. value_of (comparison Equal (view name) (Text text)) ∷ values) (members_values view name texts)

of_text : (a : Bool) (cs : List ℕ) (texts : List (List ℕ)) → fold or_next (truth_of a) (equalities (Text cs) texts) ≡ truth_of (a || list_any (λ text. texts_equal cs text) texts)
of_text a cs [] = or_none a
of_text a cs (text ∷ texts) =
    ap (λ truth. fold or_next truth (equalities (Text cs) texts)) (or_truths a (texts_equal cs text))
    ∙ of_text (a || texts_equal cs text) cs texts
    ∙ ap truth_of (or_assoc a (texts_equal cs text) (list_any (λ text. texts_equal cs text) texts))

of_unknown : (texts : List (List ℕ)) → fold or_next t.Unknown (equalities Unknown texts) ≡ t.Unknown
of_unknown [] = refl
of_unknown (text ∷ texts) = of_unknown texts

of_number : (n : ℤ) (texts : List (List ℕ)) → fold or_next t.False (equalities (Number n) texts) ≡ t.False
of_number n [] = refl
of_number n (text ∷ texts) = of_number n texts

of_boolean : (b : Bool) (texts : List (List ℕ)) → fold or_next t.False (equalities (Boolean b) texts) ≡ t.False
of_boolean b [] = refl
of_boolean b (text ∷ texts) = of_boolean b texts

in_equalities : (v : Value) (first : List ℕ) (rest : List (List ℕ)) → is_in v (first ∷ rest) ≡ fold or_next t.False (equalities v (first ∷ rest))
unfolding is_among
in_equalities Unknown first rest = sym (of_unknown rest)
in_equalities (Boolean b) first rest = sym (of_boolean b (first ∷ rest))
in_equalities (Number n) first rest = sym (of_number n (first ∷ rest))
in_equalities (Text cs) first rest = sym (of_text false cs (first ∷ rest))

pub in_is : (view : List ℕ → Value) (name first : List ℕ) (rest : List (List ℕ)) → InIsEqualities view name first rest
in_is view name first rest =
    in-is view false name (first ∷ rest)
    ∙ ap value_of (in_equalities (view name) first rest)
    ∙ ap (λ values. value_of (fold or_next t.False values)) (sym (members_values view name (first ∷ rest)))
    ∙ sym (any-is view (map (λ text. e.Compare Equal (e.Name name) (e.Text text)) (first ∷ rest)))
