-- When two values are the same.
use Rattle.std.specs.Prelude.{◌≡◌, Bool, true, false, refl}
use Rattle.std.proofs.Common.{ap, sym, ◌∙◌}
use Rattle.std.proofs.lemmas.Bool.Decides.{Decides-like, Decides-int_eq, same_from_decides}
use Rattle.std.specs.Bool.{Decides}
use Rattle.std.specs.Cmp.{IsPartialEquivalence}
use Rattle.std.specs.Cmp.Lexicographic.{bytes_decides}
use Rattle.std.specs.Ordering.{int_eq}
use Rattle.jm_eval.specs.declared.value.Value.{Value as Reference}
use Rattle.jm_eval.specs.Seen.{seen}
use Rattle.jm_eval.specs.Values.{Value, Unknown, Boolean, Number, Text, booleans_equal}
use Rattle.jm_tree.specs.Names.{texts_equal}

-- two values are the same
abbrev pub value_eq : Value → Value → Bool
value_eq Unknown Unknown = true
value_eq (Boolean a) (Boolean b) = booleans_equal a b
value_eq (Number a) (Number b) = int_eq a b
value_eq (Text a) (Text b) = texts_equal a b
value_eq _ _ = false

-- two values are the same as contracts see them
abbrev pub seen_eq : Reference → Reference → Bool
seen_eq a b = value_eq (seen a) (seen b)

-- the test of two truth values answers true exactly where they are equal
booleans_same : (a b : Bool) → Decides (booleans_equal a b) (a ≡ b)
booleans_same true true = (λ _. refl, λ _. refl)
booleans_same true false = (λ e. cc, λ e. cc)
booleans_same false true = (λ e. cc, λ e. cc)
booleans_same false false = (λ _. refl, λ _. refl)

-- the test of two values answers true exactly where they are equal
pub value_same : (a b : Value) → Decides (value_eq a b) (a ≡ b)
value_same Unknown Unknown = (λ _. refl, λ _. refl)
value_same (Boolean a) (Boolean b) = Decides-like _ (λ e. ap Boolean e) (λ e. cc) (booleans_same a b)
value_same (Number a) (Number b) = Decides-like _ (λ e. ap Number e) (λ e. cc) (Decides-int_eq a b)
value_same (Text a) (Text b) = Decides-like _ (λ e. ap Text e) (λ e. cc) (bytes_decides a b)
value_same Unknown (Boolean b) = (λ e. cc, λ e. cc)
value_same Unknown (Number b) = (λ e. cc, λ e. cc)
value_same Unknown (Text b) = (λ e. cc, λ e. cc)
value_same (Boolean a) Unknown = (λ e. cc, λ e. cc)
value_same (Boolean a) (Number b) = (λ e. cc, λ e. cc)
value_same (Boolean a) (Text b) = (λ e. cc, λ e. cc)
value_same (Number a) Unknown = (λ e. cc, λ e. cc)
value_same (Number a) (Boolean b) = (λ e. cc, λ e. cc)
value_same (Number a) (Text b) = (λ e. cc, λ e. cc)
value_same (Text a) Unknown = (λ e. cc, λ e. cc)
value_same (Text a) (Boolean b) = (λ e. cc, λ e. cc)
value_same (Text a) (Number b) = (λ e. cc, λ e. cc)

-- the test of two values is symmetric and transitive
pub seen_laws : IsPartialEquivalence seen_eq
seen_laws = record {
  symm = λ a b. same_from_decides _ _ (value_same (seen a) (seen b)) (Decides-like _ (λ e. sym e) (λ e. sym e) (value_same (seen b) (seen a)));
  trans = λ a b c h k. (value_same (seen a) (seen c)).1 ((value_same (seen a) (seen b)).0 h ∙ (value_same (seen b) (seen c)).0 k);
}
