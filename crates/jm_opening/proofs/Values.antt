-- What a comparison of whole numbers tells, and what a column of them keeps.
use Rattle.std.proofs.Common.{◌≡◌, ℤ, Bool, true, false, cond, Some, refl, ap, ◌∙◌, Ordering, Less, Equal, Greater}
use Rattle.std.specs.Ordering.{is_eq, int_eq, int_cmp}
use Rattle.std.proofs.lemmas.Bool.Decides.{same_from_decides, Decides-int_eq}
use Rattle.std.proofs.lemmas.Cmp.{int_ranked, tied_itself}
use Rattle.std.specs.Cmp.{int_cmp_total}
use Rattle.sqlite_value.specs.declared.value.Value.{Value}
use Rattle.sqlite_value.specs.declared.value.Value.TheVariants.{Null, Int}
use Rattle.sqlite_value.specs.declared.keys.Collation.TheVariants.{Binary}
use Rattle.sqlite_value.specs.Order.{value_cmp}
use Rattle.sqlite_value.proofs.OrderLemmas.{value_cmp-Int}
use Rattle.sqlite_sql.specs.declared.ops.BinaryOp.TheVariants.{Compare}
use Rattle.sqlite_sql.specs.declared.ops.CompareOp.TheVariants.{Eq}
use Rattle.sqlite_sql.specs.Ops.{binary, unary, is_true, from_truth}
use Rattle.sqlite_rules.specs.Cast.{cast}
use Rattle.sqlite_schema.specs.declared.schema.Kind.TheVariants as kind

tied_int : (m n : ℤ) (o : Ordering) → o ≡ int_cmp m n → is_eq o ≡ true → m ≡ n
tied_int m n Less is h = absurd (cc)
tied_int m n Equal is h = int_ranked m n Equal is
tied_int m n Greater is h = absurd (cc)

pub cmp_int : (m n : ℤ) → is_eq (int_cmp m n) ≡ int_eq m n
cmp_int m n = same_from_decides (is_eq (int_cmp m n)) (int_eq m n) (tied_int m n (int_cmp m n) refl, λ e. ap (λ x. is_eq (int_cmp x n)) e ∙ ap is_eq (tied_itself int_cmp_total n)) (Decides-int_eq m n)

told : (b : Bool) → is_true (from_truth (Some b)) ≡ b
told true = refl
told false = refl

pub eq_int : (m n : ℤ) → is_true (binary (Compare Eq Binary) (Int m) (Int n)) ≡ int_eq m n
unfolding binary
eq_int m n = told (is_eq (value_cmp (Int m) (Int n))) ∙ ap is_eq (value_cmp-Int m n) ∙ cmp_int m n

either : (b : Bool) (x : Value) → cond b x x ≡ x
either true x = refl
either false x = refl

pub cast_int : (n : ℤ) → cast kind.Integer (Int n) ≡ Int n
unfolding unary
cast_int n = either _ (Int n)

pub cast_null : cast kind.Integer Null ≡ Null
unfolding unary
cast_null = either _ Null
