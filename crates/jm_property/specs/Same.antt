-- When two values and two tables of properties are the same.
use Rattle.std.specs.Prelude.{◌≡◌, ℕ, Bool, true, false, ◌&&◌, List, [], ◌∷◌, map, refl}
use Rattle.std.proofs.Common.{ap, sym, ◌∙◌}
use Rattle.std.proofs.lemmas.Bool.Decides.{Decides-and, Decides-like, Decides-int_eq, same_from_decides}
use Rattle.std.specs.Bool.{Decides, beq}
use Rattle.std.specs.Cmp.{IsPartialEquivalence}
use Rattle.std.specs.Cmp.Lexicographic.{pointwise, bytes_decides, pointwise_decides}
use Rattle.std.specs.Str.{bytes_eq}
use Rattle.jm_property.specs.declared.property.Property.{Property}
use Rattle.jm_property.specs.declared.property.Property.TheVariants.{Bool as Truth, Byte, Short, Int, Long, Text}
use Rattle.jm_property.specs.contracts.property.PropertyPartialEq.TheImpl as derived
use Rattle.jm_property.specs.Properties.{Table}

-- two values are the same
abbrev pub property_eq : Property → Property → Bool
property_eq a b = (derived.ghosts).eq a b

-- the names in order
abbrev pub names_of : Table → List (List ℕ)
names_of table = map (λ entry. entry.0) table

-- the values in order
abbrev pub values_of : Table → List Property
values_of table = map (λ entry. entry.1) table

-- two tables are the same: the same names with the same values in the same order
abbrev pub table_eq : Table → Table → Bool
table_eq a b = pointwise bytes_eq (names_of a) (names_of b) && pointwise property_eq (values_of a) (values_of b)

-- the test of two truth values answers true exactly where they are equal
bool_same : (a b : Bool) → Decides (beq a b) (a ≡ b)
bool_same true true = (λ _. refl, λ _. refl)
bool_same true false = (λ e. cc, λ e. cc)
bool_same false true = (λ e. cc, λ e. cc)
bool_same false false = (λ _. refl, λ _. refl)

-- the test of two values answers true exactly where they are equal
pub property_same : (a b : Property) → Decides (property_eq a b) (a ≡ b)
property_same (Truth a) (Truth b) = Decides-like _ (λ e. ap Truth e) (λ e. cc) (bool_same a b)
property_same (Byte a) (Byte b) = Decides-like _ (λ e. ap Byte e) (λ e. cc) (Decides-int_eq a b)
property_same (Short a) (Short b) = Decides-like _ (λ e. ap Short e) (λ e. cc) (Decides-int_eq a b)
property_same (Int a) (Int b) = Decides-like _ (λ e. ap Int e) (λ e. cc) (Decides-int_eq a b)
property_same (Long a) (Long b) = Decides-like _ (λ e. ap Long e) (λ e. cc) (Decides-int_eq a b)
property_same (Text a) (Text b) = Decides-like _ (λ e. ap Text e) (λ e. cc) (bytes_decides a b)
property_same (Truth a) (Byte b) = (λ e. cc, λ e. cc)
property_same (Truth a) (Short b) = (λ e. cc, λ e. cc)
property_same (Truth a) (Int b) = (λ e. cc, λ e. cc)
property_same (Truth a) (Long b) = (λ e. cc, λ e. cc)
property_same (Truth a) (Text b) = (λ e. cc, λ e. cc)
property_same (Byte a) (Truth b) = (λ e. cc, λ e. cc)
property_same (Byte a) (Short b) = (λ e. cc, λ e. cc)
property_same (Byte a) (Int b) = (λ e. cc, λ e. cc)
property_same (Byte a) (Long b) = (λ e. cc, λ e. cc)
property_same (Byte a) (Text b) = (λ e. cc, λ e. cc)
property_same (Short a) (Truth b) = (λ e. cc, λ e. cc)
property_same (Short a) (Byte b) = (λ e. cc, λ e. cc)
property_same (Short a) (Int b) = (λ e. cc, λ e. cc)
property_same (Short a) (Long b) = (λ e. cc, λ e. cc)
property_same (Short a) (Text b) = (λ e. cc, λ e. cc)
property_same (Int a) (Truth b) = (λ e. cc, λ e. cc)
property_same (Int a) (Byte b) = (λ e. cc, λ e. cc)
property_same (Int a) (Short b) = (λ e. cc, λ e. cc)
property_same (Int a) (Long b) = (λ e. cc, λ e. cc)
property_same (Int a) (Text b) = (λ e. cc, λ e. cc)
property_same (Long a) (Truth b) = (λ e. cc, λ e. cc)
property_same (Long a) (Byte b) = (λ e. cc, λ e. cc)
property_same (Long a) (Short b) = (λ e. cc, λ e. cc)
property_same (Long a) (Int b) = (λ e. cc, λ e. cc)
property_same (Long a) (Text b) = (λ e. cc, λ e. cc)
property_same (Text a) (Truth b) = (λ e. cc, λ e. cc)
property_same (Text a) (Byte b) = (λ e. cc, λ e. cc)
property_same (Text a) (Short b) = (λ e. cc, λ e. cc)
property_same (Text a) (Int b) = (λ e. cc, λ e. cc)
property_same (Text a) (Long b) = (λ e. cc, λ e. cc)

-- two tables are equal where their names and their values are
tables_same : (a b : Table) → names_of a ≡ names_of b → values_of a ≡ values_of b → a ≡ b
tables_same [] [] names values = refl
tables_same [] (y ∷ ys) names values = cc
tables_same (x ∷ xs) [] names values = cc
tables_same (x ∷ xs) (y ∷ ys) names values =
    let name : x.0 ≡ y.0 = cc in
    let value : x.1 ≡ y.1 = cc in
    let later_names : names_of xs ≡ names_of ys = cc in
    let later_values : values_of xs ≡ values_of ys = cc in
    let rest : xs ≡ ys = tables_same xs ys later_names later_values in
    λ i. (name i, value i) ∷ rest i

-- the test of two tables answers true exactly where they are equal
pub table_same : (a b : Table) → Decides (table_eq a b) (a ≡ b)
table_same a b =
    Decides-like _ (λ e. tables_same a b e.0 e.1) (λ e. (ap names_of e, ap values_of e))
    (Decides-and _ _ (pointwise_decides bytes_decides (names_of a) (names_of b))
    (pointwise_decides property_same (values_of a) (values_of b)))

-- the test of two tables is symmetric and transitive
pub table_laws : IsPartialEquivalence table_eq
table_laws = record {
  symm = λ a b. same_from_decides _ _ (table_same a b) (Decides-like _ (λ e. sym e) (λ e. sym e) (table_same b a));
  trans = λ a b c h k. (table_same a c).1 ((table_same a b).0 h ∙ (table_same b c).0 k);
}
