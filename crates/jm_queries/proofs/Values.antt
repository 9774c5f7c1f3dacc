-- The columns of rows, and what a comparison tells of them.
use Rattle.std.proofs.Common.{◌≡◌, Bool, true, false, not, List, [], ◌∷◌, ◌++◌, drop, None, Some, refl, sym, ap, ap₂, ◌∙◌, codes, Ordering, Less, Equal, Greater, nat_cmp}
use Rattle.std.specs.Cmp.Lexicographic.{slice_cmp}
use Rattle.std.specs.Ordering.{int_cmp, is_eq, is_ne}
use Rattle.std.proofs.lemmas.Bool.{and_parts, not-true}
use Rattle.sqlite_value.specs.declared.value.Value.{Value}
use Rattle.sqlite_value.specs.declared.value.Value.TheVariants.{Null, Int, Real, Text, Blob}
use Rattle.sqlite_value.specs.declared.keys.Collation.TheVariants.{Binary}
use Rattle.sqlite_value.specs.Order.{Row, bytes, column, value_cmp}
use Rattle.sqlite_value.proofs.OrderLemmas.{value_cmp-Int, value_cmp-Text}
use Rattle.sqlite_sql.specs.Ops.{binary, is_true, is_null, from_truth}
use Rattle.sqlite_rules.specs.Edit.{id_in}
use Rattle.sqlite_schema.specs.declared.schema.Column.{Column}
use Rattle.sqlite_schema.specs.declared.schema.Kind.TheVariants as kind
use Rattle.sqlite_schema.specs.Rules.{are_present, are_typed, differ, equal, is_of}
use Rattle.jm_tables.specs.Schema.{key_columns, named}

-- the value is a whole number, or a text
abbrev pub IsInt : Value → Type 0
IsInt v = v ≡ Int (id_in v)

abbrev pub IsText : Value → Type 0
IsText v = v ≡ Text (bytes v)

told : (b : Bool) → is_true (from_truth (Some b)) ≡ b
told true = refl
told false = refl

ne_is : (o : Ordering) → is_ne o ≡ not (is_eq o)
ne_is Less = refl
ne_is Equal = refl
ne_is Greater = refl

pub int_order : (v w : Value) → IsInt v → IsInt w → value_cmp v w ≡ int_cmp (id_in v) (id_in w)
int_order v w a b = ap₂ value_cmp a b ∙ value_cmp-Int (id_in v) (id_in w)

pub text_order : (v w : Value) → IsText v → IsText w → value_cmp v w ≡ slice_cmp nat_cmp (bytes v) (bytes w)
text_order v w a b = ap₂ value_cmp a b ∙ value_cmp-Text (bytes v) (bytes w)

pub equal_ints : (v w : Value) → IsInt v → IsInt w → equal Binary v w ≡ is_eq (value_cmp v w)
unfolding binary
equal_ints v w a b = ap₂ (equal Binary) a b ∙ told (is_eq (value_cmp (Int (id_in v)) (Int (id_in w)))) ∙ ap is_eq (sym (ap₂ value_cmp a b))

pub equal_texts : (v w : Value) → IsText v → IsText w → equal Binary v w ≡ is_eq (value_cmp v w)
unfolding binary
equal_texts v w a b = ap₂ (equal Binary) a b ∙ told (is_eq (value_cmp (Text (bytes v)) (Text (bytes w)))) ∙ ap is_eq (sym (ap₂ value_cmp a b))

pub differ_ints : (v w : Value) → IsInt v → IsInt w → value_cmp v w ≡ Less → differ v w ≡ true
unfolding binary
differ_ints v w a b less =
    ap₂ differ a b ∙ told (is_ne (value_cmp (Int (id_in v)) (Int (id_in w)))) ∙ ne_is _ ∙ ap (λ o. not (is_eq o)) (sym (ap₂ value_cmp a b) ∙ less)

-- ---- the columns of a key

text_is : (v : Value) → is_of kind.Text v ≡ true → is_null v ≡ false → IsText v
text_is Null h k = absurd (cc)
text_is (Int n) h k = absurd (cc)
text_is (Real x) h k = absurd (cc)
text_is (Text t) h k = refl
text_is (Blob b) h k = absurd (cc)

int_is : (v : Value) → is_of kind.Integer v ≡ true → is_null v ≡ false → IsInt v
int_is Null h k = absurd (cc)
int_is (Int n) h k = refl
int_is (Real x) h k = absurd (cc)
int_is (Text t) h k = absurd (cc)
int_is (Blob b) h k = absurd (cc)

-- the first columns of the row are those of a key
pub record IsKeyed (r : Row) : Type 0 where
  pub family : IsInt (column r 1)
  pub client : IsText (column r 2)
  pub name : IsText (column r 3)

-- and the next one is a place
pub record IsPlaced (r : Row) : Type 0 where
  pub key : IsKeyed r
  pub place : IsInt (column r 4)

present : (more : List Column) (r : Row) → are_present None 0 (key_columns ++ more) r ≡ true → (is_null (column r 1) ≡ false) × (is_null (column r 2) ≡ false) × (is_null (column r 3) ≡ false) × (are_present None 3 more r ≡ true)
present more r k =
    let first = and_parts (not (is_null (column r 1))) _ k in
    let second = and_parts (not (is_null (column r 2))) _ first.1 in
    let third = and_parts (not (is_null (column r 3))) _ second.1 in
    (not-true _ first.0, not-true _ second.0, not-true _ third.0, third.1)

pub keyed_is : (more : List Column) (r : Row) → are_typed None 0 (key_columns ++ more) (drop 1 r) ≡ true → are_present None 0 (key_columns ++ more) r ≡ true → IsKeyed r
keyed_is more [] h k = absurd (let p = present more [] k in let e = p.0 in cc)
keyed_is more (a ∷ []) h k = absurd (let p = present more (a ∷ []) k in let e = p.0 in cc)
keyed_is more (a ∷ b ∷ []) h k = absurd (let p = present more (a ∷ b ∷ []) k in let e = p.1 in cc)
keyed_is more (a ∷ b ∷ c ∷ []) h k = absurd (let p = present more (a ∷ b ∷ c ∷ []) k in let e = p.2 in cc)
keyed_is more (a ∷ b ∷ c ∷ d ∷ rest) h k =
    let family = and_parts (is_of kind.Integer b) _ h in
    let client = and_parts (is_of kind.Text c) _ family.1 in
    let name = and_parts (is_of kind.Text d) _ client.1 in
    let p = present more (a ∷ b ∷ c ∷ d ∷ rest) k in
    record { family = int_is b family.0 p.0; client = text_is c client.0 p.1; name = text_is d name.0 p.2 }

pub placed_is : (more : List Column) (r : Row) → are_typed None 0 (key_columns ++ named (codes "place") kind.Integer true ∷ more) (drop 1 r) ≡ true
    → are_present None 0 (key_columns ++ named (codes "place") kind.Integer true ∷ more) r ≡ true → IsPlaced r
placed_is more r h k = let all = named (codes "place") kind.Integer true ∷ more in record { key = keyed_is all r h k; place = place_is r h (present all r k).3 }
  where
    place_is : (x : Row) → are_typed None 0 (key_columns ++ named (codes "place") kind.Integer true ∷ more) (drop 1 x) ≡ true → are_present None 3 (named (codes "place") kind.Integer true ∷ more) x ≡ true → IsInt (column x 4)
    place_is [] h k = absurd (cc)
    place_is (a ∷ []) h k = absurd (cc)
    place_is (a ∷ b ∷ []) h k = absurd (cc)
    place_is (a ∷ b ∷ c ∷ []) h k = absurd (cc)
    place_is (a ∷ b ∷ c ∷ d ∷ []) h k = absurd (cc)
    place_is (a ∷ b ∷ c ∷ d ∷ e ∷ rest) h k =
        let family = and_parts (is_of kind.Integer b) _ h in
        let client = and_parts (is_of kind.Text c) _ family.1 in
        let name = and_parts (is_of kind.Text d) _ client.1 in
        let at_place = and_parts (is_of kind.Integer e) _ name.1 in
        int_is e at_place.0 (not-true _ (and_parts (not (is_null e)) _ k).0)
