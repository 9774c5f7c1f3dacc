-- The values of rows, and what a comparison tells of them.
use Rattle.std.proofs.Common.{◌≡◌, ℕ, ℤ, Bool, true, false, not, cond, List, [], ◌∷◌, ◌++◌, drop, refl, sym, ap, ap₂, ◌∙◌, Some, None, Ordering, Less, Equal, Greater, bytes_eq, nat_cmp, codes}
use Rattle.std.specs.Ordering.{is_eq, is_ne, int_eq, int_cmp}
use Rattle.std.specs.Cmp.Lexicographic.{slice_cmp}
use Rattle.std.proofs.lemmas.Bool.{and_parts, not-true}
use Rattle.std.proofs.lemmas.Bool.Decides.{same_from_decides}
use Rattle.std.proofs.lemmas.Cmp.{ranked, tied_itself}
use Rattle.std.proofs.lemmas.Slice.Eq.{bytes_eq-Decides}
use Rattle.sqlite_value.proofs.KeyLemmas.{then_tied}
use Rattle.sqlite_value.specs.declared.value.Value.{Value}
use Rattle.sqlite_value.specs.declared.value.Value.TheVariants.{Null, Int, Real, Text, Blob}
use Rattle.sqlite_value.specs.declared.keys.Collation.TheVariants.{Binary}
use Rattle.sqlite_value.specs.Order.{Row, column, value_cmp, bytes}
use Rattle.sqlite_value.proofs.OrderLemmas.{value_cmp-Int, value_cmp-Text, value_cmp_total}
use Rattle.sqlite_sql.specs.declared.ops.BinaryOp.TheVariants.{Compare}
use Rattle.sqlite_sql.specs.declared.ops.CompareOp.TheVariants.{Eq, Ne}
use Rattle.sqlite_sql.specs.Ops.{binary, unary, is_true, is_null, from_truth}
use Rattle.sqlite_rules.specs.Cast.{cast}
use Rattle.sqlite_rules.specs.Edit.{id_in}
use Rattle.sqlite_schema.specs.declared.schema.Column.{Column}
use Rattle.sqlite_schema.specs.declared.schema.Kind.TheVariants as kind
use Rattle.sqlite_schema.specs.Rules.{are_typed, are_present, is_of}
use Rattle.jm_tables.specs.Schema.{key_columns, named}

told : (b : Bool) → is_true (from_truth (Some b)) ≡ b
told true = refl
told false = refl

pub eq_int : (m n : ℤ) → is_true (binary (Compare Eq Binary) (Int m) (Int n)) ≡ int_eq m n
unfolding binary
eq_int m n = told (is_eq (value_cmp (Int m) (Int n))) ∙ ap is_eq (value_cmp-Int m n)

ne_same : (o : Ordering) → is_ne o ≡ not (is_eq o)
ne_same Less = refl
ne_same Equal = refl
ne_same Greater = refl

pub ne_int : (m n : ℤ) → is_true (binary (Compare Ne Binary) (Int m) (Int n)) ≡ not (int_eq m n)
unfolding binary
ne_int m n = told (is_ne (value_cmp (Int m) (Int n))) ∙ ap is_ne (value_cmp-Int m n) ∙ ne_same (int_cmp m n)

ranked_equal : (x y : ℕ) (o : Ordering) → o ≡ nat_cmp x y → o ≡ Equal → x ≡ y
ranked_equal x y Less is h = absurd (cc)
ranked_equal x y Equal is h = ranked x y Equal is
ranked_equal x y Greater is h = absurd (cc)

tied_text : (s t : List ℕ) → slice_cmp nat_cmp s t ≡ Equal → s ≡ t
tied_text [] [] h = refl
tied_text [] (y ∷ t) h = absurd (cc)
tied_text (x ∷ s) [] h = absurd (cc)
tied_text (x ∷ s) (y ∷ t) h = let both = then_tied (nat_cmp x y) (slice_cmp nat_cmp s t) h in ap₂ ◌∷◌ (ranked_equal x y (nat_cmp x y) refl both.0) (tied_text s t both.1)

is_tied : (o : Ordering) → is_eq o ≡ true → o ≡ Equal
is_tied Less h = absurd (cc)
is_tied Equal h = refl
is_tied Greater h = absurd (cc)

pub eq_text : (s t : List ℕ) → is_true (binary (Compare Eq Binary) (Text s) (Text t)) ≡ bytes_eq s t
unfolding binary
eq_text s t =
    told (is_eq (value_cmp (Text s) (Text t)))
    ∙ same_from_decides (is_eq (value_cmp (Text s) (Text t))) (bytes_eq s t)
    ((λ h. tied_text s t (sym (value_cmp-Text s t) ∙ is_tied _ h)), λ e. ap (λ x. is_eq (value_cmp (Text x) (Text t))) e ∙ ap is_eq (tied_itself value_cmp_total (Text t))) (bytes_eq-Decides s t)

either : (b : Bool) (x : Value) → cond b x x ≡ x
either true x = refl
either false x = refl

pub cast_int : (n : ℤ) → cast kind.Integer (Int n) ≡ Int n
unfolding unary
cast_int n = either _ (Int n)

pub cast_null : cast kind.Integer Null ≡ Null
unfolding unary
cast_null = either _ Null

text_is : (v : Value) → is_of kind.Text v ≡ true → is_null v ≡ false → v ≡ Text (bytes v)
text_is Null h k = absurd (cc)
text_is (Int n) h k = absurd (cc)
text_is (Real x) h k = absurd (cc)
text_is (Text t) h k = refl
text_is (Blob b) h k = absurd (cc)

whole_is : (v : Value) → is_of kind.Integer v ≡ true → is_null v ≡ false → v ≡ Int (id_in v)
whole_is Null h k = absurd (cc)
whole_is (Int n) h k = refl
whole_is (Real x) h k = absurd (cc)
whole_is (Text t) h k = absurd (cc)
whole_is (Blob b) h k = absurd (cc)

-- a row whose first columns are those of a key
pub record IsKeyed (r : Row) : Type 0 where
  pub family : column r 1 ≡ Int (id_in (column r 1))
  pub client : column r 2 ≡ Text (bytes (column r 2))
  pub name : column r 3 ≡ Text (bytes (column r 3))

-- a row of held: a key, a place and a number of deliveries
pub record IsHeld (r : Row) : Type 0 where
  pub key : IsKeyed r
  pub place : column r 4 ≡ Int (id_in (column r 4))

present : (more : List Column) (r : Row) → are_present None 0 (key_columns ++ more) r ≡ true → (is_null (column r 1) ≡ false) × (is_null (column r 2) ≡ false) × (is_null (column r 3) ≡ false) × (are_present None 3 more r ≡ true)
present more r k =
    let p1 = and_parts (not (is_null (column r 1))) _ k in
    let p2 = and_parts (not (is_null (column r 2))) _ p1.1 in
    let p3 = and_parts (not (is_null (column r 3))) _ p2.1 in
    (not-true _ p1.0, not-true _ p2.0, not-true _ p3.0, p3.1)

pub keyed_is : (more : List Column) (r : Row) → are_typed None 0 (key_columns ++ more) (drop 1 r) ≡ true → are_present None 0 (key_columns ++ more) r ≡ true → IsKeyed r
keyed_is more [] h k = absurd (let p = present more [] k in let e = p.0 in cc)
keyed_is more (a ∷ []) h k = absurd (let p = present more (a ∷ []) k in let e = p.0 in cc)
keyed_is more (a ∷ b ∷ []) h k = absurd (let p = present more (a ∷ b ∷ []) k in let e = p.1 in cc)
keyed_is more (a ∷ b ∷ c ∷ []) h k = absurd (let p = present more (a ∷ b ∷ c ∷ []) k in let e = p.2 in cc)
keyed_is more (a ∷ b ∷ c ∷ d ∷ rest) h k =
    let first = and_parts (is_of kind.Integer b) _ h in
    let second = and_parts (is_of kind.Text c) _ first.1 in
    let third = and_parts (is_of kind.Text d) _ second.1 in
    let p = present more (a ∷ b ∷ c ∷ d ∷ rest) k in
    record { family = whole_is b first.0 p.0; client = text_is c second.0 p.1; name = text_is d third.0 p.2 }

pub held_is : (more : List Column) (r : Row) → are_typed None 0 (key_columns ++ named (codes "place") kind.Integer true ∷ more) (drop 1 r) ≡ true → are_present None 0 (key_columns ++ named (codes "place") kind.Integer true ∷ more) r ≡ true → IsHeld r
held_is more r h k = let all = named (codes "place") kind.Integer true ∷ more in record { key = keyed_is all r h k; place = place_is r h (present all r k).3 }
  where
    place_is : (x : Row) → are_typed None 0 (key_columns ++ named (codes "place") kind.Integer true ∷ more) (drop 1 x) ≡ true → are_present None 3 (named (codes "place") kind.Integer true ∷ more) x ≡ true → column x 4 ≡ Int (id_in (column x 4))
    place_is [] h k = absurd (cc)
    place_is (a ∷ []) h k = absurd (cc)
    place_is (a ∷ b ∷ []) h k = absurd (cc)
    place_is (a ∷ b ∷ c ∷ []) h k = absurd (cc)
    place_is (a ∷ b ∷ c ∷ d ∷ []) h k = absurd (cc)
    place_is (a ∷ b ∷ c ∷ d ∷ e ∷ rest) h k =
        let first = and_parts (is_of kind.Integer b) _ h in
        let second = and_parts (is_of kind.Text c) _ first.1 in
        let third = and_parts (is_of kind.Text d) _ second.1 in
        let fourth = and_parts (is_of kind.Integer e) _ third.1 in
        whole_is e fourth.0 (not-true _ (and_parts (not (is_null e)) _ k).0)
