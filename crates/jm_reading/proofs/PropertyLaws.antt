-- The rules of properties read exactly properties, by their fields.
use Rattle.std.proofs.Common.{◌≡◌, ℕ, zero, suc, ◌+◌, ◌^◌, ◌<◌, ◌≤◌, Bool, true, false, cond, eqb, List, [], ◌∷◌, ◌++◌, length, Option, Some, None, Ok, Err, refl, sym, ◌∙◌, ap, subst, append_assoc, arith, inl, inr}
use Rattle.std.specs.Prelude.{codes, not, ◌||◌, nat_eq, is_none}
use Rattle.std.specs.Cmp.Lexicographic.{bytes_decides}
use Rattle.std.specs.Int.{w8, w16, w32, w64, to_be_bytes, cast_unsigned, cast_signed}
use Rattle.std.specs.List.{flat_map, starts_with, AllByRecursion}
use Rattle.std.specs.Str.{bytes_eq}
use Rattle.std.proofs.lemmas.Bool.{and_parts, and_from, or_cases}
use borrow.Author.Gap.{read_sfits}
use Rattle.std.proofs.Math.Facts.{Fits-of_z}
use Rattle.std.proofs.lemmas.Int.{to_z-of_z, of_z-to_z}
use Rattle.std.proofs.lemmas.List.{append-nil, length-append}
use Rattle.jm_property.specs.declared.property.Property.{Property}
use Rattle.jm_property.specs.declared.property.Property.TheVariants.{Bool as Truth, Byte, Short, Int, Long, Text}
use Rattle.jm_property.specs.Identifiers.{is_identifier}
use Rattle.jm_property.specs.Properties.{Table, IsTable, is_settable, is_group_property, is_allowed, value_of}
use Rattle.jm_format.specs.Limits.{number_end, length_end, greatest}
use Rattle.jm_format.specs.Format as format
use Rattle.jm_format.specs.Messages.{IsText, IsValue, IsProperty, AreProperties}
use Rattle.jm_format.specs.Reading.{Outcome, Rule, ◌>>=◌, and_then, pure, is_new, number, property_name, tags_of, value, property, properties_after, properties}
use Rattle.jm_reading.specs.Exact.{IsRead}
use Rattle.jm_reading.proofs.Codec.{IsRead-pure, reads_then, reads_map, reads_same}
use Rattle.jm_reading.proofs.FieldLaws.{IsRead-field, wide16, wide32, wide64, text_field}
use Rattle.jm_reading.proofs.PartLaws.{IsWithin, or_left, or_right, reads_byte, reads_number, reads_text, ascii_text}
use Rattle.jm_reading.proofs.Tables.{IsFresh, fresh, IsTable-push, IsTable-at}

-- ---- values

-- a value of the type of this tag
abbrev Tagged : ℕ → Property → Type 0
Tagged tag v = IsValue v × (format.property_tag v ≡ tag)

-- the number that a value is written as
abbrev raw : Property → ℕ
raw (Truth b) = cond b 1 0
raw (Byte z) = cast_unsigned w8 z
raw (Short z) = cast_unsigned w16 z
raw (Int z) = cast_unsigned w32 z
raw (Long z) = cast_unsigned w64 z
raw (Text t) = 0

reads_truth : IsRead (Tagged 1) (λ v. format.property_value v ∷ []) (value 1)
unfolding value
reads_truth =
    reads_map (λ n. Truth (eqb n 1)) raw (λ v is. in_range v is.1) (λ v is. same v is.1) (λ v is. there v is.1) (λ n is. (tt, refl)) (λ n is. back n is.high) (reads_byte 0 1 (omega arith))
  where
    in_range : (v : Property) → format.property_tag v ≡ 1 → IsWithin 0 1 (raw v)
    in_range (Truth true) e = record { low = omega arith; high = omega arith }
    in_range (Truth false) e = record { low = omega arith; high = omega arith }
    in_range v e = absurd (omega (arith, e))

    same : (v : Property) → format.property_tag v ≡ 1 → format.property_value v ∷ [] ≡ format.byte (raw v) ∷ []
    same (Truth b) e = refl
    same v e = absurd (omega (arith, e))

    there : (v : Property) → format.property_tag v ≡ 1 → Truth (eqb (raw v) 1) ≡ v
    there (Truth true) e = refl
    there (Truth false) e = refl
    there v e = absurd (omega (arith, e))

    back : (n : ℕ) → n ≤ 1 → cond (eqb n 1) 1 0 ≡ n
    back zero h = refl
    back (suc zero) h = refl
    back (suc (suc n)) h = absurd (omega arith)

reads_byte_value : IsRead (Tagged 2) (λ v. format.property_value v ∷ []) (value 2)
unfolding value
reads_byte_value =
    reads_map (λ n. Byte (cast_signed w8 n)) raw (λ v is. in_range v is.0 is.1) (λ v is. same v is.1) (λ v is. there v is.0 is.1)
    (λ n is. (read_sfits w8 n, refl)) (λ n is. of_z-to_z w8 n (omega (arith, is.high))) (reads_byte 0 (greatest w8) (omega arith))
  where
    in_range : (v : Property) → IsValue v → format.property_tag v ≡ 2 → IsWithin 0 (greatest w8) (raw v)
    in_range (Byte z) is e = let f = Fits-of_z is in record { low = omega arith; high = omega (arith, f.fits) }
    in_range v is e = absurd (omega (arith, e))

    same : (v : Property) → format.property_tag v ≡ 2 → format.property_value v ∷ [] ≡ format.byte (raw v) ∷ []
    same (Byte z) e = refl
    same v e = absurd (omega (arith, e))

    there : (v : Property) → IsValue v → format.property_tag v ≡ 2 → Byte (cast_signed w8 (raw v)) ≡ v
    there (Byte z) is e = ap Byte (to_z-of_z w8 z is)
    there v is e = absurd (omega (arith, e))

reads_short : IsRead (Tagged 3) (λ v. format.property_value v ∷ []) (value 3)
unfolding value
reads_short =
    reads_map (λ n. Short (cast_signed w16 n)) raw (λ v is. in_range v is.0 is.1) (λ v is. same v is.1) (λ v is. there v is.0 is.1)
    (λ n is. (read_sfits w16 n, refl)) (λ n is. of_z-to_z w16 n (omega (arith, is.high))) (reads_number w16 (2 ^ 16) wide16 0 (greatest w16) (omega arith) (omega arith))
  where
    in_range : (v : Property) → IsValue v → format.property_tag v ≡ 3 → IsWithin 0 (greatest w16) (raw v)
    in_range (Short z) is e = let f = Fits-of_z is in record { low = omega arith; high = omega (arith, f.fits) }
    in_range v is e = absurd (omega (arith, e))

    same : (v : Property) → format.property_tag v ≡ 3 → format.property_value v ∷ [] ≡ to_be_bytes w16 (raw v) ∷ []
    same (Short z) e = refl
    same v e = absurd (omega (arith, e))

    there : (v : Property) → IsValue v → format.property_tag v ≡ 3 → Short (cast_signed w16 (raw v)) ≡ v
    there (Short z) is e = ap Short (to_z-of_z w16 z is)
    there v is e = absurd (omega (arith, e))

reads_int : IsRead (Tagged 4) (λ v. format.property_value v ∷ []) (value 4)
unfolding value
reads_int =
    reads_map (λ n. Int (cast_signed w32 n)) raw (λ v is. in_range v is.0 is.1) (λ v is. same v is.1) (λ v is. there v is.0 is.1)
    (λ n is. (read_sfits w32 n, refl)) (λ n is. of_z-to_z w32 n (omega (arith, is.high))) (reads_number w32 number_end wide32 0 (greatest w32) (omega arith) (omega arith))
  where
    in_range : (v : Property) → IsValue v → format.property_tag v ≡ 4 → IsWithin 0 (greatest w32) (raw v)
    in_range (Int z) is e = let f = Fits-of_z is in record { low = omega arith; high = omega (arith, f.fits) }
    in_range v is e = absurd (omega (arith, e))

    same : (v : Property) → format.property_tag v ≡ 4 → format.property_value v ∷ [] ≡ to_be_bytes w32 (raw v) ∷ []
    same (Int z) e = refl
    same v e = absurd (omega (arith, e))

    there : (v : Property) → IsValue v → format.property_tag v ≡ 4 → Int (cast_signed w32 (raw v)) ≡ v
    there (Int z) is e = ap Int (to_z-of_z w32 z is)
    there v is e = absurd (omega (arith, e))

reads_long : IsRead (Tagged 5) (λ v. format.property_value v ∷ []) (value 5)
unfolding value
reads_long =
    reads_map (λ n. Long (cast_signed w64 n)) raw (λ v is. in_range v is.0 is.1) (λ v is. same v is.1) (λ v is. there v is.0 is.1)
    (λ n is. (read_sfits w64 n, refl)) (λ n is. of_z-to_z w64 n (omega (arith, is.high))) (reads_number w64 length_end wide64 0 (greatest w64) (omega arith) (omega arith))
  where
    in_range : (v : Property) → IsValue v → format.property_tag v ≡ 5 → IsWithin 0 (greatest w64) (raw v)
    in_range (Long z) is e = let f = Fits-of_z is in record { low = omega arith; high = omega (arith, f.fits) }
    in_range v is e = absurd (omega (arith, e))

    same : (v : Property) → format.property_tag v ≡ 5 → format.property_value v ∷ [] ≡ to_be_bytes w64 (raw v) ∷ []
    same (Long z) e = refl
    same v e = absurd (omega (arith, e))

    there : (v : Property) → IsValue v → format.property_tag v ≡ 5 → Long (cast_signed w64 (raw v)) ≡ v
    there (Long z) is e = ap Long (to_z-of_z w64 z is)
    there v is e = absurd (omega (arith, e))

text_of : Property → List ℕ
text_of (Text t) = t
text_of v = []

reads_text_value : IsRead (Tagged 6) (λ v. format.property_value v ∷ []) (value 6)
unfolding value text_of
reads_text_value =
    reads_map Text text_of (λ v is. is_text v is.0 is.1) (λ v is. same v is.1) (λ v is. there v is.1) (λ t is. (is, refl)) (λ t is. refl) reads_text
  where
    is_text : (v : Property) → IsValue v → format.property_tag v ≡ 6 → IsText (text_of v)
    is_text (Text t) is e = is
    is_text v is e = absurd (omega (arith, e))

    same : (v : Property) → format.property_tag v ≡ 6 → format.property_value v ∷ [] ≡ format.block (text_of v) ∷ []
    same (Text t) e = refl
    same v e = absurd (omega (arith, e))

    there : (v : Property) → format.property_tag v ≡ 6 → Text (text_of v) ≡ v
    there (Text t) e = refl
    there v e = absurd (omega (arith, e))

reads_value : (tag : ℕ) → IsWithin 1 6 tag → IsRead (Tagged tag) (λ v. format.property_value v ∷ []) (value tag)
reads_value zero h = absurd (omega (arith, h.low))
reads_value (suc zero) h = reads_truth
reads_value (suc (suc zero)) h = reads_byte_value
reads_value (suc (suc (suc zero))) h = reads_short
reads_value (suc (suc (suc (suc zero)))) h = reads_int
reads_value (suc (suc (suc (suc (suc zero))))) h = reads_long
reads_value (suc (suc (suc (suc (suc (suc zero)))))) h = reads_text_value
reads_value (suc (suc (suc (suc (suc (suc (suc n))))))) h = absurd (omega (arith, h.high))

-- ---- names, and the tags that each may have

-- a name that begins with JMS, and the two of a message group
abbrev is_reserved : List ℕ → Bool
is_reserved n = starts_with nat_eq n (codes "JMS")

abbrev is_id : List ℕ → Bool
is_id n = bytes_eq n (codes "JMSXGroupID")

abbrev is_seq : List ℕ → Bool
is_seq n = bytes_eq n (codes "JMSXGroupSeq")

id_at : (n : List ℕ) → is_id n ≡ true → (is_reserved n ≡ true) × (is_seq n ≡ false)
id_at n e =
    let same : n ≡ codes "JMSXGroupID" = (bytes_decides n (codes "JMSXGroupID")).0 e in
    (ap is_reserved same, ap is_seq same)

seq_at : (n : List ℕ) → is_seq n ≡ true → (is_reserved n ≡ true) × (is_id n ≡ false)
seq_at n e =
    let same : n ≡ codes "JMSXGroupSeq" = (bytes_decides n (codes "JMSXGroupSeq")).0 e in
    (ap is_reserved same, ap is_id same)

abbrev tags_by : Bool → Bool → ℕ × ℕ
tags_by a b = cond a (6, 6) (cond b (4, 4) (1, 6))

not_so : (a : Bool) → (a ≡ true → ⊥) → a ≡ false
not_so true h = absurd (h refl)
not_so false h = refl

free : (n : List ℕ) → is_reserved n ≡ false → tags_of n ≡ (1, 6)
free n e =
    let a : is_id n ≡ false = not_so _ (λ t. let j = (id_at n t).0 in cc) in
    let b : is_seq n ≡ false = not_so _ (λ t. let j = (seq_at n t).0 in cc) in
    λ i. tags_by (a i) (b i)

tags_at_id : (n : List ℕ) → is_id n ≡ true → tags_of n ≡ (6, 6)
tags_at_id n e = λ i. tags_by (e i) (is_seq n)

tags_at_seq : (n : List ℕ) → is_seq n ≡ true → tags_of n ≡ (4, 4)
tags_at_seq n e = let a = (seq_at n e).1 in λ i. tags_by (a i) (e i)

pub record AreTags (tags : ℕ × ℕ) : Type 0 where
  pub low : 1 ≤ tags.0
  pub order : tags.0 ≤ tags.1
  pub high : tags.1 ≤ 6

tags_are : (n : List ℕ) → AreTags (tags_of n)
tags_are n = by (is_id n) (is_seq n)
  where
    by : (a b : Bool) → AreTags (tags_by a b)
    by true b = record { low = omega arith; order = omega arith; high = omega arith }
    by false true = record { low = omega arith; order = omega arith; high = omega arith }
    by false false = record { low = omega arith; order = omega arith; high = omega arith }

any_tag : (v : Property) → IsWithin 1 6 (format.property_tag v)
any_tag (Truth b) = record { low = omega arith; high = omega arith }
any_tag (Byte z) = record { low = omega arith; high = omega arith }
any_tag (Short z) = record { low = omega arith; high = omega arith }
any_tag (Int z) = record { low = omega arith; high = omega arith }
any_tag (Long z) = record { low = omega arith; high = omega arith }
any_tag (Text t) = record { low = omega arith; high = omega arith }

not_reserved : (a : Bool) → not a ≡ true → a ≡ false
not_reserved true e = absurd cc
not_reserved false e = refl

abbrev Within : ℕ × ℕ → ℕ → Type 0
Within tags tag = IsWithin tags.0 tags.1 tag

-- a value of a message group has the name of one, and its tag
group_name : (n : List ℕ) (v : Property) → is_group_property n v ≡ true → (not (is_reserved n) || is_id n || is_seq n ≡ true) × Within (tags_of n) (format.property_tag v)
group_name n (Int z) e = (or_right _ _ e, subst (λ (t : ℕ × ℕ). Within t 4) (sym (tags_at_seq n e)) (record { low = omega arith; high = omega arith }))
group_name n (Text t) e = (or_left _ _ (or_right _ _ e), subst (λ (t : ℕ × ℕ). Within t 6) (sym (tags_at_id n e)) (record { low = omega arith; high = omega arith }))
group_name n v e = absurd cc

-- a property that may be set has a name that may be, and a tag that its name may have
allowed_parts : (n : List ℕ) (v : Property) → is_allowed n v ≡ true → (is_settable n ≡ true) × Within (tags_of n) (format.property_tag v)
allowed_parts n v e =
    let p = and_parts (is_identifier n) _ e in
    elim (or_cases _ _ p.1) [
      | inl other ↦ (and_from _ _ p.0 (or_left _ _ (or_left _ _ other)), subst (λ (t : ℕ × ℕ). Within t (format.property_tag v)) (sym (free n (not_reserved _ other))) (any_tag v))
      | inr group ↦ let q = group_name n v group in (and_from _ _ p.0 q.0, q.1)
    ]

-- and the other way round
group_value : (n : List ℕ) (v : Property) → is_id n ≡ true → Within (tags_of n) (format.property_tag v) → is_group_property n v ≡ true
group_value n v e w = by v (subst (λ (t : ℕ × ℕ). Within t (format.property_tag v)) (tags_at_id n e) w)
  where
    by : (v : Property) → IsWithin 6 6 (format.property_tag v) → is_group_property n v ≡ true
    by (Text t) w = e
    by v w = absurd (omega (arith, w.low))

sequence_value : (n : List ℕ) (v : Property) → is_seq n ≡ true → Within (tags_of n) (format.property_tag v) → is_group_property n v ≡ true
sequence_value n v e w = by v (subst (λ (t : ℕ × ℕ). Within t (format.property_tag v)) (tags_at_seq n e) w)
  where
    by : (v : Property) → IsWithin 4 4 (format.property_tag v) → is_group_property n v ≡ true
    by (Int z) w = e
    by v w = absurd (omega (arith, w.low, w.high))

allowed_from : (n : List ℕ) (v : Property) → is_settable n ≡ true → Within (tags_of n) (format.property_tag v) → is_allowed n v ≡ true
allowed_from n v e w =
    let p = and_parts (is_identifier n) _ e in
    elim (or_cases _ _ p.1) [
      | inl others ↦ elim (or_cases _ _ others) [
        | inl other ↦ and_from _ _ p.0 (or_left _ _ other)
        | inr id ↦ and_from _ _ p.0 (or_right _ _ (group_value n v id w))
      ]
      | inr seq ↦ and_from _ _ p.0 (or_right _ _ (sequence_value n v seq w))
    ]

-- ---- the name of a property

pub record IsNew (before : Table) (n : List ℕ) : Type 0 where
  pub text : IsText n
  pub settable : is_settable n ≡ true
  pub new : value_of before n ≡ None

is_none-true : (o : Option Property) → is_none o ≡ true → o ≡ None
is_none-true None e = refl
is_none-true (Some v) e = absurd cc

new-true : (before : Table) (n : List ℕ) → IsText n → is_new before n ≡ true → IsNew before n
new-true before n text e =
    let p = and_parts (is_settable n) _ e in
    record { text = text; settable = p.0; new = is_none-true _ p.1 }

new-from : (before : Table) (n : List ℕ) → IsNew before n → is_new before n ≡ true
new-from before n new = and_from _ _ new.settable (ap is_none new.new)

reads_property_name : (before : Table) → length before + 1 < length_end → IsRead (IsNew before) (λ n. format.block n ∷ []) (property_name before)
unfolding property_name
reads_property_name before lt =
    reads_same (IsNew before) (λ n. format.block n ∷ []) (λ n is. new-true before n is.0 is.1) (λ n new. (new.text, new-from before n new)) (λ n is. refl)
    (IsRead-field IsText format.block _ (is_new before) text_field f.0 (is.text, new-from before f.0 is))
  where
    f : (name : List ℕ) × IsFresh before name
    f = fresh before

    is : IsNew before f.0
    is = record { text = ascii_text f.0 f.1.ascii (omega (arith, f.1.len)); settable = f.1.settable; new = f.1.new }

-- ---- a property

-- a property that may stand beside those before it
pub record IsNext (before : Table) (p : List ℕ × Property) : Type 0 where
  pub property : IsProperty p
  pub new : value_of before p.0 ≡ None
  pub allowed : is_allowed p.0 p.1 ≡ true

reads_property : (before : Table) → length before + 1 < length_end → IsRead (IsNext before) format.property_fields (property before)
unfolding property
reads_property before lt =
    reads_then (λ p. p.0) (λ p. format.byte (format.property_tag p.1) ∷ format.property_value p.1 ∷ [])
    (λ p is. record { text = is.property.name; settable = (allowed_parts p.0 p.1 is.allowed).0; new = is.new }) (λ p is. refl) (reads_property_name before lt) (λ n new.
    reads_then (λ p. format.property_tag p.1) (λ p. format.property_value p.1 ∷ [])
    (λ p is. subst (λ (m : List ℕ). Within (tags_of m) (format.property_tag p.1)) is.1 (allowed_parts p.0 p.1 is.0.allowed).1) (λ p is. refl)
    (reads_byte (tags_of n).0 (tags_of n).1 (tags_are n).order) (λ tag w.
    reads_map (λ v. (n, v)) (λ p. p.1) (λ p is. (is.0.0.property.value, is.1)) (λ p is. refl)
    (λ p is. λ i. (sym is.0.1 i, p.1))
    (λ v is. ((record { property = record { name = new.text; value = is.0 }; new = new.new; allowed = allowed_from n v new.settable (subst (Within (tags_of n)) (sym is.1) w) }, refl), is.1))
    (λ v is. refl)
    (reads_value tag (record { low = omega (arith, w.low, (tags_are n).low); high = omega (arith, w.high, (tags_are n).high) }))))

-- ---- the properties

-- so many properties that go after those before them
rest_after : ℕ → Table → Rule Table
rest_after zero before = pure []
rest_after (suc n) before = property before >>= λ p. rest_after n (before ++ p ∷ []) >>= λ ps. pure (p ∷ ps)

-- properties that may go after those before them
abbrev Follow : Table → Table → Type 0
Follow before [] = Unit {0}
Follow before (p ∷ ps) = IsNext before p × Follow (before ++ p ∷ []) ps

abbrev first_of : Table → List ℕ × Property
first_of [] = ([], Truth false)
first_of (p ∷ ps) = p

abbrev others_of : Table → Table
others_of [] = []
others_of (p ∷ ps) = ps

abbrev SoMany : ℕ → Table → Table → Type 0
SoMany n before ps = Follow before ps × (length ps ≡ n)

reads_rest : (n : ℕ) (before : Table) → length before + n < length_end → IsRead (SoMany n before) (flat_map format.property_fields) (rest_after n before)
unfolding rest_after
reads_rest zero before lt = IsRead-pure _ _ [] (tt, refl) (λ ps is. only ps is.1) (λ ps is. nothing ps is.1)
  where
    only : (ps : Table) → length ps ≡ 0 → ps ≡ []
    only [] e = refl
    only (p ∷ ps) e = absurd (omega (arith, e))

    nothing : (ps : Table) → length ps ≡ 0 → flat_map format.property_fields ps ≡ []
    nothing [] e = refl
    nothing (p ∷ ps) e = absurd (omega (arith, e))
reads_rest (suc n) before lt =
    reads_then first_of (λ ps. flat_map format.property_fields (others_of ps)) (λ ps is. first_is ps is.0 is.1) (λ ps is. splits ps is.1) (reads_property before (omega arith)) (λ p next.
    reads_map (λ ps. p ∷ ps) others_of (λ ps is. others_are p ps is.0.0 is.0.1 is.1) (λ ps is. refl) (λ ps is. there p ps is.0.1 is.1)
    (λ ps is. (((next, is.0), ap suc is.1), refl)) (λ ps is. refl)
    (reads_rest n (before ++ p ∷ []) (omega (arith, length-append before (p ∷ [])))))
  where
    first_is : (ps : Table) → Follow before ps → length ps ≡ suc n → IsNext before (first_of ps)
    first_is [] is e = absurd (omega (arith, e))
    first_is (p ∷ ps) is e = is.0

    splits : (ps : Table) → length ps ≡ suc n → flat_map format.property_fields ps ≡ format.property_fields (first_of ps) ++ flat_map format.property_fields (others_of ps)
    splits [] e = absurd (omega (arith, e))
    splits (p ∷ ps) e = refl

    others_are : (p : List ℕ × Property) (ps : Table) → Follow before ps → length ps ≡ suc n → first_of ps ≡ p → SoMany n (before ++ p ∷ []) (others_of ps)
    others_are p [] is e same = absurd (omega (arith, e))
    others_are p (q ∷ qs) is e same = (subst (λ (r : List ℕ × Property). Follow (before ++ r ∷ []) qs) same is.1, omega (arith, e))

    there : (p : List ℕ × Property) (ps : Table) → length ps ≡ suc n → first_of ps ≡ p → p ∷ others_of ps ≡ ps
    there p [] e same = absurd (omega (arith, e))
    there p (q ∷ qs) e same = ap (λ (r : List ℕ × Property). r ∷ qs) (sym same)

-- the properties of a message follow one another, and what does is the properties of one
to_follow : (before ps : Table) → IsTable (before ++ ps) → AllByRecursion IsProperty ps → Follow before ps
to_follow before [] sound each = tt
to_follow before (p ∷ ps) sound each =
    let at = IsTable-at before p ps sound in
    (record { property = each.0; new = at.0; allowed = at.1 }, to_follow (before ++ p ∷ []) ps (subst IsTable (sym (append_assoc before (p ∷ []) ps)) sound) each.1)

from_follow : (before ps : Table) → IsTable before → Follow before ps → IsTable (before ++ ps) × AllByRecursion IsProperty ps
from_follow before [] sound follow = (subst IsTable (sym (append-nil before)) sound, tt)
from_follow before (p ∷ ps) sound follow =
    let next = from_follow (before ++ p ∷ []) ps (IsTable-push before p sound follow.0.new follow.0.allowed) follow.1 in
    (subst IsTable (append_assoc before (p ∷ []) ps) next.0, (follow.0.property, next.1))

-- reading onto those before is reading the rest
after : (n : ℕ) (before : Table) (bytes : List ℕ) → properties_after n before bytes ≡ and_then (rest_after n before bytes) (λ ps. pure (before ++ ps))
unfolding properties_after rest_after
after zero before bytes = ap (λ (t : Table). Ok (t, bytes)) (sym (append-nil before))
after (suc n) before bytes = by (property before bytes) (λ p rest. after n (before ++ p ∷ []) rest)
  where
    joined : (p : List ℕ × Property) (outcome : Outcome Table) → and_then outcome (λ ps. pure ((before ++ p ∷ []) ++ ps)) ≡ and_then (and_then outcome (λ ps. pure (p ∷ ps))) (λ ps. pure (before ++ ps))
    joined p (Ok read) = ap (λ (t : Table). Ok (t, read.1)) (append_assoc before (p ∷ []) read.0)
    joined p (Err left) = refl

    by : (outcome : Outcome (List ℕ × Property)) → ((p : List ℕ × Property) (rest : List ℕ) → properties_after n (before ++ p ∷ []) rest ≡ and_then (rest_after n (before ++ p ∷ []) rest) (λ ps. pure ((before ++ p ∷ []) ++ ps))) → and_then (and_then outcome (λ p. pure (before ++ p ∷ []))) (properties_after n) ≡ and_then (and_then outcome (λ p. rest_after n (before ++ p ∷ []) >>= λ ps. pure (p ∷ ps))) (λ ps. pure (before ++ ps))
    by (Ok read) later = later read.0 read.1 ∙ joined read.0 (rest_after n (before ++ read.0 ∷ []) read.1)
    by (Err left) later = refl

from_nothing : (n : ℕ) (bytes : List ℕ) → properties_after n [] bytes ≡ rest_after n [] bytes
from_nothing n bytes = after n [] bytes ∙ tidy (rest_after n [] bytes)
  where
    tidy : (outcome : Outcome Table) → and_then outcome (λ ps. pure ([] ++ ps)) ≡ outcome
    tidy (Ok read) = refl
    tidy (Err left) = refl

pub reads_properties : IsRead AreProperties format.table_fields properties
unfolding properties
reads_properties =
    subst (IsRead AreProperties format.table_fields) (λ i bytes. and_then (number w64 0 (greatest w64) bytes) (λ count rest. sym (from_nothing count rest) i))
    (reads_then length (flat_map format.property_fields) (λ t is. record { low = omega arith; high = omega (arith, is.short) }) (λ t is. refl)
    (reads_number w64 length_end wide64 0 (greatest w64) (omega arith) (omega arith)) (λ count w.
    reads_same _ _
    (λ t is. (let sound = from_follow [] t tt is.0 in record { table = sound.0; each = sound.1; short = omega (arith, is.1, w.high) }, is.1))
    (λ t is. (to_follow [] t is.0.table is.0.each, is.1)) (λ t is. refl)
    (reads_rest count [] (omega (arith, w.high)))))
