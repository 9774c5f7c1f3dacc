-- Tables of properties: a new property goes last, and a name that is not there yet can be found.
use Rattle.std.proofs.Common.{◌≡◌, ℕ, suc, ◌+◌, ◌<◌, Bool, true, false, cond, eqb, List, [], ◌∷◌, ◌++◌, length, get_or, Option, Some, None, refl, sym, ◌∙◌, ap, append_assoc, arith, inl, inr, ◌⊎◌, IsTrue}
use Rattle.std.specs.Cmp.Lexicographic.{bytes_decides}
use Rattle.std.specs.List.{list_all}
use Rattle.std.specs.Str.{bytes_eq, IsAscii}
use Rattle.std.proofs.lemmas.Bool.{and_from, eqb-true, eqb-false}
use Rattle.std.proofs.lemmas.List.{get_or_at, length-append}
use Rattle.std.proofs.lemmas.Str.Ascii.{IsAscii-nil, IsAscii-cons}
use Rattle.jm_property.specs.declared.property.Property.{Property}
use Rattle.jm_property.specs.Identifiers.{is_letter_or_digit}
use Rattle.jm_property.specs.Properties.{Table, IsTable, is_settable, is_allowed, value_of, with_property}

-- ---- a test of two names

bytes_eq-sym : (a b : List ℕ) → bytes_eq a b ≡ false → bytes_eq b a ≡ false
bytes_eq-sym a b e = by (bytes_eq b a) refl
  where
    by : (r : Bool) → bytes_eq b a ≡ r → bytes_eq b a ≡ false
    by true p = let t = (bytes_decides a b).1 (sym ((bytes_decides b a).0 p)) in cc
    by false p = p

apart : (a b : List ℕ) → (a ≡ b → ⊥) → bytes_eq a b ≡ false
apart a b other = by (bytes_eq a b) refl
  where
    by : (r : Bool) → bytes_eq a b ≡ r → bytes_eq a b ≡ false
    by true p = absurd (other ((bytes_decides a b).0 p))
    by false p = p

-- ---- a new property goes last

-- what a look-up that finds nothing says of the first entry and of the others
none_parts : (b : Bool) (first : Property) (others : Option Property) → cond b (Some first) others ≡ None → (b ≡ false) × (others ≡ None)
none_parts true first others e = absurd cc
none_parts false first others e = (refl, e)

none_from : (b : Bool) (first : Property) (others : Option Property) → b ≡ false → others ≡ None → cond b (Some first) others ≡ None
none_from true first others e none = absurd cc
none_from false first others e none = none

pub appended : (table : Table) (name : List ℕ) (value : Property) → value_of table name ≡ None → with_property table name value ≡ table ++ (name, value) ∷ []
appended [] name value e = refl
appended (entry ∷ rest) name value e =
    let p = none_parts (bytes_eq name entry.0) entry.1 (value_of rest name) e in
    ap (λ b. cond {A = Table} b ((entry.0, value) ∷ rest) (entry ∷ with_property rest name value)) p.0
    ∙ ap (λ (t : Table). entry ∷ t) (appended rest name value p.1)

value_of-append : (table others : Table) (name : List ℕ) → value_of table name ≡ None → value_of others name ≡ None → value_of (table ++ others) name ≡ None
value_of-append [] others name a b = b
value_of-append (entry ∷ rest) others name a b =
    let p = none_parts (bytes_eq name entry.0) entry.1 (value_of rest name) a in
    none_from _ entry.1 _ p.0 (value_of-append rest others name p.1 b)

value_of-part : (table others : Table) (name : List ℕ) → value_of (table ++ others) name ≡ None → (value_of table name ≡ None) × (value_of others name ≡ None)
value_of-part [] others name e = (refl, e)
value_of-part (entry ∷ rest) others name e =
    let p = none_parts (bytes_eq name entry.0) entry.1 (value_of (rest ++ others) name) e in
    let q = value_of-part rest others name p.1 in
    (none_from _ entry.1 _ p.0 q.0, q.1)

-- a new property that may be set goes after a table
pub IsTable-push : (table : Table) (entry : List ℕ × Property) → IsTable table → value_of table entry.0 ≡ None → IsTrue (is_allowed entry.0 entry.1) → IsTable (table ++ entry ∷ [])
IsTable-push [] entry sound new allowed = (refl, allowed, tt)
IsTable-push (first ∷ rest) entry sound new allowed =
    let p = none_parts (bytes_eq entry.0 first.0) first.1 (value_of rest entry.0) new in
    let alone : value_of (entry ∷ []) first.0 ≡ None = none_from _ entry.1 None (bytes_eq-sym entry.0 first.0 p.0) refl in
    (value_of-append rest (entry ∷ []) first.0 sound.0 alone, sound.1, IsTable-push rest entry sound.2 p.1 allowed)

-- each property of a table is new beside those before it, and may be set
pub IsTable-at : (before : Table) (entry : List ℕ × Property) (rest : Table) → IsTable (before ++ entry ∷ rest) → (value_of before entry.0 ≡ None) × IsTrue (is_allowed entry.0 entry.1)
IsTable-at [] entry rest sound = (refl, sound.1)
IsTable-at (first ∷ others) entry rest sound =
    let p = value_of-part others (entry ∷ rest) first.0 sound.0 in
    let q = none_parts (bytes_eq first.0 entry.0) entry.1 (value_of rest first.0) p.1 in
    let later = IsTable-at others entry rest sound.2 in
    (none_from _ first.1 _ (bytes_eq-sym first.0 entry.0 q.0) later.0, later.1)

-- ---- a name that is not there: it differs from the name of each property at the place of that property

abbrev other_letter : ℕ → ℕ
other_letter b = cond (eqb b 120) 121 120

abbrev diagonal : ℕ → Table → List ℕ
diagonal place [] = 120 ∷ []
diagonal place (entry ∷ rest) = other_letter (get_or entry.0 place 0) ∷ diagonal (suc place) rest

-- x or y
abbrev IsLetter : ℕ → Type 0
IsLetter c = (c ≡ 120) ⊎ (c ≡ 121)

other_letter-is : (b : ℕ) → IsLetter (other_letter b)
other_letter-is b = by (eqb b 120)
  where
    by : (r : Bool) → IsLetter (cond r 121 120)
    by true = inr refl
    by false = inl refl

other_letter-differs : (b : ℕ) → other_letter b ≡ b → ⊥
other_letter-differs b e = by (eqb b 120) refl
  where
    is_letter : (r : Bool) → eqb b 120 ≡ r → other_letter b ≡ cond r 121 120
    is_letter r is = ap (λ (t : Bool). cond {A = ℕ} t 121 120) is

    by : (r : Bool) → eqb b 120 ≡ r → ⊥
    by true is = omega (arith, eqb-true _ _ is, is_letter true is, e)
    by false is = eqb-false _ _ is (omega (arith, is_letter false is, e))

length-diagonal : (place : ℕ) (table : Table) → length (diagonal place table) ≡ length table + 1
length-diagonal place [] = refl
length-diagonal place (entry ∷ rest) = omega (arith, length-diagonal (suc place) rest)

-- no property has this name
value_of-diagonal : (table : Table) (front : List ℕ) → value_of table (front ++ diagonal (length front) table) ≡ None
value_of-diagonal [] front = refl
value_of-diagonal (entry ∷ rest) front =
    none_from _ entry.1 _ (apart whole entry.0 differs) (ap (value_of rest) regroup ∙ value_of-diagonal rest (front ++ letter ∷ []))
  where
    letter : ℕ
    letter = other_letter (get_or entry.0 (length front) 0)

    whole : List ℕ
    whole = front ++ letter ∷ diagonal (suc (length front)) rest

    differs : whole ≡ entry.0 → ⊥
    differs e =
        let here : get_or whole (length front) 0 ≡ letter = get_or_at front letter (diagonal (suc (length front)) rest) 0 (length front) refl in
        let there : get_or whole (length front) 0 ≡ get_or entry.0 (length front) 0 = ap (λ (n : List ℕ). get_or n (length front) 0) e in
        other_letter-differs (get_or entry.0 (length front) 0) (sym here ∙ there)

    longer : length (front ++ letter ∷ []) ≡ suc (length front)
    longer = omega (arith, length-append front (letter ∷ []))

    regroup : whole ≡ (front ++ letter ∷ []) ++ diagonal (length (front ++ letter ∷ [])) rest
    regroup =
        sym (append_assoc front (letter ∷ []) (diagonal (suc (length front)) rest))
        ∙ ap (λ (n : ℕ). (front ++ letter ∷ []) ++ diagonal n rest) (sym longer)

is_word_part : (c : ℕ) → IsLetter c → is_letter_or_digit c ≡ true
is_word_part c (inl e) = rw e refl
is_word_part c (inr e) = rw e refl

diagonal-word : (place : ℕ) (table : Table) → list_all is_letter_or_digit (diagonal place table) ≡ true
diagonal-word place [] = refl
diagonal-word place (entry ∷ rest) =
    and_from _ _ (is_word_part _ (other_letter-is (get_or entry.0 place 0))) (diagonal-word (suc place) rest)

diagonal-ascii : (place : ℕ) (table : Table) → IsAscii (diagonal place table)
diagonal-ascii place [] = IsAscii-cons 120 [] (omega arith) IsAscii-nil
diagonal-ascii place (entry ∷ rest) =
    IsAscii-cons _ _ (below (other_letter (get_or entry.0 place 0)) (other_letter-is (get_or entry.0 place 0))) (diagonal-ascii (suc place) rest)
  where
    below : (c : ℕ) → IsLetter c → c < 128
    below c (inl e) = omega (arith, e)
    below c (inr e) = omega (arith, e)

-- a word that begins with x or y is no keyword, and does not begin with JMS
settable : (c : ℕ) (rest : List ℕ) → IsLetter c → list_all is_letter_or_digit rest ≡ true → is_settable (c ∷ rest) ≡ true
settable c rest (inl e) word = rw e (and_from _ _ (and_from _ _ word refl) refl)
settable c rest (inr e) word = rw e (and_from _ _ (and_from _ _ word refl) refl)

diagonal-settable : (table : Table) → is_settable (diagonal 0 table) ≡ true
diagonal-settable [] = settable 120 [] (inl refl) refl
diagonal-settable (entry ∷ rest) = settable _ (diagonal 1 rest) (other_letter-is (get_or entry.0 0 0)) (diagonal-word 1 rest)

-- a name for one more property
pub record IsFresh (table : Table) (name : List ℕ) : Type 0 where
  pub ascii : IsAscii name
  pub len : length name ≡ length table + 1
  pub settable : is_settable name ≡ true
  pub new : value_of table name ≡ None

pub fresh : (table : Table) → (name : List ℕ) × IsFresh table name
fresh table = (
  diagonal 0 table,
  record {
    ascii = diagonal-ascii 0 table;
    len = length-diagonal 0 table;
    settable = diagonal-settable table;
    new = value_of-diagonal table [];
  },
)
