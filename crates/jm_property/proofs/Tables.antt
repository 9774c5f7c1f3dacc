-- Facts on tables of properties.
use Rattle.std.proofs.Common.{◌≡◌, ◌+◌, ◌<◌, ℕ, Bool, true, false, cond, ◌&&◌, List, [], ◌∷◌, ◌++◌, length, get_or, set, take, Some, None, arith, refl, sym, ◌∙◌, ap, subst, IsTrue, zero, suc}
use Rattle.std.specs.Bool.{Decides}
use Rattle.std.specs.Cmp.Lexicographic.{bytes_decides, pointwise, pointwise_decides}
use Rattle.std.specs.Str.{bytes_eq}
use Rattle.std.proofs.lemmas.Bool.Decides.{Decides-and, Decides-like, same_from_decides}
use Rattle.std.proofs.lemmas.List.{get_or-map, length-map, map_push, take_more}
use Rattle.jm_property.specs.declared.property.Property.{Property}
use Rattle.jm_property.specs.Same.{names_of, property_eq, property_same, table_eq, table_same}
use Rattle.jm_property.specs.Properties.{Table, IsTable, is_allowed, value_of, with_property}

bytes_eq-sym : (a b : List ℕ) → bytes_eq a b ≡ false → bytes_eq b a ≡ false
bytes_eq-sym a b e = by (bytes_eq b a) refl
  where
    by : (r : Bool) → bytes_eq b a ≡ r → bytes_eq b a ≡ false
    by true p = let t = (bytes_decides a b).1 (sym ((bytes_decides b a).0 p)) in cc
    by false p = p

-- a name that is set leaves what stands under another
value_of-with_property_other : (table : Table) (name : List ℕ) (value : Property) (other : List ℕ) → bytes_eq other name ≡ false → value_of (with_property table name value) other ≡ value_of table other
value_of-with_property_other [] name value other apart = ap (λ b. cond b (Some value) None) apart
value_of-with_property_other (entry ∷ rest) name value other apart =
    by (bytes_eq name entry.0) refl (value_of-with_property_other rest name value other apart)
  where
    by : (b : Bool) → bytes_eq name entry.0 ≡ b → value_of (with_property rest name value) other ≡ value_of rest other → value_of (cond (bytes_eq name entry.0) ((entry.0, value) ∷ rest) (entry ∷ with_property rest name value)) other ≡ cond (bytes_eq other entry.0) (Some entry.1) (value_of rest other)
    by true there later =
        let at : bytes_eq other entry.0 ≡ false = subst (λ n. bytes_eq other n ≡ false) ((bytes_decides name entry.0).0 there) apart in
        ap (λ b. value_of (cond b ((entry.0, value) ∷ rest) (entry ∷ with_property rest name value)) other) there
        ∙ ap (λ b. cond b (Some value) (value_of rest other)) at
        ∙ sym (ap (λ b. cond b (Some entry.1) (value_of rest other)) at)
    by false there later =
        ap (λ b. value_of (cond b ((entry.0, value) ∷ rest) (entry ∷ with_property rest name value)) other) there
        ∙ ap (cond (bytes_eq other entry.0) (Some entry.1)) later

-- setting an allowed property leaves each name there once, with a value that it may have
pub IsTable-with_property : (table : Table) (name : List ℕ) (value : Property) → IsTable table → IsTrue (is_allowed name value) → IsTable (with_property table name value)
IsTable-with_property [] name value sound allowed = (refl, allowed, tt)
IsTable-with_property (entry ∷ rest) name value sound allowed =
    by (bytes_eq name entry.0) refl (IsTable-with_property rest name value sound.2 allowed)
  where
    by : (b : Bool) → bytes_eq name entry.0 ≡ b → IsTable (with_property rest name value) → IsTable (cond (bytes_eq name entry.0) ((entry.0, value) ∷ rest) (entry ∷ with_property rest name value))
    by true there later =
        let same : name ≡ entry.0 = (bytes_decides name entry.0).0 there in
        subst (λ b. IsTable (cond b ((entry.0, value) ∷ rest) (entry ∷ with_property rest name value))) (sym there)
        (sound.0, subst (λ n. IsTrue (is_allowed n value)) same allowed, sound.2)
    by false there later =
        subst (λ b. IsTable (cond b ((entry.0, value) ∷ rest) (entry ∷ with_property rest name value))) (sym there)
        (value_of-with_property_other rest name value entry.0 (bytes_eq-sym name entry.0 there) ∙ sound.0, sound.1, later)

-- a name that is not there goes last
pub with_property-new : (table : Table) (name : List ℕ) (value : Property) → value_of table name ≡ None → with_property table name value ≡ table ++ (name, value) ∷ []
with_property-new [] name value unset = refl
with_property-new (entry ∷ rest) name value unset = by (bytes_eq name entry.0) refl (with_property-new rest name value)
  where
    by : (b : Bool) → bytes_eq name entry.0 ≡ b → (value_of rest name ≡ None → with_property rest name value ≡ rest ++ (name, value) ∷ []) → with_property (entry ∷ rest) name value ≡ entry ∷ (rest ++ (name, value) ∷ [])
    by true there more =
        let at : cond true (Some entry.1) (value_of rest name) ≡ None = subst (λ b. cond b (Some entry.1) (value_of rest name) ≡ None) there unset in
        cc
    by false there more =
        let later : value_of rest name ≡ None = subst (λ b. cond b (Some entry.1) (value_of rest name) ≡ None) there unset in
        ap (λ b. cond b ((entry.0, value) ∷ rest) (entry ∷ with_property rest name value)) there
        ∙ ap (λ (t : Table). entry ∷ t) (more later)

-- where a name stands again behind the first, no table begins so
second : (entry : List ℕ × Property) (rest : Table) (name : List ℕ) (value : Property) → value_of rest entry.0 ≡ None → value_of rest name ≡ Some value → bytes_eq name entry.0 ≡ false
second entry rest name value once there = by (bytes_eq name entry.0) refl
  where
    by : (b : Bool) → bytes_eq name entry.0 ≡ b → bytes_eq name entry.0 ≡ false
    by true e =
        let none : value_of rest name ≡ None = ap (value_of rest) ((bytes_decides name entry.0).0 e) ∙ once in
        cc
    by false e = e

-- the value at a place is the value of the name there
pub value_at : (table : Table) (place : ℕ) (d : List ℕ × Property) → IsTable table → place < length table → value_of table (get_or table place d).0 ≡ Some (get_or table place d).1
value_at [] place d sound within = absurd (omega (arith, within))
value_at (entry ∷ rest) zero d sound within = ap (λ b. cond b (Some entry.1) (value_of rest entry.0)) ((bytes_decides entry.0 entry.0).1 refl)
value_at (entry ∷ rest) (suc place) d sound within =
    let later : value_of rest (get_or rest place d).0 ≡ Some (get_or rest place d).1 = value_at rest place d sound.2 (omega (arith, within)) in
    ap (λ b. cond b (Some entry.1) (value_of rest (get_or rest place d).0)) (second entry rest (get_or rest place d).0 (get_or rest place d).1 sound.0 later) ∙ later

-- another value at a place is another value of the name there
pub set_at : (table : Table) (place : ℕ) (d : List ℕ × Property) (value : Property) → IsTable table → place < length table → set table place ((get_or table place d).0, value) ≡ with_property table (get_or table place d).0 value
set_at [] place d value sound within = absurd (omega (arith, within))
set_at (entry ∷ rest) zero d value sound within = sym (ap (λ b. cond b ((entry.0, value) ∷ rest) (entry ∷ with_property rest entry.0 value)) ((bytes_decides entry.0 entry.0).1 refl))
set_at (entry ∷ rest) (suc place) d value sound within =
    let near : place < length rest = omega (arith, within) in
    let name : List ℕ = (get_or rest place d).0 in
    ap (λ (t : Table). entry ∷ t) (set_at rest place d value sound.2 near)
    ∙ sym (ap (λ b. cond b ((entry.0, value) ∷ rest) (entry ∷ with_property rest name value)) (second entry rest name (get_or rest place d).1 sound.0 (value_at rest place d sound.2 near)))

-- a name that stands at no place has no value
pub value_of-absent : (table : Table) (name : List ℕ) → ((place : ℕ) → place < length (names_of table) → bytes_eq name (get_or (names_of table) place []) ≡ false) → value_of table name ≡ None
value_of-absent [] name apart = refl
value_of-absent (entry ∷ rest) name apart =
    ap (λ b. cond b (Some entry.1) (value_of rest name)) (apart 0 (omega arith)) ∙ value_of-absent rest name (λ place within. apart (suc place) (omega (arith, within)))

pub empty : (table : Table) → length table ≡ 0 → table ≡ []
empty [] none = refl
empty (entry ∷ rest) none = absurd (omega (arith, none))

-- a name that is none of some, nor the next, has no value in these and the next
pub value_of-push : (table : Table) (entry : List ℕ × Property) (name : List ℕ) → value_of table name ≡ None → bytes_eq name entry.0 ≡ false → value_of (table ++ entry ∷ []) name ≡ None
value_of-push [] entry name none apart = ap (λ b. cond b (Some entry.1) None) apart
value_of-push (first ∷ rest) entry name none apart = by (bytes_eq name first.0) refl (value_of-push rest entry name)
  where
    by : (b : Bool) → bytes_eq name first.0 ≡ b → (value_of rest name ≡ None → bytes_eq name entry.0 ≡ false → value_of (rest ++ entry ∷ []) name ≡ None) → cond (bytes_eq name first.0) (Some first.1) (value_of (rest ++ entry ∷ []) name) ≡ None
    by true there more =
        let at : cond true (Some first.1) (value_of rest name) ≡ None = subst (λ b. cond b (Some first.1) (value_of rest name) ≡ None) there none in
        cc
    by false there more =
        let later : value_of rest name ≡ None = subst (λ b. cond b (Some first.1) (value_of rest name) ≡ None) there none in
        ap (λ b. cond b (Some first.1) (value_of (rest ++ entry ∷ []) name)) there ∙ more later apart

-- other values leave the names
pub names_of-set : (table : Table) (place : ℕ) (d : List ℕ × Property) (value : Property) → place < length table → names_of (set table place ((get_or table place d).0, value)) ≡ names_of table
names_of-set [] place d value within = refl
names_of-set (entry ∷ rest) zero d value within = refl
names_of-set (entry ∷ rest) (suc place) d value within = ap (λ (names : List (List ℕ)). entry.0 ∷ names) (names_of-set rest place d value (omega (arith, within)))

-- ---- an entry that was read at a place

pub name_is : (table : Table) (place : ℕ) (entry : List ℕ × Property) → place < length table → entry ≡ get_or table place entry → get_or (names_of table) place [] ≡ entry.0
name_is table place entry within is = get_or-map (λ (e : List ℕ × Property). e.0) table place entry [] within ∙ ap (λ (e : List ℕ × Property). e.0) (sym is)

pub named : (table : Table) (place : ℕ) (entry : List ℕ × Property) (name : List ℕ) → place < length table → entry ≡ get_or table place entry → bytes_eq entry.0 name ≡ true → (place < length table) × (get_or (names_of table) place [] ≡ name)
named table place entry name within is same = (within, name_is table place entry within is ∙ (bytes_decides entry.0 name).0 same)

pub next_unset : (table : Table) (place : ℕ) (entry : List ℕ × Property) (name : List ℕ) → place < length table → entry ≡ get_or table place entry → value_of (take place table) name ≡ None → bytes_eq entry.0 name ≡ false → value_of (take (place + 1) table) name ≡ None
next_unset table place entry name within is unset apart =
    ap (λ (t : Table). value_of t name) (take_more table place entry within)
    ∙ value_of-push (take place table) (get_or table place entry) name unset (subst (λ (e : List ℕ × Property). bytes_eq name e.0 ≡ false) is (bytes_eq-sym entry.0 name apart))

pub value_is : (table : Table) (place : ℕ) (entry : List ℕ × Property) (name : List ℕ) → IsTable table → place < length table → get_or (names_of table) place [] ≡ name → entry ≡ get_or table place entry → Some entry.1 ≡ value_of table name
value_is table place entry name sound within there is =
    let same : (get_or table place entry).0 ≡ name = ap (λ (e : List ℕ × Property). e.0) (sym is) ∙ sym (name_is table place entry within is) ∙ there in
    ap (λ (e : List ℕ × Property). Some e.1) is ∙ sym (value_at table place entry sound within) ∙ ap (value_of table) same

pub replaced : (table : Table) (place : ℕ) (entry : List ℕ × Property) (value : Property) → IsTable table → place < length table → entry ≡ get_or table place entry → set table place (entry.0, value) ≡ with_property table (get_or (names_of table) place []) value
replaced table place entry value sound within is =
    ap (λ (e : List ℕ × Property). set table place (e.0, value)) is
    ∙ set_at table place entry value sound within
    ∙ ap (λ (n : List ℕ). with_property table n value) (ap (λ (e : List ℕ × Property). e.0) (sym is) ∙ sym (name_is table place entry within is))

pub names_stay : (table : Table) (place : ℕ) (entry : List ℕ × Property) (value : Property) → place < length table → entry ≡ get_or table place entry → names_of (set table place (entry.0, value)) ≡ names_of table
names_stay table place entry value within is = ap (λ (e : List ℕ × Property). names_of (set table place (e.0, value))) is ∙ names_of-set table place entry value within

pub names_length : (table : Table) → length (names_of table) ≡ length table
names_length table = length-map table (λ (e : List ℕ × Property). e.0)

pub names_push : (table : Table) (name : List ℕ) (value : Property) → names_of (table ++ (name, value) ∷ []) ≡ names_of table ++ name ∷ []
names_push table name value = map_push (λ (e : List ℕ × Property). e.0) table (name, value)

-- ---- equal tables

entry_same : (a b : List ℕ × Property) → Decides (bytes_eq a.0 b.0 && property_eq a.1 b.1) (a ≡ b)
entry_same a b = Decides-like _ (λ e i. (e.0 i, e.1 i)) (λ e. (ap (λ (x : List ℕ × Property). x.0) e, ap (λ (x : List ℕ × Property). x.1) e)) (Decides-and _ _ (bytes_decides a.0 b.0) (property_same a.1 b.1))

-- entries are compared in turn as their names and then their values are
pub in_turn_same : (a b : Table) → pointwise (λ (x y : List ℕ × Property). bytes_eq x.0 y.0 && property_eq x.1 y.1) a b ≡ table_eq a b
in_turn_same a b = same_from_decides _ _ (pointwise_decides entry_same a b) (table_same a b)
