-- A row of held has its message and its station, and one of delayed its message: the tables refer to them.
use Rattle.std.proofs.Common.{◌≡◌, ◌∙◌, inl, inr, ℕ, Bool, true, false, ◌&&◌, ◌||◌, List, [], ◌∷◌, Some, refl, sym, ap, ap₂, subst, codes}
use Rattle.std.proofs.lemmas.Bool.{and_parts, or_cases}
use Rattle.std.proofs.lemmas.Bool.Decides.{Decides-int_eq}
use Rattle.std.proofs.lemmas.Slice.Eq.{bytes_eq-Decides}
use Rattle.sqlite_value.specs.declared.value.Value.{Value}
use Rattle.sqlite_value.specs.declared.value.Value.TheVariants.{Int, Text}
use Rattle.sqlite_value.specs.declared.keys.Collation.TheVariants.{Binary}
use Rattle.sqlite_value.specs.Keys.{plain, first_key, joined}
use Rattle.sqlite_value.specs.Order.{Row, column, bytes}
use Rattle.sqlite.specs.Effect.{Database}
use Rattle.sqlite_sql.specs.Ops.{is_null}
use Rattle.sqlite_catalog.specs.Listing.{IsSound}
use Rattle.sqlite_schema.specs.declared.schema.Constraint.TheVariants.{ForeignKey}
use Rattle.sqlite_schema.specs.declared.schema.Reference.{Reference}
use Rattle.sqlite_schema.specs.Names.{same_name}
use Rattle.sqlite_schema.specs.Rules.{ParentKey, agree, equal, has_null, has_parent, is_held, parent_key}
use Rattle.sqlite_trees.specs.Tree.{Trees, rowid}
use Rattle.sqlite_rules.specs.Edit.{id_in}
use Rattle.sqlite_rules.specs.Lists.{Has}
use Rattle.sqlite_rules.proofs.ListLemmas.{all_has, some_has}
use Rattle.jm_tables.specs.Schema.{schema, refers, key_names, station_tree, message_tree, held_tree, delayed_tree}
use Rattle.jm_tables.specs.Sound.{Serves}
use Rattle.jm_writes.proofs.Serving.{held_row, numbered_row, station_row}
use Rattle.jm_writes.proofs.Values.{eq_int, eq_text}

-- ---- values that are equal

same_int : (v w : Value) → v ≡ Int (id_in v) → w ≡ Int (id_in w) → equal Binary v w ≡ true → id_in v ≡ id_in w
same_int v w a b h = (Decides-int_eq (id_in v) (id_in w)).0 (sym (ap₂ (equal Binary) a b ∙ eq_int (id_in v) (id_in w)) ∙ h)

same_text : (v w : Value) → v ≡ Text (bytes v) → w ≡ Text (bytes w) → equal Binary v w ≡ true → bytes v ≡ bytes w
same_text v w a b h = (bytes_eq-Decides (bytes v) (bytes w)).0 (sym (ap₂ (equal Binary) a b ∙ eq_text (bytes v) (bytes w)) ∙ h)

-- ---- to what the tables refer

abbrev to_message : List ℕ → Reference
to_message places = refers places (codes "message") (codes "place" ∷ [])

abbrev to_station : Reference
to_station = refers (1 ∷ 2 ∷ 3 ∷ []) (codes "station") key_names

message_key : (places : List ℕ) → parent_key schema.tables (to_message places) ≡ Some (message_tree, 0 ∷ [], plain)
unfolding same_name joined
message_key places = refl

station_key : parent_key schema.tables to_station ≡ Some (station_tree, 1 ∷ 2 ∷ 3 ∷ [], plain)
unfolding same_name joined
station_key = refl

-- a row without an absent column has its parent
parent_of : (db : Trees) (r : Row) (ref : Reference) (key : ParentKey) → parent_key schema.tables ref ≡ Some key → has_null ref.columns r ≡ false → has_parent schema.tables db r ref ≡ true
    → (p : Row) × Has (db key.0) p × (agree key.2 key.1 p ref.columns r ≡ true)
parent_of db r ref key is present h = elim (or_cases (has_null ref.columns r) (is_held db ref.columns r (parent_key schema.tables ref)) h) [
  | inl absent ↦ absurd (let no = sym present ∙ absent in cc)
  | inr held ↦ some_has (λ p. agree key.2 key.1 p ref.columns r) (db key.0) (ap (is_held db ref.columns r) (sym is) ∙ held)
]

number_is_there : (v : Value) → v ≡ Int (id_in v) → is_null v ≡ false
number_is_there v is = ap is_null is

text_is_there : (v : Value) → v ≡ Text (bytes v) → is_null v ≡ false
text_is_there v is = ap is_null is

none_absent : (a b c : Bool) → a ≡ false → b ≡ false → c ≡ false → (a || (b || (c || false))) ≡ false
none_absent a b c p q r = rw (p, q, r) refl

-- ---- the rows of a store

-- the two rows have the columns of one key
pub record IsOfKeyOf (r s : Row) : Type 0 where
  pub family : id_in (column s 1) ≡ id_in (column r 1)
  pub client : bytes (column s 2) ≡ bytes (column r 2)
  pub name : bytes (column s 3) ≡ bytes (column r 3)

module _ (db : Database) (s : Serves db) where
  sound : IsSound schema db.trees
  sound = subst (λ x. IsSound x db.trees) s.schema_is s.sound

  held_refers : (r : Row) → Has (db.trees held_tree) r → (has_parent schema.tables db.trees r (to_message (4 ∷ [])) && (has_parent schema.tables db.trees r to_station && true)) ≡ true
  held_refers r h = all_has _ (db.trees held_tree) r (sound.obeys.rules ForeignKey).1.1.1.0 h

  delay_refers : (r : Row) → Has (db.trees delayed_tree) r → (has_parent schema.tables db.trees r (to_message (0 ∷ [])) && true) ≡ true
  delay_refers r h = all_has _ (db.trees delayed_tree) r (sound.obeys.rules ForeignKey).1.1.1.1.0 h

  pub held_message : (r : Row) → Has (db.trees held_tree) r → (m : Row) × Has (db.trees message_tree) m × (id_in (rowid m) ≡ id_in (column r 4))
  unfolding first_key
  held_message r h =
      let is = held_row db s r h in
      let absent : has_null (4 ∷ []) r ≡ false = ap (λ b. b || false) (number_is_there (column r 4) is.place) in
      let p = parent_of db.trees r (to_message (4 ∷ [])) (message_tree, 0 ∷ [], plain) (message_key (4 ∷ [])) absent (and_parts (has_parent schema.tables db.trees r (to_message (4 ∷ []))) (has_parent schema.tables db.trees r to_station && true) (held_refers r h)).0 in
      (p.0, p.1, same_int (rowid p.0) (column r 4) (numbered_row (db.trees message_tree) s.messages p.0 p.1) is.place (and_parts (equal Binary (rowid p.0) (column r 4)) true p.2).0)

  pub held_station : (r : Row) → Has (db.trees held_tree) r → (t : Row) × Has (db.trees station_tree) t × IsOfKeyOf r t
  unfolding first_key
  held_station r h =
      let is = (held_row db s r h).key in
      let absent : has_null (1 ∷ 2 ∷ 3 ∷ []) r ≡ false = none_absent _ _ _ (number_is_there (column r 1) is.family) (text_is_there (column r 2) is.client) (text_is_there (column r 3) is.name) in
      let p = parent_of db.trees r to_station (station_tree, 1 ∷ 2 ∷ 3 ∷ [], plain) station_key absent
      (and_parts (has_parent schema.tables db.trees r to_station) true (and_parts (has_parent schema.tables db.trees r (to_message (4 ∷ []))) (has_parent schema.tables db.trees r to_station && true) (held_refers r h)).1).0 in
      let of = station_row db s p.0 p.1 in
      let first = and_parts (equal Binary (column p.0 1) (column r 1)) (equal Binary (column p.0 2) (column r 2) && (equal Binary (column p.0 3) (column r 3) && true)) p.2 in
      let second = and_parts (equal Binary (column p.0 2) (column r 2)) (equal Binary (column p.0 3) (column r 3) && true) first.1 in
      let third = and_parts (equal Binary (column p.0 3) (column r 3)) true second.1 in (
        p.0,
        p.1,
        record {
          family = same_int (column p.0 1) (column r 1) of.family is.family first.0;
          client = same_text (column p.0 2) (column r 2) of.client is.client second.0;
          name = same_text (column p.0 3) (column r 3) of.name is.name third.0;
        },
      )

  pub delay_message : (r : Row) → Has (db.trees delayed_tree) r → (m : Row) × Has (db.trees message_tree) m × (id_in (rowid m) ≡ id_in (rowid r))
  unfolding first_key
  delay_message r h =
      let is = numbered_row (db.trees delayed_tree) s.delayed r h in
      let absent : has_null (0 ∷ []) r ≡ false = ap (λ b. b || false) (number_is_there (rowid r) is) in
      let p = parent_of db.trees r (to_message (0 ∷ [])) (message_tree, 0 ∷ [], plain) (message_key (0 ∷ [])) absent (and_parts (has_parent schema.tables db.trees r (to_message (0 ∷ []))) true (delay_refers r h)).0 in
      (p.0, p.1, same_int (rowid p.0) (rowid r) (numbered_row (db.trees message_tree) s.messages p.0 p.1) is (and_parts (equal Binary (rowid p.0) (rowid r)) true p.2).0)
