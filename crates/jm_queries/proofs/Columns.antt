-- Each column of a row is of the kind that its table says.
use Rattle.std.proofs.Common.{◌≡◌, ◌+◌, ℕ, zero, suc, Bool, true, false, cond, not, ◌&&◌, ◌||◌, List, [], ◌∷◌, drop, Option, Some, slice_get, refl, sym, ap, subst, ◌∙◌, arith}
use Rattle.std.specs.Prelude.{slice_index_or}
use Rattle.std.proofs.lemmas.Bool.{and_parts}
use Rattle.sqlite_value.specs.declared.value.Value.{Value}
use Rattle.sqlite_value.specs.declared.value.Value.TheVariants.{Null, Int, Real, Text, Blob}
use Rattle.sqlite_value.specs.Order.{Row, column}
use Rattle.sqlite_sql.specs.Ops.{is_null}
use Rattle.sqlite.specs.Effect.{Database}
use Rattle.sqlite_catalog.specs.Listing.{IsSound}
use Rattle.sqlite_schema.specs.declared.schema.Column.{Column}
use Rattle.sqlite_schema.specs.declared.schema.Constraint.TheVariants.{Datatype, NotNull}
use Rattle.sqlite_schema.specs.declared.schema.Table.{Table}
use Rattle.sqlite_schema.specs.declared.schema.Kind.{Kind}
use Rattle.sqlite_schema.specs.declared.schema.Kind.TheVariants as kind
use Rattle.sqlite_schema.specs.Names.{is_key}
use Rattle.sqlite_schema.specs.Rules.{are_present, are_typed, has_computed, is_of, kind_of, suits}
use Rattle.sqlite_trees.specs.Tree.{rowid}
use Rattle.sqlite_trees.specs.View.{is_int}
use Rattle.sqlite_rules.specs.Lists.{Has}
use Rattle.sqlite_rules.proofs.ListLemmas.{all_has, test_has}
use Rattle.sqlite_rules.proofs.TableLemmas.{int_is}
use Rattle.jm_tables.specs.Schema.{station, message, held, delayed, station_tree, message_tree, held_tree, delayed_tree}
use Rattle.jm_tables.specs.Sound.{AreRows, Serves}

-- what is NULL is of each type
null_is : (k : Kind) → is_of k Null ≡ true
null_is k = refl

suit_is : (c : Column) (v : Value) → c.is_strict ≡ true → suits c v ≡ true → is_of c.kind v ≡ true
suit_is c v strict h = rw strict at h

not_here : (key : Option ℕ) (at : ℕ) → is_key key (at + 0) ≡ false → is_key key at ≡ false
not_here key at other = ap (is_key key) {x = at} {y = at + 0} (omega arith) ∙ other

-- a column that is not the rowid has a value of its type, or NULL
typed_at : (key : Option ℕ) (at : ℕ) (cs : List Column) (vs : Row) (k : ℕ) (c : Column) → are_typed key at cs vs ≡ true → slice_get cs k ≡ Some c → is_key key (at + k) ≡ false → c.is_strict ≡ true → is_of c.kind (slice_index_or vs k Null) ≡ true
typed_at key at [] vs k c typed there other strict = cc
typed_at key at (d ∷ cs) [] k c typed there other strict = null_is c.kind
typed_at key at (d ∷ cs) (v ∷ vs) zero c typed there other strict =
    let same : d ≡ c = cc in
    let here = and_parts (cond (is_key key at) (is_null v) (suits d v)) _ typed in
    let suited : suits d v ≡ true = ap (λ b. cond b (is_null v) (suits d v)) (sym (not_here key at other)) ∙ here.0 in
    suit_is c v strict (subst (λ (x : Column). suits x v ≡ true) same suited)
typed_at key at (d ∷ cs) (v ∷ vs) (suc k) c typed there other strict =
    typed_at key (at + 1) cs vs k c (and_parts (cond (is_key key at) (is_null v) (suits d v)) _ typed).1 there (ap (is_key key) {x = at + 1 + k} {y = at + suc k} (omega arith) ∙ other) strict

-- what is no rowid, and may not be NULL, is none
needed_is : (rowid needed null : Bool) → (rowid || not needed || not null) ≡ true → rowid ≡ false → needed ≡ true → null ≡ false
needed_is true needed null h other must = cc
needed_is false false null h other must = cc
needed_is false true false h other must = refl
needed_is false true true h other must = cc

-- a column that is not the rowid, and may not be NULL, has a value
present_at : (key : Option ℕ) (at : ℕ) (cs : List Column) (r : Row) (k : ℕ) (c : Column) → are_present key at cs r ≡ true → slice_get cs k ≡ Some c → is_key key (at + k) ≡ false → c.not_null ≡ true → is_null (column r (at + k + 1)) ≡ false
present_at key at [] r k c present there other needed = cc
present_at key at (d ∷ cs) r zero c present there other needed =
    let same : d ≡ c = cc in
    let here = and_parts (is_key key at || not d.not_null || not (is_null (column r (at + 1)))) _ present in
    let is = needed_is (is_key key at) d.not_null (is_null (column r (at + 1))) here.0 (not_here key at other) (ap (λ (x : Column). x.not_null) same ∙ needed) in
    ap (λ (i : ℕ). is_null (column r i)) {x = at + 0 + 1} {y = at + 1} (omega arith) ∙ is
present_at key at (d ∷ cs) r (suc k) c present there other needed =
    let here = and_parts (is_key key at || not d.not_null || not (is_null (column r (at + 1)))) _ present in
    let same : at + 1 + k ≡ at + suc k = omega arith in
    subst (λ (i : ℕ). is_null (column r (i + 1)) ≡ false) same (present_at key (at + 1) cs r k c here.1 there (ap (is_key key) same ∙ other) needed)

-- a row without its rowid has its columns
shifted : (r : Row) (k : ℕ) → slice_index_or (drop 1 r) k Null ≡ column r (k + 1)
shifted [] k = refl
shifted (v ∷ vs) k = ap (λ (i : ℕ). column (v ∷ vs) i) {x = suc k} {y = k + 1} (omega arith)

-- a value of a kind, which is not NULL
of_kind : (k : Kind) (v : Value) → is_of k v ≡ true → is_null v ≡ false → (k ≡ kind.Any → ⊥) → kind_of v ≡ k
of_kind kind.Integer (Int n) h there some = refl
of_kind kind.Real (Real x) h there some = refl
of_kind kind.Text (Text t) h there some = refl
of_kind kind.Blob (Blob b) h there some = refl
of_kind kind.Any v h there some = absurd (some refl)
of_kind _ _ h there some = cc

-- the column of a row that obeys its table is of its kind
pub column_kind : (table : Table) (r : Row) (k : ℕ) (c : Column) → (are_typed table.key 0 table.columns (drop 1 r) && has_computed table r) ≡ true → are_present table.key 0 table.columns r ≡ true
    → slice_get table.columns k ≡ Some c → is_key table.key k ≡ false → c.is_strict ≡ true → c.not_null ≡ true → (c.kind ≡ kind.Any → ⊥) → kind_of (column r (k + 1)) ≡ c.kind
column_kind table r k c typed present there other strict needed some =
    let own = (and_parts (are_typed table.key 0 table.columns (drop 1 r)) (has_computed table r) typed).0 in
    let same : 0 + k ≡ k = omega arith in
    let apart : is_key table.key (0 + k) ≡ false = ap (is_key table.key) same ∙ other in
    let is : is_of c.kind (column r (k + 1)) ≡ true = ap (is_of c.kind) (sym (shifted r k)) ∙ typed_at table.key 0 table.columns (drop 1 r) k c own there apart strict in
    let full = subst (λ (i : ℕ). is_null (column r (i + 1)) ≡ false) same (present_at table.key 0 table.columns r k c present there apart needed) in
    of_kind c.kind (column r (k + 1)) is full some

-- a rowid is a number
pub rowid_kind : (rows : List Row) → AreRows rows → (r : Row) → Has rows r → kind_of (rowid r) ≡ kind.Integer
rowid_kind rows are r h = ap kind_of (int_is (rowid r) (test_has (λ x. is_int (rowid x)) rows r are.numbered h))

module _ (db : Database) (s : Serves db) where
  sound : IsSound Rattle.jm_tables.specs.Schema.schema db.trees
  sound = subst (λ x. IsSound x db.trees) s.schema_is s.sound

  -- the columns of a row of station
  pub station_kind : (r : Row) (k : ℕ) (c : Column) → Has (db.trees station_tree) r → slice_get station.columns k ≡ Some c → c.is_strict ≡ true → c.not_null ≡ true → (c.kind ≡ kind.Any → ⊥) → kind_of (column r (k + 1)) ≡ c.kind
  station_kind r k c h there strict needed some =
      column_kind station r k c (all_has _ (db.trees station_tree) r (sound.obeys.rules Datatype).1.0 h) (all_has _ (db.trees station_tree) r (sound.obeys.rules NotNull).1.0 h) there refl strict needed some

  -- the record of a row of message
  pub record_kind : (r : Row) → Has (db.trees message_tree) r → kind_of (column r 2) ≡ kind.Blob
  record_kind r h =
      column_kind message r 1 _ (all_has _ (db.trees message_tree) r (sound.obeys.rules Datatype).1.1.0 h) (all_has _ (db.trees message_tree) r (sound.obeys.rules NotNull).1.1.0 h) refl refl refl refl (λ any. cc)

  -- the columns of a row of held
  pub held_kind : (r : Row) (k : ℕ) (c : Column) → Has (db.trees held_tree) r → slice_get held.columns k ≡ Some c → c.is_strict ≡ true → c.not_null ≡ true → (c.kind ≡ kind.Any → ⊥) → kind_of (column r (k + 1)) ≡ c.kind
  held_kind r k c h there strict needed some =
      column_kind held r k c (all_has _ (db.trees held_tree) r (sound.obeys.rules Datatype).1.1.1.0 h) (all_has _ (db.trees held_tree) r (sound.obeys.rules NotNull).1.1.1.0 h) there refl strict needed some

  -- the moment of a row of delayed
  pub due_kind : (r : Row) → Has (db.trees delayed_tree) r → kind_of (column r 2) ≡ kind.Integer
  due_kind r h =
      column_kind delayed r 1 _ (all_has _ (db.trees delayed_tree) r (sound.obeys.rules Datatype).1.1.1.1.0 h) (all_has _ (db.trees delayed_tree) r (sound.obeys.rules NotNull).1.1.1.1.0 h) refl refl refl refl (λ any. cc)
