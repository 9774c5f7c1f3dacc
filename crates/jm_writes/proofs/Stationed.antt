-- What a statement that puts a station does to what is stored.
use Rattle.std.proofs.Common.{◌≡◌, inl, inr, ℕ, ℤ, pos, Bool, true, false, not, ◌&&◌, cond, List, [], ◌∷◌, ◌++◌, Some, None, option_map, Ok, Err, Result, OnOk, IfOk, refl, sym, ap, ap₂, subst, ◌∙◌, codes}
use Rattle.std.specs.Prelude.{IsTrue, ◌||◌}
use Rattle.std.specs.Str.{is_utf8}
use Rattle.std.proofs.lemmas.Bool.{cases_Bool, and_from, and_parts, not-true, both_ways, false_from_ne_true}
use Rattle.sqlite_value.specs.declared.value.Value.TheVariants.{Null, Int, Text}
use Rattle.sqlite_value.specs.Keys.{plain, first_key}
use Rattle.sqlite_value.specs.Order.{Row}
use Rattle.sqlite.specs.declared.error.Error.{Error}
use Rattle.sqlite.specs.State.{State, ExecutesInside}
use Rattle.sqlite_catalog.specs.Listing.{IsSound}
use Rattle.sqlite_schema.specs.declared.schema.Constraint.TheVariants.{Unique}
use Rattle.sqlite_schema.specs.Rules.{agree, differ, clashes}
use Rattle.sqlite_trees.specs.Tree.{rowid, put_row}
use Rattle.sqlite_rules.specs.Edit.{next_rowid}
use Rattle.sqlite_rules.specs.Lists.{Has}
use Rattle.sqlite_rules.proofs.ListLemmas.{all_has, some_from}
use Rattle.jm_dest.specs.declared.key.Key.{Key}
use Rattle.jm_dest.specs.declared.key.Key.TheVariants.{Queue, Own, SharedOwn, Durable}
use Rattle.jm_dest.specs.Keys.{key_eq}
use Rattle.jm_dest.specs.Names.{is_name, text_eq}
use Rattle.jm_machine.specs.declared.state.Definition.{Definition}
use Rattle.jm_machine.specs.Reopened.{is_durable}
use Rattle.jm_machine.specs.Under.{is_key}
use Rattle.jm_machine.proofs.Keys.{key_same}
use Rattle.jm_keep.specs.declared.change.RowChange.TheVariants.{PutStation}
use Rattle.jm_tables.specs.Schema.{station, station_tree, message_tree, held_tree, delayed_tree}
use Rattle.jm_tables.specs.Rows.{is_set, selector_in, definition_in, is_under, definition_under, count_under, record_at, due_at}
use Rattle.jm_tables.specs.Sound.{Serves}
use Rattle.jm_tables.specs.Valid.{is_mark, is_queue, is_stored_client, is_stored_name, may_share}
use Rattle.jm_writes.specs.Columns.{family_of, client_of, name_of, may_have, may_stand}
use Rattle.jm_writes.specs.Own.{IsStationRow, is_subscription_row}
use Rattle.jm_writes.specs.Steps.{Steps}
use Rattle.jm_writes.proofs.Edits.{Leaves, inserts}
use Rattle.jm_writes.proofs.Found.{find_behind, find_new}
use Rattle.jm_writes.proofs.Hits.{hit_key, under_other}
use Rattle.jm_writes.proofs.Own.{all_put, own_stations}
use Rattle.jm_writes.proofs.Puts.{behind, differs, has_last, has_before, key_back}
use Rattle.jm_writes.proofs.Said.{subscription_terms, put_subscription_text, put_subscription_is, put_subscription_plain}
use Rattle.jm_writes.proofs.Serving.{more, station_row, step, message_bare, held_bare, delayed_bare}
use Rattle.jm_writes.proofs.Values.{cast_int, cast_null}

-- a truth value as a column
abbrev pub mark : Bool → ℤ
mark b = cond b (pos 1) (pos 0)

marked : (b : Bool) → is_set (mark b) ≡ b
marked true = refl
marked false = refl

abbrev pub subscription_row : ℤ → Key → Definition → List ℕ → Row
subscription_row id key d selector = Int id ∷ Int (pos 2) ∷ Text (client_of key) ∷ Text (name_of key) ∷ Int (mark d.shared) ∷ Text d.topic ∷ Text selector ∷ Int (mark d.no_local) ∷ []

-- a truth value is a mark
is_marked : (b : Bool) → is_mark (mark b) ≡ true
is_marked true = refl
is_marked false = refl

-- what may stand with those marks may share so
shares : (client : List ℕ) (shared no_local : Bool) → may_have client shared no_local ≡ true → may_share (mark shared) client (mark no_local) ≡ true
shares [] true true h = cc
shares [] true false h = refl
shares [] false no_local h = cc
shares (b ∷ more) true true h = absurd (let no = (and_parts (is_name (b ∷ more)) false h).1 in cc)
shares (b ∷ more) true false h = refl
shares (b ∷ more) false true h = refl
shares (b ∷ more) false false h = refl

-- and its client is one
client_stands : (client : List ℕ) (shared no_local : Bool) → is_utf8 client ≡ true → may_have client shared no_local ≡ true → is_stored_client client ≡ true
client_stands [] shared no_local utf8 h = refl
client_stands (b ∷ more) shared no_local utf8 h = and_from _ _ utf8 (and_parts (is_name (b ∷ more)) (not (shared && no_local)) h).0

-- the row of what may stand
pub may_be_row : (id : ℤ) (key : Key) (d : Definition) (selector : List ℕ) → is_utf8 (client_of key) ≡ true → is_utf8 (name_of key) ≡ true → is_utf8 d.topic ≡ true → is_name d.topic ≡ true → is_utf8 selector ≡ true
    → may_stand (client_of key) (name_of key) d.shared d.no_local ≡ true → IsStationRow (subscription_row id key d selector)
may_be_row id key d selector client_utf8 name_utf8 topic_utf8 topic_is text_utf8 may =
    let parts = and_parts (is_name (name_of key)) (may_have (client_of key) d.shared d.no_local) may in
    and_from _ _ (and_from _ _ (and_from _ _ (and_from _ _ (and_from _ _ (client_stands (client_of key) d.shared d.no_local client_utf8 parts.1) (and_from _ _ name_utf8 parts.0)) (is_marked d.no_local)) (and_from _ _ topic_utf8 topic_is)) text_utf8)
    (shares (client_of key) d.shared d.no_local parts.1)

-- only a durable subscription is of family 2
durable_two : (key : Key) → family_of key ≡ Some (pos 2) → is_durable key ≡ true
durable_two (Queue name) h = absurd (let e : pos 1 ≡ pos 2 = cc in cc)
durable_two (Own s c) h = absurd (cc)
durable_two (SharedOwn client name) h = absurd (cc)
durable_two (Durable client name) h = refl

module _ (old new : State) (key : Key) (d : Definition) (selector : List ℕ) (count : ℕ) (stands : family_of key ≡ Some (pos 2)) (reads : selector_in selector ≡ d.selector) (may : IsStationRow (subscription_row (next_rowid (old.now.trees station_tree)) key d selector)) (s : Serves old.now)
    (h : ExecutesInside 0 put_subscription_text (Text (client_of key) ∷ Text (name_of key) ∷ Int (mark d.shared) ∷ Text d.topic ∷ Text selector ∷ Int (mark d.no_local) ∷ []) old new (Ok count)) where
  abbrev rows : List Row
  rows = old.now.trees station_tree

  abbrev row : Row
  row = subscription_row (next_rowid rows) key d selector

  l : Leaves old new station_tree (put_row row rows)
  l = let put = inserts (codes "station") station_tree station.columns station.key station.primary station.uniques station.checks station.references put_subscription_text 1 refl put_subscription_plain old new
      (Text (client_of key) ∷ Text (name_of key) ∷ Int (mark d.shared) ∷ Text d.topic ∷ Text selector ∷ Int (mark d.no_local) ∷ []) count s.schema_is h.0
      subscription_terms 8 (Null ∷ Int (pos 2) ∷ Text (client_of key) ∷ Text (name_of key) ∷ Int (mark d.shared) ∷ Text d.topic ∷ Text selector ∷ Int (mark d.no_local) ∷ []) put_subscription_is refl (λ x. refl) in
      record { rows_are = put.rows_are ∙ rw (cast_int (pos 2), cast_int (mark d.shared), cast_int (mark d.no_local), cast_null); others = put.others; schema_is = put.schema_is; sound = put.sound }

  last : put_row row rows ≡ rows ++ row ∷ []
  last = behind row rows refl s.stations

  new_under : (k : Key) → is_under k row ≡ key_eq key k
  new_under k = ap (is_key k) (key_back key (pos 2) stands)

  -- no other row has the key
  alone : (r : Row) → Has rows r → is_under key r ≡ true → ⊥
  unfolding first_key
  alone r there is =
      let sound = subst (λ x. IsSound x new.now.trees) l.schema_is l.sound in
      let has = subst (λ all. Has all row) (sym (l.rows_are ∙ last)) (has_last rows row) in
      let also = subst (λ all. Has all r) (sym (l.rows_are ∙ last)) (has_before rows row r there) in
      let unique = all_has _ (new.now.trees station_tree) row (sound.obeys.rules Unique).1.0 has in
      let none : clashes plain (1 ∷ 2 ∷ 3 ∷ []) (new.now.trees station_tree) row ≡ false = not-true _ (and_parts (not (clashes plain (1 ∷ 2 ∷ 3 ∷ []) (new.now.trees station_tree) row)) true unique).0 in
      let agrees : agree plain (1 ∷ 2 ∷ 3 ∷ []) r (1 ∷ 2 ∷ 3 ∷ []) row ≡ true = hit_key key (pos 2) stands [] r (station_row old.now s r there) ∙ is in
      let some = some_from (λ other. agree plain (1 ∷ 2 ∷ 3 ∷ []) other (1 ∷ 2 ∷ 3 ∷ []) row && differ (rowid other) (rowid row)) (new.now.trees station_tree) r also (ap₂ ◌&&◌ agrees (differs rows r s.stations there)) in
      both_ways (clashes plain (1 ∷ 2 ∷ 3 ∷ []) (new.now.trees station_tree) row) none some

  shows : definition_in row ≡ d
  shows =
      ap (λ t. let it : Definition = record { topic = d.topic; selector = t; no_local = is_set (mark d.no_local); shared = is_set (mark d.shared) } in it) reads
      ∙ ap₂ (λ a b. let it : Definition = record { topic = d.topic; selector = d.selector; no_local = a; shared = b } in it) (marked d.no_local) (marked d.shared)

  defined : (k : Key) → definition_under k (rows ++ row ∷ []) ≡ cond (key_eq key k) (Some d) (definition_under k rows)
  defined k = elim (cases_Bool (key_eq key k)) [
    | inl same ↦
        let durable : is_durable k ≡ true = ap is_durable (sym (key_same key k same)) ∙ durable_two key stands in
        ap (λ o. cond (is_durable k) (option_map definition_in o) None) (find_new (is_under k) row (new_under k ∙ same) rows (λ r there. false_from_ne_true _ (λ is. alone r there (under_other k key r is ∙ same))))
        ∙ ap (λ b. cond b (Some (definition_in row)) None) durable ∙ ap Some shows ∙ rw same refl
    | inr other ↦ ap (λ o. cond (is_durable k) (option_map definition_in o) None) (find_behind (is_under k) row (new_under k ∙ other) rows) ∙ rw other refl
  ]

  puts : Steps old new (PutStation key (Some d))
  puts =
      step old new station_tree (put_row row rows) l (PutStation key (Some d)) s (more row rows refl s.stations) h.1 (λ e. cc)
      (λ k. ap (definition_under k) (l.rows_are ∙ last) ∙ defined k)
      (λ k p. ap (count_under k p) (l.others held_tree (λ e. cc) held_bare))
      (λ p. ap (record_at p) (l.others message_tree (λ e. cc) message_bare))
      (λ p. ap (due_at p) (l.others delayed_tree (λ e. cc) delayed_bare))
      (own_stations old new (put_row row rows) l (all_put IsStationRow row rows may))

pub put_subscription_on : (old new : State) (key : Key) (d : Definition) (selector : List ℕ) (r : Result ℕ Error) → family_of key ≡ Some (pos 2) → selector_in selector ≡ d.selector → ((id : ℤ) → IsStationRow (subscription_row id key d selector)) → Serves old.now
    → IfOk r (λ count. ExecutesInside 0 put_subscription_text (Text (client_of key) ∷ Text (name_of key) ∷ Int (mark d.shared) ∷ Text d.topic ∷ Text selector ∷ Int (mark d.no_local) ∷ []) old new (Ok count)) → OnOk r (Steps old new (PutStation key (Some d)))
put_subscription_on old new key d selector (Err e) stands reads may s h = tt
put_subscription_on old new key d selector (Ok count) stands reads may s h = puts old new key d selector count stands reads (may (next_rowid (old.now.trees station_tree))) s h
