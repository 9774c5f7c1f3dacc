-- What a statement that puts a row does to what is stored.
use Rattle.std.proofs.Common.{◌≡◌, inl, inr, ℕ, ℤ, pos, ◌+ℤ◌, ◌<ℤ◌, arith, Bool, true, false, not, ◌&&◌, cond, List, [], ◌∷◌, ◌++◌, Option, Some, None, option_map, Ok, Err, Result, OnOk, IfOk, refl, sym, ap, ap₂, subst, ◌∙◌, codes, eqb, Ordering, Less, Equal, Greater}
use Rattle.std.specs.List.{AllByRecursion, list_all}
use Rattle.std.specs.Ordering.{match_ordering, int_cmp, is_eq}
use Rattle.std.proofs.lemmas.Bool.{cases_Bool, and_parts, not-true, both_ways, false_from_ne_true}
use Rattle.std.proofs.lemmas.Int.{ints}
use Rattle.std.proofs.lemmas.Cmp.{int_ranked}
use Rattle.sqlite_value.specs.declared.value.Value.TheVariants.{Null, Int, Text, Blob}
use Rattle.sqlite_value.specs.Keys.{plain, first_key}
use Rattle.sqlite_value.specs.Order.{Row, column, bytes, value_cmp}
use Rattle.sqlite_value.proofs.OrderLemmas.{value_cmp_total, value_cmp-Int}
use Rattle.sqlite.specs.declared.error.Error.{Error}
use Rattle.sqlite.specs.State.{State, ExecutesInside}
use Rattle.sqlite_catalog.specs.Listing.{IsSound}
use Rattle.sqlite_schema.specs.declared.schema.Constraint.TheVariants.{Unique}
use Rattle.sqlite_schema.specs.Rules.{agree, differ, clashes}
use Rattle.sqlite_trees.specs.Tree.{rowid, IsTable, put_row}
use Rattle.sqlite_trees.specs.View.{is_int}
use Rattle.sqlite_rules.specs.Edit.{id_in, have_rowids, next_rowid}
use Rattle.sqlite_rules.specs.Lists.{Has}
use Rattle.sqlite_rules.proofs.ListLemmas.{all_has, some_from}
use Rattle.sqlite_rules.proofs.TableLemmas.{int_is}
use Rattle.jm_dest.specs.declared.key.Key.{Key}
use Rattle.jm_dest.specs.declared.key.Key.TheVariants.{Queue, Own, SharedOwn, Durable}
use Rattle.jm_keep.specs.Stored as stored
use Rattle.jm_keep.specs.declared.change.RowChange.TheVariants.{PutMessage, PutHeld, PutDelay}
use Rattle.jm_tables.specs.Schema.{message, held, delayed, station_tree, message_tree, held_tree, delayed_tree}
use Rattle.jm_tables.specs.Keys.{key_in}
use Rattle.jm_tables.specs.Rows.{number_in, is_under_at, definition_under, count_under, record_at, due_at}
use Rattle.jm_tables.specs.Sound.{AreRows, Serves}
use Rattle.jm_writes.specs.Columns.{durable_family, family_of, text_of, client_of, name_of}
use Rattle.jm_writes.specs.Own.{IsDelayRow, IsHeldRow, IsMessageRow}
use Rattle.jm_writes.specs.Steps.{Steps}
use Rattle.jm_writes.proofs.Edits.{Leaves, inserts}
use Rattle.jm_writes.proofs.Found.{find_put, find_behind, find_new, same_place}
use Rattle.jm_writes.proofs.Hits.{hit_held, under_at_other}
use Rattle.jm_writes.proofs.Own.{all_put, own_delayed, own_held, own_messages}
use Rattle.jm_writes.proofs.Said.{placed_terms, held_terms, put_message_text, put_message_is, put_message_plain, put_delay_text, put_delay_is, put_delay_plain, put_held_text, put_held_is, put_held_plain}
use Rattle.jm_writes.proofs.Serving.{more, numbered_row, held_row, step, station_bare, message_bare, held_bare, delayed_bare}
use Rattle.jm_writes.proofs.Values.{cast_int, cast_null, ne_int}

-- ---- rows by place

abbrev pub message_row : ℕ → List ℕ → Row
message_row place content = Int (pos place) ∷ Null ∷ Blob content ∷ []

abbrev pub delay_row : ℕ → ℕ → Row
delay_row place due = Int (pos place) ∷ Null ∷ Int (pos due) ∷ []

map_put : {X Y : Type 0} (f : X → Y) (b : Bool) (x : X) (o : Option X) → option_map f (cond b (Some x) o) ≡ cond b (Some (f x)) (option_map f o)
map_put f true x o = refl
map_put f false x o = refl

pub put_message_on : (old new : State) (place : ℕ) (content : List ℕ) (r : Result ℕ Error) → Serves old.now → IfOk r (λ count. ExecutesInside 0 put_message_text (Int (pos place) ∷ Blob content ∷ []) old new (Ok count)) → OnOk r (Steps old new (PutMessage place content))
put_message_on old new place content (Err e) s h = tt
put_message_on old new place content (Ok count) s h =
    let params = Int (pos place) ∷ Blob content ∷ [] in
    let rows = old.now.trees message_tree in
    let row = message_row place content in
    let put = inserts (codes "message") message_tree message.columns message.key message.primary message.uniques message.checks message.references put_message_text 2 refl put_message_plain old new params count s.schema_is h.0
    placed_terms 3 row put_message_is refl (λ x. refl) in
    let l : Leaves old new message_tree (put_row row rows) = record { rows_are = put.rows_are ∙ rw (cast_int (pos place), cast_null); others = put.others; schema_is = put.schema_is; sound = put.sound } in
    step old new message_tree (put_row row rows) l (PutMessage place content) s (more row rows refl s.messages) h.1 (λ e. cc)
    (λ k. ap (definition_under k) (l.others station_tree (λ e. cc) station_bare))
    (λ k p. ap (count_under k p) (l.others held_tree (λ e. cc) held_bare))
    (λ p. ap (record_at p) l.rows_are ∙ ap (option_map (λ r. bytes (column r 2))) (find_put p place row refl rows s.messages.numbered) ∙ map_put (λ r. bytes (column r 2)) (eqb place p) row _)
    (λ p. ap (due_at p) (l.others delayed_tree (λ e. cc) delayed_bare))
    (own_messages old new (put_row row rows) l (all_put IsMessageRow row rows (record { place = place; place_is = refl })))

pub put_delay_on : (old new : State) (place due : ℕ) (r : Result ℕ Error) → Serves old.now → IfOk r (λ count. ExecutesInside 0 put_delay_text (Int (pos place) ∷ Int (pos due) ∷ []) old new (Ok count)) → OnOk r (Steps old new (PutDelay place due))
put_delay_on old new place due (Err e) s h = tt
put_delay_on old new place due (Ok count) s h =
    let params = Int (pos place) ∷ Int (pos due) ∷ [] in
    let rows = old.now.trees delayed_tree in
    let row = delay_row place due in
    let put = inserts (codes "delayed") delayed_tree delayed.columns delayed.key delayed.primary delayed.uniques delayed.checks delayed.references put_delay_text 4 refl put_delay_plain old new params count s.schema_is h.0
    placed_terms 3 row put_delay_is refl (λ x. refl) in
    let l : Leaves old new delayed_tree (put_row row rows) = record { rows_are = put.rows_are ∙ rw (cast_int (pos place), cast_null, cast_int (pos due)); others = put.others; schema_is = put.schema_is; sound = put.sound } in
    step old new delayed_tree (put_row row rows) l (PutDelay place due) s (more row rows refl s.delayed) h.1 (λ e. cc)
    (λ k. ap (definition_under k) (l.others station_tree (λ e. cc) station_bare))
    (λ k p. ap (count_under k p) (l.others held_tree (λ e. cc) held_bare))
    (λ p. ap (record_at p) (l.others message_tree (λ e. cc) message_bare))
    (λ p. ap (due_at p) l.rows_are ∙ ap (option_map (λ r. number_in (id_in (column r 2)))) (find_put p place row refl rows s.delayed.numbered) ∙ map_put (λ r. number_in (id_in (column r 2))) (eqb place p) row _)
    (own_delayed old new (put_row row rows) l (all_put IsDelayRow row rows (record { due = due; due_is = refl })))

-- ---- rows that come behind all others

at_end : (new : Row) (rows : List Row) → AllByRecursion (λ r. value_cmp (rowid r) (rowid new) ≡ Less) rows → put_row new rows ≡ rows ++ new ∷ []
at_end new [] h = refl
at_end new (r ∷ rows) h = ap (λ o. match_ordering o (r ∷ put_row new rows) (new ∷ rows) (new ∷ r ∷ rows)) h.0 ∙ ap (λ l. r ∷ l) (at_end new rows h.1)

below : (m n : ℤ) (o : Ordering) → o ≡ int_cmp m n → m <ℤ n → o ≡ Less
below m n Less is h = refl
below m n Equal is h = absurd (let e : m ≡ n = int_ranked m n Equal is in omega (arith, ints))
below m n Greater is h = absurd (let e : n <ℤ m = int_ranked m n Greater is in omega (arith, ints))

below_suc : (n : ℤ) → value_cmp (Int n) (Int (n +ℤ pos 1)) ≡ Less
below_suc n = value_cmp-Int n (n +ℤ pos 1) ∙ below n (n +ℤ pos 1) (int_cmp n (n +ℤ pos 1)) refl (omega (arith, ints))

below_next : (rows : List Row) → IsTable rows → have_rowids rows ≡ true → AllByRecursion (λ r. value_cmp (rowid r) (Int (next_rowid rows)) ≡ Less) rows
below_next [] up keyed = tt
below_next (x ∷ []) up keyed = (ap (λ v. value_cmp v (Int (id_in (rowid x) +ℤ pos 1))) (int_is (rowid x) (and_parts (is_int (rowid x)) true keyed).0) ∙ below_suc (id_in (rowid x)), tt)
below_next (x ∷ y ∷ rows) up keyed =
    let later = below_next (y ∷ rows) up.1 (and_parts (is_int (rowid x)) (list_all (λ r. is_int (rowid r)) (y ∷ rows)) keyed).1 in
    (value_cmp_total.trans (rowid x) (rowid y) (Int (next_rowid (y ∷ rows))) up.0.0 later.0, later)

pub behind : (new : Row) (rows : List Row) → rowid new ≡ Int (next_rowid rows) → AreRows rows → put_row new rows ≡ rows ++ new ∷ []
behind new rows is are = at_end new rows (subst (λ v. AllByRecursion (λ r. value_cmp (rowid r) v ≡ Less) rows) (sym is) (below_next rows are.rise are.numbered))

-- the rowid of the new row is another
pub differs : (rows : List Row) (r : Row) → AreRows rows → Has rows r → differ (rowid r) (Int (next_rowid rows)) ≡ true
differs rows r are h =
    let id = numbered_row rows are r h in
    let less = all_has _ rows r (below_next rows are.rise are.numbered) h in
    let order : int_cmp (id_in (rowid r)) (next_rowid rows) ≡ Less = sym (value_cmp-Int (id_in (rowid r)) (next_rowid rows)) ∙ ap (λ v. value_cmp v (Int (next_rowid rows))) (sym id) ∙ less in
    ap (λ v. differ v (Int (next_rowid rows))) id ∙ ne_int (id_in (rowid r)) (next_rowid rows) ∙ ap (λ o. not (is_eq o)) order

pub has_last : {X : Type 0} (xs : List X) (x : X) → Has (xs ++ x ∷ []) x
has_last [] x = inl refl
has_last (y ∷ xs) x = inr (has_last xs x)

pub has_before : {X : Type 0} (xs : List X) (x y : X) → Has xs y → Has (xs ++ x ∷ []) y
has_before (z ∷ xs) x y (inl e) = inl e
has_before (z ∷ xs) x y (inr h) = inr (has_before xs x y h)
has_before [] x y h = absurd h

durable_back : (client : Option (List ℕ)) (name : List ℕ) (family : ℤ) → durable_family client ≡ Some family → key_in family (text_of client) name ≡ Some (Durable client name)
durable_back None name family h = let is : family ≡ pos 2 = cc in rw is refl
durable_back (Some []) name family h = absurd (cc)
durable_back (Some (b ∷ more)) name family h = let is : family ≡ pos 2 = cc in rw is refl

-- the columns of a key stand for it
pub key_back : (key : Key) (family : ℤ) → family_of key ≡ Some family → key_in family (client_of key) (name_of key) ≡ Some key
key_back (Queue name) family h = let is : family ≡ pos 1 = cc in rw is refl
key_back (Own s c) family h = absurd (cc)
key_back (SharedOwn client name) family h = absurd (cc)
key_back (Durable client name) family h = durable_back client name family h

abbrev pub held_row_at : ℤ → ℤ → List ℕ → List ℕ → ℕ → Row
held_row_at id family client name place = Int id ∷ Int family ∷ Text client ∷ Text name ∷ Int (pos place) ∷ Int (pos 0) ∷ []

module _ (old new : State) (key : Key) (family : ℤ) (place count : ℕ) (stands : family_of key ≡ Some family) (s : Serves old.now)
    (h : ExecutesInside 0 put_held_text (Int family ∷ Text (client_of key) ∷ Text (name_of key) ∷ Int (pos place) ∷ []) old new (Ok count)) where
  abbrev rows : List Row
  rows = old.now.trees held_tree

  abbrev row : Row
  row = held_row_at (next_rowid rows) family (client_of key) (name_of key) place

  l : Leaves old new held_tree (put_row row rows)
  l = let put = inserts (codes "held") held_tree held.columns held.key held.primary held.uniques held.checks held.references put_held_text 3 refl put_held_plain old new (Int family ∷ Text (client_of key) ∷ Text (name_of key) ∷ Int (pos place) ∷ []) count s.schema_is h.0
      held_terms 6 (Null ∷ Int family ∷ Text (client_of key) ∷ Text (name_of key) ∷ Int (pos place) ∷ Int (pos 0) ∷ []) put_held_is refl (λ x. refl) in
      record { rows_are = put.rows_are ∙ rw (cast_int family, cast_int (pos place), cast_null, cast_int (pos 0)); others = put.others; schema_is = put.schema_is; sound = put.sound }

  last : put_row row rows ≡ rows ++ row ∷ []
  last = behind row rows refl s.held

  new_at : (k : Key) (p : ℕ) → is_under_at k p row ≡ stored.is_at key place k p
  new_at k p = ap₂ ◌&&◌ (ap (Rattle.jm_machine.specs.Under.is_key k) (key_back key family stands)) (same_place place p)

  -- no other row has the key and the place
  alone : (r : Row) → Has rows r → is_under_at key place r ≡ true → ⊥
  unfolding first_key
  alone r there is =
      let sound = subst (λ x. IsSound x new.now.trees) l.schema_is l.sound in
      let has = subst (λ all. Has all row) (sym (l.rows_are ∙ last)) (has_last rows row) in
      let also = subst (λ all. Has all r) (sym (l.rows_are ∙ last)) (has_before rows row r there) in
      let unique = all_has _ (new.now.trees held_tree) row (sound.obeys.rules Unique).1.1.1.0 has in
      let none : clashes plain (1 ∷ 2 ∷ 3 ∷ 4 ∷ []) (new.now.trees held_tree) row ≡ false = not-true _ (and_parts (not (clashes plain (1 ∷ 2 ∷ 3 ∷ 4 ∷ []) (new.now.trees held_tree) row)) true unique).0 in
      let agrees : agree plain (1 ∷ 2 ∷ 3 ∷ 4 ∷ []) r (1 ∷ 2 ∷ 3 ∷ 4 ∷ []) row ≡ true = hit_held key family stands [] r place (held_row old.now s r there) ∙ is in
      let some = some_from (λ other. agree plain (1 ∷ 2 ∷ 3 ∷ 4 ∷ []) other (1 ∷ 2 ∷ 3 ∷ 4 ∷ []) row && differ (rowid other) (rowid row)) (new.now.trees held_tree) r also (ap₂ ◌&&◌ agrees (differs rows r s.held there)) in
      both_ways (clashes plain (1 ∷ 2 ∷ 3 ∷ 4 ∷ []) (new.now.trees held_tree) row) none some

  counted : (k : Key) (p : ℕ) → count_under k p (rows ++ row ∷ []) ≡ cond (stored.is_at key place k p) (Some 0) (count_under k p rows)
  counted k p = elim (cases_Bool (stored.is_at key place k p)) [
    | inl same ↦ ap (option_map (λ r. number_in (id_in (column r 5)))) (find_new (is_under_at k p) row (new_at k p ∙ same) rows (λ r there. false_from_ne_true _ (λ is. alone r there (under_at_other k key p place r is ∙ same))))
        ∙ rw same refl
    | inr other ↦ ap (option_map (λ r. number_in (id_in (column r 5)))) (find_behind (is_under_at k p) row (new_at k p ∙ other) rows) ∙ rw other refl
  ]

  puts : Steps old new (PutHeld key place)
  puts =
      step old new held_tree (put_row row rows) l (PutHeld key place) s (more row rows refl s.held) h.1 (λ e. cc)
      (λ k. ap (definition_under k) (l.others station_tree (λ e. cc) station_bare))
      (λ k p. ap (count_under k p) (l.rows_are ∙ last) ∙ counted k p)
      (λ p. ap (record_at p) (l.others message_tree (λ e. cc) message_bare))
      (λ p. ap (due_at p) (l.others delayed_tree (λ e. cc) delayed_bare))
      (own_held old new (put_row row rows) l (all_put IsHeldRow row rows (record { count = 0; count_is = refl; within = omega arith })))

pub put_held_on : (old new : State) (key : Key) (family : ℤ) (place : ℕ) (r : Result ℕ Error) → family_of key ≡ Some family → Serves old.now
    → IfOk r (λ count. ExecutesInside 0 put_held_text (Int family ∷ Text (client_of key) ∷ Text (name_of key) ∷ Int (pos place) ∷ []) old new (Ok count)) → OnOk r (Steps old new (PutHeld key place))
put_held_on old new key family place (Err e) stands s h = tt
put_held_on old new key family place (Ok count) stands s h = puts old new key family place count stands s h
