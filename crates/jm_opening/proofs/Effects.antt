-- What each statement does.
use Rattle.std.proofs.Common.{◌≡◌, ◌⊎◌, inl, inr, ℕ, ℤ, pos, arith, Bool, true, false, not, ◌&&◌, cond, List, [], ◌∷◌, ◌++◌, map, filter, flat_map, None, Ok, Err, Result, refl, sym, ap, subst, ◌∙◌}
use Rattle.std.specs.List.{list_all}
use Rattle.std.specs.Ordering.{is_eq}
use Rattle.std.specs.List.Sorted.{IsPermutation}
use Rattle.std.proofs.lemmas.Cmp.{tied_itself}
use Rattle.std.proofs.lemmas.List.Sorted.{IsPermutation-map}
use Rattle.sqlite_value.specs.declared.value.Value.TheVariants.{Null, Int}
use Rattle.sqlite_value.specs.Order.{Row, value_cmp}
use Rattle.sqlite_value.proofs.OrderLemmas.{value_cmp_total}
use Rattle.sqlite.specs.Term.{Term, eval_all, holds, Env, lit}
use Rattle.sqlite.specs.Collation.TheVariants.{Binary}
use Rattle.sqlite_sql.specs.declared.ops.BinaryOp.TheVariants.{Compare}
use Rattle.sqlite_sql.specs.declared.ops.CompareOp.TheVariants.{Eq}
use Rattle.sqlite_sql.specs.Ops.{binary, is_true}
use Rattle.sqlite.specs.Query.{IsSureAnswer, IsAnswer, Output, output, matches}
use Rattle.sqlite.specs.Program.{overlay}
use Rattle.sqlite.specs.Tree.{Trees, rowid, put_row}
use Rattle.sqlite.specs.Edit.{edit_of, edited, without_all}
use Rattle.sqlite.specs.Rows.{Written, Edited}
use Rattle.sqlite.specs.Source.TheVariants.{Values}
use Rattle.sqlite.specs.Change.{created, indexed, KeepsRows}
use Rattle.sqlite.specs.Compile.{table_defined_by}
use Rattle.sqlite.specs.Does.{Tally, Does, lacks_sequence}
use Rattle.sqlite.specs.Command.{Command}
use Rattle.sqlite.specs.Command.TheVariants.{CreateTable, CreateIndex, Insert, Update}
use Rattle.sqlite.specs.Effect.{Database}
use Rattle.sqlite.specs.Schema.{Schema}
use Rattle.sqlite.specs.Table.{Table}
use Rattle.sqlite.specs.State.{State, mode_of, ExecutesInside, KeepsCommit}
use Rattle.sqlite.specs.Listing.{understood}
use Rattle.sqlite.specs.declared.error.Error.{Error}
use Rattle.sqlite.proofs.Callers.{command_of, statement_of, runs_as, one_step, one_permutation, IsPlain}
use Rattle.sqlite_catalog.specs.Change.{next_tree}
use Rattle.sqlite_schema.specs.declared.schema.Keys.TheVariants.{Enforced}
use Rattle.sqlite_rules.specs.declared.error.Rowids.TheVariants.{Chosen, Given}
use Rattle.sqlite_rules.specs.Calls.{ids_of}
use Rattle.sqlite_trees.proofs.ListLemmas.{map-map}
use Rattle.jm_tables.specs.Made.{held_by_place_text}
use Rattle.jm_tables.specs.Schema.{meta, held, held_by_place, schema_1_bare, schema_1, schema, meta_tree}
use Rattle.jm_tables.proofs.Made.{held_by_place_is}
use Rattle.jm_opening.specs.Meta.{insert_text, update_text, meta_row}
use Rattle.jm_opening.specs.Opened.{Grows, Sets}
use Rattle.jm_opening.proofs.Texts.{over, update_filter, update_shows, makes_held_by_place, held_by_place_plain, held_by_place_itself, insert_is, insert_plain, update_is, update_plain}
use Rattle.jm_opening.proofs.Values.{eq_int, cast_int, cast_null}

pub itself_keeps : (s : State) → KeepsCommit s s
itself_keeps s = record { was_open = λ h. h; committed = λ _. refl }

pub inside_keeps : (marks : ℕ) (sql : List ℕ) (params : Row) (old new : State) (r : Result ℕ Error) → ExecutesInside marks sql params old new r → KeepsCommit old new
inside_keeps marks sql params old new (Ok count) h = record { was_open = λ _. h.1.was_open; committed = λ _. h.1.committed_is }
inside_keeps marks sql params old new (Err e) (inl h) = elim h.1 [
  | inl same ↦ record { was_open = λ _. same.0.was_open; committed = λ _. same.0.committed_is }
  | inr back ↦ record { was_open = back.was_open; committed = λ k. (back.undone k).1 }
]
inside_keeps marks sql params old new (Err e) (inr h) = record { was_open = λ _. h.2.0.was_open; committed = λ _. h.2.0.committed_is }

-- a part that gave a value did not stop on the way
pub went : {B E R : Type 0} {b : B} {Stops : E → Type 0} → ((stop : E) × Stops stop × (Ok b ≡ Err stop)) ⊎ R → R
went (inl stopped) = absurd (let e = stopped.2 in cc)
went (inr on) = on

pub same_value : {B E : Type 0} {a b : B} → ◌≡◌ {A = Result B E} (Ok a) (Ok b) → a ≡ b
same_value e = cc

-- a table is made, which is empty
pub creates : (text : List ℕ) (before : Schema) (table : Table) → command_of (understood before text) ≡ CreateTable → IsPlain (understood before text) → statement_of text (understood before text) ≡ text
    → table_defined_by text ≡ Ok table → lacks_sequence (created before table) ≡ false
    → (old new : State) (count : ℕ) → old.now.schema ≡ before → ExecutesInside 0 text [] old new (Ok count)
    → Grows before (created before table) old new × (new.now.trees (next_tree before) ≡ [])
creates text before table makes plain itself defined none old new count has h =
    let w = runs_as text [] old new before has CreateTable makes plain count h.0 in
    let done = went (subst (λ t. Does old.step_limit (mode_of old) [] (record old.now { schema = before }) t None CreateTable (Ok (w.tally, new.now))) itself
    (subst (λ s. Does old.step_limit (mode_of old) [] (record old.now { schema = s }) (statement_of text (understood before text)) None CreateTable (Ok (w.tally, new.now))) has w.changed)) in
    let now = ap (λ (p : Tally × Database). p.1) (same_value done.2) in
    let made = went done.1 in
    let it = made.1 in
    let same : it.table ≡ table = same_value (sym it.defined ∙ defined) in
    let grown : made.0.schema ≡ created before table = it.is ∙ ap (created before) same in
    let rest : made.0 ≡ done.0 = sym (same_value (rw (grown, none) at made.2)) in
    let last : new.now ≡ made.0 = now ∙ sym rest in (
      record {
        schema_is = ap (λ (d : Database). d.schema) last ∙ grown;
        sound = w.sound;
        rows = subst (λ t. KeepsRows before.tables old.now.trees t) (ap (λ (d : Database). d.trees) (sym last)) it.others;
        shown = h.1;
      },
      ap (λ (d : Database). d.trees (next_tree before)) last ∙ it.empty,
    )

-- the index is made
pub creates_index : (old new : State) (count : ℕ) → old.now.schema ≡ schema_1_bare → ExecutesInside 0 held_by_place_text [] old new (Ok count) → Grows schema_1_bare schema_1 old new
creates_index old new count has h =
    let text = held_by_place_text in
    let w = runs_as text [] old new schema_1_bare has (CreateIndex 3) makes_held_by_place held_by_place_plain count h.0 in
    let done = went (subst (λ t. Does old.step_limit (mode_of old) [] (record old.now { schema = schema_1_bare }) t None (CreateIndex 3) (Ok (w.tally, new.now))) held_by_place_itself
    (subst (λ s. Does old.step_limit (mode_of old) [] (record old.now { schema = s }) (statement_of text (understood schema_1_bare text)) None (CreateIndex 3) (Ok (w.tally, new.now))) has w.changed)) in
    let now : new.now ≡ done.0 = ap (λ (p : Tally × Database). p.1) (same_value done.2) in
    let it = done.1 in
    let same : it.index ≡ record held_by_place { tree = 0 } = same_value (sym it.defined ∙ held_by_place_is) in
    record {
      schema_is = ap (λ (d : Database). d.schema) now ∙ it.is ∙ ap (indexed schema_1_bare held) same;
      sound = w.sound;
      rows = subst (λ t. KeepsRows schema_1_bare.tables old.now.trees t) (ap (λ (d : Database). d.trees) (sym now)) it.rows;
      shown = h.1;
    }

-- the other tables stand in other trees than meta
station_apart : ¬ (◌≡◌ {A = ℕ} 1 0)
station_apart e = absurd (omega (arith, e))

message_apart : ¬ (◌≡◌ {A = ℕ} 3 0)
message_apart e = absurd (omega (arith, e))

held_apart : ¬ (◌≡◌ {A = ℕ} 4 0)
held_apart e = absurd (omega (arith, e))

delayed_apart : ¬ (◌≡◌ {A = ℕ} 7 0)
delayed_apart e = absurd (omega (arith, e))

-- the first row comes
pub inserts : (old new : State) (count : ℕ) → old.now.schema ≡ schema → old.now.trees meta_tree ≡ [] → ExecutesInside 0 insert_text [] old new (Ok count) → Sets (meta_row 2 1) old new
inserts old new count has none h =
    let db = old.now.trees in
    let command = Insert 0 (Values (lit (Int (pos 1)) ∷ lit Null ∷ lit (Int (pos 2)) ∷ lit (Int (pos 1)) ∷ []) 4) in
    let w = runs_as insert_text [] old new schema has command insert_is insert_plain count h.0 in
    let text = statement_of insert_text (understood schema insert_text) in
    let done = went (subst (λ s. Does old.step_limit (mode_of old) [] (record old.now { schema = s }) text None command (Ok (w.tally, new.now))) has w.changed) in
    let now = ap (λ (p : Tally × Database). p.1) (same_value (went (went done.2).2).2) in
    let given = went done.1 in
    let written = went (went given.2).2 in
    let counted = went written.2 in
    let source : List Row = (Int (pos 1) ∷ Null ∷ Int (pos 2) ∷ Int (pos 1) ∷ []) ∷ [] in
    let wrote = subst (λ all. Edited schema Enforced db (edit_of db meta [] Chosen 0 all) (Ok written.0)) given.1.1 written.1 in
    let applies = one_step schema Enforced db written.0 (edit_of db meta [] Chosen 0 source) refl wrote in
    let trees : done.0.trees ≡ written.0 = ap (λ (it : Written). it.trees) (same_value counted.2) ∙ same_value counted.1 in
    let edit : edited db (edit_of db meta [] Chosen 0 source) ≡ put_row (meta_row 2 1) (db 0) = rw (cast_int (pos 1), cast_null, cast_int (pos 2)) in
    let all = λ (t : ℕ). ap (λ (d : Database). d.trees t) now ∙ ap (λ (x : Trees). x t) trees in
    let kept = applies.tables.1 in
    record {
      schema_is = ap (λ (d : Database). d.schema) now;
      sound = w.sound;
      meta = all 0 ∙ applies.rows ∙ edit ∙ ap (put_row (meta_row 2 1)) none;
      rows = (all 1 ∙ kept.0 station_apart, (all 3 ∙ kept.1.0 message_apart, (all 4 ∙ kept.1.1.0 held_apart, (all 7 ∙ kept.1.1.1.0 delayed_apart, tt))));
      shown = h.1;
    }

abbrev pub hits : List Term → Row → Row → Bool
hits terms params r = list_all (holds (params ∷ r ∷ [])) terms

abbrev pub shows : List Term → Row → Row → Row
shows project params r = eval_all project (params ∷ r ∷ [])

found : (terms project : List Term) (params : Row) (all : List Row) → map (λ (env : Env). eval_all project env) (flat_map (λ r. cond (hits terms params r) ((params ∷ r ∷ []) ∷ []) []) all) ≡ map (shows project params) (filter (hits terms params) all)
found terms project params [] = refl
found terms project params (r ∷ all) =
    elim (hits terms params r) as (λ b. map (λ (env : Env). eval_all project env) (cond b ((params ∷ r ∷ []) ∷ []) [] ++ flat_map (λ x. cond (hits terms params x) ((params ∷ x ∷ []) ∷ []) []) all)
    ≡ map (shows project params) (cond b (r ∷ filter (hits terms params) all) (filter (hits terms params) all)))
    [ true ↦ ap (λ l. shows project params r ∷ l) (found terms project params all) | false ↦ found terms project params all ]

-- the answer of a query over one table, in some order
pub one_table : (tree : ℕ) (terms project : List Term) (db : Trees) (params : Row) (rows : List Row) → IsSureAnswer (over tree terms project) (overlay db []) params rows
    → IsPermutation (map (shows project params) (filter (hits terms params) (overlay db [] tree))) rows
one_table tree terms project was params rows h =
    let db = overlay was [] in
    let q = over tree terms project in
    let a : IsAnswer q db params rows = h Null in
    let kept : a.kept ≡ map (output q) (matches db terms q.from (params ∷ [])) = a.distinct ∙ ap (map (output q)) a.grouped in
    let first : map (λ (o : Output). o.1) a.kept ≡ map (shows project params) (filter (hits terms params) (db tree)) =
    ap (map (λ (o : Output). o.1)) kept ∙ map-map (λ (o : Output). o.1) (output q) (matches db terms q.from (params ∷ [])) ∙ found terms project params (db tree) in
    let shown : rows ≡ map (λ (o : Output). o.1) a.ordered = a.shown in
    subst (λ l. IsPermutation l rows) first (subst (IsPermutation (map (λ (o : Output). o.1) a.kept)) (sym shown) (IsPermutation-map (λ (o : Output). o.1) a.kept a.ordered a.same))

and_true : (b : Bool) → (b && true) ≡ b
and_true true = refl
and_true false = refl

-- the row of meta gets version 2 and another opening
pub sets : (old new : State) (row : Row) (opening : ℤ) (count : ℕ) → old.now.schema ≡ schema → old.now.trees meta_tree ≡ row ∷ [] → rowid row ≡ Int (pos 1)
    → ExecutesInside 0 update_text (Int opening ∷ []) old new (Ok count) → Sets (Int (pos 1) ∷ Null ∷ Int (pos 2) ∷ Int opening ∷ []) old new
sets old new row opening count has one key h =
    let params = Int opening ∷ [] in
    let db = old.now.trees in
    let command : Command = Update 0 (record { lets = []; body = over 0 update_filter update_shows }) in
    let w = runs_as update_text params old new schema has command update_is update_plain count h.0 in
    let text = statement_of update_text (understood schema update_text) in
    let done = went (subst (λ s. Does old.step_limit (mode_of old) params (record old.now { schema = s }) text None command (Ok (w.tally, new.now))) has w.changed) in
    let now = ap (λ (p : Tally × Database). p.1) (same_value (went (went done.2).2).2) in
    let got = went done.1 in
    let written = went got.2 in
    let given : Row = Int (pos 1) ∷ Int (pos 1) ∷ Null ∷ Int (pos 2) ∷ Int opening ∷ [] in
    let hit : hits update_filter params row ≡ true = and_true _ ∙ ap (λ v. is_true (binary (Compare Eq Binary) v (Int (pos 1)))) key ∙ eq_int (pos 1) (pos 1) in
    let shown : shows update_shows params row ≡ given = ap (λ v. v ∷ v ∷ Null ∷ Int (pos 2) ∷ Int opening ∷ []) key in
    let all : map (shows update_shows params) (filter (hits update_filter params) (db 0)) ≡ given ∷ [] =
    ap (λ l. map (shows update_shows params) (filter (hits update_filter params) l)) one ∙ ap (λ b. map (shows update_shows params) (cond b (row ∷ []) [])) hit ∙ ap (λ r. r ∷ []) shown in
    let rows : got.0 ≡ given ∷ [] = one_permutation given got.0 (subst (λ l. IsPermutation l got.0) all (one_table 0 update_filter update_shows db params got.0 got.1.answer)) in
    let edit = edit_of db meta (ids_of (given ∷ [])) Given 1 (given ∷ []) in
    let wrote = subst (λ l. Edited schema Enforced db (edit_of db meta (ids_of l) Given 1 l) (Ok written.0)) rows written.1 in
    let applies = one_step schema Enforced db written.0 edit refl wrote in
    let trees : done.0.trees ≡ written.0 = ap (λ (it : Written). it.trees) (same_value written.2) in
    let itself : value_cmp (rowid row) (Int (pos 1)) ≡ value_cmp (Int (pos 1)) (Int (pos 1)) = ap (λ v. value_cmp v (Int (pos 1))) key in
    let gone : without_all (db 0) (pos 1 ∷ []) ≡ [] =
    ap (λ l. without_all l (pos 1 ∷ [])) one ∙ ap (λ o. cond (not (is_eq o)) (row ∷ []) []) (itself ∙ tied_itself value_cmp_total (Int (pos 1))) in
    let put : edited db edit ≡ put_row (Int (pos 1) ∷ Null ∷ Int (pos 2) ∷ Int opening ∷ []) (without_all (db 0) (pos 1 ∷ [])) = rw (cast_int (pos 1), cast_null, cast_int (pos 2), cast_int opening) in
    let each = λ (t : ℕ). ap (λ (d : Database). d.trees t) now ∙ ap (λ (x : Trees). x t) trees in
    let kept = applies.tables.1 in
    record {
      schema_is = ap (λ (d : Database). d.schema) now;
      sound = w.sound;
      meta = each 0 ∙ applies.rows ∙ put ∙ ap (put_row (Int (pos 1) ∷ Null ∷ Int (pos 2) ∷ Int opening ∷ [])) gone;
      rows = (each 1 ∙ kept.0 station_apart, (each 3 ∙ kept.1.0 message_apart, (each 4 ∙ kept.1.1.0 held_apart, (each 7 ∙ kept.1.1.1.0 delayed_apart, tt))));
      shown = h.1;
    }
