-- What a statement on one table does to the trees.
use Rattle.std.proofs.Common.{◌≡◌, ◌≢◌, ◌⊎◌, inl, inr, ℕ, Bool, true, false, not, cond, length, List, [], ◌∷◌, ◌++◌, map, filter, flat_map, drop, slice_get, Option, Some, None, Ok, Err, Result, refl, sym, ap, subst, ◌∙◌, ◌/◌}
use Rattle.std.specs.List.{list_all}
use Rattle.std.specs.List.Sorted.{IsPermutation}
use Rattle.sqlite_value.specs.declared.value.Value.TheVariants.{Null}
use Rattle.sqlite.specs.Order.{Row}
use Rattle.sqlite.specs.Term.{Term, eval_all, holds, Env, col}
use Rattle.sqlite.specs.Query.{IsSureAnswer, IsAnswer, output, Output, matches}
use Rattle.sqlite.specs.Tree.{Trees, rowid, IsTable, put_row}
use Rattle.sqlite.specs.Table.{Table}
use Rattle.sqlite.specs.Program.{overlay}
use Rattle.sqlite.specs.Edit.{edit_of, have_rowids, with_rowid}
use Rattle.sqlite.specs.Cast.{cast_row}
use Rattle.sqlite.specs.Does.{Tally, Does, AtPlace, OnRows}
use Rattle.sqlite.specs.Rows.{Written, Edited}
use Rattle.sqlite.specs.Source.TheVariants.{Values}
use Rattle.sqlite.specs.Command.{Command}
use Rattle.sqlite.specs.Command.TheVariants.{Insert, Update, Delete}
use Rattle.sqlite.specs.Effect.{Database, IsDatabase, value_rows}
use Rattle.sqlite.specs.State.{State, mode_of, Executes}
use Rattle.sqlite.specs.Listing.{understood}
use Rattle.sqlite.proofs.Callers.{IsPlain, command_of, statement_of, runs_as, one_step}
use Rattle.sqlite_schema.specs.declared.schema.Keys.TheVariants.{Enforced}
use Rattle.sqlite_schema.specs.declared.schema.Column.{Column}
use Rattle.sqlite_schema.specs.declared.schema.Reference.{Reference}
use Rattle.sqlite_trees.proofs.ListLemmas.{map-map}
use Rattle.std.proofs.lemmas.List.Sorted.{IsPermutation-map}
use Rattle.sqlite_rules.specs.Action.{works}
use Rattle.sqlite_rules.specs.Calls.{ids_of}
use Rattle.sqlite_rules.specs.Lists.{Has}
use Rattle.sqlite_rules.specs.Edit.{IsNoIndex, taken_by}
use Rattle.sqlite_rules.specs.declared.error.Rowids.TheVariants.{Chosen, Given}
use Rattle.sqlite_rules.proofs.PlaceLemmas.{given}
use Rattle.jm_tables.specs.Schema.{schema, of}
use Rattle.jm_writes.proofs.Said.{over}
use Rattle.jm_writes.proofs.Left.{deleted, updated, picked}

-- a part that gave a value did not stop on the way
pub went : {B E R : Type 0} {b : B} {Stops : E → Type 0} → ((stop : E) × Stops stop × (Ok b ≡ Err stop)) ⊎ R → R
went (inl stopped) = absurd (let e = stopped.2 in cc)
went (inr on) = on

pub same_value : {B E : Type 0} {a b : B} → ◌≡◌ {A = Result B E} (Ok a) (Ok b) → a ≡ b
same_value e = cc

-- the terms hold of the row
abbrev pub hits : List Term → Row → Row → Bool
hits terms params r = list_all (holds (params ∷ r ∷ [])) terms

abbrev pub shows : List Term → Row → Row → Row
shows project params r = eval_all project (params ∷ r ∷ [])

found : (terms project : List Term) (params : Row) (all : List Row) → map (λ (env : Env). eval_all project env) (flat_map (λ r. cond (hits terms params r) ((params ∷ r ∷ []) ∷ []) []) all) ≡ map (shows project params) (filter (hits terms params) all)
found terms project params [] = refl
found terms project params (r ∷ all) =
    elim (hits terms params r) as (λ b. map (λ (env : Env). eval_all project env) (cond b ((params ∷ r ∷ []) ∷ []) [] ++ flat_map (λ x. cond (hits terms params x) ((params ∷ x ∷ []) ∷ []) []) all)
    ≡ map (shows project params) (cond b (r ∷ filter (hits terms params) all) (filter (hits terms params) all)))
    [ true ↦ ap (λ l. shows project params r ∷ l) (found terms project params all) | false ↦ found terms project params all ]

-- the answer of a query over one table, in some order
pub one_table : (tree : ℕ) (terms project : List Term) (db : Trees) (params : Row) (rows : List Row) → IsSureAnswer (over tree terms project) (overlay db []) params rows
    → IsPermutation (map (shows project params) (filter (hits terms params) (overlay db [] tree))) rows
one_table tree terms project was params rows h =
    let db = overlay was [] in
    let q = over tree terms project in
    let a : IsAnswer q db params rows = h Null in
    let kept : a.kept ≡ map (output q) (matches db terms q.from (params ∷ [])) = a.distinct ∙ ap (map (output q)) a.grouped in
    let first : map (λ (o : Output). o.1) a.kept ≡ map (shows project params) (filter (hits terms params) (db tree)) =
    ap (map (λ (o : Output). o.1)) kept ∙ map-map (λ (o : Output). o.1) (output q) (matches db terms q.from (params ∷ [])) ∙ found terms project params (db tree) in
    let shown : rows ≡ map (λ (o : Output). o.1) a.ordered = a.shown in
    subst (λ l. IsPermutation l rows) first (subst (IsPermutation (map (λ (o : Output). o.1) a.kept)) (sym shown) (IsPermutation-map (λ (o : Output). o.1) a.kept a.ordered a.same))

-- the rows of one table are those, and all other tables are as they were
pub record Leaves (old new : State) (tree : ℕ) (rows : List Row) : Type 0 where
  pub rows_are : new.now.trees tree ≡ rows
  pub others : (t : ℕ) → t ≢ tree → IsNoIndex schema t → new.now.trees t ≡ old.now.trees t
  pub schema_is : new.now.schema ≡ schema
  pub sound : IsDatabase new.now

module _ (name : List ℕ) (tree : ℕ) (columns : List Column) (key : Option ℕ) (primary : List ℕ) (uniques : List (List ℕ)) (checks : List Term) (references : List Reference) where
  abbrev table : Table
  table = of name tree columns key primary uniques checks references

  module _ (text : List ℕ) (at : ℕ) (there : slice_get schema.tables at ≡ Some table) (plain : IsPlain (understood schema text)) (old new : State) (params : Row) (count : ℕ) (has : old.now.schema ≡ schema)
      (h : Executes text params old new (Ok count)) where
    pub deletes : (terms : List Term) → command_of (understood schema text) ≡ Delete at (record { lets = []; body = over tree terms (col 1 0 ∷ []) }) → overlay old.now.trees [] tree ≡ old.now.trees tree
        → ((olds : List Row) → works schema Enforced 0 tree olds [] ≡ []) → IsTable (old.now.trees tree) → have_rowids (old.now.trees tree) ≡ true
        → Leaves old new tree (filter (λ r. not (hits terms params r)) (old.now.trees tree))
    deletes terms is bare acts up keyed =
        let db = old.now.trees in
        let body = over tree terms (col 1 0 ∷ []) in
        let command : Command = Delete at (record { lets = []; body = body }) in
        let w = runs_as text params old new schema has command is plain count h in
        let said = statement_of text (understood schema text) in
        let does = subst (λ s. Does old.step_limit (mode_of old) params (record old.now { schema = s }) said None command (Ok (w.tally, new.now))) has w.changed in
        let done = went (subst (λ o. AtPlace (λ (t : Table). OnRows (record { limit = old.step_limit; keys = Enforced; schema = schema; table = t; params = params }) (mode_of old) None command db) o (Ok (w.tally, new.now))) there does) in
        let now = ap (λ (p : Tally × Database). p.1) (same_value (went (went done.2).2).2) in
        let given = went done.1 in
        let written = went given.2 in
        let edit = edit_of db table (ids_of given.0) Given 0 [] in
        let applies = one_step schema _ db written.0 edit (acts (taken_by db edit)) written.1 in
        let trees : done.0.trees ≡ written.0 = ap (λ (it : Written). it.trees) (same_value written.2) in
        record {
          rows_are = ap (λ (d : Database). d.trees tree) now ∙ ap (λ (t : Trees). t tree) trees ∙ applies.rows
              ∙ deleted (db tree) given.0 (hits terms params) (λ _. []) up keyed (subst (λ l. IsPermutation (map (shows (col 1 0 ∷ []) params) (filter (hits terms params) l)) given.0) bare (one_table tree terms (col 1 0 ∷ []) db params given.0 given.1.answer));
          others = λ t other none. ap (λ (d : Database). d.trees t) now ∙ ap (λ (ts : Trees). ts t) trees ∙ applies.others t other none;
          schema_is = ap (λ (d : Database). d.schema) now;
          sound = w.sound;
        }

    -- the row is put where its rowid is, or behind all others
    pub inserts : (terms : List Term) (width : ℕ) (source : Row) → command_of (understood schema text) ≡ Insert at (Values terms width)
        → value_rows (params ++ []) width (length terms / width) terms ≡ source ∷ []
        → ((new : Row) → works schema Enforced 0 tree [] (new ∷ []) ≡ [])
        → Leaves old new tree (put_row (with_rowid Chosen (old.now.trees tree) (cast_row table source)) (old.now.trees tree))
    inserts terms width source is shown acts =
        let db = old.now.trees in
        let command : Command = Insert at (Values terms width) in
        let w = runs_as text params old new schema has command is plain count h in
        let said = statement_of text (understood schema text) in
        let does = subst (λ s. Does old.step_limit (mode_of old) params (record old.now { schema = s }) said None command (Ok (w.tally, new.now))) has w.changed in
        let done = went (subst (λ o. AtPlace (λ (t : Table). OnRows (record { limit = old.step_limit; keys = Enforced; schema = schema; table = t; params = params }) (mode_of old) None command db) o (Ok (w.tally, new.now))) there does) in
        let now = ap (λ (p : Tally × Database). p.1) (same_value (went (went done.2).2).2) in
        let given = went done.1 in
        let written = went (went given.2).2 in
        let counted = went written.2 in
        let source_is : given.0 ≡ source ∷ [] = given.1.1 ∙ shown in
        let edit = edit_of db table [] Chosen 0 (source ∷ []) in
        let wrote = subst (λ all. Edited schema Enforced db (edit_of db table [] Chosen 0 all) (Ok written.0)) source_is written.1 in
        let applies = one_step schema Enforced db written.0 edit (acts (with_rowid Chosen (db tree) (cast_row table source))) wrote in
        let trees : done.0.trees ≡ written.0 = ap (λ (it : Written). it.trees) (same_value counted.2) ∙ same_value counted.1 in
        record {
          rows_are = ap (λ (d : Database). d.trees tree) now ∙ ap (λ (t : Trees). t tree) trees ∙ applies.rows;
          others = λ t other none. ap (λ (d : Database). d.trees t) now ∙ ap (λ (ts : Trees). ts t) trees ∙ applies.others t other none;
          schema_is = ap (λ (d : Database). d.schema) now;
          sound = w.sound;
        }

    -- each row that is hit is changed in its place
    pub updates : (terms project : List Term) (g : Row → Row) → command_of (understood schema text) ≡ Update at (record { lets = []; body = over tree terms (col 1 0 ∷ project) })
        → overlay old.now.trees [] tree ≡ old.now.trees tree → ((olds news : List Row) → works schema Enforced 0 tree olds news ≡ []) → IsTable (old.now.trees tree) → have_rowids (old.now.trees tree) ≡ true
        → ((r : Row) → Has (old.now.trees tree) r → cast_row table (shows project params r) ≡ g r) → ((r : Row) → rowid (g r) ≡ rowid r)
        → Leaves old new tree (map (picked (hits terms params) g) (old.now.trees tree))
    updates terms project g is bare acts up keyed casts keeps =
        let db = old.now.trees in
        let body = over tree terms (col 1 0 ∷ project) in
        let command : Command = Update at (record { lets = []; body = body }) in
        let w = runs_as text params old new schema has command is plain count h in
        let said = statement_of text (understood schema text) in
        let does = subst (λ s. Does old.step_limit (mode_of old) params (record old.now { schema = s }) said None command (Ok (w.tally, new.now))) has w.changed in
        let done = went (subst (λ o. AtPlace (λ (t : Table). OnRows (record { limit = old.step_limit; keys = Enforced; schema = schema; table = t; params = params }) (mode_of old) None command db) o (Ok (w.tally, new.now))) there does) in
        let now = ap (λ (p : Tally × Database). p.1) (same_value (went (went done.2).2).2) in
        let got = went done.1 in
        let written = went got.2 in
        let edit = edit_of db table (ids_of got.0) Given 1 got.0 in
        let applies = one_step schema _ db written.0 edit (acts (taken_by db edit) edit.news) written.1 in
        let trees : done.0.trees ≡ written.0 = ap (λ (it : Written). it.trees) (same_value written.2) in
        let answer = subst (λ l. IsPermutation (map (shows (col 1 0 ∷ project) params) (filter (hits terms params) l)) got.0) bare (one_table tree terms (col 1 0 ∷ project) db params got.0 got.1.answer) in
        let put = updated (db tree) got.0 edit.news (hits terms params) (λ r. shows project params r) g (λ s. cast_row table (drop 1 s)) up keyed answer (given _ _) casts keeps applies.fresh in
        record {
          rows_are = ap (λ (d : Database). d.trees tree) now ∙ ap (λ (t : Trees). t tree) trees ∙ applies.rows ∙ put;
          others = λ t other none. ap (λ (d : Database). d.trees t) now ∙ ap (λ (ts : Trees). ts t) trees ∙ applies.others t other none;
          schema_is = ap (λ (d : Database). d.schema) now;
          sound = w.sound;
        }
