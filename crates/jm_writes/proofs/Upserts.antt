-- What the statement that puts a queue does: nothing where the queue stands.
use Rattle.std.proofs.Common.{◌≡◌, ◌⊎◌, inl, inr, ℕ, ℤ, pos, true, false, cond, List, [], ◌∷◌, ◌++◌, Option, Some, None, option_map, Ok, Err, Result, OnOk, IfOk, refl, sym, ap, subst, ◌∙◌}
use Rattle.std.proofs.lemmas.Bool.{cases_Bool, and_from, or_left}
use Rattle.sqlite_value.specs.declared.value.Value.TheVariants.{Null, Int, Text}
use Rattle.sqlite_value.specs.Order.{Row}
use Rattle.sqlite.specs.Tree.{Trees, put_row}
use Rattle.sqlite.specs.Edit.{Edit, edit_of, edited, next_rowid, with_rowid}
use Rattle.sqlite.specs.Cast.{cast_row}
use Rattle.sqlite.specs.Does.{Tally, Does}
use Rattle.sqlite.specs.Rows.{Written, Task, Upserts, Judged, Tries, TriesEach, Clears, Puts, Meets, nothing, count_of}
use Rattle.sqlite.specs.Source.TheVariants.{Values}
use Rattle.sqlite.specs.Command.{Command}
use Rattle.sqlite.specs.Command.TheVariants.{InsertOr}
use Rattle.sqlite.specs.Effect.{Database, IsDatabase}
use Rattle.sqlite.specs.State.{State, mode_of, Executes, ExecutesInside}
use Rattle.sqlite.specs.Listing.{understood}
use Rattle.sqlite.specs.declared.error.Error.{Error}
use Rattle.sqlite.proofs.Callers.{statement_of, runs_as, one_step}
use Rattle.sqlite_schema.specs.declared.schema.Keys.TheVariants.{Enforced}
use Rattle.sqlite_schema.specs.declared.command.Conflict.TheVariants.{Abort}
use Rattle.sqlite_rules.specs.declared.error.Rowids.TheVariants.{Chosen, Given}
use Rattle.sqlite_rules.specs.declared.error.Refusal.{Refusal}
use Rattle.sqlite_rules.specs.Edit.{Applies}
use Rattle.jm_dest.specs.declared.key.Key.{Key}
use Rattle.jm_dest.specs.declared.key.Key.TheVariants.{Queue, Own, SharedOwn, Durable}
use Rattle.jm_dest.specs.Keys.{key_eq}
use Rattle.jm_machine.specs.Reopened.{is_durable}
use Rattle.jm_keep.specs.declared.change.RowChange.TheVariants.{PutStation}
use Rattle.jm_tables.specs.Schema.{schema, station, station_tree, message_tree, held_tree, delayed_tree}
use Rattle.jm_tables.specs.Rows.{definition_in, is_under, definition_under, count_under, record_at, due_at}
use Rattle.jm_tables.specs.Sound.{Serves}
use Rattle.jm_tables.specs.Valid.{is_queue, is_stored_name}
use Rattle.jm_writes.specs.Own.{IsStationRow, is_subscription_row}
use Rattle.jm_writes.specs.Steps.{Steps}
use Rattle.jm_writes.proofs.Edits.{Leaves, went, same_value}
use Rattle.jm_writes.proofs.Found.{find_behind}
use Rattle.jm_writes.proofs.Own.{all_put, own_stations}
use Rattle.jm_writes.proofs.Puts.{behind}
use Rattle.jm_writes.proofs.Said.{queue_terms, upsert, put_queue_text, put_queue_is, put_queue_plain}
use Rattle.jm_writes.proofs.Serving.{more, step, message_bare, held_bare, delayed_bare}
use Rattle.jm_writes.proofs.Values.{cast_int, cast_null}

abbrev source : List ℕ → Row
source name = Null ∷ Int (pos 1) ∷ Text [] ∷ Text name ∷ Int (pos 0) ∷ Text [] ∷ Text [] ∷ Int (pos 0) ∷ []

abbrev pub queue_row : ℤ → List ℕ → Row
queue_row id name = Int id ∷ Int (pos 1) ∷ Text [] ∷ Text name ∷ Int (pos 0) ∷ Text [] ∷ Text [] ∷ Int (pos 0) ∷ []

-- which is one of a store's
queue_is : (id : ℤ) (name : List ℕ) → is_stored_name name ≡ true → IsStationRow (queue_row id name)
queue_is id name named = or_left (is_queue (queue_row id name)) (is_subscription_row (queue_row id name)) (and_from _ _ (and_from _ _ (and_from _ _ (and_from _ _ named refl) refl) refl) refl)

-- the row as it is tried
abbrev tried_row : Trees → List ℕ → Row
tried_row db name = with_rowid Chosen (db station_tree) (cast_row station (source name))

abbrev task : State → Row → Task
task old params = record { limit = old.step_limit; keys = Enforced; schema = schema; table = station; params = params }

abbrev edit : Trees → Row → Edit
edit db new = edit_of db station [] Given 0 (new ∷ [])

tried_is : (db : Trees) (name : List ℕ) → tried_row db name ≡ queue_row (next_rowid (db station_tree)) name
tried_is db name = rw (cast_null, cast_int (pos 1), cast_int (pos 0))

cast_again : (db : Trees) (name : List ℕ) → edited db (edit db (queue_row (next_rowid (db station_tree)) name)) ≡ put_row (queue_row (next_rowid (db station_tree)) name) (db station_tree)
cast_again db name = rw (cast_int (next_rowid (db station_tree)), cast_int (pos 1), cast_int (pos 0))

-- nothing is done, or the row is put
abbrev Done : Trees → Row → Trees → Type 0
Done db new next = (next ≡ db) ⊎ Applies schema Enforced db (edit db new) next

puts : (old : State) (params : Row) (db : Trees) (new : Row) (w : Written) → Puts (task old params) new db (Ok w) → Done db new w.trees
puts old params db new w k =
    let written = went k in
    let applies = one_step schema Enforced db written.0 (edit db new) refl written.1 in
    let trees : w.trees ≡ written.0 = ap (λ (it : Written). it.trees) (same_value written.2) in
    inr (subst (Applies schema Enforced db (edit db new)) (sym trees) applies)

clears : (old : State) (params : Row) (db : Trees) (new : Row) (found : List Row) (w : Written) → Clears (task old params) Abort new db found (Ok w) → Done db new w.trees
clears old params db new [] w k = puts old params db new w k
clears old params db new (x ∷ found) w k = puts old params db new w k

met : (old : State) (params : Row) (db : Trees) (new : Row) (w : Written) → Upserts (task old params) Abort new db (upsert ∷ []) (Ok w) → Done db new w.trees
met old params db new w h = go h.0 h.2
  where
    go : (found : List Row) → Meets (task old params) (Upserts (task old params) Abort new db []) new db upsert found (Ok w) → Done db new w.trees
    go [] k = clears old params db new k.0 w k.2
    go (there ∷ found) k = inl (ap (λ (it : Written). it.trees) (same_value k))

tried : (old : State) (params : Row) (db : Trees) (new : Row) (w : Written) → Tries (task old params) Abort (upsert ∷ []) new db (Ok w) → Done db new w.trees
tried old params db new w (inl unfit) = absurd (let e = unfit.1 in cc)
tried old params db new w (inr h) = go h.0 h.2
  where
    go : (verdict : Option Refusal) → Judged (task old params) Abort (upsert ∷ []) new db verdict (Ok w) → Done db new w.trees
    go None k = met old params db new w k
    go (Some why) k = absurd (let e = k in cc)

record Put (old new : State) (name : List ℕ) : Type 0 where
  pub done : Done old.now.trees (tried_row old.now.trees name) new.now.trees
  pub schema_is : new.now.schema ≡ schema
  pub sound : IsDatabase new.now

puts_queue : (old new : State) (name : List ℕ) (count : ℕ) → old.now.schema ≡ schema → Executes put_queue_text (Text name ∷ []) old new (Ok count) → Put old new name
puts_queue old new name count has h =
    let params = Text name ∷ [] in
    let db = old.now.trees in
    let command : Command = InsertOr 1 Abort (Values queue_terms 8) (upsert ∷ []) in
    let w = runs_as put_queue_text params old new schema has command put_queue_is put_queue_plain count h in
    let text = statement_of put_queue_text (understood schema put_queue_text) in
    let done = went (subst (λ s. Does old.step_limit (mode_of old) params (record old.now { schema = s }) text None command (Ok (w.tally, new.now))) has w.changed) in
    let now = ap (λ (p : Tally × Database). p.1) (same_value (went (went done.2).2).2) in
    let given = went done.1 in
    let counter = went given.2 in
    let each = went counter.2 in
    let run = subst (λ all. TriesEach (task old params) Abort (upsert ∷ []) all (count_of counter.0) (nothing db) (Ok each.0)) given.1.1 each.1 in
    let one = went run in
    let counted = went each.2 in
    let last : new.now.trees ≡ one.0.trees =
    ap (λ (d : Database). d.trees) now ∙ ap (λ (it : Written). it.trees) (same_value counted.2) ∙ same_value counted.1 ∙ ap (λ (p : Written × ℤ). p.0.trees) (same_value one.2) in
    record {
      done = subst (λ t. Done db (tried_row db name) t) (sym last) (tried old params db (tried_row db name) one.0 one.1);
      schema_is = ap (λ (d : Database). d.schema) now;
      sound = w.sound;
    }

no_queue : (name : List ℕ) (k : Key) → is_durable k ≡ true → key_eq (Queue name) k ≡ false
no_queue name (Queue other) h = absurd (cc)
no_queue name (Own s c) h = absurd (cc)
no_queue name (SharedOwn client other) h = absurd (cc)
no_queue name (Durable client other) h = refl

-- a queue's row is seen by no subscription
unseen : (k : Key) (id : ℤ) (name : List ℕ) (rows : List Row) → definition_under k (rows ++ queue_row id name ∷ []) ≡ definition_under k rows
unseen k id name rows = elim (cases_Bool (is_durable k)) [
  | inl durable ↦ ap (λ o. cond (is_durable k) (option_map definition_in o) None) (find_behind (is_under k) (queue_row id name) (no_queue name k durable) rows)
  | inr other ↦ rw other refl
]

module _ (old new : State) (name : List ℕ) (count : ℕ) (named : is_stored_name name ≡ true) (s : Serves old.now) (h : ExecutesInside 0 put_queue_text (Text name ∷ []) old new (Ok count)) where
  it : Put old new name
  it = puts_queue old new name count s.schema_is h.0

  abbrev rows : List Row
  rows = old.now.trees station_tree

  abbrev row : Row
  row = queue_row (next_rowid rows) name

  as_it_is : new.now.trees ≡ old.now.trees → Leaves old new station_tree rows
  as_it_is e = record { rows_are = ap (λ (t : Trees). t station_tree) e; others = λ t other none. ap (λ (ts : Trees). ts t) e; schema_is = it.schema_is; sound = it.sound }

  with_row : Applies schema Enforced old.now.trees (edit old.now.trees (tried_row old.now.trees name)) new.now.trees → Leaves old new station_tree (put_row row rows)
  with_row a = record { rows_are = a.rows ∙ ap (λ r. edited old.now.trees (edit old.now.trees r)) (tried_is old.now.trees name) ∙ cast_again old.now.trees name; others = a.others; schema_is = it.schema_is; sound = it.sound }

  go : Done old.now.trees (tried_row old.now.trees name) new.now.trees → Steps old new (PutStation (Queue name) None)
  go (inl e) =
      let l = as_it_is e in
      step old new station_tree rows l (PutStation (Queue name) None) s s.stations h.1 (λ x. cc)
      (λ k. ap (definition_under k) l.rows_are)
      (λ k p. ap (count_under k p) (l.others held_tree (λ x. cc) held_bare))
      (λ p. ap (record_at p) (l.others message_tree (λ x. cc) message_bare))
      (λ p. ap (due_at p) (l.others delayed_tree (λ x. cc) delayed_bare))
      (own_stations old new rows l (λ are. are))
  go (inr a) =
      let l = with_row a in
      step old new station_tree (put_row row rows) l (PutStation (Queue name) None) s (more row rows refl s.stations) h.1 (λ x. cc)
      (λ k. ap (definition_under k) (l.rows_are ∙ behind row rows refl s.stations) ∙ unseen k (next_rowid rows) name rows)
      (λ k p. ap (count_under k p) (l.others held_tree (λ x. cc) held_bare))
      (λ p. ap (record_at p) (l.others message_tree (λ x. cc) message_bare))
      (λ p. ap (due_at p) (l.others delayed_tree (λ x. cc) delayed_bare))
      (own_stations old new (put_row row rows) l (all_put IsStationRow row rows (queue_is (next_rowid rows) name named)))

  puts_done : Steps old new (PutStation (Queue name) None)
  puts_done =
      go it.done

pub put_queue_on : (old new : State) (name : List ℕ) (r : Result ℕ Error) → is_stored_name name ≡ true → Serves old.now → IfOk r (λ count. ExecutesInside 0 put_queue_text (Text name ∷ []) old new (Ok count)) → OnOk r (Steps old new (PutStation (Queue name) None))
put_queue_on old new name (Err e) named s h = tt
put_queue_on old new name (Ok count) named s h = puts_done old new name count named s h
