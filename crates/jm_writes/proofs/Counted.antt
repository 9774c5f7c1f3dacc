-- What the statement that counts does to what is stored.
use Rattle.std.proofs.Common.{◌≡◌, ◌≤◌, inl, inr, ℕ, ℤ, pos, Bool, true, false, cond, length, List, [], ◌∷◌, map, find, Option, Some, None, option_map, Ok, Err, Result, OnOk, IfOk, refl, sym, ap, ap₂, ◌∙◌, codes, eqb}
use Rattle.std.proofs.lemmas.Bool.{cases_Bool}
use Rattle.sqlite_value.specs.declared.value.Value.TheVariants.{Int, Text}
use Rattle.sqlite_value.specs.Order.{Row, column}
use Rattle.sqlite.specs.declared.error.Error.{Error}
use Rattle.sqlite.specs.State.{State, ExecutesInside}
use Rattle.sqlite_schema.specs.declared.schema.Keys.TheVariants.{Enforced}
use Rattle.sqlite_schema.specs.declared.schema.Kind.TheVariants as kind
use Rattle.sqlite_trees.specs.Tree.{rowid}
use Rattle.sqlite_rules.specs.Action.{works}
use Rattle.sqlite_rules.specs.Cast.{cast, cast_row}
use Rattle.sqlite_rules.specs.Edit.{id_in}
use Rattle.sqlite_rules.proofs.ListLemmas.{has_found}
use Rattle.jm_dest.specs.declared.key.Key.{Key}
use Rattle.jm_keep.specs.Stored as stored
use Rattle.jm_keep.specs.declared.change.RowChange.TheVariants.{SetCount}
use Rattle.jm_tables.specs.Schema.{schema, held, station_tree, message_tree, held_tree, delayed_tree}
use Rattle.jm_tables.specs.Rows.{number_in, is_under_at, definition_under, count_under, record_at, due_at}
use Rattle.jm_tables.specs.Sound.{Serves}
use Rattle.jm_writes.specs.Columns.{family_of, client_of, name_of}
use Rattle.jm_machine.specs.Rows.{greatest_count}
use Rattle.jm_writes.specs.Own.{IsHeldRow}
use Rattle.jm_writes.specs.Steps.{Steps}
use Rattle.jm_writes.proofs.Edits.{Leaves, updates, hits}
use Rattle.jm_writes.proofs.Found.{find_changed}
use Rattle.jm_writes.proofs.Hits.{hit_held, under_at_other}
use Rattle.jm_writes.proofs.Left.{picked}
use Rattle.jm_writes.proofs.Own.{all_changed, own_held}
use Rattle.jm_writes.proofs.Said.{by_key_and_place, counted_terms, set_count_text, set_count_is, set_count_plain}
use Rattle.jm_writes.proofs.Serving.{changed_rows, numbered_row, held_row, step, station_bare, message_bare, delayed_bare}
use Rattle.jm_writes.proofs.Values.{cast_int, IsHeld}

-- no row of another table points to one of held
acts_nowhere : (olds news : List Row) → works schema Enforced 0 held_tree olds news ≡ []
acts_nowhere olds news = elim (cases_Bool (eqb (length news) 0)) [ inl is ↦ rw is | inr is ↦ rw is ]

abbrev pub with_count : ℕ → Row → Row
with_count count r = rowid r ∷ column r 1 ∷ column r 2 ∷ column r 3 ∷ column r 4 ∷ Int (pos count) ∷ []

cast_is : (count : ℕ) (r : Row) → rowid r ≡ Int (id_in (rowid r)) → IsHeld r → cast_row held (with_count count r) ≡ with_count count r
cast_is count r key is =
    let id : cast kind.Integer (rowid r) ≡ rowid r = ap (cast kind.Integer) key ∙ cast_int (id_in (rowid r)) ∙ sym key in
    let family : cast kind.Integer (column r 1) ≡ column r 1 = ap (cast kind.Integer) is.key.family ∙ cast_int (id_in (column r 1)) ∙ sym is.key.family in
    let client : cast kind.Text (column r 2) ≡ column r 2 = ap (cast kind.Text) is.key.client ∙ sym is.key.client in
    let name : cast kind.Text (column r 3) ≡ column r 3 = ap (cast kind.Text) is.key.name ∙ sym is.key.name in
    let place : cast kind.Integer (column r 4) ≡ column r 4 = ap (cast kind.Integer) is.place ∙ cast_int (id_in (column r 4)) ∙ sym is.place in
    ap₂ ◌∷◌ id (ap₂ ◌∷◌ family (ap₂ ◌∷◌ client (ap₂ ◌∷◌ name (ap₂ ◌∷◌ place (ap (λ v. v ∷ []) (cast_int (pos count)))))))

abbrev deliveries : Row → ℕ
deliveries r = number_in (id_in (column r 5))

module _ (old new : State) (key : Key) (family : ℤ) (place count n : ℕ) (stands : family_of key ≡ Some family) (within : count ≤ greatest_count) (s : Serves old.now)
    (h : ExecutesInside 0 set_count_text (Int family ∷ Text (client_of key) ∷ Text (name_of key) ∷ Int (pos place) ∷ Int (pos count) ∷ []) old new (Ok n)) where
  abbrev params : Row
  params = Int family ∷ Text (client_of key) ∷ Text (name_of key) ∷ Int (pos place) ∷ Int (pos count) ∷ []

  abbrev rows : List Row
  rows = old.now.trees held_tree

  abbrev hit : Row → Bool
  hit = hits by_key_and_place params

  l : Leaves old new held_tree (map (picked hit (with_count count)) rows)
  l = updates (codes "held") held_tree held.columns held.key held.primary held.uniques held.checks held.references set_count_text 3 refl set_count_plain old new params n s.schema_is h.0
      by_key_and_place counted_terms (with_count count) set_count_is refl acts_nowhere s.held.rise s.held.numbered
      (λ r k. cast_is count r (numbered_row rows s.held r k) (held_row old.now s r k)) (λ r. refl)

  unseen : (k : Key) (p : ℕ) (r : Row) → is_under_at k p (picked hit (with_count count) r) ≡ is_under_at k p r
  unseen k p r = elim (hit r) as (λ b. is_under_at k p (cond b (with_count count r) r) ≡ is_under_at k p r) [ true ↦ refl | false ↦ refl ]

  counted : (k : Key) (p : ℕ) (o : Option Row) → find (is_under_at k p) rows ≡ o → option_map deliveries (option_map (picked hit (with_count count)) o) ≡ cond (stored.is_at key place k p) (option_map (λ _. count) (option_map deliveries o)) (option_map deliveries o)
  counted k p None f = elim (stored.is_at key place k p) as (λ b. ◌≡◌ {A = Option ℕ} None (cond b None None)) [ true ↦ refl | false ↦ refl ]
  counted k p (Some r) f =
      let has = has_found (is_under_at k p) rows r f in
      let same : hit r ≡ stored.is_at key place k p = hit_held key family stands (Int (pos count) ∷ []) r place (held_row old.now s r has.0) ∙ under_at_other k key p place r has.1 in
      ap (λ b. Some (deliveries (cond b (with_count count r) r))) same
      ∙ elim (stored.is_at key place k p) as (λ b. ◌≡◌ {A = Option ℕ} (Some (deliveries (cond b (with_count count r) r))) (cond b (Some count) (Some (deliveries r)))) [ true ↦ refl | false ↦ refl ]

  counts : Steps old new (SetCount key place count)
  counts =
      step old new held_tree (map (picked hit (with_count count)) rows) l (SetCount key place count) s (changed_rows hit (with_count count) rows (λ r. refl) s.held) h.1 (λ e. cc)
      (λ k. ap (definition_under k) (l.others station_tree (λ e. cc) station_bare))
      (λ k p. ap (count_under k p) l.rows_are ∙ ap (option_map deliveries) (find_changed (is_under_at k p) (picked hit (with_count count)) (unseen k p) rows) ∙ counted k p (find (is_under_at k p) rows) refl)
      (λ p. ap (record_at p) (l.others message_tree (λ e. cc) message_bare))
      (λ p. ap (due_at p) (l.others delayed_tree (λ e. cc) delayed_bare))
      (own_held old new (map (picked hit (with_count count)) rows) l (all_changed IsHeldRow hit (with_count count) rows (λ r. record { count = count; count_is = refl; within = within })))

pub set_count_on : (old new : State) (key : Key) (family : ℤ) (place count : ℕ) (r : Result ℕ Error) → family_of key ≡ Some family → count ≤ greatest_count → Serves old.now
    → IfOk r (λ n. ExecutesInside 0 set_count_text (Int family ∷ Text (client_of key) ∷ Text (name_of key) ∷ Int (pos place) ∷ Int (pos count) ∷ []) old new (Ok n)) → OnOk r (Steps old new (SetCount key place count))
set_count_on old new key family place count (Err e) stands within s h = tt
set_count_on old new key family place count (Ok n) stands within s h = counts old new key family place count n stands within s h
