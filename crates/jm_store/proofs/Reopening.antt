-- What was opened, and was only read since.
use Rattle.std.proofs.Common.{◌≡◌, ◌∙◌, ◌&&◌, ℕ, pos, true, inl, inr, Some, ap, refl, sym, subst, arith, IsTrue}
use Rattle.std.specs.Prelude.{is_none}
use Rattle.std.specs.Str.{is_utf8}
use Rattle.std.proofs.lemmas.Bool.{and_from, and_parts, or_cases, or_left, or_right}
use Rattle.sqlite_value.specs.Order.{Row, bytes, column}
use Rattle.sqlite.specs.Effect.{Database}
use Rattle.sqlite.specs.State.{State, HasCleanDisk, Survives}
use Rattle.sqlite_trees.specs.Tree.{Trees}
use Rattle.sqlite_trees.proofs.Doubt.{no_doubt}
use Rattle.jm_keep.specs.Persisted.{IsPersisted}
use Rattle.jm_machine.specs.Machine.{State as Machine}
use Rattle.jm_queries.specs.Asked.{IsUndone}
use Rattle.jm_tables.specs.Rows.{stored_in}
use Rattle.jm_tables.specs.Sound.{Serves}
use Rattle.jm_tables.specs.Schema.{station_tree, message_tree, held_tree, delayed_tree}
use Rattle.jm_tables.specs.Valid.{IsOpening, IsStoredMessage, IsValid, is_queue, is_station, is_subscription}
use Rattle.jm_selector.specs.Selectors.{selector_refusal}
use Rattle.jm_holds.specs.Holds.{HoldsMessages}
use Rattle.jm_writes.specs.Own.{HasOwnRows, IsDelayRow, IsHeldRow, IsMessageRow, IsStationRow, is_subscription_row}
use Rattle.jm_writes.specs.Steps.{IsOurs}
use Rattle.jm_decoding.specs.Readable.{IsCountIn, IsNaturalIn}
use Rattle.jm_opening.specs.Meta.{meta_row}
use Rattle.jm_opening.specs.declared.found.Found.{Found}
use Rattle.jm_opening.specs.declared.judged.OpenFault.{OpenFault}
use Rattle.jm_opening.specs.Opened.{IsOpened, opening_of}
use Rattle.jm_opening.specs.Opening.{IsOpenedAgain}
use Rattle.jm_load.specs.Faults.{AreReadRows, IsFaultOf}
use Rattle.jm_load.proofs.Listed.{all_as}
use Rattle.jm_valid.proofs.Valid.{kept_is_valid}
use Rattle.jm_store.specs.Opened.{IsOpenedOf}

-- the database is the one that was opened
pub same_now : (a b : State) → a.now ≡ a.committed → IsUndone a b → b.now ≡ a.now
same_now a b settled h = h.now_is ∙ sym settled

pub same_committed : (a b : State) → IsUndone a b → b.committed ≡ b.now
same_committed a b h = h.committed_is ∙ sym h.now_is

-- it is opened still
pub opened_still : (opening : ℕ) (committed : Trees) (a b : State) → IsOpenedAgain opening committed a → IsTrue b.is_open → IsUndone a b → IsOpenedAgain opening committed b
opened_still opening committed a b is live h = record {
  before = is.before;
  same = is.same;
  from = record {
    found = is.from.found;
    is_found = is.from.is_found;
    number = is.from.number;
    opened = subst (λ (d : Database). IsOpened is.from.found is.before d) (sym (same_now a b (sym is.from.committed) h)) is.from.opened;
    is_open = live;
    committed = same_committed a b h;
  };
}

-- ---- each row by itself

station_row : (r : Row) → is_station r ≡ true → IsStationRow r
station_row r h = elim (or_cases (is_queue r) (is_subscription r) h) [
  | inl queue ↦ or_left (is_queue r) (is_subscription_row r) queue
  | inr durable ↦
      let p6 = and_parts _ _ durable in
      let p5 = and_parts _ _ p6.0 in
      or_right (is_queue r) (is_subscription_row r) (and_from _ _ (and_from _ _ p5.0 (and_parts (is_utf8 (bytes (column r 6))) (is_none (selector_refusal (Some (bytes (column r 6))))) p5.1).0) p6.1)
]

-- what was opened, and may be loaded as far as each row by itself says, has a store's rows alone
own_rows : (opening : ℕ) (found : Found) (before after : Database) → opening ≡ opening_of found → IsOpened found before after → IsOpening opening → AreReadRows after.trees → HasOwnRows after.trees
own_rows opening found before after number opened within read = record {
  meta = record {
    opening = opening;
    meta = record { row = meta_row 2 (opening_of found); alone = opened.meta; version_is = refl; opening_is = ap pos (sym number) };
    within = within;
  };
  stations = all_as (λ r. is_station r ≡ true) IsStationRow station_row (after.trees station_tree) read.stations;
  messages = all_as IsStoredMessage IsMessageRow (λ r is. record { place = is.place.0; place_is = is.place.1 }) (after.trees message_tree) read.messages;
  held = all_as (λ r. IsCountIn (column r 5)) IsHeldRow (λ r is. record { count = is.count; count_is = is.count_is; within = is.within }) (after.trees held_tree) read.held;
  delayed = all_as (λ r. IsNaturalIn (column r 2)) IsDelayRow (λ r is. record { due = is.number; due_is = is.number_is }) (after.trees delayed_tree) read.delays;
}

-- ---- a connection that was opened and read, and shows as clean and open

module _ (opening : ℕ) (committed : Trees) (old new : State) (survives : Survives old new (λ _. ⊥)) (same : HasCleanDisk new → IsTrue new.is_open → IsUndone old new) (opened : HasCleanDisk old → IsOpenedAgain opening committed old) where
  -- it was clean before
  pub early : HasCleanDisk new → HasCleanDisk old
  early clean = omega (arith, survives.clean, clean)

  pub settled : HasCleanDisk new → old.now ≡ old.committed
  settled clean = sym (opened (early clean)).from.committed

  -- it may be kept
  pub ours : IsOpening opening → (HasCleanDisk old → Serves old.now) → (HasCleanDisk new → old.now ≡ old.committed → Serves old.now → AreReadRows old.now.trees) → IsOurs new
  ours number serves read clean live =
      let undone = same clean live in
      let now = sym (same_now old new (settled clean) undone) in
      let is = (opened (early clean)).from in (
        subst (λ (d : Database). Serves d) now (serves (early clean)),
        same_committed old new undone,
        subst (λ (d : Database). HasOwnRows d.trees) now (own_rows opening is.found (opened (early clean)).before old.now is.number is.opened number (read clean (settled clean) (serves (early clean)))),
      )

  module _ (k : IsTrue (new.is_clean && new.is_open)) where
    clean : HasCleanDisk new
    clean = no_doubt new.is_clean (and_parts new.is_clean new.is_open k).0

    undone : IsUndone old new
    undone = same clean (and_parts new.is_clean new.is_open k).1

    now_is : new.now ≡ old.now
    now_is = same_now old new (settled clean) undone

    pub still_opened : IsOpenedAgain opening committed new
    still_opened = opened_still opening committed old new (opened (early clean)) (and_parts new.is_clean new.is_open k).1 undone

    -- what was loaded is what it holds
    pub still_stored : (s : Machine) → (HasCleanDisk old → Serves old.now) → (HasCleanDisk new → old.now ≡ old.committed → Serves old.now → IsPersisted s (stored_in old.now.trees)) → IsPersisted s (stored_in new.now.trees)
    still_stored s serves loaded = subst (λ (d : Database). IsPersisted s (stored_in d.trees)) (sym now_is) (loaded clean (settled clean) (serves (early clean)))

    -- each row of the core that was loaded holds a message that its key may hold
    pub still_holds : (s : Machine) → (HasCleanDisk old → Serves old.now) → (HasCleanDisk new → old.now ≡ old.committed → Serves old.now → HoldsMessages s) → HoldsMessages s
    still_holds s serves holds = holds clean (settled clean) (serves (early clean))

    -- it is a valid file of that opening
    pub still_valid : (s : Machine) → IsOpening opening → (HasCleanDisk old → Serves old.now) → (HasCleanDisk new → old.now ≡ old.committed → Serves old.now → AreReadRows old.now.trees)
        → (HasCleanDisk new → old.now ≡ old.committed → Serves old.now → IsPersisted s (stored_in old.now.trees)) → (HasCleanDisk new → old.now ≡ old.committed → Serves old.now → HoldsMessages s) → IsValid opening new.now.trees
    still_valid s number serves read loaded holds =
        let is = ours number serves read clean (and_parts new.is_clean new.is_open k).1 in
        let valid = (kept_is_valid s new.now (still_holds s serves holds) (record { serves = is.0; own = is.2; persisted = still_stored s serves loaded })).1 in
        let from = still_opened.from in
        record {
          meta = record { row = meta_row 2 (opening_of from.found); alone = from.opened.meta; version_is = refl; opening_is = ap pos (sym from.number) };
          within = number;
          stations = valid.stations;
          messages = valid.messages;
          held = valid.held;
          delayed = valid.delayed;
          kept = valid.kept;
        }

    -- a stop leaves it
    pub still_left : (HasCleanDisk old → (db : Trees) → old.may_leave db → db ≡ old.now.trees) → (db : Trees) → new.may_leave db → db ≡ new.now.trees
    still_left durable db h = elim (survives.crash clean db h) [
      | inl before ↦ durable (early clean) db before ∙ ap (λ (d : Database). d.trees) (sym now_is)
      | inr never ↦ absurd never
    ]

-- one that could not be loaded stands opened, and the fault is the first of what it has
pub stands_opened : (committed : Trees) (old new : State) (opening : ℕ) (fault : OpenFault) → Survives old new (λ _. ⊥) → (HasCleanDisk new → IsTrue new.is_open → IsUndone old new) → (HasCleanDisk old → IsOpenedAgain opening committed old)
    → (HasCleanDisk old → Serves old.now) → (HasCleanDisk new → old.now ≡ old.committed → Serves old.now → IsFaultOf old.now.trees fault) → HasCleanDisk new → IsTrue new.is_open → IsOpenedOf committed new.now × IsFaultOf new.now.trees fault
stands_opened committed old new opening fault survives same opened serves told clean live =
    let early : HasCleanDisk old = omega (arith, survives.clean, clean) in
    let is = opened early in
    let now_is = same_now old new (sym is.from.committed) (same clean live) in (
      (is.before, is.same, (is.from.found, is.from.is_found, subst (λ (d : Database). IsOpened is.from.found is.before d) (sym now_is) is.from.opened)),
      subst (λ (d : Database). IsFaultOf d.trees fault) (sym now_is) (told clean (sym is.from.committed) (serves early)),
    )
