-- What a settling loses of what is stored, and that what is given back changes nothing of it.
use Rattle.std.proofs.Common.{◌≡◌, ℕ, Bool, true, false, cond, List, [], ◌∷◌, map, refl, sym, ◌∙◌, ap, Some, None}
use Rattle.std.specs.Prelude.{◌==◌, ◌&&◌, not}
use Rattle.jm_dest.specs.declared.key.Key.{Key}
use Rattle.jm_dest.specs.declared.key.Key.TheVariants.{Queue, Own, SharedOwn, Durable}
use Rattle.jm_dest.specs.declared.session.SessionId.{SessionId}
use Rattle.jm_dest.specs.Keys.{key_eq}
use Rattle.jm_machine.specs.declared.state.PlacedRow.{PlacedRow}
use Rattle.jm_machine.specs.declared.state.RowState.TheVariants.{Waiting}
use Rattle.jm_machine.specs.declared.state.Station.{Station}
use Rattle.jm_machine.specs.Rows.{is_out, given_back}
use Rattle.jm_machine.specs.Machine.{State, settled_rows, returned_rows, settled, returned, station_of, definition_of, with_rows}
use Rattle.jm_machine.specs.Wants.{placed_rows}
use Rattle.jm_machine.specs.Reopened.{is_durable}
use Rattle.jm_machine.specs.Under.{placed_under}
use Rattle.jm_keep.specs.Persisted.{row_at, stored_row, if_stored, is_lasting}
use Rattle.jm_keep.specs.Steps.{StandsInOrder, SettleLoses, ReturnStores, passes, out_through}
use Rattle.jm_keep_law.proofs.Placed.{row_at-filter}
use Rattle.jm_keep_law.proofs.Gone.{left_stored, loses_gone}
use Rattle.jm_keep_law.proofs.Published.{under_in_order, if_lasts}

-- ---- stations whose rows change

found_rows : (f : List PlacedRow → List PlacedRow) → f [] ≡ [] → (key : Key) (stations : List Station) → placed_rows (station_of key (map (with_rows f) stations)) ≡ f (placed_rows (station_of key stations))
found_rows f z key [] = sym z
found_rows f z key (x ∷ stations) = go (key_eq x.key key) (found_rows f z key stations)
  where
    go : (b : Bool) → placed_rows (station_of key (map (with_rows f) stations)) ≡ f (placed_rows (station_of key stations))
        → placed_rows (cond b (Some (with_rows f x)) (station_of key (map (with_rows f) stations))) ≡ f (placed_rows (cond b (Some x) (station_of key stations)))
    go true r = refl
    go false r = r

definition_kept : (f : List PlacedRow → List PlacedRow) (key : Key) (stations : List Station) → definition_of (station_of key (map (with_rows f) stations)) ≡ definition_of (station_of key stations)
definition_kept f key [] = refl
definition_kept f key (x ∷ stations) = go (key_eq x.key key) (definition_kept f key stations)
  where
    go : (b : Bool) → definition_of (station_of key (map (with_rows f) stations)) ≡ definition_of (station_of key stations)
        → definition_of (cond b (Some (with_rows f x)) (station_of key (map (with_rows f) stations))) ≡ definition_of (cond b (Some x) (station_of key stations))
    go true r = refl
    go false r = r

under_settled : (p : SessionId → ℕ → Bool) (state : State) (key : Key) → placed_under (settled p state) key ≡ settled_rows p (placed_under state key)
under_settled p state (Queue name) = refl
under_settled p state (Own s c) = found_rows (settled_rows p) refl (Own s c) state.stations
under_settled p state (SharedOwn client name) = found_rows (settled_rows p) refl (SharedOwn client name) state.stations
under_settled p state (Durable client name) = found_rows (settled_rows p) refl (Durable client name) state.stations

under_returned : (p : SessionId → ℕ → Bool) (state : State) (key : Key) → placed_under (returned p state) key ≡ returned_rows p (placed_under state key)
under_returned p state (Queue name) = refl
under_returned p state (Own s c) = found_rows (returned_rows p) refl (Own s c) state.stations
under_returned p state (SharedOwn client name) = found_rows (returned_rows p) refl (SharedOwn client name) state.stations
under_returned p state (Durable client name) = found_rows (returned_rows p) refl (Durable client name) state.stations

-- ---- what is settled

row_left : (p : SessionId → ℕ → Bool) (state : State) → StandsInOrder state → (key : Key) (place : ℕ) → stored_row (settled p state) key place ≡ cond (is_lasting key && passes (is_out p) (row_at place (placed_under state key))) None (stored_row state key place)
row_left p state o key place =
    ap (λ rows. if_lasts (is_lasting key) (if_stored (row_at place rows))) (under_settled p state key)
    ∙ ap (λ r. if_lasts (is_lasting key) (if_stored r)) (row_at-filter state.next_place place (λ r. not (is_out p r)) (placed_under state key) (under_in_order state o key))
    ∙ ap (λ r. if_lasts (is_lasting key) r) (left_stored (is_out p) (row_at place (placed_under state key)))
    ∙ go (is_lasting key) (passes (is_out p) (row_at place (placed_under state key)))
  where
    go : (a b : Bool) → if_lasts a (cond b None (if_stored (row_at place (placed_under state key)))) ≡ cond (a && b) None (if_lasts a (if_stored (row_at place (placed_under state key))))
    go true true = refl
    go true false = refl
    go false true = refl
    go false false = refl

pub settle_loses : SettleLoses
settle_loses state p rows delays places o s = loses_gone (out_through p) state (settled p state) rows delays places (λ key. ap (λ d. cond (is_durable key) d None) (definition_kept (settled_rows p) key state.stations)) (row_left p state o) s

-- ---- what is given back

pub returned_stored : (p : SessionId → ℕ → Bool) (place : ℕ) (rows : List PlacedRow) → if_stored (row_at place (returned_rows p rows)) ≡ if_stored (row_at place rows)
returned_stored p place [] = refl
returned_stored p place (x ∷ rows) = go (x.place == place) (returned_stored p place rows)
  where
    same : (b : Bool) → if_stored (Some (cond b (record x.row { state = Waiting }) x.row)) ≡ if_stored (Some x.row)
    same true = refl
    same false = refl

    go : (b : Bool) → if_stored (row_at place (returned_rows p rows)) ≡ if_stored (row_at place rows)
        → if_stored (cond b (Some (given_back p x.row)) (row_at place (returned_rows p rows))) ≡ if_stored (cond b (Some x.row) (row_at place rows))
    go true r = same (is_out p x.row)
    go false r = r

pub return_stores : ReturnStores
return_stores state p = record {
  definitions = λ key. ap (λ d. cond (is_durable key) d None) (definition_kept (returned_rows p) key state.stations);
  rows = λ key place. ap (λ rows. if_lasts (is_lasting key) (if_stored (row_at place rows))) (under_returned p state key) ∙ ap (λ r. if_lasts (is_lasting key) r) (returned_stored p place (placed_under state key));
}
