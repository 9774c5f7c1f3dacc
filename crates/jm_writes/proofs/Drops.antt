-- What a statement that drops rows does to what is stored.
use Rattle.std.proofs.Common.{◌≡◌, ℕ, ℤ, pos, Bool, true, false, not, cond, List, [], ◌∷◌, filter, Option, Some, None, option_map, Ok, Err, Result, OnOk, IfOk, refl, ap, ◌∙◌, codes, eqb}
use Rattle.sqlite_value.specs.declared.value.Value.TheVariants.{Int, Text}
use Rattle.sqlite_value.specs.Order.{Row, column, bytes}
use Rattle.sqlite.specs.declared.error.Error.{Error}
use Rattle.sqlite.specs.State.{State, ExecutesInside}
use Rattle.sqlite_trees.proofs.ListLemmas.{filter_same}
use Rattle.sqlite_rules.specs.Edit.{id_in}
use Rattle.sqlite_rules.specs.Lists.{Has}
use Rattle.sqlite_rules.proofs.ListLemmas.{all_from}
use Rattle.jm_dest.specs.declared.key.Key.{Key}
use Rattle.jm_dest.specs.Keys.{key_eq}
use Rattle.jm_machine.specs.Reopened.{is_durable}
use Rattle.jm_keep.specs.Stored as stored
use Rattle.jm_keep.specs.declared.change.RowChange.TheVariants.{DropHeld, DropMessage, DropStation, DropDelay}
use Rattle.jm_tables.specs.Schema.{station, message, held, delayed, station_tree, message_tree, held_tree, delayed_tree}
use Rattle.jm_tables.specs.Rows.{number_in, definition_in, is_under, is_under_at, is_at, definition_under, count_under, record_at, due_at}
use Rattle.jm_tables.specs.Sound.{Serves}
use Rattle.jm_writes.specs.Columns.{family_of, client_of, name_of}
use Rattle.jm_writes.specs.Own.{IsDelayRow, IsHeldRow, IsMessageRow, IsStationRow}
use Rattle.jm_writes.specs.Steps.{Steps}
use Rattle.jm_writes.proofs.Edits.{Leaves, deletes, hits}
use Rattle.jm_writes.proofs.Found.{find_left, at_other}
use Rattle.jm_writes.proofs.Hits.{hit_key, hit_held, hit_place, under_other, under_at_other}
use Rattle.jm_writes.proofs.Own.{all_fewer, own_delayed, own_held, own_messages, own_stations}
use Rattle.jm_writes.proofs.Said.{by_key, by_key_and_place, by_place, drop_held_text, drop_held_is, drop_held_plain, drop_message_text, drop_message_is, drop_message_plain, drop_station_text, drop_station_is, drop_station_plain, drop_delay_text, drop_delay_is, drop_delay_plain}
use Rattle.jm_writes.proofs.Serving.{fewer, numbered_row, station_row, held_row, step, station_bare, message_bare, held_bare, delayed_bare}

same_left : (hit p : Row → Bool) (rows : List Row) → ((r : Row) → Has rows r → hit r ≡ p r) → filter (λ r. not (hit r)) rows ≡ filter (λ r. not (p r)) rows
same_left hit p rows same = filter_same (λ r. not (hit r)) (λ r. not (p r)) rows (all_from (λ r. not (hit r) ≡ not (p r)) rows (λ r h. ap not (same r h)))

-- where a table is left with fewer rows
left_with : (old new : State) (tree : ℕ) (hit p : Row → Bool) → Leaves old new tree (filter (λ r. not (hit r)) (old.now.trees tree)) → ((r : Row) → Has (old.now.trees tree) r → hit r ≡ p r)
    → Leaves old new tree (filter (λ r. not (p r)) (old.now.trees tree))
left_with old new tree hit p l same = record { rows_are = l.rows_are ∙ same_left hit p (old.now.trees tree) same; others = l.others; schema_is = l.schema_is; sound = l.sound }

map_left : {X Y : Type 0} (f : X → Y) (b : Bool) (o : Option X) → option_map f (cond b None o) ≡ cond b None (option_map f o)
map_left {X} {Y} f b o = elim b as (λ c. ◌≡◌ {A = Option Y} (option_map f (cond c None o)) (cond c None (option_map f o))) [ true ↦ refl | false ↦ refl ]

under_left : {X Y : Type 0} (f : X → Y) (d b : Bool) (o : Option X) → cond d (option_map f (cond b None o)) None ≡ cond b None (cond d (option_map f o) None)
under_left f true b o = map_left f b o
under_left {X} {Y} f false b o = elim b as (λ c. ◌≡◌ {A = Option Y} None (cond c None None)) [ true ↦ refl | false ↦ refl ]

pub drop_held_on : (old new : State) (key : Key) (family : ℤ) (place : ℕ) (r : Result ℕ Error) → family_of key ≡ Some family → Serves old.now
    → IfOk r (λ count. ExecutesInside 0 drop_held_text (Int family ∷ Text (client_of key) ∷ Text (name_of key) ∷ Int (pos place) ∷ []) old new (Ok count)) → OnOk r (Steps old new (DropHeld key place))
drop_held_on old new key family place (Err e) stands s h = tt
drop_held_on old new key family place (Ok count) stands s h =
    let params = Int family ∷ Text (client_of key) ∷ Text (name_of key) ∷ Int (pos place) ∷ [] in
    let rows = old.now.trees held_tree in
    let gone = deletes (codes "held") held_tree held.columns held.key held.primary held.uniques held.checks held.references drop_held_text 3 refl drop_held_plain old new params count s.schema_is h.0
    by_key_and_place drop_held_is refl (λ olds. refl) s.held.rise s.held.numbered in
    let l = left_with old new held_tree (hits by_key_and_place params) (is_under_at key place) gone (λ r k. hit_held key family stands [] r place (held_row old.now s r k)) in
    step old new held_tree (filter (λ r. not (is_under_at key place r)) rows) l (DropHeld key place) s (fewer _ rows s.held) h.1 (λ e. cc)
    (λ k. ap (definition_under k) (l.others station_tree (λ e. cc) station_bare))
    (λ k p. ap (count_under k p) l.rows_are ∙ ap (option_map (λ r. number_in (id_in (column r 5)))) (find_left (is_under_at k p) (is_under_at key place) (stored.is_at key place k p) (under_at_other k key p place) rows) ∙ map_left _ (stored.is_at key place k p) _)
    (λ p. ap (record_at p) (l.others message_tree (λ e. cc) message_bare))
    (λ p. ap (due_at p) (l.others delayed_tree (λ e. cc) delayed_bare))
    (own_held old new (filter (λ r. not (is_under_at key place r)) rows) l (all_fewer IsHeldRow (λ r. not (is_under_at key place r)) rows))

pub drop_message_on : (old new : State) (place : ℕ) (r : Result ℕ Error) → Serves old.now → IfOk r (λ count. ExecutesInside 0 drop_message_text (Int (pos place) ∷ []) old new (Ok count)) → OnOk r (Steps old new (DropMessage place))
drop_message_on old new place (Err e) s h = tt
drop_message_on old new place (Ok count) s h =
    let params = Int (pos place) ∷ [] in
    let rows = old.now.trees message_tree in
    let gone = deletes (codes "message") message_tree message.columns message.key message.primary message.uniques message.checks message.references drop_message_text 2 refl drop_message_plain old new params count s.schema_is h.0
    by_place drop_message_is refl (λ olds. refl) s.messages.rise s.messages.numbered in
    let l = left_with old new message_tree (hits by_place params) (is_at place) gone (λ r k. hit_place place r (numbered_row rows s.messages r k)) in
    step old new message_tree (filter (λ r. not (is_at place r)) rows) l (DropMessage place) s (fewer _ rows s.messages) h.1 (λ e. cc)
    (λ k. ap (definition_under k) (l.others station_tree (λ e. cc) station_bare))
    (λ k p. ap (count_under k p) (l.others held_tree (λ e. cc) held_bare))
    (λ p. ap (record_at p) l.rows_are ∙ ap (option_map (λ r. bytes (column r 2))) (find_left (is_at p) (is_at place) (eqb place p) (at_other p place) rows) ∙ map_left _ (eqb place p) _)
    (λ p. ap (due_at p) (l.others delayed_tree (λ e. cc) delayed_bare))
    (own_messages old new (filter (λ r. not (is_at place r)) rows) l (all_fewer IsMessageRow (λ r. not (is_at place r)) rows))

pub drop_delay_on : (old new : State) (place : ℕ) (r : Result ℕ Error) → Serves old.now → IfOk r (λ count. ExecutesInside 0 drop_delay_text (Int (pos place) ∷ []) old new (Ok count)) → OnOk r (Steps old new (DropDelay place))
drop_delay_on old new place (Err e) s h = tt
drop_delay_on old new place (Ok count) s h =
    let params = Int (pos place) ∷ [] in
    let rows = old.now.trees delayed_tree in
    let gone = deletes (codes "delayed") delayed_tree delayed.columns delayed.key delayed.primary delayed.uniques delayed.checks delayed.references drop_delay_text 4 refl drop_delay_plain old new params count s.schema_is h.0
    by_place drop_delay_is refl (λ olds. refl) s.delayed.rise s.delayed.numbered in
    let l = left_with old new delayed_tree (hits by_place params) (is_at place) gone (λ r k. hit_place place r (numbered_row rows s.delayed r k)) in
    step old new delayed_tree (filter (λ r. not (is_at place r)) rows) l (DropDelay place) s (fewer _ rows s.delayed) h.1 (λ e. cc)
    (λ k. ap (definition_under k) (l.others station_tree (λ e. cc) station_bare))
    (λ k p. ap (count_under k p) (l.others held_tree (λ e. cc) held_bare))
    (λ p. ap (record_at p) (l.others message_tree (λ e. cc) message_bare))
    (λ p. ap (due_at p) l.rows_are ∙ ap (option_map (λ r. number_in (id_in (column r 2)))) (find_left (is_at p) (is_at place) (eqb place p) (at_other p place) rows) ∙ map_left _ (eqb place p) _)
    (own_delayed old new (filter (λ r. not (is_at place r)) rows) l (all_fewer IsDelayRow (λ r. not (is_at place r)) rows))

pub drop_station_on : (old new : State) (key : Key) (family : ℤ) (r : Result ℕ Error) → family_of key ≡ Some family → Serves old.now
    → IfOk r (λ count. ExecutesInside 0 drop_station_text (Int family ∷ Text (client_of key) ∷ Text (name_of key) ∷ []) old new (Ok count)) → OnOk r (Steps old new (DropStation key))
drop_station_on old new key family (Err e) stands s h = tt
drop_station_on old new key family (Ok count) stands s h =
    let params = Int family ∷ Text (client_of key) ∷ Text (name_of key) ∷ [] in
    let rows = old.now.trees station_tree in
    let gone = deletes (codes "station") station_tree station.columns station.key station.primary station.uniques station.checks station.references drop_station_text 1 refl drop_station_plain old new params count s.schema_is h.0
    by_key drop_station_is refl (λ olds. refl) s.stations.rise s.stations.numbered in
    let l = left_with old new station_tree (hits by_key params) (is_under key) gone (λ r k. hit_key key family stands [] r (station_row old.now s r k)) in
    step old new station_tree (filter (λ r. not (is_under key r)) rows) l (DropStation key) s (fewer _ rows s.stations) h.1 (λ e. cc)
    (λ k. ap (definition_under k) l.rows_are ∙ ap (λ o. cond (is_durable k) (option_map definition_in o) None) (find_left (is_under k) (is_under key) (key_eq key k) (under_other k key) rows) ∙ under_left definition_in (is_durable k) (key_eq key k) _)
    (λ k p. ap (count_under k p) (l.others held_tree (λ e. cc) held_bare))
    (λ p. ap (record_at p) (l.others message_tree (λ e. cc) message_bare))
    (λ p. ap (due_at p) (l.others delayed_tree (λ e. cc) delayed_bare))
    (own_stations old new (filter (λ r. not (is_under key r)) rows) l (all_fewer IsStationRow (λ r. not (is_under key r)) rows))
