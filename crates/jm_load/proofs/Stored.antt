-- What the decoded rows say is what the tables hold.
use Rattle.std.proofs.Common.{◌≡◌, ℕ, pos, Bool, true, false, cond, ◌&&◌, List, [], ◌∷◌, map, find, Option, Some, None, option_map, refl, sym, ap, ap₂, ◌∙◌}
use Rattle.std.specs.Prelude.{◌==◌}
use Rattle.std.specs.Ordering.{int_eq}
use Rattle.sqlite_value.specs.Order.{Row, bytes, column}
use Rattle.sqlite_trees.specs.Tree.{Trees}
use Rattle.sqlite_rules.specs.Edit.{id_in}
use Rattle.jm_dest.specs.declared.key.Key.{Key}
use Rattle.jm_dest.specs.Keys.{key_eq}
use Rattle.jm_format.specs.Format as format
use Rattle.jm_machine.specs.declared.state.Definition.{Definition}
use Rattle.jm_machine.specs.Reopened.{is_durable}
use Rattle.jm_machine.specs.Under.{is_key}
use Rattle.jm_machine.proofs.Keys.{key_same}
use Rattle.jm_tables.specs.Rows.{count_under, definition_in, definition_under, due_at, is_at, is_under, is_under_at, number_in, record_at}
use Rattle.jm_tables.specs.Schema.{station_tree, message_tree, held_tree, delayed_tree}
use Rattle.jm_decoding.specs.declared.station.StationRow.{StationRow}
use Rattle.jm_decoding.specs.declared.message.MessageRow.{MessageRow}
use Rattle.jm_decoding.specs.declared.held.HeldRow.{HeldRow}
use Rattle.jm_decoding.specs.declared.delay.DelayRow.{DelayRow}
use Rattle.jm_decoding.specs.Decoded.{IsStationOf, IsMessageOf, IsHeldOf, IsDelayOf}
use Rattle.jm_decoding.specs.Tables.{StandFor}
use Rattle.jm_queries.specs.Shown.{AreStations, AreMessages, AreHeld, AreDelays, delay_shown, held_cmp, held_shown, key_cmp, message_shown, station_shown}
use Rattle.jm_loading.specs.Said.{count_said, definition_said, due_said, is_held_at, message_said}
use Rattle.jm_load.proofs.Finding.{find_moved, find_shown, one_alike}
use Rattle.jm_load.proofs.Keys.{held_tied, key_tied, same_place}
use Rattle.jm_load.proofs.Standing.{look_up}

-- ---- station

nothing_asked : (b : Bool) → ◌≡◌ {A = Option Definition} None (cond b None None)
nothing_asked true = refl
nothing_asked false = refl

definitions : (key : Key) (rows : List Row) (stations : List StationRow) → StandFor IsStationOf rows stations → definition_said key stations ≡ definition_under key rows
definitions key [] [] h = nothing_asked (is_durable key)
definitions key [] (s ∷ stations) h = absurd h
definitions key (r ∷ rows) [] h = absurd h
definitions key (r ∷ rows) (s ∷ stations) h =
    let under : is_under key r ≡ key_eq s.key key = ap (is_key key) h.0.key_is in
    ap (λ b. cond b s.definition (definition_said key stations)) (sym under)
    ∙ elim (is_under key r) as (λ b. key_eq s.key key ≡ b → cond b s.definition (definition_said key stations) ≡ cond (is_durable key) (option_map definition_in (cond b (Some r) (find (is_under key) rows))) None) [
      | true ↦ λ e. h.0.definition_is ∙ ap (λ k. cond (is_durable k) (Some (definition_in r)) None) (key_same s.key key e)
      | false ↦ λ e. definitions key rows stations h.1
    ] (sym under)

station_alike : (o : Option Row) → option_map definition_in (option_map station_shown o) ≡ option_map definition_in o
station_alike None = refl
station_alike (Some r) = refl

pub definition_is : (db : Trees) (key : Key) (rows : List Row) (stations : List StationRow) → AreStations db rows → StandFor IsStationOf rows stations → definition_said key stations ≡ definition_under key (db station_tree)
definition_is db key rows stations are stand =
    let all = map station_shown (db station_tree) in
    let moved = find_moved (is_under key) all rows are.same (λ a b h k p q. one_alike key_cmp rows are.rise a b h k (key_tied key a b p q) (key_tied key b a q p)) in
    definitions key rows stations stand
    ∙ ap (λ o. cond (is_durable key) (option_map definition_in o) None) (moved ∙ find_shown (is_under key) (is_under key) station_shown (λ r. refl) (db station_tree))
    ∙ ap (λ o. cond (is_durable key) o None) (station_alike (find (is_under key) (db station_tree)))

-- ---- held

abbrev count_in : Row → ℕ
count_in r = number_in (id_in (column r 5))

held_alike : (o : Option Row) → option_map count_in (option_map held_shown o) ≡ option_map count_in o
held_alike None = refl
held_alike (Some r) = refl

held_found : (key : Key) (place : ℕ) (r : Row) (h : HeldRow) → IsHeldOf r h → is_under_at key place r ≡ is_held_at key place h
held_found key place r h is = ap₂ ◌&&◌ (ap (is_key key) is.key_is) (ap (λ n. int_eq n (pos place)) is.place_is ∙ same_place h.place place)

pub count_is : (db : Trees) (key : Key) (place : ℕ) (rows : List Row) (held : List HeldRow) → AreHeld db rows → StandFor IsHeldOf rows held → count_said key place held ≡ count_under key place (db held_tree)
count_is db key place rows held are stand =
    let all = map held_shown (db held_tree) in
    let p = is_under_at key place in
    let moved = find_moved p all rows are.same (λ a b h k x y. one_alike held_cmp rows are.rise a b h k (held_tied key place a b x y) (held_tied key place b a y x)) in
    look_up IsHeldOf p (is_held_at key place) count_in (λ (h : HeldRow). h.count) (held_found key place) (λ r h is. ap number_in is.count_is) rows held stand
    ∙ ap (option_map count_in) (moved ∙ find_shown p p held_shown (λ r. refl) (db held_tree))
    ∙ held_alike (find p (db held_tree))

-- ---- message

abbrev record_in : Row → List ℕ
record_in r = bytes (column r 2)

message_alike : (o : Option Row) → option_map record_in (option_map message_shown o) ≡ option_map record_in o
message_alike None = refl
message_alike (Some r) = refl

pub record_is : (db : Trees) (place : ℕ) (rows : List Row) (messages : List MessageRow) → AreMessages db rows → StandFor IsMessageOf rows messages → option_map (λ (m : MessageRow). format.record m.message) (message_said place messages) ≡ record_at place (db message_tree)
record_is db place rows messages are stand =
    look_up IsMessageOf (is_at place) (λ (m : MessageRow). m.place == place) record_in (λ (m : MessageRow). format.record m.message) (λ r m is. ap (λ n. int_eq n (pos place)) is.place_is ∙ same_place m.place place) (λ r m is. is.record_is.record_is) rows messages stand
    ∙ ap (λ (xs : List Row). option_map record_in (find (is_at place) xs)) are
    ∙ ap (option_map record_in) (find_shown (is_at place) (is_at place) message_shown (λ r. refl) (db message_tree))
    ∙ message_alike (find (is_at place) (db message_tree))

-- ---- delayed

abbrev due_in : Row → ℕ
due_in r = number_in (id_in (column r 2))

delay_alike : (o : Option Row) → option_map due_in (option_map delay_shown o) ≡ option_map due_in o
delay_alike None = refl
delay_alike (Some r) = refl

pub due_is : (db : Trees) (place : ℕ) (rows : List Row) (delays : List DelayRow) → AreDelays db rows → StandFor IsDelayOf rows delays → due_said place delays ≡ due_at place (db delayed_tree)
due_is db place rows delays are stand =
    look_up IsDelayOf (is_at place) (λ (d : DelayRow). d.place == place) due_in (λ (d : DelayRow). d.due) (λ r d is. ap (λ n. int_eq n (pos place)) is.place_is ∙ same_place d.place place) (λ r d is. ap number_in is.due_is) rows delays stand
    ∙ ap (λ (xs : List Row). option_map due_in (find (is_at place) xs)) are
    ∙ ap (option_map due_in) (find_shown (is_at place) (is_at place) delay_shown (λ r. refl) (db delayed_tree))
    ∙ delay_alike (find (is_at place) (db delayed_tree))
