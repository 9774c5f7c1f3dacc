-- A row is one that a store may have exactly where what it stands for fits.
use Rattle.std.proofs.Common.{◌≡◌, ◌∙◌, ℕ, pos, Bool, true, List, map, find, Option, None, Some, option_map, refl, sym, ap, subst, IsPermutation}
use Rattle.std.specs.Prelude.{◌&&◌, ◌==◌, IsTrue, if◌then◌else◌}
use Rattle.std.specs.List.{list_any}
use Rattle.std.specs.Ordering.{int_eq}
use Rattle.std.proofs.lemmas.Bool.{and_from, and_parts}
use Rattle.sqlite_value.specs.Order.{Row, column}
use Rattle.sqlite_trees.specs.Tree.{Trees}
use Rattle.sqlite_rules.specs.Edit.{id_in}
use Rattle.sqlite_rules.specs.Lists.{Has}
use Rattle.sqlite_rules.proofs.ListLemmas.{has_found, some_from, some_has}
use Rattle.jm_dest.specs.declared.destination.Destination.{Destination}
use Rattle.jm_dest.specs.declared.destination.Destination.TheVariants.{Queue as ToQueue, Topic as ToTopic}
use Rattle.jm_dest.specs.declared.key.Key.{Key}
use Rattle.jm_dest.specs.declared.key.Key.TheVariants.{Queue, Own, SharedOwn, Durable}
use Rattle.jm_dest.specs.Keys.{key_eq}
use Rattle.jm_dest.specs.Names.{text_eq}
use Rattle.jm_header.specs.declared.content.Content.{Content}
use Rattle.jm_header.specs.declared.content.DeliveryMode.{DeliveryMode}
use Rattle.jm_header.specs.declared.content.DeliveryMode.TheVariants.{NonPersistent, Persistent}
use Rattle.jm_header.specs.Headers.{is_delayed}
use Rattle.jm_format.specs.Format as format
use Rattle.jm_format.specs.Messages.{IsMessage, writeable}
use Rattle.jm_machine.specs.declared.state.Definition.{Definition}
use Rattle.jm_machine.specs.Machine.{is_to}
use Rattle.jm_machine.specs.Reopened.{is_durable}
use Rattle.jm_machine.specs.Under.{is_key, is_persistent}
use Rattle.jm_machine.proofs.Keys.{key_refl, key_same, text_same}
use Rattle.jm_parts.specs.Stored as core
use Rattle.jm_selector.specs.Selectors.{matches, selector_read}
use Rattle.jm_tables.specs.Keys.{key_of}
use Rattle.jm_tables.specs.Rows.{definition_in, is_at, is_under, record_at}
use Rattle.jm_tables.specs.Schema.{station_tree, message_tree, held_tree, delayed_tree}
use Rattle.jm_tables.specs.Valid as valid
use Rattle.jm_tables.specs.Valid.{IsStoredDelay, IsStoredHeld, MayHold}
use Rattle.jm_decoding.specs.declared.station.StationRow.{StationRow}
use Rattle.jm_decoding.specs.declared.message.MessageRow.{MessageRow}
use Rattle.jm_decoding.specs.declared.held.HeldRow.{HeldRow}
use Rattle.jm_decoding.specs.declared.delay.DelayRow.{DelayRow}
use Rattle.jm_decoding.specs.Decoded.{IsStationOf, IsMessageOf, IsHeldOf, IsDelayOf}
use Rattle.jm_decoding.specs.Tables.{StandFor}
use Rattle.jm_queries.specs.Shown.{AreHeld, AreMessages, AreStations, delay_shown, held_shown, key_cmp, station_shown}
use Rattle.jm_loading.specs.Fitting.{IsDelayed, IsHeld, IsKept, is_holder, may_hold}
use Rattle.jm_loading.specs.Said.{message_said}
use Rattle.jm_load.proofs.Finding.{found_some, one_alike}
use Rattle.jm_load.proofs.Keys.{key_tied, same_place}
use Rattle.jm_load.proofs.Listed.{any_behind, any_shown, row_behind, row_for, row_shown, value_of}
use Rattle.jm_load.proofs.Messages.{both_delayed, same_message, selected}
use Rattle.jm_load.proofs.Stored.{record_is}

-- ---- who may hold a message

to_queue : (name : List ℕ) (persistent : Bool) (d : Destination) → core.sent_to name persistent d ≡ true → d ≡ ToQueue name
to_queue name persistent (ToQueue queue) h = ap (λ (t : List ℕ). ToQueue t) (text_same queue name (and_parts persistent (text_eq queue name) h).1)
to_queue name persistent (ToTopic topic) h = cc

to_topic : (topic : List ℕ) (d : Destination) → is_to topic d ≡ true → d ≡ ToTopic topic
to_topic topic (ToQueue queue) h = cc
to_topic topic (ToTopic name) h = ap (λ (t : List ℕ). ToTopic t) (sym (text_same topic name h))

-- what may hold a message as a decoded station may hold it as a stored one
under_from : (key : Key) (d : Definition) (m : Content) → may_hold key (if is_durable key then Some d else None) m ≡ true → MayHold (Some key) d m
under_from (Queue name) d m h = to_queue name (is_persistent m.mode) m.destination h
under_from (Own s c) d m h = cc
under_from (SharedOwn client name) d m h = cc
under_from (Durable client name) d m h =
    let first = and_parts (is_persistent m.mode) (is_to d.topic m.destination && matches d.selector m) h in
    let second = and_parts (is_to d.topic m.destination) (matches d.selector m) first.1 in
    (to_topic d.topic m.destination second.0, second.1)

persistent_is : (mode : DeliveryMode) → IsTrue (is_persistent mode) → is_persistent mode ≡ true
persistent_is Persistent h = refl
persistent_is NonPersistent h = cc

text_itself : (t : List ℕ) → text_eq t t ≡ true
text_itself t = key_refl (Queue t)

-- and the other way round, of a message that is PERSISTENT
under_to : (key : Key) (d : Definition) (m n : Content) → m ≡ writeable n → IsTrue (is_persistent m.mode) → MayHold (Some key) d n → may_hold key (if is_durable key then Some d else None) m ≡ true
under_to (Queue name) d m n same mode h =
    let sent : m.destination ≡ ToQueue name = ap (λ (x : Content). x.destination) same ∙ h in
    ap (core.sent_to name (is_persistent m.mode)) sent ∙ and_from _ _ (persistent_is m.mode mode) (text_itself name)
under_to (Own s c) d m n same mode h = absurd h
under_to (SharedOwn client name) d m n same mode h = absurd h
under_to (Durable client name) d m n same mode h =
    let sent : m.destination ≡ ToTopic d.topic = ap (λ (x : Content). x.destination) same ∙ h.0 in
    let there : is_to d.topic m.destination ≡ true = ap (is_to d.topic) sent ∙ text_itself d.topic in
    let chosen : matches d.selector m ≡ true = ap (matches d.selector) same ∙ selected (selector_read d.selector) n ∙ h.1 in
    and_from _ _ (persistent_is m.mode mode) (and_from _ _ there chosen)

same_number : (a b : ℕ) → pos a ≡ pos b → a ≡ b
same_number a b h = cc

same_key : (a b : Key) → Some a ≡ Some b → a ≡ b
same_key a b h = cc

-- a key is itself alone
is_that : (key k : Key) → is_key key (Some k) ≡ true → k ≡ key
is_that key k h = key_same k key h

-- ---- the tables and what they stand for

-- what is looked up as a record is the record of the message that is looked up
message_there : (place : ℕ) (of : List ℕ) (ms : List MessageRow) → option_map (λ (m : MessageRow). format.record m.message) (message_said place ms) ≡ Some of → (m : MessageRow) × (message_said place ms ≡ Some m) × (format.record m.message ≡ of)
message_there place of ms h = go (message_said place ms) refl
  where
    go : (o : Option MessageRow) → message_said place ms ≡ o → (m : MessageRow) × (message_said place ms ≡ Some m) × (format.record m.message ≡ of)
    go None e = absurd (let no = ap (option_map (λ (m : MessageRow). format.record m.message)) (sym e) ∙ h in cc)
    go (Some m) e = (m, e, (let is = ap (option_map (λ (m : MessageRow). format.record m.message)) (sym e) ∙ h in cc))

module _ (db : Trees) (srows mrows : List Row) (ss : List StationRow) (ms : List MessageRow) (are_s : AreStations db srows) (are_m : AreMessages db mrows) (stand_s : StandFor IsStationOf srows ss) (stand_m : StandFor IsMessageOf mrows ms) where
  -- the message of a row, by its place
  stored_message : (place : ℕ) (m : MessageRow) → message_said place ms ≡ Some m → (r : Row) × Has mrows r × IsMessageOf r m
  stored_message place m e = row_for IsMessageOf mrows ms m stand_m (has_found (λ (x : MessageRow). x.place == place) ms m e).0

  -- a record that stands at a place is that of the message there
  pub record_stands : (place : ℕ) (of : List ℕ) → record_at place (db message_tree) ≡ Some of → (m : MessageRow) × (message_said place ms ≡ Some m) × (format.record m.message ≡ of)
  record_stands place of h = message_there place of ms (record_is db place mrows ms are_m stand_m ∙ h)

  -- and its message is that of which it is the record
  pub message_stands : (place : ℕ) (n : Content) (m : MessageRow) → message_said place ms ≡ Some m → IsMessage n → format.record m.message ≡ format.record n → m.message ≡ writeable n
  message_stands place n m e is same = let row = stored_message place m e in same_message m.message n row.2.record_is.message row.2.fresh is same

  -- ---- held

  -- two stations of one key ask for the same
  one_station : (key : Key) (a b : Row) → Has (db station_tree) a → Has (db station_tree) b → is_under key a ≡ true → is_under key b ≡ true → definition_in a ≡ definition_in b
  one_station key a b h k e f =
      ap definition_in (one_alike key_cmp srows are_s.rise (station_shown a) (station_shown b) (row_shown station_shown (db station_tree) srows are_s.same a h) (row_shown station_shown (db station_tree) srows are_s.same b k)
      (key_tied key (station_shown a) (station_shown b) e f) (key_tied key (station_shown b) (station_shown a) f e))

  -- the station of a key, which may hold the message
  holding : (key : Key) (m : Content) → list_any (is_holder key m) ss ≡ true → (station : Row) × (find (is_under key) (db station_tree) ≡ Some station) × MayHold (Some key) (definition_in station) m
  holding key m h =
      let s = some_has (is_holder key m) ss h in
      let tests = and_parts (key_eq s.0.key key) (may_hold s.0.key s.0.definition m) s.2 in
      let row = row_for IsStationOf srows ss s.0 stand_s s.1 in
      let behind = row_behind station_shown (db station_tree) srows are_s.same row.0 row.1 in
      let named : s.0.key ≡ key = key_same s.0.key key tests.0 in
      let under : is_under key behind.0 ≡ true = ap (λ (r : Row). is_key key (key_of r)) (sym behind.2) ∙ ap (is_key key) row.2.key_is ∙ tests.0 in
      let found = found_some (is_under key) (db station_tree) behind.0 behind.1 under in
      let there = has_found (is_under key) (db station_tree) found.0 found.1 in
      let asked : definition_in row.0 ≡ definition_in found.0 = ap definition_in behind.2 ∙ one_station key behind.0 found.0 behind.1 there.0 under there.1 in
      let may : may_hold s.0.key (if is_durable s.0.key then Some (definition_in row.0) else None) m ≡ true = ap (λ (d : Option Definition). may_hold s.0.key d m) (sym row.2.definition_is) ∙ tests.1 in
      let held : may_hold key (if is_durable key then Some (definition_in row.0) else None) m ≡ true = subst (λ (k : Key). may_hold k (if is_durable k then Some (definition_in row.0) else None) m ≡ true) named may in
      (found.0, found.1, under_from key (definition_in found.0) m (subst (λ (d : Definition). may_hold key (if is_durable key then Some d else None) m ≡ true) asked held))

  pub held_from : (r : Row) (h : HeldRow) → IsHeldOf r h → IsHeld ss ms h → IsStoredHeld db r
  held_from r h is fits =
      let row = stored_message h.place fits.message fits.message_is in
      let station = holding h.key fits.message.message fits.holder in
      record {
        place = h.place;
        place_is = is.place_is;
        count = h.count;
        count_is = is.count_is;
        count_within = fits.counted;
        key = h.key;
        key_is = is.key_is;
        station = station.0;
        station_is = station.1;
        message = fits.message.message;
        message_is = sym (record_is db h.place mrows ms are_m stand_m) ∙ ap (option_map (λ (m : MessageRow). format.record m.message)) fits.message_is;
        is_message = row.2.record_is.message;
        may_hold = station.2;
      }

  pub held_to : (r : Row) (h : HeldRow) → IsHeldOf r h → IsStoredHeld db r → IsHeld ss ms h
  held_to r h is st =
      let place : st.place ≡ h.place = same_number st.place h.place (sym st.place_is ∙ is.place_is) in
      let named : st.key ≡ h.key = same_key st.key h.key (sym st.key_is ∙ is.key_is) in
      let there = record_stands h.place (format.record st.message) (ap (λ (p : ℕ). record_at p (db message_tree)) (sym place) ∙ st.message_is) in
      let row = stored_message h.place there.0 there.1 in
      let same = message_stands h.place st.message there.0 there.1 st.is_message there.2 in
      let found = has_found (is_under st.key) (db station_tree) st.station st.station_is in
      let s = value_of IsStationOf srows ss (station_shown st.station) stand_s (row_shown station_shown (db station_tree) srows are_s.same st.station found.0) in
      let own : s.0.key ≡ h.key = is_that st.key s.0.key (ap (is_key st.key) (sym s.2.key_is) ∙ found.1) ∙ named in
      let may : may_hold h.key (if is_durable h.key then Some (definition_in st.station) else None) there.0.message ≡ true =
      under_to h.key (definition_in st.station) there.0.message st.message same row.2.record_is.persistent (subst (λ (k : Key). MayHold (Some k) (definition_in st.station) st.message) named st.may_hold) in
      let holds : may_hold s.0.key s.0.definition there.0.message ≡ true =
      ap (λ (d : Option Definition). may_hold s.0.key d there.0.message) s.2.definition_is
      ∙ subst (λ (k : Key). may_hold k (if is_durable k then Some (definition_in st.station) else None) there.0.message ≡ true) (sym own) may in
      record {
        message = there.0;
        message_is = there.1;
        holder = some_from (is_holder h.key there.0.message) ss s.0 s.1 (and_from _ _ (ap (λ (k : Key). key_eq k h.key) own ∙ key_refl h.key) holds);
        counted = is.count_within;
      }

  -- ---- delayed

  pub delay_from : (r : Row) (d : DelayRow) → IsDelayOf r d → IsDelayed ms d → IsStoredDelay db r
  delay_from r d is fits =
      let row = stored_message d.place fits.message fits.message_is in
      record {
        place = d.place;
        place_is = is.place_is;
        message = fits.message.message;
        message_is = sym (record_is db d.place mrows ms are_m stand_m) ∙ ap (option_map (λ (m : MessageRow). format.record m.message)) fits.message_is;
        is_message = row.2.record_is.message;
        is_delayed = fits.due.delayed;
        due_is = is.due_is ∙ ap pos (sym fits.due.due_is);
      }

  pub delay_to : (r : Row) (d : DelayRow) → IsDelayOf r d → IsStoredDelay db r → IsDelayed ms d
  delay_to r d is st =
      let place : st.place ≡ d.place = same_number st.place d.place (sym st.place_is ∙ is.place_is) in
      let there = record_stands d.place (format.record st.message) (ap (λ (p : ℕ). record_at p (db message_tree)) (sym place) ∙ st.message_is) in
      let same = message_stands d.place st.message there.0 there.1 st.is_message there.2 in
      let due : st.message.delivery_time ≡ d.due = same_number st.message.delivery_time d.due (sym st.due_is ∙ is.due_is) in
      record {
        message = there.0;
        message_is = there.1;
        due = record { delayed = ap is_delayed same ∙ st.is_delayed; due_is = ap (λ (x : Content). x.delivery_time) same ∙ due };
      }

-- ---- what no message may lack

module _ (db : Trees) (hrows drows : List Row) (hs : List HeldRow) (ds : List DelayRow) (are_h : AreHeld db hrows) (are_d : IsPermutation (map delay_shown (db delayed_tree)) drows) (stand_h : StandFor IsHeldOf hrows hs) (stand_d : StandFor IsDelayOf drows ds) where
  held_test : (place : ℕ) (r : Row) (h : HeldRow) → IsHeldOf r h → int_eq (id_in (column r 4)) (pos place) ≡ (h.place == place)
  held_test place r h is = ap (λ n. int_eq n (pos place)) is.place_is ∙ same_place h.place place

  delay_test : (place : ℕ) (r : Row) (d : DelayRow) → IsDelayOf r d → is_at place r ≡ (d.place == place)
  delay_test place r d is = ap (λ n. int_eq n (pos place)) is.place_is ∙ same_place d.place place

  pub kept_from : (r : Row) (m : MessageRow) → IsMessageOf r m → IsKept hs ds m → valid.IsKept db r
  kept_from r m is kept = record {
    place = m.place;
    place_is = is.place_is;
    held = any_behind IsHeldOf held_shown (db held_tree) hrows hs are_h.same stand_h (λ q. int_eq (id_in (column q 4)) (pos m.place)) (λ h. h.place == m.place) (held_test m.place) (λ q. refl) kept.by_somebody;
    delayed = λ n is_record late. any_behind IsDelayOf delay_shown (db delayed_tree) drows ds are_d stand_d (is_at m.place) (λ d. d.place == m.place) (delay_test m.place) (λ q. refl)
        (kept.delayed (both_delayed m.message n (sym is.record_is.record_is ∙ is_record) ∙ late));
  }

  pub kept_to : (r : Row) (m : MessageRow) → IsMessageOf r m → valid.IsKept db r → IsKept hs ds m
  kept_to r m is kept =
      let place : kept.place ≡ m.place = same_number kept.place m.place (sym kept.place_is ∙ is.place_is) in
      record {
        by_somebody = any_shown IsHeldOf held_shown (db held_tree) hrows hs are_h.same stand_h (λ q. int_eq (id_in (column q 4)) (pos m.place)) (λ h. h.place == m.place) (held_test m.place) (λ q. refl)
            (subst (λ (p : ℕ). IsTrue (valid.is_held_at p (db held_tree))) place kept.held);
        delayed = λ late. any_shown IsDelayOf delay_shown (db delayed_tree) drows ds are_d stand_d (is_at m.place) (λ d. d.place == m.place) (delay_test m.place) (λ q. refl)
            (subst (λ (p : ℕ). IsTrue (list_any (is_at p) (db delayed_tree))) place (kept.delayed m.message is.record_is.record_is late));
      }
