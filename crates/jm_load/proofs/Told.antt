-- The fault that is told is the first of the database.
use Rattle.std.proofs.Common.{◌≡◌, ◌∙◌, ◌+◌, ◌⊎◌, ℕ, ℤ, inl, inr, List, [], map, take, length, Option, None, Some, Result, Ok, Err, IfErr, refl, sym, ap, subst, arith, IsPermutation}
use Rattle.std.specs.Prelude.{if◌then◌else◌}
use Rattle.std.specs.List.{AllByRecursion}
use Rattle.std.specs.List.Sorted.{IsStrictlySortedBy}
use Rattle.std.proofs.lemmas.List.Sorted.{IsPermutation-refl}
use Rattle.sqlite_value.specs.Order.{Row, column, bytes}
use Rattle.sqlite.specs.Effect.{Database}
use Rattle.sqlite_trees.specs.Tree.{Trees}
use Rattle.sqlite_rules.specs.Edit.{id_in}
use Rattle.sqlite_rules.specs.Lists.{Has}
use Rattle.jm_dest.specs.declared.key.Key.{Key}
use Rattle.jm_dest.specs.declared.key.Key.TheVariants.{Queue, Own, SharedOwn, Durable}
use Rattle.jm_machine.specs.declared.state.Definition.{Definition}
use Rattle.jm_machine.specs.Reopened.{is_durable}
use Rattle.jm_tables.specs.Keys.{key_in}
use Rattle.jm_tables.specs.Rows.{definition_in}
use Rattle.jm_tables.specs.Schema.{station_tree, message_tree, held_tree, delayed_tree}
use Rattle.jm_tables.specs.Sound.{Serves}
use Rattle.jm_tables.specs.Valid as valid
use Rattle.jm_tables.specs.Valid.{IsStoredDelay, IsStoredHeld, IsStoredMessage}
use Rattle.jm_opening.specs.declared.judged.OpenFault.{OpenFault}
use Rattle.jm_opening.specs.declared.judged.OpenFault.TheVariants.{Damaged, WrongVersion, Exhausted, Memory, Store}
use Rattle.jm_opening.specs.declared.judged.TableName.TheVariants.{Meta, Station, Message, Held, Delayed}
use Rattle.jm_decoding.specs.declared.station.StationRow.{StationRow}
use Rattle.jm_decoding.specs.declared.message.MessageRow.{MessageRow}
use Rattle.jm_decoding.specs.declared.held.HeldRow.{HeldRow}
use Rattle.jm_decoding.specs.declared.delay.DelayRow.{DelayRow}
use Rattle.jm_decoding.specs.Decoded.{IsStationOf, IsMessageOf, IsHeldOf, IsDelayOf}
use Rattle.jm_decoding.specs.Readable.{IsCountIn, IsNaturalIn, IsReadableStation, IsReadableMessage, IsReadableHeld, IsReadableDelay}
use Rattle.jm_decoding.specs.Tables.{IsFirstDamaged, StandFor}
use Rattle.jm_queries.specs.Shown.{AreDelays, AreHeld, AreMessages, AreStations, delay_shown, held_shown, message_shown, station_shown}
use Rattle.jm_queries.specs.Shown as shown
use Rattle.jm_loading.specs.Fitting.{FitDelays, FitHeld, FitMessages, FitStations, IsDelayed, IsHeld, IsKept, IsPlaced, IsFirstFault, delay_cmp, held_cmp, message_cmp, station_cmp}
use Rattle.jm_loading.specs.Fitting as fitting
use Rattle.jm_loading.specs.Stations.{IsKnown, IsKnownAs}
use Rattle.jm_loading.specs.Unfit.{IsFirstUnfit}
use Rattle.jm_loading.proofs.Unfit.{fewer}
use Rattle.jm_load.specs.declared.reading.TableRows.{TableRows}
use Rattle.jm_load.specs.Faults.{AreAllDelays, AreAllHeld, AreAllMessages, AreAllStations, AreReadRows, IsFaultOf, IsFirstOf, IsStation, IsWhole}
use Rattle.jm_load.specs.Loaded.{AreDecodedTo, AreRowsOf, IsFirstLater, IsUndecoded, IsUnmade}
use Rattle.jm_load.proofs.Agreed.{delay_from, delay_to, held_from, held_to, kept_from, kept_to}
use Rattle.jm_load.proofs.Keys.{columns_of}
use Rattle.jm_load.proofs.Readable.{delay_readable, held_readable, message_readable, station_readable}
use Rattle.jm_load.proofs.Listed.{all_as, all_behind, all_fit, all_may, all_shown, all_stand, first_as, first_behind, first_in_front, first_may, first_unfit_row, none_damaged, rise_front, row_behind, values_rise}
use Rattle.jm_load.proofs.Rising.{delay_rule, held_rule, message_rule, rowid_cmp, shown_rise, station_rule}

-- ---- what was decoded of a row may stand

-- a key that columns stand for is that of a queue, or of a durable subscription
known_key : (key : Key) (d : Definition) (f : ℤ) (c n : List ℕ) → key_in f c n ≡ Some key → IsKnownAs key (if is_durable key then Some d else None)
known_key (Queue name) d f c n h = tt
known_key (Own s e) d f c n h = absurd (let x = columns_of f c n (Own s e) h in let no : ◌≡◌ {A = Option Key} None (Some (Own s e)) = ap (λ z. key_in z c n) (sym x.family_is) ∙ h in cc)
known_key (SharedOwn client name) d f c n h = absurd (let x = columns_of f c n (SharedOwn client name) h in let no : ◌≡◌ {A = Option Key} None (Some (SharedOwn client name)) = ap (λ z. key_in z c n) (sym x.family_is) ∙ h in cc)
known_key (Durable client name) d f c n h = tt

known : (r : Row) (x : StationRow) → IsStationOf r x → IsKnown x
known r x is = subst (λ (d : Option Definition). IsKnownAs x.key d) (sym is.definition_is) (known_key x.key (definition_in r) (id_in (column r 1)) (bytes (column r 2)) (bytes (column r 3)) is.key_is)

placed : (r : Row) (x : MessageRow) → IsMessageOf r x → IsPlaced x
placed r x is = (is.positive, is.below)

-- rows that are shown as they stand are those of the table
shown_same : (f : Row → Row) (all : List Row) (rows : List Row) → rows ≡ map f all → IsPermutation (map f all) rows
shown_same f all rows are = subst (λ (xs : List Row). IsPermutation (map f all) xs) (sym are) (IsPermutation-refl (map f all))

-- ---- the rows that were read of a store

module _ (db : Database) (s : Serves db) (rows : TableRows) (are : AreRowsOf db.trees rows) where
  messages_same : IsPermutation (map message_shown (db.trees message_tree)) rows.messages.items
  messages_same = shown_same message_shown (db.trees message_tree) rows.messages.items are.messages

  delays_same : IsPermutation (map delay_shown (db.trees delayed_tree)) rows.delays.items
  delays_same = shown_same delay_shown (db.trees delayed_tree) rows.delays.items are.delays

  messages_rise : IsStrictlySortedBy rowid_cmp rows.messages.items
  messages_rise = subst (IsStrictlySortedBy rowid_cmp) (sym are.messages) (shown_rise message_shown (λ r. refl) (db.trees message_tree) s.messages.rise)

  delays_rise : IsStrictlySortedBy rowid_cmp rows.delays.items
  delays_rise = subst (IsStrictlySortedBy rowid_cmp) (sym are.delays) (shown_rise delay_shown (λ r. refl) (db.trees delayed_tree) s.delayed.rise)

  station_reads : (r : Row) → Has rows.stations.items r → IsStation r → IsReadableStation r
  station_reads r h is =
      let behind = row_behind station_shown (db.trees station_tree) rows.stations.items are.stations.same r h in
      subst IsReadableStation (sym behind.2) (station_readable db s behind.0 behind.1 (subst IsStation behind.2 is))

  message_reads : (r : Row) → Has rows.messages.items r → IsStoredMessage r → IsReadableMessage r
  message_reads r h is =
      let behind = row_behind message_shown (db.trees message_tree) rows.messages.items messages_same r h in
      subst IsReadableMessage (sym behind.2) (message_readable db s behind.0 behind.1 (subst IsStoredMessage behind.2 is))

  held_reads : AreAllStations db.trees → (r : Row) → Has rows.held.items r → IsStoredHeld db.trees r → IsReadableHeld r
  held_reads stations r h is =
      let behind = row_behind held_shown (db.trees held_tree) rows.held.items are.held.same r h in
      subst IsReadableHeld (sym behind.2) (held_readable db s stations behind.0 behind.1 (subst (IsStoredHeld db.trees) behind.2 is))

  delay_reads : (r : Row) → Has rows.delays.items r → IsStoredDelay db.trees r → IsReadableDelay r
  delay_reads r h is =
      let behind = row_behind delay_shown (db.trees delayed_tree) rows.delays.items delays_same r h in
      subst IsReadableDelay (sym behind.2) (delay_readable db s behind.0 behind.1 (subst (IsStoredDelay db.trees) behind.2 is))

  all_stations : AllByRecursion IsReadableStation rows.stations.items → AreAllStations db.trees
  all_stations h = all_behind station_shown (db.trees station_tree) rows.stations.items are.stations.same IsStation (λ q is. is) (all_as IsReadableStation IsStation (λ r is. is.station) rows.stations.items h)

  all_messages : AllByRecursion IsReadableMessage rows.messages.items → AreAllMessages db.trees
  all_messages h =
      all_behind message_shown (db.trees message_tree) rows.messages.items messages_same IsStoredMessage
      (λ q is. record { place = is.place; message = is.message; record_is = is.record_is }) (all_as IsReadableMessage IsStoredMessage (λ r is. is.stored) rows.messages.items h)

  -- a row that is not decoded is the first that a store may not have
  pub undecoded : (fault : OpenFault) → IsUndecoded rows fault → IsFaultOf db.trees fault
  undecoded (Damaged Station at) h = record {
    rows = rows.stations.items;
    are = are.stations;
    first = first_as IsReadableStation IsStation rows.stations.items at (λ r is. is.station) station_reads h;
  }
  undecoded (Damaged Message at) h = inl (
    all_stations h.0,
    record {
      rows = rows.messages.items;
      are = are.messages;
      first = first_as IsReadableMessage IsStoredMessage rows.messages.items at (λ r is. is.stored) message_reads h.1;
    },
  )
  undecoded (Damaged Meta at) h = absurd h
  undecoded (Damaged Held at) h = absurd h
  undecoded (Damaged Delayed at) h = absurd h
  undecoded (WrongVersion version) h = absurd h
  undecoded Exhausted h = absurd h
  undecoded Memory h = tt
  undecoded Store h = absurd h

  -- ---- the values of stations and messages

  module _ (ss : List StationRow) (ms : List MessageRow) (stand_s : StandFor IsStationOf rows.stations.items ss) (stand_m : StandFor IsMessageOf rows.messages.items ms) where
    stations_are : AreAllStations db.trees
    stations_are = all_stations (all_stand IsStationOf IsReadableStation (λ r x is. is.readable) rows.stations.items ss stand_s)

    messages_are : AreAllMessages db.trees
    messages_are = all_messages (all_stand IsMessageOf IsReadableMessage (λ r x is. is.readable) rows.messages.items ms stand_m)

    fit_stations : FitStations ss
    fit_stations = all_fit IsStationOf station_cmp IsKnown known rows.stations.items ss stand_s (values_rise IsStationOf shown.key_cmp station_cmp station_rule rows.stations.items ss stand_s are.stations.rise)

    fit_messages : FitMessages ms
    fit_messages = all_fit IsMessageOf message_cmp IsPlaced placed rows.messages.items ms stand_m (values_rise IsMessageOf rowid_cmp message_cmp message_rule rows.messages.items ms stand_m messages_rise)

    held_is : (r : Row) (h : HeldRow) → IsHeldOf r h → IsHeld ss ms h → IsStoredHeld db.trees r
    held_is = held_from db.trees rows.stations.items rows.messages.items ss ms are.stations are.messages stand_s stand_m

    held_may : (r : Row) (h : HeldRow) → IsHeldOf r h → IsStoredHeld db.trees r → IsHeld ss ms h
    held_may = held_to db.trees rows.stations.items rows.messages.items ss ms are.stations are.messages stand_s stand_m

    delay_is : (r : Row) (d : DelayRow) → IsDelayOf r d → IsDelayed ms d → IsStoredDelay db.trees r
    delay_is = delay_from db.trees rows.stations.items rows.messages.items ss ms are.stations are.messages stand_s stand_m

    delay_may : (r : Row) (d : DelayRow) → IsDelayOf r d → IsStoredDelay db.trees r → IsDelayed ms d
    delay_may = delay_to db.trees rows.stations.items rows.messages.items ss ms are.stations are.messages stand_s stand_m

    -- all rows of held, or those in front, are such rows
    held_before : (hrows : List Row) (hs : List HeldRow) → StandFor IsHeldOf hrows hs → FitHeld ss ms hs → AllByRecursion (IsStoredHeld db.trees) hrows
    held_before hrows hs stand fit = all_may IsHeldOf (IsStoredHeld db.trees) (IsHeld ss ms) held_is held_may hrows hs stand fit.may

    held_all : (hs : List HeldRow) → StandFor IsHeldOf rows.held.items hs → FitHeld ss ms hs → AreAllHeld db.trees
    held_all hs stand fit =
        all_behind held_shown (db.trees held_tree) rows.held.items are.held.same (IsStoredHeld db.trees)
        (λ q is. record {
          place = is.place;
          place_is = is.place_is;
          count = is.count;
          count_is = is.count_is;
          count_within = is.count_within;
          key = is.key;
          key_is = is.key_is;
          station = is.station;
          station_is = is.station_is;
          message = is.message;
          message_is = is.message_is;
          is_message = is.is_message;
          may_hold = is.may_hold;
        }) (held_before rows.held.items hs stand fit)

    delays_before : (drows : List Row) (ds : List DelayRow) → StandFor IsDelayOf drows ds → FitDelays ms ds → AllByRecursion (IsStoredDelay db.trees) drows
    delays_before drows ds stand fit = all_may IsDelayOf (IsStoredDelay db.trees) (IsDelayed ms) delay_is delay_may drows ds stand fit.may

    delays_all : (ds : List DelayRow) → StandFor IsDelayOf rows.delays.items ds → FitDelays ms ds → AreAllDelays db.trees
    delays_all ds stand fit =
        all_behind delay_shown (db.trees delayed_tree) rows.delays.items delays_same (IsStoredDelay db.trees)
        (λ q is. record {
          place = is.place;
          place_is = is.place_is;
          message = is.message;
          message_is = is.message_is;
          is_message = is.is_message;
          is_delayed = is.is_delayed;
          due_is = is.due_is;
        }) (delays_before rows.delays.items ds stand fit)

    -- the first row of held that does not fit, of all rows or of those in front
    held_first : (hrows : List Row) (hs : List HeldRow) (at : ℕ) → StandFor IsHeldOf hrows hs → IsStrictlySortedBy shown.held_cmp hrows → IsFirstUnfit held_cmp (IsHeld ss ms) hs at → IsFirstDamaged (IsStoredHeld db.trees) hrows at
    held_first hrows hs at stand rise first =
        first_unfit_row IsHeldOf (IsStoredHeld db.trees) (IsHeld ss ms) held_is held_may held_cmp hrows hs at stand (values_rise IsHeldOf shown.held_cmp held_cmp held_rule hrows hs stand rise) first

    delay_first : (drows : List Row) (ds : List DelayRow) (at : ℕ) → StandFor IsDelayOf drows ds → IsStrictlySortedBy rowid_cmp drows → IsFirstUnfit delay_cmp (IsDelayed ms) ds at → IsFirstDamaged (IsStoredDelay db.trees) drows at
    delay_first drows ds at stand rise first =
        first_unfit_row IsDelayOf (IsStoredDelay db.trees) (IsDelayed ms) delay_is delay_may delay_cmp drows ds at stand (values_rise IsDelayOf rowid_cmp delay_cmp delay_rule drows ds stand rise) first

    held_fault : (at : ℕ) → IsFirstDamaged (IsStoredHeld db.trees) rows.held.items at → IsFaultOf db.trees (Damaged Held at)
    held_fault at first = (stations_are, messages_are, record { rows = rows.held.items; are = are.held; first = first })

    delay_fault : (at : ℕ) → AreAllHeld db.trees → IsFirstDamaged (IsStoredDelay db.trees) rows.delays.items at → IsFaultOf db.trees (Damaged Delayed at)
    delay_fault at held first = (stations_are, messages_are, held, record { rows = rows.delays.items; are = are.delays; first = first })

    -- ---- where all rows are decoded

    unkept : (hs : List HeldRow) (ds : List DelayRow) (at : ℕ) → StandFor IsHeldOf rows.held.items hs → StandFor IsDelayOf rows.delays.items ds → fitting.IsFirstUnkept ss ms hs ds at → IsFaultOf db.trees (Damaged Message at)
    unkept hs ds at stand_h stand_d u = inr (record {
      rows = record { stations = stations_are; messages = messages_are; held = held_all hs stand_h u.fit.fit_held; delays = delays_all ds stand_d u.fit.fit_delays };
      first = record {
        rows = rows.messages.items;
        are = are.messages;
        first = first_may IsMessageOf (valid.IsKept db.trees) (IsKept hs ds)
            (kept_from db.trees rows.held.items rows.delays.items hs ds are.held delays_same stand_h stand_d)
            (kept_to db.trees rows.held.items rows.delays.items hs ds are.held delays_same stand_h stand_d)
            rows.messages.items ms at stand_m u.first.within u.first.before u.first.without;
      };
    })

    told_whole : (hs : List HeldRow) (ds : List DelayRow) → StandFor IsHeldOf rows.held.items hs → StandFor IsDelayOf rows.delays.items ds → (fault : OpenFault) → IsFirstFault ss ms hs ds fault → IsFaultOf db.trees fault
    told_whole hs ds stand_h stand_d (Damaged Station at) first = absurd (first.unfit (fewer station_cmp IsKnown ss (length ss) (at + 1) (omega (arith, first.within)) fit_stations))
    told_whole hs ds stand_h stand_d (Damaged Message at) (inl first) = absurd (first.1.unfit (fewer message_cmp IsPlaced ms (length ms) (at + 1) (omega (arith, first.1.within)) fit_messages))
    told_whole hs ds stand_h stand_d (Damaged Message at) (inr u) = unkept hs ds at stand_h stand_d u
    told_whole hs ds stand_h stand_d (Damaged Held at) first = held_fault at (held_first rows.held.items hs at stand_h are.held.rise first.2)
    told_whole hs ds stand_h stand_d (Damaged Delayed at) first = delay_fault at (held_all hs stand_h first.2) (delay_first rows.delays.items ds at stand_d delays_rise first.3)
    told_whole hs ds stand_h stand_d (Damaged Meta at) first = absurd first
    told_whole hs ds stand_h stand_d (WrongVersion version) first = absurd first
    told_whole hs ds stand_h stand_d Exhausted first = absurd first
    told_whole hs ds stand_h stand_d Memory first = tt
    told_whole hs ds stand_h stand_d Store first = absurd first

    -- ---- where a row of held may not be read

    module _ (a : ℕ) (hs : List HeldRow) (damaged : IsFirstDamaged IsReadableHeld rows.held.items a) (stand_h : StandFor IsHeldOf (take a rows.held.items) hs) where
      held_damaged : FitHeld ss ms hs → IsFaultOf db.trees (Damaged Held a)
      held_damaged fit = held_fault a (first_behind IsReadableHeld (IsStoredHeld db.trees) rows.held.items a (held_reads stations_are) (held_before (take a rows.held.items) hs stand_h fit) damaged)

      held_earlier : (at : ℕ) → IsFirstUnfit held_cmp (IsHeld ss ms) hs at → IsFaultOf db.trees (Damaged Held at)
      held_earlier at first =
          held_fault at (first_in_front (IsStoredHeld db.trees) rows.held.items a at (held_first (take a rows.held.items) hs at stand_h (rise_front shown.held_cmp rows.held.items a are.held.rise) first))

      told_held : (ds : List DelayRow) → ds ≡ [] → (fault : OpenFault) → IsFirstLater ss ms hs ds fault → IsFaultOf db.trees fault
      told_held ds none (Damaged Held at) first = held_earlier at first.2
      told_held ds none (Damaged Delayed at) first = absurd (let l = ap (λ (xs : List DelayRow). length xs) none in let within = first.3.within in omega (arith, l, within))
      told_held ds none (Damaged Station at) first = absurd first
      told_held ds none (Damaged Message at) first = absurd first
      told_held ds none (Damaged Meta at) first = absurd first
      told_held ds none (WrongVersion version) first = absurd first
      told_held ds none Exhausted first = absurd first
      told_held ds none Memory first = tt
      told_held ds none Store first = absurd first

    -- ---- where one of delayed may not

    module _ (a : ℕ) (hs : List HeldRow) (ds : List DelayRow) (stand_h : StandFor IsHeldOf rows.held.items hs) (damaged : IsFirstDamaged IsReadableDelay rows.delays.items a) (stand_d : StandFor IsDelayOf (take a rows.delays.items) ds) where
      delay_damaged : FitHeld ss ms hs → FitDelays ms ds → IsFaultOf db.trees (Damaged Delayed a)
      delay_damaged held fit =
          delay_fault a (held_all hs stand_h held) (first_behind IsReadableDelay (IsStoredDelay db.trees) rows.delays.items a delay_reads (delays_before (take a rows.delays.items) ds stand_d fit) damaged)

      told_delay : (fault : OpenFault) → IsFirstLater ss ms hs ds fault → IsFaultOf db.trees fault
      told_delay (Damaged Held at) first = held_fault at (held_first rows.held.items hs at stand_h are.held.rise first.2)
      told_delay (Damaged Delayed at) first =
          delay_fault at (held_all hs stand_h first.2)
          (first_in_front (IsStoredDelay db.trees) rows.delays.items a at (delay_first (take a rows.delays.items) ds at stand_d (rise_front rowid_cmp rows.delays.items a delays_rise) first.3))
      told_delay (Damaged Station at) first = absurd first
      told_delay (Damaged Message at) first = absurd first
      told_delay (Damaged Meta at) first = absurd first
      told_delay (WrongVersion version) first = absurd first
      told_delay Exhausted first = absurd first
      told_delay Memory first = tt
      told_delay Store first = absurd first

    -- each row by itself is one that a store may have
    pub read_rows : (hs : List HeldRow) (ds : List DelayRow) → StandFor IsHeldOf rows.held.items hs → StandFor IsDelayOf rows.delays.items ds → AreReadRows db.trees
    read_rows hs ds stand_h stand_d = record {
      stations = stations_are;
      messages = messages_are;
      held = all_behind held_shown (db.trees held_tree) rows.held.items are.held.same (λ r. IsCountIn (column r 5)) (λ q is. is)
          (all_stand IsHeldOf (λ r. IsCountIn (column r 5)) (λ r x is. is.readable.deliveries) rows.held.items hs stand_h);
      delays = all_behind delay_shown (db.trees delayed_tree) rows.delays.items delays_same (λ r. IsNaturalIn (column r 2)) (λ q is. is)
          (all_stand IsDelayOf (λ r. IsNaturalIn (column r 2)) (λ r x is. is.readable.due) rows.delays.items ds stand_d);
    }

    -- ---- together

    pub unmade : (hs : List HeldRow) (ds : List DelayRow) (o : Option OpenFault) → AreDecodedTo rows hs ds o → (fault : OpenFault) → IsUnmade ss ms hs ds o fault → IsFaultOf db.trees fault
    unmade hs ds None stand fault first = told_whole hs ds stand.0 stand.1 fault first
    unmade hs ds (Some (Damaged Held a)) stand fault (inl told) =
        subst (IsFaultOf db.trees) (sym told.0) (held_damaged a hs stand.0.0 stand.0.1 (told.1 fit_stations fit_messages).0)
    unmade hs ds (Some (Damaged Held a)) stand fault (inr first) = told_held a hs stand.0.0 stand.0.1 ds stand.1 fault first
    unmade hs ds (Some (Damaged Delayed a)) stand fault (inl told) =
        let fit = told.1 fit_stations fit_messages in
        subst (IsFaultOf db.trees) (sym told.0) (delay_damaged a hs ds stand.0 stand.1.0 stand.1.1 fit.0 fit.1)
    unmade hs ds (Some (Damaged Delayed a)) stand fault (inr first) = told_delay a hs ds stand.0 stand.1.0 stand.1.1 fault first
    unmade hs ds (Some (Damaged Station a)) stand fault first = absurd stand
    unmade hs ds (Some (Damaged Message a)) stand fault first = absurd stand
    unmade hs ds (Some (Damaged Meta a)) stand fault first = absurd stand
    unmade hs ds (Some (WrongVersion version)) stand fault first = absurd stand
    unmade hs ds (Some Exhausted) stand fault first = absurd stand
    unmade hs ds (Some Memory) stand fault first = absurd stand
    unmade hs ds (Some Store) stand fault first = absurd stand

-- what the database tells is told
pub unread : (db : Trees) (fault : OpenFault) → (fault ≡ Memory) ⊎ (fault ≡ Store) → IsFaultOf db fault
unread db fault (inl memory) = subst (IsFaultOf db) (sym memory) tt
unread db fault (inr store) = subst (IsFaultOf db) (sym store) tt

-- ---- a store that may have all that it has

-- no row of a table is the first that is none, where all are such rows
none_first : (AreRows : List Row → Type 0) (P : Row → Type 0) (f : Row → Row) (all : List Row) (at : ℕ) → ((rows : List Row) → AreRows rows → IsPermutation (map f all) rows) → ((q : Row) → P q → P (f q))
    → AllByRecursion P all → IsFirstOf AreRows P at → ⊥
none_first AreRows P f all at same to whole first = none_damaged P first.rows at (all_shown f all first.rows (same first.rows first.are) P to whole) first.first

-- so a store has no damaged row, where it may have all that it has
pub never_damaged : (db : Trees) (fault : OpenFault) → IsWhole db → IsFaultOf db fault → (fault ≡ Memory) ⊎ (fault ≡ Store)
never_damaged db (Damaged Station at) whole first = absurd (none_first (AreStations db) IsStation station_shown (db station_tree) at (λ rows are. are.same) (λ q is. is) whole.rows.stations first)
never_damaged db (Damaged Message at) whole (inl first) =
    absurd (none_first (AreMessages db) IsStoredMessage message_shown (db message_tree) at (shown_same message_shown (db message_tree))
    (λ q is. record { place = is.place; message = is.message; record_is = is.record_is }) whole.rows.messages first.1)
never_damaged db (Damaged Message at) whole (inr unkept) =
    absurd (none_first (AreMessages db) (valid.IsKept db) message_shown (db message_tree) at (shown_same message_shown (db message_tree))
    (λ q is. record { place = is.place; place_is = is.place_is; held = is.held; delayed = is.delayed }) whole.kept unkept.first)
never_damaged db (Damaged Held at) whole first =
    absurd (none_first (AreHeld db) (IsStoredHeld db) held_shown (db held_tree) at (λ rows are. are.same)
    (λ q is. record {
      place = is.place;
      place_is = is.place_is;
      count = is.count;
      count_is = is.count_is;
      count_within = is.count_within;
      key = is.key;
      key_is = is.key_is;
      station = is.station;
      station_is = is.station_is;
      message = is.message;
      message_is = is.message_is;
      is_message = is.is_message;
      may_hold = is.may_hold;
    }) whole.rows.held first.2)
never_damaged db (Damaged Delayed at) whole first =
    absurd (none_first (AreDelays db) (IsStoredDelay db) delay_shown (db delayed_tree) at (shown_same delay_shown (db delayed_tree))
    (λ q is. record {
      place = is.place;
      place_is = is.place_is;
      message = is.message;
      message_is = is.message_is;
      is_message = is.is_message;
      is_delayed = is.is_delayed;
      due_is = is.due_is;
    }) whole.rows.delays first.3)
never_damaged db (Damaged Meta at) whole first = absurd first
never_damaged db (WrongVersion version) whole first = absurd first
never_damaged db Exhausted whole first = absurd first
never_damaged db Memory whole first = inl refl
never_damaged db Store whole first = inr refl

pub never_damaged_err : {A : Type 0} (db : Trees) (r : Result A OpenFault) → IsWhole db → IfErr r (IsFaultOf db) → IfErr r (λ fault. (fault ≡ Memory) ⊎ (fault ≡ Store))
never_damaged_err db (Ok value) whole h = tt
never_damaged_err db (Err fault) whole h = never_damaged db fault whole h
