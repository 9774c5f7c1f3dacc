-- A database that keeps a state whose rows hold messages is a valid file.
use Rattle.std.proofs.Common.{◌≡◌, ◌∙◌, ◌≤◌, inl, inr, ℕ, ℤ, pos, Bool, true, false, ◌&&◌, cond, List, [], find, Option, Some, None, option_map, IfSome, refl, sym, ap, subst}
use Rattle.std.specs.Prelude.{IsTrue, is_none, slice_index}
use Rattle.std.specs.List.{list_any}
use Rattle.std.specs.Ordering.{int_eq}
use Rattle.std.proofs.lemmas.Bool.{and_from, and_parts, cases_Bool, or_cases, or_left, or_right}
use Rattle.std.proofs.lemmas.Bool.Decides.{Decides-int_eq}
use Rattle.sqlite_value.specs.Order.{Row, bytes, column}
use Rattle.sqlite.specs.Effect.{Database}
use Rattle.sqlite_trees.specs.Tree.{rowid}
use Rattle.sqlite_rules.specs.Edit.{id_in}
use Rattle.sqlite_rules.specs.Lists.{Has}
use Rattle.sqlite_rules.proofs.ListLemmas.{all_from, all_has, has_found, some_from, some_has}
use Rattle.jm_base.specs.declared.refusal.Refusal.{Refusal}
use Rattle.jm_dest.specs.declared.destination.Destination.TheVariants.{Topic as ToTopic}
use Rattle.jm_dest.specs.declared.key.Key.{Key}
use Rattle.jm_dest.specs.declared.key.Key.TheVariants.{Queue, Own, SharedOwn, Durable}
use Rattle.jm_dest.specs.Names.{text_eq}
use Rattle.jm_header.specs.declared.content.Content.{Content}
use Rattle.jm_header.specs.Headers.{is_delayed}
use Rattle.jm_format.specs.Format as format
use Rattle.jm_format.specs.Format.{«record», version_of}
use Rattle.jm_lexer.specs.declared.fault.SyntaxFault.{SyntaxFault}
use Rattle.jm_tree.specs.declared.tree.Tree.{Tree}
use Rattle.std.specs.Prelude.{Result, Ok, Err}
use Rattle.jm_selector.specs.Selectors.{matches, read_refusal, selector_read, selector_refusal, standing}
use Rattle.jm_machine.specs.declared.state.Definition.{Definition}
use Rattle.jm_machine.specs.Machine.{State}
use Rattle.jm_machine.specs.Under.{is_key}
use Rattle.jm_machine.proofs.Keys.{key_refl, text_same}
use Rattle.jm_holds.specs.Holds.{HoldsMessages}
use Rattle.jm_keep.specs.Persisted.{StoredRow, due_time, durable_definition, stored_row}
use Rattle.jm_tables.specs.Keys.{client_in, key_in, key_of, queue_in}
use Rattle.jm_tables.specs.Rows.{definition_in, definition_under, due_at, is_at, is_under, is_under_at, number_in, record_at, selector_in}
use Rattle.jm_tables.specs.Schema.{station_tree, message_tree, held_tree, delayed_tree}
use Rattle.jm_tables.specs.Valid.{IsKept, IsStoredDelay, IsStoredHeld, IsStoredMessage, IsValid, MayHold, is_held_at, is_queue, is_station, is_subscription}
use Rattle.jm_writes.specs.Own.{IsDelayRow, IsHeldRow, IsMessageRow, IsStationRow, is_subscription_row}
use Rattle.jm_valid.specs.Stores.{KeptIsValid, Keeps}
use Rattle.jm_valid.proofs.Parents.{delay_message, held_message, held_station}
use Rattle.jm_valid.proofs.Single.{found_at, found_none, found_some, one_station, record_here}
use Rattle.jm_valid.proofs.Stored.{IsHolder, IsStoredOf, chosen, counted, stored_holds, uncounted}

-- ---- keys of stations

queue_key : (f : ℤ) (c n : List ℕ) → int_eq f (pos 1) ≡ true → text_eq c [] ≡ true → key_in f c n ≡ Some (Queue n)
queue_key f c n one none = ap (λ b. cond b (queue_in c n) (cond (int_eq f (pos 2)) (Some (Durable (client_in c) n)) None)) one ∙ ap (λ t. queue_in t n) (text_same c [] none)

durable_key : (f : ℤ) (c n : List ℕ) → int_eq f (pos 2) ≡ true → key_in f c n ≡ Some (Durable (client_in c) n)
durable_key f c n two =
    let is : f ≡ pos 2 = (Decides-int_eq f (pos 2)).0 two in
    ap (λ g. key_in g c n) is

queue_first : (r : Row) → is_queue r ≡ true → (int_eq (id_in (column r 1)) (pos 1) ≡ true) × (text_eq (bytes (column r 2)) [] ≡ true)
queue_first r h = and_parts _ _ (and_parts _ _ (and_parts _ _ (and_parts _ _ (and_parts _ _ (and_parts _ _ h).0).0).0).0).0

subscription_first : (r : Row) → is_subscription_row r ≡ true → int_eq (id_in (column r 1)) (pos 2) ≡ true
subscription_first r h = (and_parts _ _ (and_parts _ _ (and_parts _ _ (and_parts _ _ (and_parts _ _ (and_parts _ _ h).0).0).0).0).0).0

-- a row of station has a key
station_key : (r : Row) → IsStationRow r → (key : Key) × (key_of r ≡ Some key)
station_key r h = elim (or_cases (is_queue r) (is_subscription_row r) h) [
  | inl queue ↦ let first = queue_first r queue in (Queue (bytes (column r 3)), queue_key (id_in (column r 1)) (bytes (column r 2)) (bytes (column r 3)) first.0 first.1)
  | inr durable ↦ (Durable (client_in (bytes (column r 2))) (bytes (column r 3)), durable_key (id_in (column r 1)) (bytes (column r 2)) (bytes (column r 3)) (subscription_first r durable))
]

-- ---- selectors

-- a text that stands as a selector that is not refused is not refused
read_back : (text : List ℕ) → selector_refusal (selector_in text) ≡ None → is_none (selector_refusal (Some text)) ≡ true
unfolding selector_refusal
read_back text h = go (selector_read (Some text)) refl h
  where
    go : (r : Result (Option Tree) SyntaxFault) → selector_read (Some text) ≡ r → read_refusal (selector_read (standing (Some text) r)) ≡ None → is_none (read_refusal r) ≡ true
    go (Ok tree) is e = refl
    go (Err fault) is e = absurd (let no : ◌≡◌ {A = Option Refusal} (read_refusal (Err fault)) None = ap read_refusal (sym is) ∙ e in cc)

-- ---- records

versions : (a b : Bool) → version_of a ≡ version_of b → a ≡ b
versions true true e = refl
versions true false e = cc
versions false true e = cc
versions false false e = refl

-- the version of a record says whether its message is delayed
both_delayed : (a b : Content) → format.record a ≡ format.record b → is_delayed a ≡ is_delayed b
unfolding «record»
both_delayed a b e = versions (is_delayed a) (is_delayed b) (ap (λ (content : List ℕ). slice_index content 0) e)

is_some : {X : Type 0} (o : Option X) (x : X) (P : X → Type 0) → o ≡ Some x → IfSome o P → P x
is_some o x P is h = subst (λ p. IfSome p P) is h

some_same : {X : Type 0} (a b : X) → Some a ≡ Some b → a ≡ b
some_same a b e = cc

same_number : (a b : ℕ) → pos a ≡ pos b → a ≡ b
same_number a b e = cc

no_and : (a b : Bool) → b ≡ false → (a && b) ≡ false
no_and true b e = e
no_and false b e = refl

due_there : (m : Content) (due : ℕ) → Some due ≡ due_time m → (is_delayed m ≡ true) × (due ≡ m.delivery_time)
due_there m due e = go (is_delayed m) refl e
  where
    go : (b : Bool) → is_delayed m ≡ b → Some due ≡ cond b (Some m.delivery_time) None → (is_delayed m ≡ true) × (due ≡ m.delivery_time)
    go true is same = (is, some_same due m.delivery_time same)
    go false is same = cc

module _ (state : State) (db : Database) (holds : HoldsMessages state) (k : Keeps state db) where
  abbrev stations : List Row
  stations = db.trees station_tree

  abbrev messages : List Row
  messages = db.trees message_tree

  abbrev held : List Row
  held = db.trees held_tree

  abbrev delays : List Row
  delays = db.trees delayed_tree

  -- a row of held is that of a key whose station stands, at the place of a message, and is stored of the state
  record IsHeldBy (r : Row) : Type 0 where
    key : Key
    key_is : key_of r ≡ Some key
    place : ℕ
    place_is : id_in (column r 4) ≡ pos place
    station : Row
    station_is : find (is_under key) stations ≡ Some station
    row : StoredRow
    row_is : stored_row state key place ≡ Some row

  held_by : (r : Row) → Has held r → IsHeldBy r
  held_by r h =
      let m = held_message db k.serves r h in
      let at = all_has IsMessageRow messages m.0 k.own.messages m.1 in
      let t = held_station db k.serves r h in
      let of = station_key t.0 (all_has IsStationRow stations t.0 k.own.stations t.1) in
      let same : key_of t.0 ≡ key_of r =
      ap (λ f. key_in f (bytes (column t.0 2)) (bytes (column t.0 3))) t.2.family ∙ ap (λ c. key_in (id_in (column r 1)) c (bytes (column t.0 3))) t.2.client ∙ ap (λ n. key_in (id_in (column r 1)) (bytes (column r 2)) n) t.2.name in
      let under : is_under of.0 t.0 ≡ true = ap (is_key of.0) of.1 ∙ key_refl of.0 in
      let named : key_of r ≡ Some of.0 = sym same ∙ of.1 in
      let station = found_some (is_under of.0) stations t.0 t.1 under in
      let placed : id_in (column r 4) ≡ pos at.place = sym m.2 ∙ at.place_is in
      let hit : is_under_at of.0 at.place r ≡ true = and_from (is_under of.0 r) (int_eq (id_in (column r 4)) (pos at.place)) (ap (is_key of.0) named ∙ key_refl of.0) ((Decides-int_eq (id_in (column r 4)) (pos at.place)).1 placed) in
      let found = found_some (is_under_at of.0 at.place) held r h hit in
      let row = counted (stored_row state of.0 at.place) (number_in (id_in (column found.0 5))) (sym (ap (option_map (λ x. number_in (id_in (column x 5)))) found.1) ∙ k.persisted.counts of.0 at.place) in
      record { key = of.0; key_is = named; place = at.place; place_is = placed; station = station.0; station_is = station.1; row = row.0; row_is = row.1 }

  facts : (r : Row) (by : IsHeldBy r) → IsStoredOf state by.key by.place by.row
  facts r by = stored_holds state holds by.key by.place by.row by.row_is

  record_of : (r : Row) (by : IsHeldBy r) → record_at by.place messages ≡ Some (format.record by.row.message)
  record_of r by = is_some (stored_row state by.key by.place) by.row (λ x. record_at by.place messages ≡ Some (format.record x.message)) by.row_is ((k.persisted.messages by.place).held by.key)

  due_of : (r : Row) (by : IsHeldBy r) → due_at by.place delays ≡ due_time by.row.message
  due_of r by = is_some (stored_row state by.key by.place) by.row (λ x. due_at by.place delays ≡ due_time x.message) by.row_is ((k.persisted.dues by.place).held by.key)

  -- ---- held

  under : (key : Key) (station : Row) (m : Content) → find (is_under key) stations ≡ Some station → IsHolder state key m → MayHold (Some key) (definition_in station) m
  under (Queue name) station m is h = h
  under (Own s c) station m is h = absurd h
  under (SharedOwn client name) station m is h = absurd h
  under (Durable client name) station m is h =
      let stands : definition_under (Durable client name) stations ≡ Some (definition_in station) = ap (option_map definition_in) is in
      let same : definition_in station ≡ h.0 = some_same (definition_in station) h.0 (sym stands ∙ k.persisted.definitions (Durable client name) ∙ h.1) in
      subst (λ (d : Definition). (m.destination ≡ ToTopic d.topic) × IsTrue (matches d.selector m)) (sym same) (h.2, h.3)

  held_is : (r : Row) → Has held r → IsStoredHeld db.trees r
  held_is r h =
      let by = held_by r h in
      let own = all_has IsHeldRow held r k.own.held h in
      let is = facts r by in
      record {
        place = by.place;
        place_is = by.place_is;
        count = own.count;
        count_is = own.count_is;
        count_within = own.within;
        key = by.key;
        key_is = by.key_is;
        station = by.station;
        station_is = by.station_is;
        message = by.row.message;
        message_is = record_of r by;
        is_message = is.message;
        may_hold = under by.key by.station by.row.message by.station_is is.holder;
      }

  -- ---- messages

  nobody : (place : ℕ) → is_held_at place held ≡ false → record_at place messages ≡ None
  nobody place none =
      (k.persisted.messages place).free (λ key. uncounted (stored_row state key place)
      (sym (ap (option_map (λ x. number_in (id_in (column x 5)))) (found_none (is_under_at key place) (λ r. int_eq (id_in (column r 4)) (pos place)) (λ r e. no_and (is_under key r) _ e) held none)) ∙ k.persisted.counts key place))

  -- somebody holds each message
  holder : (r : Row) → Has messages r → (place : ℕ) → id_in (rowid r) ≡ pos place → (q : Row) × Has held q × (int_eq (id_in (column q 4)) (pos place) ≡ true)
  holder r h place at = elim (cases_Bool (is_held_at place held)) [
    | inl there ↦ some_has (λ q. int_eq (id_in (column q 4)) (pos place)) held there
    | inr none ↦ absurd (let no : ◌≡◌ {A = Option (List ℕ)} (Some (bytes (column r 2))) None = sym (record_here messages k.serves.messages r place h at) ∙ nobody place none in cc)
  ]

  -- the message of a row, as it is stored of the state
  record IsMessageOf (r : Row) (place : ℕ) : Type 0 where
    by_row : Row
    by : IsHeldBy by_row
    same : by.place ≡ place
    bytes_are : bytes (column r 2) ≡ format.record by.row.message

  message_of : (r : Row) → Has messages r → (place : ℕ) → id_in (rowid r) ≡ pos place → IsMessageOf r place
  message_of r h place at =
      let q = holder r h place at in
      let by = held_by q.0 q.1 in
      let same : by.place ≡ place = same_number by.place place (sym by.place_is ∙ (Decides-int_eq (id_in (column q.0 4)) (pos place)).0 q.2) in
      record {
        by_row = q.0;
        by = by;
        same = same;
        bytes_are = some_same (bytes (column r 2)) (format.record by.row.message) (sym (record_here messages k.serves.messages r place h at) ∙ sym (ap (λ p. record_at p messages) same) ∙ record_of q.0 by);
      }

  message_is : (r : Row) → Has messages r → IsStoredMessage r
  message_is r h =
      let own = all_has IsMessageRow messages r k.own.messages h in
      let of = message_of r h own.place own.place_is in
      let is = facts of.by_row of.by in
      record {
        place = (own.place, own.place_is, subst (λ n. 1 ≤ n) of.same is.place_is);
        message = of.by.row.message;
        record_is = record { message = is.message; record_is = of.bytes_are; persistent = is.persistent };
      }

  kept_is : (r : Row) → Has messages r → IsKept db.trees r
  kept_is r h =
      let own = all_has IsMessageRow messages r k.own.messages h in
      let of = message_of r h own.place own.place_is in
      let q = holder r h own.place own.place_is in
      record {
        place = own.place;
        place_is = own.place_is;
        held = some_from (λ x. int_eq (id_in (column x 4)) (pos own.place)) held q.0 q.1 q.2;
        delayed = λ m is late.
            let also : is_delayed of.by.row.message ≡ true = both_delayed of.by.row.message m (sym of.bytes_are ∙ is) ∙ late in
            let due : due_at own.place delays ≡ Some of.by.row.message.delivery_time = sym (ap (λ p. due_at p delays) of.same) ∙ due_of of.by_row of.by ∙ ap (λ b. cond b (Some of.by.row.message.delivery_time) None) also in
            delay_there own.place of.by.row.message.delivery_time due;
      }
    where
      delay_there : (place due : ℕ) → due_at place delays ≡ Some due → list_any (is_at place) delays ≡ true
      delay_there place due e = go (find (is_at place) delays) refl e
        where
          go : (o : Option Row) → find (is_at place) delays ≡ o → option_map (λ x. number_in (id_in (column x 2))) o ≡ Some due → list_any (is_at place) delays ≡ true
          go None is f = cc
          go (Some x) is f = let there = has_found (is_at place) delays x is in some_from (is_at place) delays x there.0 there.1

  -- ---- delays

  delay_is : (r : Row) → Has delays r → IsStoredDelay db.trees r
  delay_is r h =
      let m = delay_message db k.serves r h in
      let at = all_has IsMessageRow messages m.0 k.own.messages m.1 in
      let own = all_has IsDelayRow delays r k.own.delayed h in
      let placed : id_in (rowid r) ≡ pos at.place = sym m.2 ∙ at.place_is in
      let of = message_of m.0 m.1 at.place at.place_is in
      let is = facts of.by_row of.by in
      let there : due_at at.place delays ≡ Some own.due = ap (option_map (λ x. number_in (id_in (column x 2)))) (found_at delays k.serves.delayed r at.place h placed) ∙ ap (λ n. Some (number_in n)) own.due_is in
      let due = due_there of.by.row.message own.due (sym there ∙ sym (ap (λ p. due_at p delays) of.same) ∙ due_of of.by_row of.by) in
      record {
        place = at.place;
        place_is = placed;
        message = of.by.row.message;
        message_is = sym (ap (λ p. record_at p messages) of.same) ∙ record_of of.by_row of.by;
        is_message = is.message;
        is_delayed = due.0;
        due_is = own.due_is ∙ ap (λ n. pos n) due.1;
      }

  -- ---- stations

  durable_is : (r : Row) → Has stations r → is_subscription_row r ≡ true → is_subscription r ≡ true
  durable_is r h is =
      let p6 = and_parts _ _ is in
      let p5 = and_parts _ _ p6.0 in
      let client = client_in (bytes (column r 2)) in
      let name = bytes (column r 3) in
      let named : key_of r ≡ Some (Durable client name) = durable_key (id_in (column r 1)) (bytes (column r 2)) (bytes (column r 3)) (subscription_first r is) in
      let hit : is_under (Durable client name) r ≡ true = ap (is_key (Durable client name)) named ∙ key_refl (Durable client name) in
      let found = found_some (is_under (Durable client name)) stations r h hit in
      let there = has_found (is_under (Durable client name)) stations found.0 found.1 in
      let same : found.0 ≡ r = one_station db k.serves (Durable client name) found.0 r there.0 h there.1 hit in
      let stands : definition_under (Durable client name) stations ≡ Some (definition_in r) = ap (option_map definition_in) (found.1 ∙ ap (λ x. Some x) same) in
      let defined : durable_definition state (Durable client name) ≡ Some (definition_in r) = sym (k.persisted.definitions (Durable client name)) ∙ stands in
      let refused = read_back (bytes (column r 6)) (chosen state holds client name (definition_in r) defined) in
      and_from _ _ (and_from _ _ p5.0 (and_from _ _ p5.1 refused)) p6.1

  station_is : (r : Row) → Has stations r → is_station r ≡ true
  station_is r h = elim (or_cases (is_queue r) (is_subscription_row r) (all_has IsStationRow stations r k.own.stations h)) [
    | inl queue ↦ or_left (is_queue r) (is_subscription r) queue
    | inr durable ↦ or_right (is_queue r) (is_subscription r) (durable_is r h durable)
  ]

  -- ---- together

  pub valid : IsValid k.own.meta.opening db.trees
  valid = record {
    meta = k.own.meta.meta;
    within = k.own.meta.within;
    stations = all_from (λ r. is_station r ≡ true) stations station_is;
    messages = all_from IsStoredMessage messages message_is;
    held = all_from (IsStoredHeld db.trees) held held_is;
    delayed = all_from (IsStoredDelay db.trees) delays delay_is;
    kept = all_from (IsKept db.trees) messages kept_is;
  }

pub kept_is_valid : KeptIsValid
kept_is_valid state db holds k = (k.own.meta.opening, valid state db holds k)
