-- What changes of rows and of stations do to what is held.
use Rattle.std.proofs.Common.{◌≡◌, ◌≤◌, ℕ, Bool, true, false, cond, List, [], ◌∷◌, ◌++◌, map, length, refl, sym, ap, ◌∙◌, Option, None}
use Rattle.std.specs.Prelude.{filter, ◌&&◌, not}
use Rattle.std.proofs.lemmas.Bool.{and_parts}
use Rattle.jm_base.specs.declared.mode.Mode.{Mode}
use Rattle.jm_dest.specs.declared.destination.Destination.{Destination}
use Rattle.jm_dest.specs.declared.destination.Destination.TheVariants.{Queue, Topic}
use Rattle.jm_dest.specs.declared.key.Key.{Key}
use Rattle.jm_dest.specs.declared.key.Key.TheVariants.{Own, SharedOwn, Durable, Queue as OfQueue}
use Rattle.jm_dest.specs.declared.session.SessionId.{SessionId}
use Rattle.jm_dest.specs.Keys.{key_eq}
use Rattle.jm_dest.specs.Names.{text_eq}
use Rattle.jm_header.specs.declared.content.Content.{Content}
use Rattle.jm_format.specs.Messages.{IsMessage}
use Rattle.jm_selector.specs.Selectors.{matches, selector_refusal}
use Rattle.jm_machine.specs.declared.state.Definition.{Definition}
use Rattle.jm_machine.specs.declared.state.PlacedRow.{PlacedRow}
use Rattle.jm_machine.specs.declared.state.Row.{Row}
use Rattle.jm_machine.specs.declared.state.RowState.TheVariants.{Waiting}
use Rattle.jm_machine.specs.declared.state.Station.{Station}
use Rattle.jm_machine.specs.Rows.{fresh, is_out, left_of, taken, settles_at_once, live_placed, change_placed, deliver_placed, deliver_chosen}
use Rattle.jm_machine.specs.Machine.{Publisher, accepts, at_key, at_queue, at_queue_of, is_full, is_local, is_to, offered, one_missed, queued, returned_rows, with_rows}
use Rattle.jm_machine.proofs.Keys.{text_same}
use Rattle.jm_holds.specs.Holds.{AllHold, EachHolds, HoldsAsked, IsOfQueue, IsOfTopic}

-- ---- rows

-- rows without a place hold such messages
abbrev AllAre : (Content → Type 0) → List Row → Type 0
AllAre Is [] = Unit {0}
AllAre Is (r ∷ rows) = Is r.message × AllAre Is rows

-- what is left of a row holds its message
abbrev pub KeepsMessage : (Row → List Row) → Type 1
KeepsMessage f = (Is : Content → Type 0) (r : Row) → Is r.message → AllAre Is (f r)

pub filter_holds : (Is : Content → Type 0) (p : PlacedRow → Bool) (rows : List PlacedRow) → AllHold Is rows → AllHold Is (filter p rows)
filter_holds Is p [] h = h
filter_holds Is p (x ∷ rows) h = go (p x) (filter_holds Is p rows h.1)
  where
    go : (b : Bool) → AllHold Is (filter p rows) → AllHold Is (cond b (x ∷ filter p rows) (filter p rows))
    go true r = (h.0, r)
    go false r = r

placed_hold : (Is : Content → Type 0) (place : ℕ) (rs : List Row) (rows : List PlacedRow) → 1 ≤ place → AllAre Is rs → AllHold Is rows → AllHold Is (map (λ r. record { place = place; row = r }) rs ++ rows)
placed_hold Is place [] rows l are h = h
placed_hold Is place (r ∷ rs) rows l are h = ((l, are.0), placed_hold Is place rs rows l are.1 h)

change_holds : (Is : Content → Type 0) (p : Row → Bool) (f : Row → List Row) (rows : List PlacedRow) → KeepsMessage f → AllHold Is rows → AllHold Is (change_placed p f rows)
change_holds Is p f [] keeps h = h
change_holds Is p f (x ∷ rows) keeps h = go (p x.row) (change_holds Is p f rows keeps h.1)
  where
    go : (b : Bool) → AllHold Is (change_placed p f rows) → AllHold Is (cond b (map (λ r. record { place = x.place; row = r }) (f x.row) ++ rows) (x ∷ change_placed p f rows))
    go true r = placed_hold Is x.place (f x.row) rows h.0.0 (keeps Is x.row h.0.1) h.1
    go false r = (h.0, r)

pub returned_hold : (Is : Content → Type 0) (p : SessionId → ℕ → Bool) (rows : List PlacedRow) → AllHold Is rows → AllHold Is (returned_rows p rows)
returned_hold Is p [] h = h
returned_hold Is p (x ∷ rows) h = ((h.0.0, go (is_out p x.row)), returned_hold Is p rows h.1)
  where
    go : (b : Bool) → Is (cond b (record x.row { state = Waiting }) x.row).message
    go true = h.0.1
    go false = h.0.1

push_holds : (Is : Content → Type 0) (place : ℕ) (r : Row) (rows : List PlacedRow) → 1 ≤ place → Is r.message → AllHold Is rows → AllHold Is (rows ++ record { place = place; row = r } ∷ [])
push_holds Is place r [] l is h = ((l, is), tt)
push_holds Is place r (x ∷ rows) l is h = (h.0, push_holds Is place r rows l is h.1)

-- ---- deliveries

pub left_keeps : (mode : Option Mode) (s : SessionId) (c : ℕ) → KeepsMessage (left_of mode s c)
unfolding left_of
left_keeps mode s c Is r is = go (settles_at_once mode)
  where
    go : (b : Bool) → AllAre Is (cond b [] (Rattle.jm_machine.specs.Rows.sent_out s c r ∷ []))
    go true = tt
    go false = (is, tt)

pub taken_keeps : (s : SessionId) (c : ℕ) → KeepsMessage (taken s c)
taken_keeps s c Is r is = (is, tt)

-- a change of rows leaves such messages
abbrev pub Keeps : (List PlacedRow → List PlacedRow) → Type 1
Keeps f = (Is : Content → Type 0) (rows : List PlacedRow) → AllHold Is rows → AllHold Is (f rows)

pub placed_kept : (now : ℕ) (f : Row → List Row) → KeepsMessage f → Keeps (deliver_placed now f)
placed_kept now f keeps Is rows h = change_holds Is _ f (live_placed now rows) keeps (filter_holds Is _ rows h)

pub chosen_kept : (now : ℕ) (p : Content → Bool) (f : Row → List Row) → KeepsMessage f → Keeps (deliver_chosen p now f)
chosen_kept now p f keeps Is rows h = change_holds Is _ f (live_placed now rows) keeps (filter_holds Is _ rows h)

-- ---- stations

pub each_filter : (p : Station → Bool) (xs : List Station) → EachHolds xs → EachHolds (filter p xs)
each_filter p [] h = h
each_filter p (x ∷ xs) h = go (p x) (each_filter p xs h.1)
  where
    go : (b : Bool) → EachHolds (filter p xs) → EachHolds (cond b (x ∷ filter p xs) (filter p xs))
    go true r = (h.0, r)
    go false r = r

pub each_put : (k : Key) (d : Definition) (xs : List Station) → selector_refusal d.selector ≡ None → EachHolds xs → EachHolds (xs ++ record { key = k; definition = d; missed = 0; rows = [] } ∷ [])
each_put k d [] chosen h = (record { selector = chosen; rows = tt }, tt)
each_put k d (x ∷ xs) chosen h = (h.0, each_put k d xs chosen h.1)

pub each_at : (f : List PlacedRow → List PlacedRow) → Keeps f → (k : Key) (xs : List Station) → EachHolds xs → EachHolds (at_key k (with_rows f) xs)
each_at f keeps k [] h = h
each_at f keeps k (x ∷ xs) h = go (key_eq x.key k) (each_at f keeps k xs h.1)
  where
    go : (b : Bool) → EachHolds (at_key k (with_rows f) xs) → EachHolds (cond b (with_rows f x ∷ xs) (x ∷ at_key k (with_rows f) xs))
    go true r = (record { selector = h.0.selector; rows = keeps (IsOfTopic x.definition) x.rows h.0.rows }, h.1)
    go false r = (h.0, r)

pub each_map : (f : List PlacedRow → List PlacedRow) → Keeps f → (xs : List Station) → EachHolds xs → EachHolds (map (with_rows f) xs)
each_map f keeps [] h = h
each_map f keeps (x ∷ xs) h = (record { selector = h.0.selector; rows = keeps (IsOfTopic x.definition) x.rows h.0.rows }, each_map f keeps xs h.1)

-- ---- publications

to_topic : (topic : List ℕ) (d : Destination) → is_to topic d ≡ true → d ≡ Topic topic
to_topic topic (Queue name) e = cc
to_topic topic (Topic name) e = ap (λ t. Topic t) (sym (text_same topic name e))

-- a message that a subscription accepts is one that it may hold
accepted_is : (key : Key) (d : Definition) (p : Publisher) (m : Content) → IsMessage m → accepts key d p m ≡ true → IsOfTopic d m
unfolding accepts
accepted_is key d p m is e =
    let first = and_parts (is_to d.topic m.destination) (not (d.no_local && is_local key p) && matches d.selector m) e in
    let second = and_parts (not (d.no_local && is_local key p)) (matches d.selector m) first.1 in
    record { message = is; sent = to_topic d.topic m.destination first.0; selected = second.1 }

-- the station, that missed the message
abbrev with_miss : Station → Station
with_miss x = record { key = x.key; definition = x.definition; missed = one_missed x.missed; rows = x.rows }

-- the station with the message at that place
abbrev with_place : Content → ℕ → Station → Station
with_place m place x = with_rows (λ rows. rows ++ record { place = place; row = fresh m } ∷ []) x

offered_holds : (limit : ℕ) (p : Publisher) (m : Content) (place : ℕ) (x : Station) → 1 ≤ place → IsMessage m → HoldsAsked x → HoldsAsked (offered limit p m place x)
offered_holds limit p m place x l is h = go (accepts x.key x.definition p m) refl
  where
    full : IsOfTopic x.definition m → (b : Bool) → HoldsAsked (cond b (with_miss x) (with_place m place x))
    full may true = record { selector = h.selector; rows = h.rows }
    full may false = record { selector = h.selector; rows = push_holds (IsOfTopic x.definition) place (fresh m) x.rows l may h.rows }

    go : (b : Bool) → accepts x.key x.definition p m ≡ b → HoldsAsked (cond b (cond (is_full limit x.key (length x.rows)) (with_miss x) (with_place m place x)) x)
    go true e = full (accepted_is x.key x.definition p m is e) (is_full limit x.key (length x.rows))
    go false e = h

pub each_offered : (limit : ℕ) (p : Publisher) (m : Content) (place : ℕ) (xs : List Station) → 1 ≤ place → IsMessage m → EachHolds xs → EachHolds (map (offered limit p m place) xs)
each_offered limit p m place [] l is h = h
each_offered limit p m place (x ∷ xs) l is h = (offered_holds limit p m place x l is h.0, each_offered limit p m place xs l is h.1)

-- ---- queues

abbrev pub EachQueueHolds : (List ℕ → List PlacedRow) → Type 0
EachQueueHolds queues = (name : List ℕ) → AllHold (IsOfQueue name) (queues name)

pub queued_hold : (d : Destination) (m : Content) (place : ℕ) (queues : List ℕ → List PlacedRow) → m.destination ≡ d → 1 ≤ place → IsMessage m → EachQueueHolds queues → EachQueueHolds (queued d m place queues)
queued_hold (Topic topic) m place queues e l is h name = h name
queued_hold (Queue other) m place queues e l is h name = go (text_eq other name) refl
  where
    go : (b : Bool) → text_eq other name ≡ b → AllHold (IsOfQueue name) (cond b (queues name ++ record { place = place; row = fresh m } ∷ []) (queues name))
    go true same = push_holds (IsOfQueue name) place (fresh m) (queues name) l (record { message = is; sent = e ∙ ap (λ t. Queue t) (text_same other name same) }) (h name)
    go false same = h name

queues_at : (f : List PlacedRow → List PlacedRow) → Keeps f → (name : List ℕ) (queues : List ℕ → List PlacedRow) → EachQueueHolds queues → EachQueueHolds (at_queue name f queues)
queues_at f keeps name queues h other = go (text_eq name other)
  where
    go : (b : Bool) → AllHold (IsOfQueue other) (cond b (f (queues other)) (queues other))
    go true = keeps (IsOfQueue other) (queues other) (h other)
    go false = h other

pub queues_of : (f : List PlacedRow → List PlacedRow) → Keeps f → (k : Key) (queues : List ℕ → List PlacedRow) → EachQueueHolds queues → EachQueueHolds (at_queue_of k f queues)
queues_of f keeps (OfQueue name) queues h other = queues_at f keeps name queues h other
queues_of f keeps (Own s c) queues h other = h other
queues_of f keeps (SharedOwn client name) queues h other = h other
queues_of f keeps (Durable client name) queues h other = h other
