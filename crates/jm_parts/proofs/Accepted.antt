-- What steps do to what is held: each row stays accepted.
use Rattle.std.proofs.Common.{◌≡◌, ◌+◌, ℕ, Bool, true, false, cond, List, [], ◌∷◌, ◌++◌, map, length, refl, Option, Some, None, Result, Ok, Err}
use Rattle.std.specs.Prelude.{◌&&◌, filter, not}
use Rattle.jm_base.specs.declared.mode.Mode.{Mode}
use Rattle.jm_dest.specs.declared.session.SessionId.{SessionId}
use Rattle.jm_dest.specs.declared.key.Key.{Key}
use Rattle.jm_dest.specs.Keys.{key_eq}
use Rattle.jm_header.specs.declared.content.Content.{Content}
use Rattle.jm_lexer.specs.declared.fault.SyntaxFault.{SyntaxFault}
use Rattle.jm_tree.specs.declared.tree.Tree.{Tree}
use Rattle.jm_eval.specs.Values.{Value, Unknown, Boolean, Number, Text, condition_of}
use Rattle.jm_eval.specs.Evaluation.{value, Selects}
use Rattle.jm_eval.specs.Views.{view}
use Rattle.jm_machine.specs.declared.state.Definition.{Definition}
use Rattle.jm_machine.specs.declared.state.PlacedRow.{PlacedRow}
use Rattle.jm_machine.specs.declared.state.Row.{Row}
use Rattle.jm_machine.specs.declared.state.Station.{Station}
use Rattle.jm_machine.specs.Rows.{fresh, is_out, left_of, sent_out, settles_at_once, live_placed, change_placed, deliver_placed}
use Rattle.jm_selector.specs.Selectors.{selector_read, read_selects, selects, holds}
use Rattle.jm_machine.specs.Life.{Life}
use Rattle.jm_machine.specs.declared.state.RowState.TheVariants.{Waiting}
use Rattle.jm_machine.specs.Machine.{Publisher, publisher_of, accepts, at_key, is_full, is_local, is_to, offered, one_missed, returned_rows, with_rows}
use Rattle.jm_machine.specs.Accepted.{IsAccepted, AllAccepted, HoldsAccepted}
use Rattle.jm_parts.specs.Publications.{published_stations}

by_value : (v : Value) → holds (condition_of v) ≡ true → v ≡ Boolean true
by_value (Boolean true) h = refl
by_value (Boolean false) h = cc
by_value Unknown h = cc
by_value (Number n) h = cc
by_value (Text cs) h = cc

pub selected : (tree : Option Tree) (m : Content) → selects tree m ≡ true → Selects (view m) tree
unfolding selects
selected None m h = tt
selected (Some tree) m h = by_value (value (view m) tree) h

accepted_is : (key : Key) (d : Definition) (p : Publisher) (m : Content) → accepts key d p m ≡ true → IsAccepted d m
unfolding accepts
accepted_is key d p m h = go (is_to d.topic m.destination) (not (d.no_local && is_local key p)) (selector_read d.selector) h
  where
    go : (a b : Bool) (r : Result (Option Tree) SyntaxFault) → (a && (b && read_selects r m)) ≡ true → (a ≡ true) × ((tree : Option Tree) × ((r ≡ Ok tree) × Selects (view m) tree))
    go true true (Ok tree) h = (refl, (tree, (refl, selected tree m h)))
    go true true (Err e) h = cc
    go true false r h = cc
    go false b r h = cc

pub filtered : (d : Definition) (p : PlacedRow → Bool) (rows : List PlacedRow) → AllAccepted d rows → AllAccepted d (filter p rows)
filtered d p [] h = h
filtered d p (x ∷ rows) h = go (filtered d p rows h.1) (p x)
  where
    go : AllAccepted d (filter p rows) → (b : Bool) → AllAccepted d (cond b (x ∷ filter p rows) (filter p rows))
    go rest true = (h.0, rest)
    go rest false = rest

-- a delivery leaves the message of a row, or nothing
settled : (d : Definition) (mode : Option Mode) (s : SessionId) (c : ℕ) (p : Row → Bool) (rows : List PlacedRow) → AllAccepted d rows → AllAccepted d (change_placed p (left_of mode s c) rows)
unfolding left_of
settled d mode s c p [] h = h
settled d mode s c p (x ∷ rows) h = go (settled d mode s c p rows h.1) (p x.row)
  where
    left : (b : Bool) → AllAccepted d (map (λ r. record { place = x.place; row = r }) (cond b [] (sent_out s c x.row ∷ [])) ++ rows)
    left true = h.1
    left false = (h.0, h.1)

    go : AllAccepted d (change_placed p (left_of mode s c) rows) → (b : Bool) →
        AllAccepted d (cond b (map (λ r. record { place = x.place; row = r }) (cond (settles_at_once mode) [] (sent_out s c x.row ∷ [])) ++ rows) (x ∷ change_placed p (left_of mode s c) rows))
    go rest true = left (settles_at_once mode)
    go rest false = (h.0, rest)

delivered : (d : Definition) (mode : Option Mode) (s : SessionId) (c now : ℕ) (rows : List PlacedRow) → AllAccepted d rows → AllAccepted d (deliver_placed now (left_of mode s c) rows)
delivered d mode s c now rows h = settled d mode s c _ (live_placed now rows) (filtered d _ rows h)

added : (d : Definition) (rows : List PlacedRow) (x : PlacedRow) → AllAccepted d rows → IsAccepted d x.row.message → AllAccepted d (rows ++ x ∷ [])
added d [] x h k = (k, tt)
added d (y ∷ rows) x h k = (h.0, added d rows x h.1 k)

-- the station with the message at that place
abbrev with_place : Content → ℕ → Station → Station
with_place m place x = with_rows (λ rows. rows ++ record { place = place; row = fresh m } ∷ []) x

-- the station, that missed the message
abbrev with_miss : Station → Station
with_miss x = record { key = x.key; definition = x.definition; missed = one_missed x.missed; rows = x.rows }

offered_holds : (limit : ℕ) (p : Publisher) (m : Content) (place : ℕ) (x : Station) → AllAccepted x.definition x.rows → AllAccepted (offered limit p m place x).definition (offered limit p m place x).rows
offered_holds limit p m place x h = go (accepts x.key x.definition p m) refl
  where
    come : (b : Bool) → accepts x.key x.definition p m ≡ true → AllAccepted (cond b (with_miss x) (with_place m place x)).definition (cond b (with_miss x) (with_place m place x)).rows
    come true e = h
    come false e = added x.definition x.rows (record { place = place; row = fresh m }) h (accepted_is x.key x.definition p m e)

    go : (b : Bool) → accepts x.key x.definition p m ≡ b →
        AllAccepted (cond b (cond (is_full limit x.key (length x.rows)) (with_miss x) (with_place m place x)) x).definition (cond b (cond (is_full limit x.key (length x.rows)) (with_miss x) (with_place m place x)) x).rows
    go true e = come (is_full limit x.key (length x.rows)) e
    go false e = h

all_offered_hold : (limit : ℕ) (p : Publisher) (m : Content) (place : ℕ) (xs : List Station) → HoldsAccepted xs → HoldsAccepted (map (offered limit p m place) xs)
all_offered_hold limit p m place [] h = h
all_offered_hold limit p m place (x ∷ xs) h = (offered_holds limit p m place x h.0, all_offered_hold limit p m place xs h.1)

pub published_hold : (limit : ℕ) (life : Life) (place : ℕ) (ms : List Content) (xs : List Station) → HoldsAccepted xs → HoldsAccepted (published_stations limit life place ms xs)
published_hold limit life place [] xs h = h
published_hold limit life place (m ∷ ms) xs h = published_hold limit life (place + 1) ms (map (offered limit (publisher_of life m) m place) xs) (all_offered_hold limit (publisher_of life m) m place xs h)

pub with_empty : (k : Key) (d : Definition) (xs : List Station) → HoldsAccepted xs → HoldsAccepted (xs ++ record { key = k; definition = d; missed = 0; rows = [] } ∷ [])
with_empty k d [] h = (tt, tt)
with_empty k d (x ∷ xs) h = (h.0, with_empty k d xs h.1)

pub at_key_holds : (k : Key) (mode : Option Mode) (s : SessionId) (c now : ℕ) (xs : List Station) → HoldsAccepted xs → HoldsAccepted (at_key k (with_rows (deliver_placed now (left_of mode s c))) xs)
at_key_holds k mode s c now [] h = h
at_key_holds k mode s c now (x ∷ xs) h = go (at_key_holds k mode s c now xs h.1) (key_eq x.key k)
  where
    go : HoldsAccepted (at_key k (with_rows (deliver_placed now (left_of mode s c))) xs) → (b : Bool) →
        HoldsAccepted (cond b (with_rows (deliver_placed now (left_of mode s c)) x ∷ xs) (x ∷ at_key k (with_rows (deliver_placed now (left_of mode s c))) xs))
    go rest true = (delivered x.definition mode s c now x.rows h.0, h.1)
    go rest false = (h.0, rest)

-- ---- acknowledgement and closing

-- rows that wait again have their messages
pub returned : (p : SessionId → ℕ → Bool) (d : Definition) (rows : List PlacedRow) → AllAccepted d rows → AllAccepted d (returned_rows p rows)
returned p d [] h = h
returned p d (x ∷ rows) h = (go (is_out p x.row), returned p d rows h.1)
  where
    go : (b : Bool) → IsAccepted d (cond b (record x.row { state = Waiting }) x.row).message
    go true = h.0
    go false = h.0

pub all_returned_hold : (p : SessionId → ℕ → Bool) (xs : List Station) → HoldsAccepted xs → HoldsAccepted (map (with_rows (returned_rows p)) xs)
all_returned_hold p [] h = h
all_returned_hold p (x ∷ xs) h = (returned p x.definition x.rows h.0, all_returned_hold p xs h.1)

pub all_settled_hold : (p : PlacedRow → Bool) (xs : List Station) → HoldsAccepted xs → HoldsAccepted (map (with_rows (filter p)) xs)
all_settled_hold p [] h = h
all_settled_hold p (x ∷ xs) h = (filtered x.definition p x.rows h.0, all_settled_hold p xs h.1)

pub kept_hold : (t : Station → Bool) (xs : List Station) → HoldsAccepted xs → HoldsAccepted (filter t xs)
kept_hold t [] h = h
kept_hold t (x ∷ xs) h = go (t x) (kept_hold t xs h.1)
  where
    go : (b : Bool) → HoldsAccepted (filter t xs) → HoldsAccepted (cond b (x ∷ filter t xs) (filter t xs))
    go true rest = (h.0, rest)
    go false rest = rest
