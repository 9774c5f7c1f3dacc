-- A delivery from one of many lists, and what is handed out.
use Rattle.std.proofs.Common.{◌≡◌, ℕ, ◌<◌, ◌==◌, List, [], ◌∷◌, length, get_or, Bool, true, false, cond, Option, Some, None, refl, ap, sym, subst, ◌∙◌, arith, option_map, nat_eq}
use Rattle.std.specs.List.{filter, find}
use Rattle.std.specs.Option.{IfSome}
use Rattle.std.specs.Map.{lookup}
use Rattle.std.proofs.lemmas.List.{get_or-map, length-map}
use Rattle.std.proofs.lemmas.List.Sums.{sum_by-cons}
use Rattle.jm_dest.specs.declared.session.SessionId.{SessionId}
use Rattle.jm_header.specs.declared.content.Content.{Content}
use Rattle.jm_machine.specs.declared.state.PlacedRow.{PlacedRow}
use Rattle.jm_machine.specs.declared.answer.Answer.TheVariants.{Nothing}
use Rattle.jm_machine.specs.Machine.{delivery}
use Rattle.jm_machine.specs.Wants.{next_chosen}
use Rattle.jm_machine.specs.Rows as machine
use Rattle.jm_lane.specs.declared.row.Row.{Row}
use Rattle.jm_lane.specs.declared.table.Stored.{Stored}
use Rattle.jm_pending.specs.declared.held.Taken.{Taken}
use Rattle.jm_lane.specs.Lanes.{is_at}
use Rattle.jm_lane.specs.Rows.{IsRising, counted, sent, stays}
use Rattle.jm_pending.specs.Rows.{Held, next, is_next}
use Rattle.jm_pending.specs.Chosen.{next_where}
use Rattle.jm_lane.specs.Holders.{Messages, Follows, Covers, holders_of, holders_in, message_of, message_in, last_message, rows_at}
use Rattle.jm_pending.specs.Placed.{placed, all_placed, content_of, message_or_none}
use Rattle.jm_pending.specs.Counts.{all_at, IsCounted}
use Rattle.jm_lane.proofs.Holding.{row_first}
use Rattle.jm_lanes.proofs.Places.{find_has}
use Rattle.jm_stations.specs.declared.picked.Picked.{Picked}
use Rattle.jm_stations.specs.Backlogs.{Backlog, IsPicked, changed_at, delivered, placed_at, picked_of, received, holders_at, kept_message, handed_out, handed_over, handed_copy}
use Rattle.jm_stations.specs.Kept.{all_rows, delivered_at, dropped, received_at, shown, all_shown, left_at, taken, IsKept}
use Rattle.jm_stations.proofs.Holders.{counted_one, covers_one}
use Rattle.jm_stations.proofs.Choosing.{all_held, next_where_same, row_where_same, where_held, where_left}
use Rattle.jm_stations.proofs.Shown.{all_covered, all_backlogs_kept, all_shown_kept, changed_shown, changed_backlogs, changed_is_set, delivered_backlog, delivered_shown, dropped_backlog, dropped_delivered, dropped_received, received_backlog, received_shown, Keeps}

-- what is held after a change of one list
pub changed_kept : (t t' : Messages) (place k : ℕ) (f : Held → Held) → Keeps t place f → (d : Held) (lists : List Held) → k < length lists → IsKept t lists place → Follows t t' (get_or lists k d).rows (f (get_or lists k d)).rows → IsKept t' (changed_at k f lists) place
changed_kept t t' place k f step d lists l w follows =
    let after = changed_at k f lists in
    let counted : IsCounted t' (all_rows after) = rw (← changed_is_set k f d lists l) (counted_one t t' lists k d (f (get_or lists k d)) l w.counted follows) in
    record { counted = counted; each = all_backlogs_kept t t' place after follows.messages (all_covered t' after counted) (changed_backlogs t place k f step lists w.each); places = w.places }

-- and what callers see of it
pub changed_seen : (t t' : Messages) (place k : ℕ) (f : Held → Held) (g : Backlog → Backlog) → Keeps t place f → (d : Held) (lists : List Held) → k < length lists → IsKept t lists place → Follows t t' (get_or lists k d).rows (f (get_or lists k d)).rows → shown t (f (get_or lists k d)) ≡ g (shown t (get_or lists k d)) → all_shown t' (changed_at k f lists) ≡ changed_at k g (all_shown t lists)
changed_seen t t' place k f g step d lists l w follows same =
    let after = changed_at k f lists in
    let counted : IsCounted t' (all_rows after) = (changed_kept t t' place k f step d lists l w follows).counted in
    all_shown_kept t t' after follows.messages (all_covered t' after counted) ∙ changed_shown t k f g d lists l same

-- rows at a place are as many as callers see
placed_count : (t : Messages) (p : ℕ) (rows : List Row) → placed_at p (all_placed t rows) ≡ rows_at p rows
placed_count t p [] = refl
placed_count t p (r ∷ rows) = omega (arith, sum_by-cons (λ (x : PlacedRow). cond {A = ℕ} (x.place == p) 1 0) (placed t r) (all_placed t rows), row_first p r rows, placed_count t p rows)

pub shown_count : (t : Messages) (p : ℕ) (lists : List Held) → holders_at p (all_shown t lists) ≡ all_at p (all_rows lists)
shown_count t p [] = refl
shown_count t p (h ∷ lists) =
    omega (arith, sum_by-cons (λ (b : Backlog). placed_at p b.rows) (shown t h) (all_shown t lists), sum_by-cons (λ rows. rows_at p rows) h.rows (all_rows lists), placed_count t p h.rows, shown_count t p lists)

-- what has a holder has a message
pub has_message : (o : Option Stored) → 0 < holders_in o → message_in o ≡ Some (message_or_none (message_in o))
has_message None h = absurd (omega (arith, h))
has_message (Some s) h = refl

-- the next row has a holder
pub next_held : (t : Messages) (now : ℕ) (rows : List Row) → Covers t rows → IfSome (next now rows) (λ (x : Row). 0 < holders_of t x.place)
next_held t now rows c = find_has (λ (x : Row). 0 < holders_of t x.place) (is_next now rows) rows (all_held t rows c)

-- a row that is taken
abbrev pub taken_of : Messages → Row → Taken
taken_of t r = record { row = counted r; message = last_message t r.place }

-- its message, or the copy, is handed out
handed_row : (t : Messages) (r : Row) (copy : Option Content) (n : ℕ) → 0 < holders_of t r.place → n ≡ holders_of t r.place → copy ≡ cond (n == 1) None (Some (content_of t r)) → handed_out (taken_of t r) copy ≡ delivery (Some (placed t r).row)
handed_row t r copy n there is e =
    let m : message_of t r.place ≡ Some (content_of t r) = has_message (lookup (nat_eq r.place) t.entries) there in
    let f : copy ≡ cond (holders_of t r.place == 1) None (Some (content_of t r)) = e ∙ ap (λ k. cond (k == 1) None (Some (content_of t r))) is in
    go (holders_of t r.place == 1) (message_of t r.place) m f
  where
    go : (b : Bool) (o : Option Content) → o ≡ Some (content_of t r) → copy ≡ cond b None (Some (content_of t r)) → handed_out (record { row = counted r; message = cond b o None }) copy ≡ delivery (Some (placed t r).row)
    go true o m f = rw m refl
    go false o m f = rw f refl

-- what was picked of a row
abbrev pub IsPickedRow : Bool → List Backlog → Messages → Option Row → Picked → Row → Type 0
IsPickedRow settles list t o q x = (o ≡ Some x) × (q.place ≡ x.place) × (q.copy ≡ kept_message settles list (Some (placed t x)))

pub picked_row : (settles : Bool) (list : List Backlog) (t : Messages) (o : Option Row) (q : Picked) → Some q ≡ picked_of settles list (option_map (placed t) o) → (x : Row) × IsPickedRow settles list t o q x
picked_row settles list t None q e = absurd (cc)
picked_row settles list t (Some x) q e =
    let same : q ≡ record { place = x.place; copy = kept_message settles list (Some (placed t x)) } = cc in
    (x, (refl, ap (λ (z : Picked). z.place) same, ap (λ (z : Picked). z.copy) same))

pub picked_none : (settles : Bool) (list : List Backlog) (t : Messages) (o : Option Row) → None ≡ picked_of settles list (option_map (placed t) o) → o ≡ None
picked_none settles list t None e = refl
picked_none settles list t (Some x) e = absurd (cc)

-- what was picked of those of the rows of a list whose messages pass
picked_here : (p : Content → Bool) (settles : Bool) (t : Messages) (place now k : ℕ) (d : Held) (lists : List Held) (o : Option Picked) → k < length lists → IsKept t lists place → IsPicked p settles now (all_shown t lists) k o → o ≡ picked_of settles (all_shown t lists) (option_map (placed t) (next_where p t now (get_or lists k d).rows))
picked_here p settles t place now k d lists o l w is =
    let covers = covers_one t lists k d l w.counted in
    is (shown t d) ∙ ap (λ (b : Backlog). picked_of settles (all_shown t lists) (next_chosen p now b.rows)) (get_or-map (shown t) lists k d (shown t d) l) ∙ ap (picked_of settles (all_shown t lists)) (next_where_same p t now (get_or lists k d).rows covers (w.each k d l).own.each)

pub picked_one : (p : Content → Bool) (settles : Bool) (t : Messages) (place now k : ℕ) (d : Held) (lists : List Held) (q : Picked) → k < length lists → IsKept t lists place → IsPicked p settles now (all_shown t lists) k (Some q) → (x : Row) × IsPickedRow settles (all_shown t lists) t (next_where p t now (get_or lists k d).rows) q x
picked_one p settles t place now k d lists q l w is =
    picked_row settles (all_shown t lists) t (next_where p t now (get_or lists k d).rows) q (picked_here p settles t place now k d lists (Some q) l w is)

pub picked_nothing : (p : Content → Bool) (settles : Bool) (t : Messages) (place now k : ℕ) (d : Held) (lists : List Held) → k < length lists → IsKept t lists place → IsPicked p settles now (all_shown t lists) k None → next_where p t now (get_or lists k d).rows ≡ None
picked_nothing p settles t place now k d lists l w is =
    picked_none settles (all_shown t lists) t (next_where p t now (get_or lists k d).rows) (picked_here p settles t place now k d lists None l w is)

-- what is answered where nothing is next
pub told_none : (p : Content → Bool) (t : Messages) (place now k : ℕ) (d : Held) (lists : List Held) → k < length lists → IsKept t lists place → next_where p t now (get_or lists k d).rows ≡ None → Nothing ≡ delivery (machine.next now (machine.live now (machine.chosen p (machine.bare (all_placed t (get_or lists k d).rows)))))
told_none p t place now k d lists l w none =
    ap (λ o. delivery (option_map (λ (x : PlacedRow). x.row) (option_map (placed t) o))) (sym none) ∙ ap delivery (sym (row_where_same p t now (get_or lists k d).rows (covers_one t lists k d l w.counted) (w.each k d l).own.each))

-- what is answered from what is taken
pub told_taken : (p : Content → Bool) (t : Messages) (place now k : ℕ) (d : Held) (lists : List Held) (out : Option Taken) (q : Picked) (x : Row) → k < length lists → IsKept t lists place → IsRising (get_or lists k d).rows → out ≡ taken t (left_at q.place now (get_or lists k d)) → IsPickedRow true (all_shown t lists) t (next_where p t now (get_or lists k d).rows) q x
    → handed_over out q.copy ≡ delivery (machine.next now (machine.live now (machine.chosen p (machine.bare (all_placed t (get_or lists k d).rows)))))
told_taken p t place now k d lists out q x l w rising e is =
    let rows : List Row = (get_or lists k d).rows in
    let covers = covers_one t lists k d l w.counted in
    let there : 0 < holders_of t x.place = subst (λ o. IfSome o (λ (y : Row). 0 < holders_of t y.place)) is.0 (where_held p t now rows covers) in
    let left : left_at q.place now (get_or lists k d) ≡ Some x = ap (λ n. find (is_at n) (filter (stays now) rows)) is.1 ∙ where_left p t now rows x rising is.0 in
    let number : holders_at x.place (all_shown t lists) ≡ holders_of t x.place = shown_count t x.place lists ∙ sym (w.counted.each x.place) in
    ap (λ o. handed_over o q.copy) (e ∙ ap (taken t) left) ∙ handed_row t x q.copy (holders_at x.place (all_shown t lists)) there number is.2 ∙ ap (λ o. delivery (option_map (λ (y : PlacedRow). y.row) (option_map (placed t) o))) (sym is.0) ∙ ap delivery (sym (row_where_same p t now rows covers (w.each k d l).own.each))

-- the same of a row that goes out, of which the copy is handed out
pub told_sent : (p : Content → Bool) (t : Messages) (place : ℕ) (s : SessionId) (c now k : ℕ) (d : Held) (lists : List Held) (out : Option Row) (q : Picked) (x : Row) → k < length lists → IsKept t lists place → IsRising (get_or lists k d).rows → out ≡ option_map (sent s c) (left_at q.place now (get_or lists k d)) → IsPickedRow false (all_shown t lists) t (next_where p t now (get_or lists k d).rows) q x
    → handed_copy out q.copy ≡ delivery (machine.next now (machine.live now (machine.chosen p (machine.bare (all_placed t (get_or lists k d).rows)))))
told_sent p t place s c now k d lists out q x l w rising e is =
    let rows : List Row = (get_or lists k d).rows in
    let left : left_at q.place now (get_or lists k d) ≡ Some x = ap (λ n. find (is_at n) (filter (stays now) rows)) is.1 ∙ where_left p t now rows x rising is.0 in
    let told : handed_copy (option_map (sent s c) (Some x)) q.copy ≡ delivery (Some (placed t x).row) = rw (is.2) refl in
    ap (λ o. handed_copy o q.copy) (e ∙ ap (option_map (sent s c)) left) ∙ told ∙ ap (λ o. delivery (option_map (λ (y : PlacedRow). y.row) (option_map (placed t) o))) (sym is.0) ∙ ap delivery (sym (row_where_same p t now rows (covers_one t lists k d l w.counted) (w.each k d l).own.each))

-- what is no pick is none
pub picked_absent : {X : Type 0} (o : Option X) → ((x : X) → o ≡ Some x → ⊥) → o ≡ None
picked_absent None h = refl
picked_absent (Some x) h = absurd (h x refl)

-- what callers see of all lists after a delivery from one, where nothing was next
pub nothing_received : (p : Content → Bool) (t t' : Messages) (place now k : ℕ) (d : Held) (lists : List Held) → k < length lists → IsKept t lists place → IsRising (get_or lists k d).rows → Follows t t' (get_or lists k d).rows (dropped now (get_or lists k d)).rows → IsPicked p true now (all_shown t lists) k None → all_shown t' (changed_at k (dropped now) lists) ≡ changed_at k (received p now) (all_shown t lists)
nothing_received p t t' place now k d lists l w rising follows is =
    changed_seen t t' place k (dropped now) (received p now) (dropped_backlog t place now) d lists l w follows (dropped_received p t place now (get_or lists k d) (picked_nothing p true t place now k d lists l w is) (covers_one t lists k d l w.counted) (w.each k d l) rising)

pub nothing_delivered : (p : Content → Bool) (t t' : Messages) (place : ℕ) (s : SessionId) (c now k : ℕ) (d : Held) (lists : List Held) → k < length lists → IsKept t lists place → IsRising (get_or lists k d).rows → Follows t t' (get_or lists k d).rows (dropped now (get_or lists k d)).rows → IsPicked p false now (all_shown t lists) k None → all_shown t' (changed_at k (dropped now) lists) ≡ changed_at k (delivered p s c now) (all_shown t lists)
nothing_delivered p t t' place s c now k d lists l w rising follows is =
    changed_seen t t' place k (dropped now) (delivered p s c now) (dropped_backlog t place now) d lists l w follows (dropped_delivered p t place s c now (get_or lists k d) (picked_nothing p false t place now k d lists l w is) (covers_one t lists k d l w.counted) (w.each k d l) rising)

-- and where a row was
pub received_seen : (p : Content → Bool) (t t' : Messages) (place at now k : ℕ) (d : Held) (lists : List Held) (q : Picked) → at ≡ q.place → k < length lists → IsKept t lists place → IsRising (get_or lists k d).rows → Follows t t' (get_or lists k d).rows (received_at at now (get_or lists k d)).rows → IsPicked p true now (all_shown t lists) k (Some q) → all_shown t' (changed_at k (received_at at now) lists) ≡ changed_at k (received p now) (all_shown t lists)
received_seen p t t' place at now k d lists q here l w rising follows is =
    let h : Held = get_or lists k d in
    let one = picked_one p true t place now k d lists q l w is in
    changed_seen t t' place k (received_at at now) (received p now) (received_backlog t place at now) d lists l w follows (ap (λ n. shown t (received_at n now h)) (here ∙ one.1.1) ∙ received_shown p t place now one.0 h one.1.0 (covers_one t lists k d l w.counted) (w.each k d l) rising)

pub delivered_seen : (p : Content → Bool) (t t' : Messages) (place at : ℕ) (s : SessionId) (c now k : ℕ) (d : Held) (lists : List Held) (q : Picked) → at ≡ q.place → k < length lists → IsKept t lists place → IsRising (get_or lists k d).rows → Follows t t' (get_or lists k d).rows (delivered_at at s c now (get_or lists k d)).rows → IsPicked p false now (all_shown t lists) k (Some q) → all_shown t' (changed_at k (delivered_at at s c now) lists) ≡ changed_at k (delivered p s c now) (all_shown t lists)
delivered_seen p t t' place at s c now k d lists q here l w rising follows is =
    let h : Held = get_or lists k d in
    let one = picked_one p false t place now k d lists q l w is in
    changed_seen t t' place k (delivered_at at s c now) (delivered p s c now) (delivered_backlog t place at s c now) d lists l w follows (ap (λ n. shown t (delivered_at n s c now h)) (here ∙ one.1.1) ∙ delivered_shown p t place s c now one.0 h one.1.0 (covers_one t lists k d l w.counted) (w.each k d l) rising)

-- a list without rows
abbrev pub no_rows : Held
no_rows = record { rows = []; limit = None; missed = 0; room = 0 }

-- what callers see is as long
pub within_shown : (t : Messages) (lists : List Held) (k : ℕ) → k < length (all_shown t lists) → k < length lists
within_shown t lists k l = omega (arith, length-map lists (shown t), l)
