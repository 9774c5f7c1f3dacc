-- What callers see of all lists through each change.
use Rattle.std.proofs.Common.{◌≡◌, ◌≢◌, ℕ, ◌+◌, ◌<◌, ◌==◌, sym, None, map, List, [], ◌∷◌, length, get_or, set, Bool, true, false, cond, Option, Some, refl, ap, ◌∙◌, arith, suc, zero}
use Rattle.std.specs.List.{filter, All}
use Rattle.std.proofs.lemmas.List.{map-append, length-map}
use Rattle.std.proofs.lemmas.List.Elements.{All-nil, All-cons, All-head, All-tail, All-filter, All-weaker, All-map, All-push}
use Rattle.jm_dest.specs.declared.session.SessionId.{SessionId}
use Rattle.jm_header.specs.declared.content.Content.{Content}
use Rattle.jm_machine.specs.declared.state.Row.{Row as MachineRow}
use Rattle.jm_machine.specs.declared.state.RowState.{RowState}
use Rattle.jm_machine.specs.declared.state.PlacedRow.{PlacedRow}
use Rattle.jm_lane.specs.declared.row.Row.{Row}
use Rattle.jm_lane.specs.Rows.{IsRising, due_of, is_elsewhere, row_of, stays, sent, sent_at}
use Rattle.jm_pending.specs.Rows.{Held, is_at_limit}
use Rattle.jm_pending.specs.Chosen.{next_where}
use Rattle.jm_lane.specs.Holders.{Messages, KeepsMessages, Covers, message_of}
use Rattle.jm_pending.specs.Placed.{placed, all_placed, message_or_none, IsRowOf}
use Rattle.jm_pending.specs.Counts.{IsCounted}
use Rattle.jm_pending.proofs.Counting.{placed_same, rows_same}
use Rattle.jm_stations.specs.Backlogs.{Backlog, is_named, joined, changed_at, received, delivered}
use Rattle.jm_stations.specs.Kept.{all_rows, shown, all_shown, with_row, dropped, received_at, delivered_at, AreBelow, IsBacklog, IsOffered}
use Rattle.jm_stations.proofs.Holders.{covers_one}
use Rattle.jm_stations.proofs.Delivery.{is_left, left_all, left_same, sent_if}
use Rattle.jm_stations.proofs.Choosing.{settled_where_same, sent_where_same}

-- a list of rows with these rows, as callers see it
abbrev pub backlog_of : Held → List PlacedRow → Backlog
backlog_of h rows = record { rows = rows; limit = h.limit; missed = h.missed; room = h.room }

-- what a list shows stays while its messages do
pub shown_kept : (old new : Messages) (h : Held) → KeepsMessages old new → Covers new h.rows → shown new h ≡ shown old h
shown_kept old new h k c = ap (backlog_of h) (placed_same old new h.rows k c)

pub backlog_kept : (old new : Messages) (place : ℕ) (h : Held) → KeepsMessages old new → Covers new h.rows → IsBacklog old place h → IsBacklog new place h
backlog_kept old new place h k c b = record { below = b.below; own = rows_same old new h.rows k c b.own }

-- the same of all lists
pub all_shown_kept : (old new : Messages) (lists : List Held) → KeepsMessages old new → All (λ (h : Held). Covers new h.rows) lists → all_shown new lists ≡ all_shown old lists
all_shown_kept old new [] k c = refl
all_shown_kept old new (h ∷ lists) k c =
    rw (shown_kept old new h k (All-head (λ (h : Held). Covers new h.rows) h lists c), all_shown_kept old new lists k (All-tail (λ (h : Held). Covers new h.rows) h lists c)) refl

pub all_backlogs_kept : (old new : Messages) (place : ℕ) (lists : List Held) → KeepsMessages old new → All (λ (h : Held). Covers new h.rows) lists → All (IsBacklog old place) lists → All (IsBacklog new place) lists
all_backlogs_kept old new place lists k c b = λ i d l. backlog_kept old new place (get_or lists i d) k (c i d l) (b i d l)

pub all_covered : (t : Messages) (lists : List Held) → IsCounted t (all_rows lists) → All (λ (h : Held). Covers t h.rows) lists
all_covered t lists c = λ k d l. covers_one t lists k d l c

-- rows that stay are of their messages
pub filtered_backlog : (t : Messages) (place : ℕ) (p : Row → Bool) (h : Held) → IsBacklog t place h → IsBacklog t place (record h { rows = filter p h.rows })
filtered_backlog t place p h b = record {
  below = All-filter p (λ (r : Row). r.place < place) h.rows b.below;
  own = record { each = All-filter p (IsRowOf t) h.rows b.own.each };
}

-- a row of the same message
pub record IsLike (r r' : Row) : Type 0 where
  pub place : r'.place ≡ r.place
  pub priority : r'.priority ≡ r.priority
  pub expiration : r'.expiration ≡ r.expiration
  pub due : r'.due ≡ r.due

like_own : (t : Messages) (r r' : Row) → IsLike r r' → IsRowOf t r → IsRowOf t r'
like_own t r r' l o = record {
  priority = l.priority ∙ o.priority ∙ ap (λ n. (message_or_none (message_of t n)).priority) (sym l.place);
  expiration = l.expiration ∙ o.expiration ∙ ap (λ n. (message_or_none (message_of t n)).expiration) (sym l.place);
  due = l.due ∙ o.due ∙ ap (λ n. due_of (message_or_none (message_of t n))) (sym l.place);
}

-- and so are rows that change in their counts and states alone
pub mapped_backlog : (t : Messages) (place : ℕ) (f : Row → Row) → ((r : Row) → IsLike r (f r)) → (h : Held) → IsBacklog t place h → IsBacklog t place (record h { rows = map f h.rows })
mapped_backlog t place f like h b = record {
  below = All-map (λ (r : Row). r.place < place) f h.rows (All-weaker (λ (r : Row). r.place < place) (λ (r : Row). (f r).place < place) (λ r l. omega (arith, l, (like r).place)) h.rows b.below);
  own = record { each = All-map (IsRowOf t) f h.rows (All-weaker (IsRowOf t) (λ (r : Row). IsRowOf t (f r)) (λ r o. like_own t r (f r) (like r) o) h.rows b.own.each) };
}

-- a list whose expired rows are dropped
pub dropped_backlog : (t : Messages) (place now : ℕ) (h : Held) → IsBacklog t place h → IsBacklog t place (dropped now h)
dropped_backlog t place now h b = filtered_backlog t place (stays now) h b

-- and from which a row is taken out
pub received_backlog : (t : Messages) (place at now : ℕ) (h : Held) → IsBacklog t place h → IsBacklog t place (received_at at now h)
received_backlog t place at now h b =
    filtered_backlog t place (is_elsewhere at) (dropped now h) (dropped_backlog t place now h b)

sent_like : (place : ℕ) (s : SessionId) (c : ℕ) (r : Row) → IsLike r (sent_at place s c r)
sent_like place s c r = go (r.place == place)
  where
    go : (b : Bool) → IsLike r (cond b (sent s c r) r)
    go true = record { place = refl; priority = refl; expiration = refl; due = refl }
    go false = record { place = refl; priority = refl; expiration = refl; due = refl }

-- or of which one goes out
pub delivered_backlog : (t : Messages) (place at : ℕ) (s : SessionId) (c now : ℕ) (h : Held) → IsBacklog t place h → IsBacklog t place (delivered_at at s c now h)
delivered_backlog t place at s c now h b =
    mapped_backlog t place (sent_at at s c) (sent_like at s c) (dropped now h) (dropped_backlog t place now h b)

-- where nothing is next of those of its rows whose messages pass, a delivery drops the expired ones
pub dropped_received : (p : Content → Bool) (t : Messages) (place now : ℕ) (h : Held) → next_where p t now h.rows ≡ None → Covers t h.rows → IsBacklog t place h → IsRising h.rows → shown t (dropped now h) ≡ received p now (shown t h)
dropped_received p t place now h none covers b rising =
    ap (backlog_of h) (ap (all_placed t) (sym (left_all (filter (stays now) h.rows)) ∙ ap (λ o. filter (is_left o) (filter (stays now) h.rows)) (sym none)) ∙ settled_where_same p t now h covers b.own.each rising)

pub dropped_delivered : (p : Content → Bool) (t : Messages) (place : ℕ) (s : SessionId) (c now : ℕ) (h : Held) → next_where p t now h.rows ≡ None → Covers t h.rows → IsBacklog t place h → IsRising h.rows → shown t (dropped now h) ≡ delivered p s c now (shown t h)
dropped_delivered p t place s c now h none covers b rising =
    ap (backlog_of h) (ap (all_placed t) (sym (left_same s c (filter (stays now) h.rows)) ∙ ap (λ o. map (sent_if o s c) (filter (stays now) h.rows)) (sym none)) ∙ sent_where_same p t s c now h covers b.own.each rising)

-- and else it takes the row at the place of the next one
pub received_shown : (p : Content → Bool) (t : Messages) (place now : ℕ) (x : Row) (h : Held) → next_where p t now h.rows ≡ Some x → Covers t h.rows → IsBacklog t place h → IsRising h.rows → shown t (received_at x.place now h) ≡ received p now (shown t h)
received_shown p t place now x h next covers b rising =
    ap (backlog_of h) (ap (λ o. all_placed t (filter (is_left o) (filter (stays now) h.rows))) (sym next) ∙ settled_where_same p t now h covers b.own.each rising)

pub delivered_shown : (p : Content → Bool) (t : Messages) (place : ℕ) (s : SessionId) (c now : ℕ) (x : Row) (h : Held) → next_where p t now h.rows ≡ Some x → Covers t h.rows → IsBacklog t place h → IsRising h.rows → shown t (delivered_at x.place s c now h) ≡ delivered p s c now (shown t h)
delivered_shown p t place s c now x h next covers b rising =
    ap (backlog_of h) (ap (λ o. all_placed t (map (sent_if o s c) (filter (stays now) h.rows))) (sym next) ∙ sent_where_same p t s c now h covers b.own.each rising)

-- what a list keeps through a change
abbrev pub Keeps : Messages → ℕ → (Held → Held) → Type 0
Keeps t place f = (h : Held) → IsBacklog t place h → IsBacklog t place (f h)

-- and what callers see of it
abbrev pub Shows : Messages → ℕ → (Held → Held) → (Backlog → Backlog) → Type 0
Shows t place f g = (h : Held) → Covers t h.rows → IsBacklog t place h → IsRising h.rows → shown t (f h) ≡ g (shown t h)

-- one of many
pub changed_shown : (t : Messages) (k : ℕ) (f : Held → Held) (g : Backlog → Backlog) (d : Held) (lists : List Held) → k < length lists → shown t (f (get_or lists k d)) ≡ g (shown t (get_or lists k d)) → all_shown t (changed_at k f lists) ≡ changed_at k g (all_shown t lists)
changed_shown t k f g d [] l same = refl
changed_shown t zero f g d (h ∷ lists) l same = ap (λ x. x ∷ all_shown t lists) same
changed_shown t (suc k) f g d (h ∷ lists) l same = ap (λ xs. shown t h ∷ xs) (changed_shown t k f g d lists (omega arith) same)

pub changed_backlogs : (t : Messages) (place k : ℕ) (f : Held → Held) → Keeps t place f → (lists : List Held) → All (IsBacklog t place) lists → All (IsBacklog t place) (changed_at k f lists)
changed_backlogs t place k f step [] b = All-nil (IsBacklog t place)
changed_backlogs t place zero f step (h ∷ lists) b = All-cons (IsBacklog t place) (f h) lists (step h (All-head (IsBacklog t place) h lists b)) (All-tail (IsBacklog t place) h lists b)
changed_backlogs t place (suc k) f step (h ∷ lists) b = All-cons (IsBacklog t place) h (changed_at k f lists) (All-head (IsBacklog t place) h lists b) (changed_backlogs t place k f step lists (All-tail (IsBacklog t place) h lists b))

pub changed_is_set : {X : Type 0} (k : ℕ) (f : X → X) (d : X) (lists : List X) → k < length lists → set lists k (f (get_or lists k d)) ≡ changed_at k f lists
changed_is_set k f d [] l = absurd (omega arith)
changed_is_set zero f d (h ∷ lists) l = refl
changed_is_set (suc k) f d (h ∷ lists) l = ap (λ xs. h ∷ xs) (changed_is_set k f d lists (omega arith))

-- a publication

-- rows below a place are read as before, where only what stands there is other
pub placed_below : (old new : Messages) (place : ℕ) (rows : List Row) → ((p : ℕ) → p ≢ place → message_of new p ≡ message_of old p) → AreBelow place rows → all_placed new rows ≡ all_placed old rows
placed_below old new place [] same b = refl
placed_below old new place (r ∷ rows) same b =
    let lt : r.place < place = All-head (λ (r : Row). r.place < place) r rows b in
    rw (same r.place (omega (arith, lt)), placed_below old new place rows same (All-tail (λ (r : Row). r.place < place) r rows b)) refl

row_kept : (old new : Messages) (r : Row) → message_of new r.place ≡ message_of old r.place → IsRowOf old r → IsRowOf new r
row_kept old new r same h = record { priority = rw same h.priority; expiration = rw same h.expiration; due = rw same h.due }

rows_below : (old new : Messages) (place : ℕ) (rows : List Row) → ((p : ℕ) → p ≢ place → message_of new p ≡ message_of old p) → AreBelow place rows → All (IsRowOf old) rows → All (IsRowOf new) rows
rows_below old new place rows same b own = λ k d l. row_kept old new (get_or rows k d) (same (get_or rows k d).place (let lt : (get_or rows k d).place < place = b k d l in omega (arith, lt))) (own k d l)

-- a list before and after the message is put into the table
pub put_shown : (old new : Messages) (place : ℕ) (h : Held) → ((p : ℕ) → p ≢ place → message_of new p ≡ message_of old p) → IsBacklog old place h → shown new h ≡ shown old h
put_shown old new place h same b = ap (backlog_of h) (placed_below old new place h.rows same b.below)

later : (place : ℕ) (rows : List Row) → AreBelow place rows → AreBelow (place + 1) rows
later place rows b = All-weaker (λ (r : Row). r.place < place) (λ (r : Row). r.place < place + 1) (λ r l. omega (arith, l)) rows b

pub put_backlog : (old new : Messages) (place : ℕ) (h : Held) → ((p : ℕ) → p ≢ place → message_of new p ≡ message_of old p) → IsBacklog old place h → IsBacklog new (place + 1) h
put_backlog old new place h same b = record { below = later place h.rows b.below; own = record { each = rows_below old new place h.rows same b.below b.own.each } }

-- a row that comes, of what stands for its message
abbrev pub row_at : ℕ → ℕ → RowState → Option Content → PlacedRow
row_at place count state o = record { place = place; row = record { message = message_or_none o; count = count; state = state } }

row_shown : (t : Messages) (place : ℕ) (x : MachineRow) → message_of t place ≡ Some x.message → placed t (row_of place x.message x.count x.state) ≡ row_at place x.count x.state (Some x.message)
row_shown t place x is = ap (row_at place x.count x.state) is

length_placed : (t : Messages) (rows : List Row) → length (all_placed t rows) ≡ length rows
length_placed t rows = length-map rows (placed t)

-- a list that takes the message
pub with_row_shown : (t : Messages) (place : ℕ) (x : MachineRow) (h : Held) → message_of t place ≡ Some x.message → shown t (with_row (row_of place x.message x.count x.state) h) ≡ joined place x (shown t h)
with_row_shown t place x h is = go (is_at_limit h.limit (length h.rows)) refl
  where
    go : (b : Bool) → is_at_limit h.limit (length h.rows) ≡ b → shown t (with_row (row_of place x.message x.count x.state) h) ≡ joined place x (shown t h)
    go true e = rw (length_placed t h.rows, e) refl
    go false e = rw (length_placed t h.rows, e, map-append (placed t) h.rows (row_of place x.message x.count x.state ∷ []), row_shown t place x is) refl

pub with_row_backlog : (t : Messages) (place : ℕ) (x : MachineRow) (h : Held) → message_of t place ≡ Some x.message → IsBacklog t (place + 1) h → IsBacklog t (place + 1) (with_row (row_of place x.message x.count x.state) h)
with_row_backlog t place x h is b = go (is_at_limit h.limit (length h.rows)) refl
  where
    own : IsRowOf t (row_of place x.message x.count x.state)
    own = record { priority = rw is refl; expiration = rw is refl; due = rw is refl }

    go : (c : Bool) → is_at_limit h.limit (length h.rows) ≡ c → IsBacklog t (place + 1) (with_row (row_of place x.message x.count x.state) h)
    go true e = rw e (record { below = b.below; own = b.own })
    go false e = rw e (record {
      below = All-push (λ (r : Row). r.place < place + 1) h.rows (row_of place x.message x.count x.state) b.below (omega arith);
      own = record { each = All-push (IsRowOf t) h.rows (row_of place x.message x.count x.state) b.own.each own };
    })

-- all lists, once the message is put and offered
pub offered_backlogs : (old new : Messages) (place : ℕ) (x : MachineRow) (indexes : List ℕ) (lists after : List Held) → ((p : ℕ) → p ≢ place → message_of new p ≡ message_of old p) → message_of new place ≡ Some x.message → IsOffered indexes (row_of place x.message x.count x.state) lists after → All (IsBacklog old place) lists → All (IsBacklog new (place + 1)) after
offered_backlogs old new place x indexes lists after same is o b = λ k d l.
    let inside : k < length lists = omega (arith, o.number, l) in
    let here = put_backlog old new place (get_or lists k d) same (b k d inside) in
    rw (o.each k d inside) (go (is_named indexes k) k d here)
  where
    go : (c : Bool) (k : ℕ) (d : Held) → IsBacklog new (place + 1) (get_or lists k d) → IsBacklog new (place + 1) (cond c (with_row (row_of place x.message x.count x.state) (get_or lists k d)) (get_or lists k d))
    go true k d here = with_row_backlog new place x (get_or lists k d) is here
    go false k d here = here

pub offered_shown : (old new : Messages) (place : ℕ) (x : MachineRow) (indexes : List ℕ) (lists after : List Held) (k : ℕ) (d : Held) → k < length lists → ((p : ℕ) → p ≢ place → message_of new p ≡ message_of old p) → message_of new place ≡ Some x.message → IsOffered indexes (row_of place x.message x.count x.state) lists after → All (IsBacklog old place) lists
    → shown new (get_or after k d) ≡ cond (is_named indexes k) (joined place x (shown old (get_or lists k d))) (shown old (get_or lists k d))
offered_shown old new place x indexes lists after k d inside same is o b =
    let put = put_shown old new place (get_or lists k d) same (b k d inside) in
    rw (o.each k d inside) (go (is_named indexes k) put)
  where
    go : (c : Bool) → shown new (get_or lists k d) ≡ shown old (get_or lists k d) → shown new (cond c (with_row (row_of place x.message x.count x.state) (get_or lists k d)) (get_or lists k d)) ≡ cond c (joined place x (shown old (get_or lists k d))) (shown old (get_or lists k d))
    go true put = with_row_shown new place x (get_or lists k d) is ∙ ap (joined place x) put
    go false put = put
