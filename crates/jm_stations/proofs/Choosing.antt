-- A delivery from those of the rows whose messages pass is the machine's from the rows as callers see them.
use Rattle.std.proofs.Common.{◌≡◌, subst, ℕ, ◌<◌, List, [], ◌∷◌, get_or, map, Bool, true, false, not, ◌&&◌, cond, Option, Some, None, refl, ap, sym, ◌∙◌, arith, option_map, nat_eq}
use Rattle.std.specs.List.{filter, find, All}
use Rattle.std.specs.Map.{lookup}
use Rattle.std.specs.Option.{IfSome}
use Rattle.std.proofs.lemmas.Bool.{eq-eqb, ne_eqb}
use Rattle.std.proofs.lemmas.List.{get_or_default}
use Rattle.std.proofs.lemmas.List.Elements.{All-head, All-tail, All-filter}
use Rattle.jm_dest.specs.declared.session.SessionId.{SessionId}
use Rattle.jm_header.specs.declared.content.Content.{Content}
use Rattle.jm_machine.specs.declared.state.PlacedRow.{PlacedRow}
use Rattle.jm_machine.specs.Rows as machine
use Rattle.jm_machine.specs.Rows.{has_lapsed, live, bare, chosen, live_placed, deliver_chosen, is_next_chosen}
use Rattle.jm_machine.specs.Wants as wants
use Rattle.jm_lane.specs.declared.row.Row.{Row}
use Rattle.jm_lane.specs.declared.table.Stored.{Stored}
use Rattle.jm_lane.specs.Chosen.{is_passed, passes}
use Rattle.jm_lane.specs.Lanes.{is_at}
use Rattle.jm_pending.specs.Chosen.{next_where}
use Rattle.jm_lane.specs.Rows.{IsRising, stays}
use Rattle.jm_pending.specs.Rows.{Held, is_next}
use Rattle.jm_lane.specs.Holders.{Messages, Covers, holders_in, holders_of, message_in}
use Rattle.jm_pending.specs.Placed.{placed, all_placed, content_of, message_or_none, IsRowOf}
use Rattle.jm_lane.proofs.Holding.{holder_there}
use Rattle.jm_lane.proofs.Rising.{rising-filter}
use Rattle.jm_lanes.proofs.Places.{find_has}
use Rattle.jm_stations.specs.Backlogs.{gone, out_row}
use Rattle.jm_stations.proofs.Delivery.{is_left, sent_if, row_at, is_next_same, next_stays, settled_by, sent_by, found_by, find_kept, next_row_same}

-- rows that are covered have their holders
pub all_held : (t : Messages) (rows : List Row) → Covers t rows → All (λ (r : Row). 0 < holders_of t r.place) rows
all_held t rows c = λ k d l. holder_there t rows k (get_or rows k d) c l (get_or_default rows k d (get_or rows k d) l)

-- and are read with their messages
read_in : (p : Content → Bool) (o : Option Stored) → 0 < holders_in o → is_passed p (message_in o) ≡ p (message_or_none (message_in o))
read_in p None h = absurd (omega (arith, h))
read_in p (Some s) h = refl

all_read : (p : Content → Bool) (t : Messages) (rows : List Row) → Covers t rows → All (λ r. passes p t r ≡ p (content_of t r)) rows
all_read p t rows c = λ k d l. read_in p (lookup (nat_eq (get_or rows k d).place) t.entries) (all_held t rows c k d l)

-- the rows whose messages pass, as callers see them
chosen_bare : (p : Content → Bool) (t : Messages) (rows : List Row) → All (λ r. passes p t r ≡ p (content_of t r)) rows → bare (all_placed t (filter (passes p t) rows)) ≡ chosen p (bare (all_placed t rows))
chosen_bare p t [] h = refl
chosen_bare p t (r ∷ rows) h =
    go (passes p t r) (p (content_of t r)) (All-head (λ r. passes p t r ≡ p (content_of t r)) r rows h) (chosen_bare p t rows (All-tail (λ r. passes p t r ≡ p (content_of t r)) r rows h))
  where
    go : (a b : Bool) → a ≡ b → bare (all_placed t (filter (passes p t) rows)) ≡ chosen p (bare (all_placed t rows)) → bare (all_placed t (cond a (r ∷ filter (passes p t) rows) (filter (passes p t) rows))) ≡ cond b (row_at t r ∷ chosen p (bare (all_placed t rows))) (chosen p (bare (all_placed t rows)))
    go true b e rest = rw (← e) (ap (λ xs. row_at t r ∷ xs) rest)
    go false b e rest = rw (← e) rest

-- two filters, in either order
filter_swap : {X : Type 0} (p q : X → Bool) (xs : List X) → filter p (filter q xs) ≡ filter q (filter p xs)
filter_swap p q [] = refl
filter_swap p q (x ∷ xs) = go (p x) (q x) refl refl (filter_swap p q xs)
  where
    go : (a b : Bool) → p x ≡ a → q x ≡ b → filter p (filter q xs) ≡ filter q (filter p xs) → filter p (cond b (x ∷ filter q xs) (filter q xs)) ≡ filter q (cond a (x ∷ filter p xs) (filter p xs))
    go true true e f rest = rw (e, f) (ap (λ ys. x ∷ ys) rest)
    go true false e f rest = rw f rest
    go false true e f rest = rw e rest
    go false false e f rest = rest

-- the next of the rows whose messages pass, as a test of all rows
abbrev pub is_next_where : (Content → Bool) → Messages → ℕ → List Row → Row → Bool
is_next_where p t now rows r = passes p t r && is_next now (filter (passes p t) rows) r

find_filter : (q p : Row → Bool) (rows : List Row) → find q (filter p rows) ≡ find (λ r. p r && q r) rows
find_filter q p [] = refl
find_filter q p (r ∷ rows) = go (p r) (find_filter q p rows)
  where
    go : (b : Bool) → find q (filter p rows) ≡ find (λ r. p r && q r) rows → find q (cond b (r ∷ filter p rows) (filter p rows)) ≡ cond (b && q r) (Some r) (find (λ r. p r && q r) rows)
    go true rest = ap (cond (q r) (Some r)) rest
    go false rest = rest

found_where : (p : Content → Bool) (t : Messages) (now : ℕ) (rows : List Row) → next_where p t now rows ≡ find (is_next_where p t now rows) rows
found_where p t now rows = find_filter (is_next now (filter (passes p t) rows)) (passes p t) rows

right_true : (a b : Bool) → (a && b) ≡ true → b ≡ true
right_true true b h = h
right_true false b h = absurd (cc)

where_stays : (p : Content → Bool) (t : Messages) (now : ℕ) (rows : List Row) (r : Row) → is_next_where p t now rows r ≡ true → stays now r ≡ true
where_stays p t now rows r h = next_stays now (filter (passes p t) rows) r (right_true (passes p t r) (is_next now (filter (passes p t) rows) r) h)

-- it is the machine's test
where_each : (p : Content → Bool) (t : Messages) (now : ℕ) (rows : List Row) → Covers t rows → All (IsRowOf t) rows → All (λ r. is_next_where p t now rows r ≡ is_next_chosen p now (live now (bare (all_placed t rows))) (row_at t r)) rows
where_each p t now rows covers own = λ k d l.
    let r : Row = get_or rows k d in
    let read = all_read p t rows covers in
    let among : live now (bare (all_placed t (filter (passes p t) rows))) ≡ chosen p (live now (bare (all_placed t rows))) =
    ap (live now) (chosen_bare p t rows read) ∙ filter_swap (λ x. not (has_lapsed now x)) (λ x. p x.message) (bare (all_placed t rows)) in
    let one : passes p t r ≡ p (content_of t r) = read k d l in
    let other : is_next now (filter (passes p t) rows) r ≡ machine.is_next now (chosen p (live now (bare (all_placed t rows)))) (row_at t r) =
    is_next_same t now (filter (passes p t) rows) r (All-filter (passes p t) (IsRowOf t) rows own) (own k d l) ∙ ap (λ xs. machine.is_next now xs (row_at t r)) among in
    λ i. one i && other i

-- rows without the waiting ones that are expired, and without the next one of those whose messages pass
abbrev pub settled_where : (Content → Bool) → Messages → ℕ → Held → Held
settled_where p t now h = record h { rows = filter (is_left (next_where p t now h.rows)) (filter (stays now) h.rows) }

-- the same of which that one goes out
abbrev pub sent_off_where : (Content → Bool) → Messages → SessionId → ℕ → ℕ → Held → Held
sent_off_where p t s c now h = record h { rows = map (sent_if (next_where p t now h.rows) s c) (filter (stays now) h.rows) }

-- where the row is settled
pub settled_where_same : (p : Content → Bool) (t : Messages) (now : ℕ) (h : Held) → Covers t h.rows → All (IsRowOf t) h.rows → IsRising h.rows → all_placed t (settled_where p t now h).rows ≡ deliver_chosen p now gone (all_placed t h.rows)
settled_where_same p t now h covers own rising =
    let rows = h.rows in
    ap (λ o. all_placed t (filter (is_left o) (filter (stays now) rows))) (found_where p t now rows) ∙ settled_by t now (is_next_where p t now rows) (is_next_chosen p now (live now (bare (all_placed t rows)))) rows (where_stays p t now rows) own (where_each p t now rows covers own) rising

-- where it goes out
pub sent_where_same : (p : Content → Bool) (t : Messages) (s : SessionId) (c now : ℕ) (h : Held) → Covers t h.rows → All (IsRowOf t) h.rows → IsRising h.rows → all_placed t (sent_off_where p t s c now h).rows ≡ deliver_chosen p now (out_row s c) (all_placed t h.rows)
sent_where_same p t s c now h covers own rising =
    let rows = h.rows in
    ap (λ o. all_placed t (map (sent_if o s c) (filter (stays now) rows))) (found_where p t now rows) ∙ sent_by t s c now (is_next_where p t now rows) (is_next_chosen p now (live now (bare (all_placed t rows)))) rows (where_stays p t now rows) own (where_each p t now rows covers own) rising

-- the row that is taken, as callers see it
pub next_where_same : (p : Content → Bool) (t : Messages) (now : ℕ) (rows : List Row) → Covers t rows → All (IsRowOf t) rows → wants.next_chosen p now (all_placed t rows) ≡ option_map (placed t) (next_where p t now rows)
next_where_same p t now rows covers own =
    found_by t now (is_next_where p t now rows) (is_next_chosen p now (live now (bare (all_placed t rows)))) rows (where_stays p t now rows) own (where_each p t now rows covers own) ∙ ap (option_map (placed t)) (sym (found_where p t now rows))

-- and without its place
pub row_where_same : (p : Content → Bool) (t : Messages) (now : ℕ) (rows : List Row) → Covers t rows → All (IsRowOf t) rows → machine.next now (live now (chosen p (bare (all_placed t rows)))) ≡ option_map (λ (x : PlacedRow). x.row) (option_map (placed t) (next_where p t now rows))
row_where_same p t now rows covers own =
    ap (λ xs. machine.next now (live now xs)) (sym (chosen_bare p t rows (all_read p t rows covers))) ∙ next_row_same t now (filter (passes p t) rows) (All-filter (passes p t) (IsRowOf t) rows own)

-- it has a holder
pub where_held : (p : Content → Bool) (t : Messages) (now : ℕ) (rows : List Row) → Covers t rows → IfSome (next_where p t now rows) (λ (x : Row). 0 < holders_of t x.place)
where_held p t now rows covers =
    find_has (λ (x : Row). 0 < holders_of t x.place) (is_next now (filter (passes p t) rows)) (filter (passes p t) rows) (All-filter (passes p t) (λ (x : Row). 0 < holders_of t x.place) rows (all_held t rows covers))

-- in rows by place a row that is found is that at its place
found_there : (q : Row → Bool) (rows : List Row) (x : Row) → IsRising rows → find q rows ≡ Some x → find (is_at x.place) rows ≡ Some x
found_there q [] x up h = absurd (cc)
found_there q (r ∷ rows) x up h = go (q r) h (found_there q rows x up.1) (find_has (λ (y : Row). r.place < y.place) q rows up.0)
  where
    go : (b : Bool) → cond b (Some r) (find q rows) ≡ Some x → (find q rows ≡ Some x → find (is_at x.place) rows ≡ Some x) → IfSome (find q rows) (λ (y : Row). r.place < y.place) → find (is_at x.place) (r ∷ rows) ≡ Some x
    go true e rec above =
        let is : r ≡ x = cc in
        rw (is, eq-eqb x.place x.place refl) refl
    go false e rec above =
        let over : r.place < x.place = subst (λ o. IfSome o (λ (y : Row). r.place < y.place)) e above in
        rw (ne_eqb r.place x.place (omega (arith, over))) (rec e)

-- so the next one is that at its place
pub where_there : (p : Content → Bool) (t : Messages) (now : ℕ) (rows : List Row) (x : Row) → IsRising rows → next_where p t now rows ≡ Some x → find (is_at x.place) rows ≡ Some x
where_there p t now rows x rising next = found_there (is_next_where p t now rows) rows x rising (sym (found_where p t now rows) ∙ next)

-- and of those that are left
pub where_left : (p : Content → Bool) (t : Messages) (now : ℕ) (rows : List Row) (x : Row) → IsRising rows → next_where p t now rows ≡ Some x → find (is_at x.place) (filter (stays now) rows) ≡ Some x
where_left p t now rows x rising next =
    found_there (is_next_where p t now rows) (filter (stays now) rows) x (rising-filter (stays now) rows rising) (find_kept (is_next_where p t now rows) (stays now) (where_stays p t now rows) rows ∙ sym (found_where p t now rows) ∙ next)
