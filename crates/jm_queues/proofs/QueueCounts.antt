-- How many rows of queues stand at a place, through each change.
use Rattle.std.proofs.Common.{◌≡◌, ◌<◌, ◌≤◌, ◌+◌, ◌==◌, ℕ, Bool, true, false, cond, List, [], ◌∷◌, ◌++◌, map, length, get_or, refl, ap, ◌∙◌, arith, Option, Some, None, zero, suc}
use Rattle.std.specs.Prelude.{◌&&◌, filter, find, not, is_some, OnErr, Result, Ok, Err}
use Rattle.std.specs.List.{All}
use Rattle.std.proofs.lemmas.Bool.Decides.{nat_tests}
use Rattle.std.proofs.lemmas.List.Elements.{All-head, All-tail, All-cons, All-nil, All-push}
use Rattle.std.proofs.lemmas.List.Sums.{sum_by-cons, sum_by_push}
use Rattle.jm_dest.specs.declared.session.SessionId.{SessionId}
use Rattle.jm_header.specs.declared.content.Content.{Content}
use Rattle.jm_machine.specs.declared.state.PlacedRow.{PlacedRow}
use Rattle.jm_machine.specs.declared.state.Row.{Row}
use Rattle.jm_machine.specs.Machine.{returned_row, returned_rows, settled_rows}
use Rattle.jm_machine.specs.Rows.{bare, change_placed, deliver_chosen, has_lapsed, is_next_chosen, is_out, live, live_placed, sent_out}
use Rattle.jm_machine.specs.Wants.{next_chosen}
use Rattle.jm_stations.specs.Backlogs.{Backlog, HasCome, HasMoreRoom, changed_at, copy_wanted_where, empty, holders_at, is_named, joined, kept_message, placed_at, without_room}
use Rattle.jm_queues.specs.Queues.{AreQueues, HasNoLimit}
use Rattle.jm_queues.proofs.Found.{with}
use Rattle.jm_queues.proofs.QueueRows.{HaveSameRows, copies_same, more_same, published_same, same_tail, with_new}

-- ---- the rows of one list

placed-cons : (p : ℕ) (x : PlacedRow) (rows : List PlacedRow) → placed_at p (x ∷ rows) ≡ cond (x.place == p) 1 0 + placed_at p rows
placed-cons p x rows = sum_by-cons (λ (y : PlacedRow). cond (y.place == p) 1 0) x rows

placed_filter : (p : ℕ) (q : PlacedRow → Bool) (rows : List PlacedRow) → placed_at p (filter q rows) ≤ placed_at p rows
placed_filter p q [] = omega arith
placed_filter p q (x ∷ rows) = go (q x) (placed_filter p q rows)
  where
    go : (b : Bool) → placed_at p (filter q rows) ≤ placed_at p rows → placed_at p (cond b (x ∷ filter q rows) (filter q rows)) ≤ placed_at p (x ∷ rows)
    go true r = omega (arith, r, placed-cons p x rows, placed-cons p x (filter q rows))
    go false r = omega (arith, r, placed-cons p x rows)

-- what a delivery leaves of a row: nothing, or the row as it goes out
abbrev left : Bool → SessionId → ℕ → Row → List Row
left gone s c r = cond gone [] (sent_out s c r ∷ [])

placed_change : (p : ℕ) (gone : Bool) (s : SessionId) (c : ℕ) (q : Row → Bool) (rows : List PlacedRow) → placed_at p (change_placed q (left gone s c) rows) ≤ placed_at p rows
placed_change p gone s c q [] = omega arith
placed_change p gone s c q (x ∷ rows) = go (q x.row) (placed_change p gone s c q rows)
  where
    out : PlacedRow
    out = record { place = x.place; row = sent_out s c x.row }

    by : (b : Bool) → placed_at p (map (λ r. record { place = x.place; row = r }) (cond b [] (sent_out s c x.row ∷ [])) ++ rows) ≤ placed_at p (x ∷ rows)
    by true = omega (arith, placed-cons p x rows)
    by false = omega (arith, placed-cons p x rows, placed-cons p out rows)

    go : (b : Bool) → placed_at p (change_placed q (left gone s c) rows) ≤ placed_at p rows →
        placed_at p (cond b (map (λ r. record { place = x.place; row = r }) (left gone s c x.row) ++ rows) (x ∷ change_placed q (left gone s c) rows)) ≤ placed_at p (x ∷ rows)
    go true r = by gone
    go false r = omega (arith, r, placed-cons p x rows, placed-cons p x (change_placed q (left gone s c) rows))

-- a change of rows that leaves no more at any place
abbrev pub IsFewer : (List PlacedRow → List PlacedRow) → Type 0
IsFewer g = (p : ℕ) (rows : List PlacedRow) → placed_at p (g rows) ≤ placed_at p rows

pub fewer_delivered : (gone : Bool) (s : SessionId) (c : ℕ) (pass : Content → Bool) (now : ℕ) → IsFewer (deliver_chosen pass now (left gone s c))
fewer_delivered gone s c pass now p rows =
    let stay = placed_filter p (λ x. not (has_lapsed now x.row)) rows in
    let changed = placed_change p gone s c (is_next_chosen pass now (live now (bare rows))) (live_placed now rows) in
    omega (arith, stay, changed)

pub fewer_settled : (q : SessionId → ℕ → Bool) → IsFewer (settled_rows q)
fewer_settled q p rows = placed_filter p (λ x. not (is_out q x.row)) rows

pub fewer_returned : (q : SessionId → ℕ → Bool) → IsFewer (returned_rows q)
fewer_returned q p [] = omega arith
fewer_returned q p (x ∷ rows) =
    let rest = fewer_returned q p rows in
    let here = placed-cons p x rows in
    let there = placed-cons p (returned_row q x) (returned_rows q rows) in
    omega (arith, rest, here, there)

-- ---- the rows of all lists

holders-cons : (p : ℕ) (b : Backlog) (bs : List Backlog) → holders_at p (b ∷ bs) ≡ placed_at p b.rows + holders_at p bs
holders-cons p b bs = sum_by-cons (λ (x : Backlog). placed_at p x.rows) b bs

-- no list more at any place
abbrev AreFewer : List Backlog → List Backlog → Type 0
AreFewer old new = (p : ℕ) → holders_at p new ≤ holders_at p old

lists_mapped : (g : List PlacedRow → List PlacedRow) → IsFewer g → (bs : List Backlog) → AreFewer bs (map (with g) bs)
lists_mapped g f [] p = omega arith
lists_mapped g f (b ∷ bs) p = omega (arith, f p b.rows, lists_mapped g f bs p, holders-cons p b bs, holders-cons p (with g b) (map (with g) bs))

lists_changed : (i : ℕ) (g : List PlacedRow → List PlacedRow) → IsFewer g → (bs : List Backlog) → AreFewer bs (changed_at i (with g) bs)
lists_changed i g f [] p = omega arith
lists_changed zero g f (b ∷ bs) p = omega (arith, f p b.rows, holders-cons p b bs, holders-cons p (with g b) bs)
lists_changed (suc i) g f (b ∷ bs) p = omega (arith, lists_changed i g f bs p, holders-cons p b bs, holders-cons p b (changed_at i (with g) bs))

lists_same : (xs ys : List Backlog) → HaveSameRows xs ys → (p : ℕ) → holders_at p ys ≡ holders_at p xs
lists_same [] [] h p = refl
lists_same [] (y ∷ ys) h p = absurd (omega (arith, h.number))
lists_same (x ∷ xs) [] h p = absurd (omega (arith, h.number))
lists_same (x ∷ xs) (y ∷ ys) h p =
    let here : placed_at p y.rows ≡ placed_at p x.rows = ap (placed_at p) (h.each zero x (omega arith)) in
    omega (arith, here, lists_same xs ys (same_tail x y xs ys h) p, holders-cons p x xs, holders-cons p y ys)

lists_new : (i place : ℕ) (row : Row) (bs : List Backlog) (p : ℕ) → i < length bs → holders_at p (changed_at i (with (with_new place row)) bs) ≡ holders_at p bs + cond (place == p) 1 0
lists_new i place row [] p l = absurd (omega arith)
lists_new zero place row (b ∷ bs) p l =
    let more : placed_at p (with_new place row b.rows) ≡ placed_at p b.rows + cond (place == p) 1 0 = sum_by_push (λ (y : PlacedRow). cond (y.place == p) 1 0) b.rows (record { place = place; row = row }) in
    omega (arith, more, holders-cons p b bs, holders-cons p (with (with_new place row) b) bs)
lists_new (suc i) place row (b ∷ bs) p l = omega (arith, lists_new i place row bs p (omega arith), holders-cons p b bs, holders-cons p b (changed_at i (with (with_new place row)) bs))

-- one list has no more than all
pub one_list : (p i : ℕ) (bs : List Backlog) (d : Backlog) → i < length bs → placed_at p (get_or bs i d).rows ≤ holders_at p bs
one_list p i [] d l = absurd (omega arith)
one_list p zero (b ∷ bs) d l = omega (arith, holders-cons p b bs)
one_list p (suc i) (b ∷ bs) d l = omega (arith, one_list p i bs d (omega arith), holders-cons p b bs)

-- ---- what queues keep

pub queues_none : AreQueues [] 1
queues_none = record { unlimited = All-nil HasNoLimit; single = λ p. omega arith; below = λ p l. refl }

queues_fewer : (old new : List Backlog) (place : ℕ) → AreQueues old place → All HasNoLimit new → AreFewer old new → AreQueues new place
queues_fewer old new place h u f = record {
  unlimited = u;
  single = λ p. omega (arith, h.single p, f p);
  below = λ p l. let none = h.below p l in let few = f p in omega (arith, none, few);
}

unlimited_mapped : (g : List PlacedRow → List PlacedRow) (bs : List Backlog) → All HasNoLimit bs → All HasNoLimit (map (with g) bs)
unlimited_mapped g [] u = u
unlimited_mapped g (b ∷ bs) u = All-cons HasNoLimit (with g b) (map (with g) bs) (All-head HasNoLimit b bs u) (unlimited_mapped g bs (All-tail HasNoLimit b bs u))

unlimited_changed : (i : ℕ) (g : List PlacedRow → List PlacedRow) (bs : List Backlog) → All HasNoLimit bs → All HasNoLimit (changed_at i (with g) bs)
unlimited_changed i g [] u = u
unlimited_changed zero g (b ∷ bs) u = All-cons HasNoLimit (with g b) bs (All-head HasNoLimit b bs u) (All-tail HasNoLimit b bs u)
unlimited_changed (suc i) g (b ∷ bs) u = All-cons HasNoLimit b (changed_at i (with g) bs) (All-head HasNoLimit b bs u) (unlimited_changed i g bs (All-tail HasNoLimit b bs u))

unlimited_copied : (bs : List Backlog) → All HasNoLimit bs → All HasNoLimit (map without_room bs)
unlimited_copied [] u = u
unlimited_copied (b ∷ bs) u = All-cons HasNoLimit (without_room b) (map without_room bs) (All-head HasNoLimit b bs u) (unlimited_copied bs (All-tail HasNoLimit b bs u))

pub queues_mapped : (g : List PlacedRow → List PlacedRow) → IsFewer g → (bs : List Backlog) (place : ℕ) → AreQueues bs place → AreQueues (map (with g) bs) place
queues_mapped g f bs place h = queues_fewer bs (map (with g) bs) place h (unlimited_mapped g bs h.unlimited) (lists_mapped g f bs)

pub queues_changed : (i : ℕ) (g : List PlacedRow → List PlacedRow) → IsFewer g → (bs : List Backlog) (place : ℕ) → AreQueues bs place → AreQueues (changed_at i (with g) bs) place
queues_changed i g f bs place h = queues_fewer bs (changed_at i (with g) bs) place h (unlimited_changed i g bs h.unlimited) (lists_changed i g f bs)

pub queues_copied : (bs : List Backlog) (place : ℕ) → AreQueues bs place → AreQueues (map without_room bs) place
queues_copied bs place h = queues_fewer bs (map without_room bs) place h (unlimited_copied bs h.unlimited) (λ p. omega (arith, lists_same bs (map without_room bs) (copies_same bs) p))

pub queues_more : (old new : List Backlog) (place : ℕ) → HasMoreRoom old new → AreQueues old place → AreQueues new place
queues_more old new place r h =
    queues_fewer old new place h (λ k d l. let within : k < length old = omega (arith, r.number, l) in ap (λ (b : Backlog). b.limit) (r.same k d within) ∙ h.unlimited k d within)
    (λ p. omega (arith, lists_same old new (more_same old new r) p))

pub queues_push : (bs : List Backlog) (place : ℕ) → AreQueues bs place → AreQueues (bs ++ empty None ∷ []) place
queues_push bs place h = queues_fewer bs (bs ++ empty None ∷ []) place h (All-push HasNoLimit bs (empty None) h.unlimited refl) (λ p. omega (arith, sum_by_push (λ (x : Backlog). placed_at p x.rows) bs (empty None)))

pub queues_skipped : (bs : List Backlog) (place next : ℕ) → place ≤ next → AreQueues bs place → AreQueues bs next
queues_skipped bs place next le h = record { unlimited = h.unlimited; single = h.single; below = λ p l. h.below p (omega (arith, le, l)) }

unlimited_published : (i place : ℕ) (row : Row) (old new : List Backlog) → All HasNoLimit old → HasCome (i ∷ []) place row old new → All HasNoLimit new
unlimited_published i place row old new u h = λ k d l.
    let within : k < length old = omega (arith, h.number, l) in
    ap (λ (b : Backlog). b.limit) (h.each k d within) ∙ go (is_named (i ∷ []) k) (get_or old k d) (u k d within)
  where
    go : (t : Bool) (b : Backlog) → b.limit ≡ None → (cond t (joined place row b) b).limit ≡ None
    go true b e = rw e refl
    go false b e = e

pub queues_published : (i place : ℕ) (row : Row) (old new : List Backlog) → i < length old → HasCome (i ∷ []) place row old new → AreQueues old place → AreQueues new (place + 1)
queues_published i place row old new at h q =
    let count : (p : ℕ) → holders_at p new ≡ holders_at p old + cond (place == p) 1 0 = λ p. lists_same (changed_at i (with (with_new place row)) old) new (published_same i place row old new q.unlimited h) p ∙ lists_new i place row old p at in
    record {
      unlimited = unlimited_published i place row old new q.unlimited h;
      single = λ p. one p (place == p) refl (count p);
      below = λ p l. none p l (count p);
    }
  where
    one : (p : ℕ) (b : Bool) → (place == p) ≡ b → holders_at p new ≡ holders_at p old + cond b 1 0 → holders_at p new ≤ 1
    one p true e c = let same : place ≡ p = grind (arith, nat_tests) in let was = q.below p (omega (arith, same)) in omega (arith, c, was)
    one p false e c = let was = q.single p in omega (arith, c, was)

    none : (p : ℕ) → place + 1 ≤ p → holders_at p new ≡ holders_at p old + cond (place == p) 1 0 → holders_at p new ≡ 0
    none p l c =
        let other : (place == p) ≡ false = grind (arith, nat_tests) in
        let was = q.below p (omega (arith, l)) in
        c ∙ ap (λ b. holders_at p old + cond b 1 0) other ∙ omega (arith, was)

-- ---- copies

found_placed : (q : PlacedRow → Bool) (rows : List PlacedRow) (x : PlacedRow) → find q rows ≡ Some x → 1 ≤ placed_at x.place rows
found_placed q [] x h = cc
found_placed q (y ∷ rows) x h = go (q y) h (found_placed q rows x)
  where
    go : (b : Bool) → cond b (Some y) (find q rows) ≡ Some x → (find q rows ≡ Some x → 1 ≤ placed_at x.place rows) → 1 ≤ placed_at x.place (y ∷ rows)
    go true e r =
        let same : y ≡ x = cc in
        let here : (y.place == x.place) ≡ true = let at : y.place ≡ x.place = ap (λ (z : PlacedRow). z.place) same in grind (arith, nat_tests) in
        let count = placed-cons x.place y rows ∙ ap (λ b. cond b 1 0 + placed_at x.place rows) here in
        omega (arith, count)
    go false e r = let rest = r e in let count = placed-cons x.place y rows in omega (arith, rest, count)

-- a delivery from a queue wants a copy only where a row stays
pub copy_stays : (pass : Content → Bool) (settles : Bool) (now i place : ℕ) (bs : List Backlog) (d : Backlog) → i < length bs → AreQueues bs place → is_some (copy_wanted_where pass settles now bs (get_or bs i d).rows) ≡ true →
    (not settles && is_some (next_chosen pass now (get_or bs i d).rows)) ≡ true
copy_stays pass settles now i place bs d l h w = go settles (next_chosen pass now (get_or bs i d).rows) refl w
  where
    rows : List PlacedRow
    rows = (get_or bs i d).rows

    alone : (x : PlacedRow) → next_chosen pass now rows ≡ Some x → (holders_at x.place bs == 1) ≡ true
    alone x e =
        let here = found_placed (λ y. is_next_chosen pass now (live now (bare rows)) y.row) (live_placed now rows) x e in
        let fewer = placed_filter x.place (λ y. not (has_lapsed now y.row)) rows in
        let all = one_list x.place i bs d l in
        let most = h.single x.place in
        let one : holders_at x.place bs ≡ 1 = omega (arith, here, fewer, all, most) in
        grind (arith, nat_tests)

    go : (s : Bool) (o : Option PlacedRow) → next_chosen pass now rows ≡ o → is_some (kept_message s bs o) ≡ true → (not s && is_some o) ≡ true
    go s None e w = cc
    go false (Some x) e w = refl
    go true (Some x) e w = absurd (let one = alone x e in let none : is_some (cond (holders_at x.place bs == 1) None (Some x.row.message)) ≡ true = w in let gone = rw one at none in cc)

-- what follows from the cause of an error
pub of_error : {A E : Type 0} (P Q : Type 0) → (P → Q) → (r : Result A E) → OnErr r P → OnErr r Q
of_error P Q f (Ok a) h = tt
of_error P Q f (Err e) h = f h
