-- What is settled and what is given back, list by list.
use Rattle.std.proofs.Common.{◌≡◌, ◌≢◌, ◌+◌, ◌<◌, ◌≤◌, ℕ, zero, suc, List, [], ◌∷◌, length, get_or, set, map, Bool, true, false, not, cond, refl, ap, sym, subst, ◌∙◌, arith, inl, inr}
use Rattle.std.specs.List.{filter, All}
use Rattle.std.proofs.lemmas.Bool.Decides.{eqb_tells}
use Rattle.std.proofs.lemmas.List.{length-map, get_or-map, get_or_default, length-set, get_or-set_same, get_or-set_other, same_lists}
use Rattle.std.proofs.lemmas.List.Elements.{All-map, All-weaker}
use Rattle.std.proofs.lemmas.List.Sums.{sum_by-cons}
use Rattle.jm_dest.specs.declared.session.SessionId.{SessionId}
use Rattle.jm_machine.specs.declared.state.RowState.TheVariants.{Waiting}
use Rattle.jm_machine.specs.Rows.{goes_out}
use Rattle.jm_machine.specs.Machine.{returned_row, returned_rows, settled_rows}
use Rattle.jm_lane.specs.declared.row.Row.{Row}
use Rattle.jm_lane.specs.Rows.{back, is_out}
use Rattle.jm_pending.specs.Rows.{Held}
use Rattle.jm_lane.specs.Holders.{Messages, KeepsMessages, Follows, rows_at}
use Rattle.jm_pending.specs.Placed.{placed, all_placed, content_of}
use Rattle.jm_pending.specs.Counts.{all_at, IsCounted}
use Rattle.jm_lane.proofs.Holding.{filter_count, map_count}
use Rattle.jm_stations.specs.Backlogs as spec
use Rattle.jm_stations.specs.Backlogs.{Backlog, changed_at}
use Rattle.jm_stations.specs.Kept.{all_rows, shown, all_shown, settled_out, given_back, IsBacklog, IsKept}
use Rattle.jm_stations.proofs.Shown.{backlog_of, all_covered, all_backlogs_kept, all_shown_kept, mapped_backlog, filtered_backlog, IsLike, Keeps}
use Rattle.jm_stations.proofs.Receiving.{changed_kept}

-- the lists before an index are changed, and the others are as they were
pub record IsStepped (f : Held → Held) (init lists : List Held) (n : ℕ) : Type 0 where
  pub number : length lists ≡ length init
  pub done : (k : ℕ) (d : Held) → k < n → k < length init → get_or lists k d ≡ f (get_or init k d)
  pub rest : (k : ℕ) (d : Held) → n ≤ k → get_or lists k d ≡ get_or init k d

pub stepped_none : (f : Held → Held) (init : List Held) → IsStepped f init init 0
stepped_none f init = record { number = refl; done = λ k d l. absurd (omega (arith, l)); rest = λ k d l. refl }

pub stepped_more : (f : Held → Held) (init lists : List Held) (i : ℕ) (h h' : Held) → IsStepped f init lists i → i < length init → h ≡ get_or lists i h → h' ≡ f h → IsStepped f init (set lists i h') (i + 1)
stepped_more f init lists i h h' w l is after =
    let inside : i < length lists = omega (arith, w.number, l) in
    record {
      number = length-set lists i h' ∙ w.number;
      done = λ k d lt kl. elim (eqb_tells k i) [
        | inl e ↦ rw (e.1, get_or-set_same lists i h' d inside) (after ∙ ap f (is ∙ get_or_default lists i h d inside ∙ w.rest i d (omega arith)))
        | inr n ↦ rw (get_or-set_other lists i k h' d n.1) (w.done k d (below k n.1 lt) kl)
      ];
      rest = λ k d le. get_or-set_other lists i k h' d (omega (arith, le)) ∙ w.rest k d (omega (arith, le));
    }
  where
    below : (k : ℕ) → k ≢ i → k < i + 1 → k < i
    below k ne lt = omega (arith, ne, lt)

pub stepped_all : (f : Held → Held) (init lists : List Held) (n : ℕ) → IsStepped f init lists n → length init ≤ n → lists ≡ map f init
stepped_all f init lists n w le =
    same_lists lists (map f init) (w.number ∙ sym (length-map init f)) (λ k e kl.
    let inside : k < length init = omega (arith, w.number, kl) in
    w.done k e (omega (arith, inside, le)) inside ∙ sym (get_or-map f init k e e inside))

-- messages that are kept stay kept where rows go
pub keeps_then : (a b c : Messages) (before after : List Row) → ((p : ℕ) → rows_at p after ≤ rows_at p before) → KeepsMessages a b → Follows b c before after → KeepsMessages a c
keeps_then a b c before after fewer k f =
    record { same = λ p pos. f.messages.same p pos ∙ k.same p (omega (arith, f.holders p, fewer p, pos)); room = omega (arith, k.room, f.messages.room) }

-- one list more is settled
pub settled_keeps : (p : SessionId → ℕ → Bool) (a b c : Messages) (h h' : Held) → h' ≡ settled_out p h → KeepsMessages a b → Follows b c h.rows h'.rows → KeepsMessages a c
settled_keeps p a b c h h' is k f =
    keeps_then a b c h.rows h'.rows (λ q. subst (λ (x : Held). rows_at q x.rows ≤ rows_at q h.rows) (sym is) (filter_count (λ r. not (is_out p r)) q h.rows)) k f

-- rows that are settled, as callers see them
settled_placed : (t : Messages) (p : SessionId → ℕ → Bool) (rows : List Row) → all_placed t (filter (λ r. not (is_out p r)) rows) ≡ settled_rows p (all_placed t rows)
settled_placed t p [] = refl
settled_placed t p (r ∷ rows) = go (not (goes_out p r.state)) (settled_placed t p rows)
  where
    go : (b : Bool) → all_placed t (filter (λ r. not (is_out p r)) rows) ≡ settled_rows p (all_placed t rows) → all_placed t (cond b (r ∷ filter (λ r. not (is_out p r)) rows) (filter (λ r. not (is_out p r)) rows)) ≡ cond b (placed t r ∷ settled_rows p (all_placed t rows)) (settled_rows p (all_placed t rows))
    go true rest = ap (λ xs. placed t r ∷ xs) rest
    go false rest = rest

pub settled_shown : (t : Messages) (p : SessionId → ℕ → Bool) (h : Held) → shown t (settled_out p h) ≡ spec.settled p (shown t h)
settled_shown t p h = ap (backlog_of h) (settled_placed t p h.rows)

pub settled_backlog : (t : Messages) (place : ℕ) (p : SessionId → ℕ → Bool) (h : Held) → IsBacklog t place h → IsBacklog t place (settled_out p h)
settled_backlog t place p h b = filtered_backlog t place (λ r. not (is_out p r)) h b

-- rows that wait again, as callers see them
back_placed : (t : Messages) (p : SessionId → ℕ → Bool) (r : Row) → placed t (back (is_out p) r) ≡ returned_row p (placed t r)
back_placed t p r = go (goes_out p r.state)
  where
    go : (b : Bool) → placed t (cond b (record r { state = Waiting }) r) ≡ record { place = r.place; row = cond b (record { message = content_of t r; count = r.count; state = Waiting }) (record { message = content_of t r; count = r.count; state = r.state }) }
    go true = refl
    go false = refl

returned_placed : (t : Messages) (p : SessionId → ℕ → Bool) (rows : List Row) → all_placed t (map (back (is_out p)) rows) ≡ returned_rows p (all_placed t rows)
returned_placed t p [] = refl
returned_placed t p (r ∷ rows) = λ i. back_placed t p r i ∷ returned_placed t p rows i

pub returned_shown : (t : Messages) (p : SessionId → ℕ → Bool) (h : Held) → shown t (given_back p h) ≡ spec.returned p (shown t h)
returned_shown t p h = ap (backlog_of h) (returned_placed t p h.rows)

back_like : (p : SessionId → ℕ → Bool) (r : Row) → IsLike r (back (is_out p) r)
back_like p r = go (goes_out p r.state)
  where
    go : (b : Bool) → IsLike r (cond b (record r { state = Waiting }) r)
    go true = record { place = refl; priority = refl; expiration = refl; due = refl }
    go false = record { place = refl; priority = refl; expiration = refl; due = refl }

pub returned_backlog : (t : Messages) (place : ℕ) (p : SessionId → ℕ → Bool) (h : Held) → IsBacklog t place h → IsBacklog t place (given_back p h)
returned_backlog t place p h b = mapped_backlog t place (back (is_out p)) (back_like p) h b

-- all lists
each_shown : (t : Messages) (f : Held → Held) (g : Backlog → Backlog) → ((h : Held) → shown t (f h) ≡ g (shown t h)) → (lists : List Held) → all_shown t (map f lists) ≡ map g (all_shown t lists)
each_shown t f g same [] = refl
each_shown t f g same (h ∷ lists) = λ i. same h i ∷ each_shown t f g same lists i

each_backlog : (t : Messages) (place : ℕ) (f : Held → Held) → ((h : Held) → IsBacklog t place h → IsBacklog t place (f h)) → (lists : List Held) → All (IsBacklog t place) lists → All (IsBacklog t place) (map f lists)
each_backlog t place f step lists b = All-map (IsBacklog t place) f lists (All-weaker (IsBacklog t place) (λ (h : Held). IsBacklog t place (f h)) step lists b)

pub each_kept : (t t' : Messages) (place : ℕ) (f : Held → Held) → ((h : Held) → IsBacklog t place h → IsBacklog t place (f h)) → (lists : List Held) → IsKept t lists place → IsCounted t' (all_rows (map f lists)) → KeepsMessages t t' → IsKept t' (map f lists) place
each_kept t t' place f step lists w counted keeps = record {
  counted = counted;
  each = all_backlogs_kept t t' place (map f lists) keeps (all_covered t' (map f lists) counted) (each_backlog t place f step lists w.each);
  places = w.places;
}

pub each_seen : (t t' : Messages) (f : Held → Held) (g : Backlog → Backlog) → ((h : Held) → shown t (f h) ≡ g (shown t h)) → (lists : List Held) → IsCounted t' (all_rows (map f lists)) → KeepsMessages t t' → all_shown t' (map f lists) ≡ map g (all_shown t lists)
each_seen t t' f g same lists counted keeps = all_shown_kept t t' (map f lists) keeps (all_covered t' (map f lists) counted) ∙ each_shown t f g same lists

-- rows that wait again are as many at each place
returned_count : (q : ℕ) (p : SessionId → ℕ → Bool) (lists : List Held) → all_at q (all_rows (map (given_back p) lists)) ≡ all_at q (all_rows lists)
returned_count q p [] = refl
returned_count q p (h ∷ lists) =
    omega (arith, sum_by-cons (λ rows. rows_at q rows) (map (back (is_out p)) h.rows) (all_rows (map (given_back p) lists)), sum_by-cons (λ rows. rows_at q rows) h.rows (all_rows lists), map_count (back (is_out p)) (λ r. (back_like p r).place) q h.rows, returned_count q p lists)

pub returned_counted : (t : Messages) (p : SessionId → ℕ → Bool) (lists : List Held) → IsCounted t (all_rows lists) → IsCounted t (all_rows (map (given_back p) lists))
returned_counted t p lists c = record { each = λ q. c.each q ∙ sym (returned_count q p lists) }

pub keeps_all : (t : Messages) → KeepsMessages t t
keeps_all t = record { same = λ p pos. refl; room = omega arith }

-- one of many, as callers see it
one_shown : (t : Messages) (k : ℕ) (f : Held → Held) (g : Backlog → Backlog) → ((h : Held) → shown t (f h) ≡ g (shown t h)) → (lists : List Held) → all_shown t (changed_at k f lists) ≡ changed_at k g (all_shown t lists)
one_shown t k f g same [] = refl
one_shown t zero f g same (h ∷ lists) = ap (λ b. b ∷ all_shown t lists) (same h)
one_shown t (suc k) f g same (h ∷ lists) = ap (λ bs. shown t h ∷ bs) (one_shown t k f g same lists)

pub one_seen : (t t' : Messages) (place k : ℕ) (f : Held → Held) (g : Backlog → Backlog) → Keeps t place f → ((h : Held) → shown t (f h) ≡ g (shown t h)) → (d : Held) (lists : List Held) → k < length lists → IsKept t lists place → Follows t t' (get_or lists k d).rows (f (get_or lists k d)).rows → all_shown t' (changed_at k f lists) ≡ changed_at k g (all_shown t lists)
one_seen t t' place k f g step same d lists l w follows =
    let after = changed_at k f lists in
    let counted : IsCounted t' (all_rows after) = (changed_kept t t' place k f step d lists l w follows).counted in
    all_shown_kept t t' after follows.messages (all_covered t' after counted) ∙ one_shown t k f g same lists

-- rows of one list that wait again have the holders that they had
pub returned_follows : (t : Messages) (p : SessionId → ℕ → Bool) (h : Held) → Follows t t h.rows (given_back p h).rows
returned_follows t p h = record { holders = λ q. omega (arith, map_count (back (is_out p)) (λ r. (back_like p r).place) q h.rows); messages = keeps_all t }
