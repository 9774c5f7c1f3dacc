-- A publication, from putting its message into the table to releasing it.
use Rattle.std.proofs.Common.{◌≡◌, ◌≢◌, ℕ, ◌+◌, ◌<◌, ◌≤◌, ◌^◌, ◌==◌, List, [], ◌∷◌, ◌++◌, length, get_or, set, cond, Option, Some, None, refl, ap, sym, subst, ◌∙◌, arith, inl, inr}
use Rattle.std.specs.List.{All}
use Rattle.std.proofs.lemmas.Bool.{ne_eqb, eq-eqb}
use Rattle.std.proofs.lemmas.Bool.Decides.{eqb_tells}
use Rattle.std.proofs.lemmas.List.{get_or-map, length-map, map-append, same_lists, length-set, get_or-set_same, get_or-set_other, get_or_default}
use Rattle.std.proofs.lemmas.List.Elements.{All-nil, All-head, All-tail, All-push, All-weaker}
use Rattle.std.proofs.lemmas.List.Sums.{sum_by-cons}
use Rattle.jm_machine.specs.declared.state.Row.{Row as MachineRow}
use Rattle.jm_lane.specs.declared.row.Row.{Row}
use Rattle.jm_lane.specs.Rows.{row_of}
use Rattle.jm_pending.specs.Rows.{Held}
use Rattle.jm_lane.specs.Holders.{Messages, GainsHolder, LosesHolder, KeepsMessages, holders_of, message_of, rows_at}
use Rattle.jm_pending.specs.Counts.{all_at, IsCounted}
use Rattle.jm_pending.proofs.Counting.{beside_put, counted_released, counted_more}
use Rattle.jm_lane.proofs.Holding.{row_first}
use Rattle.jm_stations.specs.Backlogs.{Backlog, HasCome, joined, changed_at, empty}
use Rattle.jm_stations.specs.Kept.{all_rows, shown, all_shown, AreBelow, IsBacklog, IsKept, IsOffered, FollowsAll}
use Rattle.jm_stations.proofs.Holders.{beside_all, keeps_released, covers_one}
use Rattle.jm_stations.proofs.Offers.{named_one}
use Rattle.jm_stations.proofs.Shown.{all_covered, all_backlogs_kept, shown_kept, offered_backlogs, offered_shown, changed_is_set}

-- no row is at a place that all are below of
none_below : (p : ℕ) (rows : List Row) → AreBelow p rows → rows_at p rows ≡ 0
none_below p [] b = refl
none_below p (r ∷ rows) b =
    let lt : r.place < p = All-head (λ (r : Row). r.place < p) r rows b in
    let e : cond {A = ℕ} (r.place == p) 1 0 ≡ 0 = rw (ne_eqb r.place p (omega (arith, lt))) refl in
    omega (arith, e, row_first p r rows, none_below p rows (All-tail (λ (r : Row). r.place < p) r rows b))

none_all : (t : Messages) (p : ℕ) (lists : List Held) → All (IsBacklog t p) lists → all_at p (all_rows lists) ≡ 0
none_all t p [] b = refl
none_all t p (h ∷ lists) b =
    omega (arith, sum_by-cons (λ rows. rows_at p rows) h.rows (all_rows lists), none_below p h.rows (All-head (IsBacklog t p) h lists b).below, none_all t p lists (All-tail (IsBacklog t p) h lists b))

-- the next place is free
pub free_place : (t : Messages) (place : ℕ) (lists : List Held) → IsKept t lists place → holders_of t place ≡ 0
free_place t place lists k = k.counted.each place ∙ none_all t place lists k.each

-- and has one holder once the message stands there
pub one_holder : (t second : Messages) (place : ℕ) (lists : List Held) → IsKept t lists place → GainsHolder t second place → holders_of second place ≡ 1
one_holder t second place lists k g =
    let one : cond {A = ℕ} (place == place) 1 0 ≡ 1 = rw (eq-eqb place place refl) refl in
    omega (arith, one, g.holders place, free_place t place lists k)

-- so has it while the lists take it
pub still_held : (t second third : Messages) (place : ℕ) (lists after : List Held) → IsKept t lists place → GainsHolder t second place → FollowsAll second third (all_rows lists) (all_rows after) → 0 < holders_of third place
still_held t second third place lists after k g f = omega (arith, one_holder t second place lists k g, none_all t place lists k.each, f.holders place)

-- nothing is held at first
pub nothing_kept : (t : Messages) (lists : List Held) → lists ≡ [] → ((p : ℕ) → holders_of t p ≡ 0) → IsKept t lists 1
nothing_kept t lists none free = rw none (record { counted = record { each = free }; each = All-nil (IsBacklog t 1); places = omega arith })

-- what is held after it
pub published_kept : (t second third fourth : Messages) (place : ℕ) (x : MachineRow) (indexes : List ℕ) (lists after : List Held) → IsKept t lists place → place < 2 ^ 63 → GainsHolder t second place → message_of second place ≡ Some x.message → ((p : ℕ) → p ≢ place → message_of second p ≡ message_of t p) → IsOffered indexes (row_of place x.message x.count x.state) lists after → FollowsAll second third (all_rows lists) (all_rows after) → LosesHolder third fourth place → KeepsMessages third fourth
    → IsKept fourth after (place + 1) × KeepsMessages second fourth
published_kept t second third fourth place x indexes lists after k bound gains is others offered follows lost kept =
    let beside = beside_put t second place (all_rows lists) k.counted gains in
    let counted : IsCounted fourth (all_rows after) = counted_released third fourth place (all_rows after) (beside_all second third place (all_rows lists) (all_rows after) beside follows) lost in
    let keeps : KeepsMessages second fourth = keeps_released second third fourth place follows.messages lost kept in
    let each = offered_backlogs t second place x indexes lists after others is offered k.each in (
      record { counted = counted; each = all_backlogs_kept second fourth (place + 1) after keeps (all_covered fourth after counted) each; places = omega (arith, bound) },
      keeps,
    )

-- and what callers see of it
pub published_shown : (t second fourth : Messages) (place : ℕ) (x : MachineRow) (indexes : List ℕ) (lists after : List Held) → IsKept t lists place → IsKept fourth after (place + 1) → KeepsMessages second fourth → message_of second place ≡ Some x.message → ((p : ℕ) → p ≢ place → message_of second p ≡ message_of t p) → IsOffered indexes (row_of place x.message x.count x.state) lists after
    → HasCome indexes place x (all_shown t lists) (all_shown fourth after)
published_shown t second fourth place x indexes lists after k k3 keeps is others offered =
    let none : Held = record { rows = []; limit = None; missed = 0; room = 0 } in
    record {
      number = length-map after (shown fourth) ∙ offered.number ∙ sym (length-map lists (shown t));
      each = λ i d l.
          let inside : i < length lists = omega (arith, length-map lists (shown t), l) in
          let there : i < length after = omega (arith, offered.number, inside) in
          rw (get_or-map (shown fourth) after i none d there, get_or-map (shown t) lists i none d inside)
          (shown_kept second fourth (get_or after i none) keeps (covers_one fourth after i none there k3.counted)
          ∙ offered_shown t second place x indexes lists after i none inside others is offered k.each);
    }

-- what comes to one list alone
pub come_to_one : (index place : ℕ) (row : MachineRow) (old new : List Backlog) → index < length old → HasCome (index ∷ []) place row old new → new ≡ changed_at index (joined place row) old
come_to_one index place row old new l h =
    let after : Backlog = joined place row (get_or old index (empty None)) in
    same_lists new (set old index after) (h.number ∙ sym (length-set old index after)) (λ k e kl.
    let inside : k < length old = omega (arith, h.number, kl) in
    h.each k e inside ∙ ap (λ b. cond b (joined place row (get_or old k e)) (get_or old k e)) (named_one index k) ∙ one k e)
    ∙ changed_is_set index (joined place row) (empty None) old l
  where
    one : (k : ℕ) (e : Backlog) → cond (index == k) (joined place row (get_or old k e)) (get_or old k e) ≡ get_or (set old index (joined place row (get_or old index (empty None)))) k e
    one k e = elim (eqb_tells k index) [
      | inl s ↦ rw (s.1, eq-eqb index index refl, get_or-set_same old index (joined place row (get_or old index (empty None))) e l) (ap (joined place row) (get_or_default old index e (empty None) l))
      | inr n ↦ rw (ne_eqb index k (λ q. n.1 (sym q)), get_or-set_other old index k (joined place row (get_or old index (empty None))) e n.1) refl
    ]

-- the next publication may be at a later place
pub skipped_backlog : (t : Messages) (place later : ℕ) (h : Held) → place ≤ later → IsBacklog t place h → IsBacklog t later h
skipped_backlog t place later h le b =
    record { below = All-weaker (λ (r : Row). r.place < place) (λ (r : Row). r.place < later) (λ r l. omega (arith, le, l)) h.rows b.below; own = b.own }

pub skipped_kept : (t : Messages) (place later : ℕ) (lists : List Held) → place ≤ later → later ≤ 2 ^ 63 → IsKept t lists place → IsKept t lists later
skipped_kept t place later lists le bound k = record { counted = k.counted; each = λ i d l. skipped_backlog t place later (get_or lists i d) le (k.each i d l); places = bound }

-- a new list, which is empty
pub created_kept : (t : Messages) (place : ℕ) (lists : List Held) (limit : Option ℕ) → IsKept t lists place → IsKept t (lists ++ record { rows = []; limit = limit; missed = 0; room = 0 } ∷ []) place
created_kept t place lists limit k =
    let h : Held = record { rows = []; limit = limit; missed = 0; room = 0 } in
    record {
      counted = rw (map-append (λ (h : Held). h.rows) lists (h ∷ [])) (counted_more t (all_rows lists) k.counted);
      each = All-push (IsBacklog t place) lists h k.each (record { below = All-nil _; own = record { each = All-nil _ } });
      places = k.places;
    }

-- room that callers see is there
pub room_inside : (t : Messages) (lists : List Held) (list : List Backlog) (i : ℕ) (d : Held) → all_shown t lists ≡ list → i < length list → ((e : Backlog) → 0 < (get_or list i e).room) → 0 < (get_or lists i d).room
room_inside t lists list i d is l room =
    let inside : i < length lists = omega (arith, length-map lists (shown t), ap (λ (xs : List Backlog). length xs) is, l) in
    let same : get_or list i (shown t d) ≡ shown t (get_or lists i d) = ap (λ (xs : List Backlog). get_or xs i (shown t d)) (sym is) ∙ get_or-map (shown t) lists i d (shown t d) inside in
    subst (λ (b : Backlog). 0 < b.room) same (room (shown t d))
