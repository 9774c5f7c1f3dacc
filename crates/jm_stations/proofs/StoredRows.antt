-- A message that was stored, from putting it into the table to releasing it: each of its rows has a count of its own.
use Rattle.std.proofs.Common.{◌≡◌, ◌≢◌, ◌+◌, ◌<◌, ◌^◌, ◌==◌, ℕ, zero, suc, Bool, true, false, cond, List, [], ◌∷◌, ◌++◌, map, length, take, get_or, set, Option, Some, None, refl, ap, sym, ◌∙◌, arith, inl, inr}
use Rattle.std.specs.List.{All, AllByRecursion, IsDistinct}
use Rattle.std.specs.Prelude.{nat_eq}
use Rattle.std.proofs.lemmas.Bool.{eq-eqb, ne_eqb}
use Rattle.std.proofs.lemmas.Bool.Decides.{eqb_tells}
use Rattle.std.proofs.lemmas.List.{get_or-map, length-map, length-set, get_or-set_same, get_or-set_other}
use Rattle.jm_header.specs.declared.content.Content.{Content}
use Rattle.jm_machine.specs.declared.state.RowState.TheVariants.{Waiting}
use Rattle.jm_lane.specs.declared.row.Row.{Row}
use Rattle.jm_lane.specs.Holders.{Messages, GainsHolder, LosesHolder, KeepsMessages, message_of}
use Rattle.jm_lane.specs.Rows.{row_of}
use Rattle.jm_pending.specs.Rows.{Held}
use Rattle.jm_pending.proofs.Counting.{beside_put, counted_released}
use Rattle.jm_pending.specs.Counts.{IsCounted}
use Rattle.jm_stations.specs.declared.loading.StoredRow.{StoredRow}
use Rattle.jm_stations.specs.Kept.{FollowsAll, IsBacklog, IsKept, all_rows, all_shown, shown, with_row}
use Rattle.jm_stations.specs.Loading.{AreLoaded, AreOffered, loaded, stored_at, stored_row, with_stored}
use Rattle.jm_stations.proofs.Holders.{beside_all, covers_one, keeps_released}
use Rattle.jm_stations.proofs.Shown.{all_backlogs_kept, all_covered, put_backlog, put_shown, shown_kept, with_row_backlog, with_row_shown}

-- what stands for a row where there is none
abbrev pub none_stored : StoredRow
none_stored = record { index = 0; count = 0 }

-- ---- rows that were stored, one more

stored_last : (rows : List StoredRow) (x : StoredRow) → stored_at x.index rows ≡ None → stored_at x.index (rows ++ x ∷ []) ≡ Some x
stored_last [] x n = rw (eq-eqb x.index x.index refl) refl
stored_last (r ∷ rows) x n = go (r.index == x.index) n (stored_last rows x)
  where
    go : (b : Bool) → cond b (Some r) (stored_at x.index rows) ≡ None → (stored_at x.index rows ≡ None → stored_at x.index (rows ++ x ∷ []) ≡ Some x) → cond b (Some r) (stored_at x.index (rows ++ x ∷ [])) ≡ Some x
    go true n rest = cc
    go false n rest = rest n

stored_other : (rows : List StoredRow) (x : StoredRow) (k : ℕ) → (x.index == k) ≡ false → stored_at k (rows ++ x ∷ []) ≡ stored_at k rows
stored_other [] x k e = rw e refl
stored_other (r ∷ rows) x k e = ap (λ o. cond (r.index == k) (Some r) o) (stored_other rows x k e)

-- an index is not among those before it, where all are distinct
other_stored : (i : ℕ) (rows : List StoredRow) (n : ℕ) (d : StoredRow) → AllByRecursion (λ y. nat_eq i y ≡ false) (map (λ (r : StoredRow). r.index) rows) → n < length rows → (i == (get_or rows n d).index) ≡ false
other_stored i [] n d h l = absurd (omega arith)
other_stored i (r ∷ rows) zero d h l = h.0
other_stored i (r ∷ rows) (suc n) d h l = other_stored i rows n d h.1 (omega arith)

pub first_stored : (rows : List StoredRow) (n : ℕ) (d : StoredRow) → IsDistinct nat_eq (map (λ (r : StoredRow). r.index) rows) → n < length rows → stored_at (get_or rows n d).index (take n rows) ≡ None
unfolding IsDistinct
first_stored [] n d h l = absurd (omega arith)
first_stored (r ∷ rows) zero d h l = refl
first_stored (r ∷ rows) (suc n) d h l = rw (other_stored r.index rows n d h.0 (omega arith), first_stored rows n d h.1 (omega arith)) refl

-- ---- what is offered to lists

pub offered_nothing : (row : Row) (init : List Held) → AreOffered [] row init init
offered_nothing row init = record { number = refl; each = λ k d l. refl }

-- a list is as it was until its row comes
pub not_yet : (rows : List StoredRow) (row : Row) (init lists : List Held) (i : ℕ) (d : Held) → AreOffered rows row init lists → i < length init → stored_at i rows ≡ None → get_or lists i d ≡ get_or init i d
not_yet rows row init lists i d h l new = h.each i d l ∙ ap (λ o. with_stored row o (get_or init i d)) new

any_default : (xs : List Held) (j : ℕ) (a b : Held) → j < length xs → get_or xs j a ≡ get_or xs j b
any_default [] j a b q = absurd (omega arith)
any_default (x ∷ xs) zero a b q = refl
any_default (x ∷ xs) (suc j) a b q = any_default xs j a b (omega arith)

pub stored_more : (rows : List StoredRow) (x : StoredRow) (row : Row) (init lists : List Held) (d : Held) → AreOffered rows row init lists → x.index < length init → stored_at x.index rows ≡ None → AreOffered (rows ++ x ∷ []) row init (set lists x.index (with_row (record row { count = x.count }) (get_or lists x.index d)))
stored_more rows x row init lists d h l new =
    let i : ℕ = x.index in
    let inside : i < length lists = omega (arith, h.number, l) in
    let y : Held = with_row (record row { count = x.count }) (get_or lists i d) in
    record {
      number = length-set lists i y ∙ h.number;
      each = λ k e kl. elim (eqb_tells k i) [
        | inl s ↦
            let was : get_or lists i d ≡ get_or init i d = not_yet rows row init lists i d h l new in
            rw s.1 (get_or-set_same lists i y e inside ∙ ap (with_row (record row { count = x.count })) (was ∙ any_default init i d e l) ∙ sym (ap (λ o. with_stored row o (get_or init i e)) (stored_last rows x new)))
        | inr n ↦
            rw (get_or-set_other lists i k y e n.1, stored_other rows x k (ne_eqb i k (λ q. n.1 (sym q)))) (h.each k e kl)
      ];
    }

-- ---- what is held, once the message is put and offered

stored_backlogs : (old new : Messages) (place : ℕ) (m : Content) (rows : List StoredRow) (lists after : List Held) → ((p : ℕ) → p ≢ place → message_of new p ≡ message_of old p) → message_of new place ≡ Some m → AreOffered rows (row_of place m 0 Waiting) lists after → All (IsBacklog old place) lists → All (IsBacklog new (place + 1)) after
stored_backlogs old new place m rows lists after same is o b = λ k d l.
    let inside : k < length lists = omega (arith, o.number, l) in
    let here = put_backlog old new place (get_or lists k d) same (b k d inside) in
    rw (o.each k d inside) (go (stored_at k rows) k d here)
  where
    go : (s : Option StoredRow) (k : ℕ) (d : Held) → IsBacklog new (place + 1) (get_or lists k d) → IsBacklog new (place + 1) (with_stored (row_of place m 0 Waiting) s (get_or lists k d))
    go None k d here = here
    go (Some r) k d here = with_row_backlog new place (stored_row m r.count) (get_or lists k d) is here

stored_shown : (old new : Messages) (place : ℕ) (m : Content) (rows : List StoredRow) (lists after : List Held) (k : ℕ) (d : Held) → k < length lists → ((p : ℕ) → p ≢ place → message_of new p ≡ message_of old p) → message_of new place ≡ Some m → AreOffered rows (row_of place m 0 Waiting) lists after → All (IsBacklog old place) lists
    → shown new (get_or after k d) ≡ loaded place m (stored_at k rows) (shown old (get_or lists k d))
stored_shown old new place m rows lists after k d inside same is o b =
    let put = put_shown old new place (get_or lists k d) same (b k d inside) in
    rw (o.each k d inside) (go (stored_at k rows) put)
  where
    go : (s : Option StoredRow) → shown new (get_or lists k d) ≡ shown old (get_or lists k d) → shown new (with_stored (row_of place m 0 Waiting) s (get_or lists k d)) ≡ loaded place m s (shown old (get_or lists k d))
    go None put = put
    go (Some r) put = with_row_shown new place (stored_row m r.count) (get_or lists k d) is ∙ ap (λ b. loaded place m (Some r) b) put

-- what is held after it
pub loaded_kept : (t second third fourth : Messages) (place : ℕ) (m : Content) (rows : List StoredRow) (lists after : List Held) → IsKept t lists place → place < 2 ^ 63 → GainsHolder t second place → message_of second place ≡ Some m → ((p : ℕ) → p ≢ place → message_of second p ≡ message_of t p) → AreOffered rows (row_of place m 0 Waiting) lists after → FollowsAll second third (all_rows lists) (all_rows after) → LosesHolder third fourth place → KeepsMessages third fourth
    → IsKept fourth after (place + 1) × KeepsMessages second fourth
loaded_kept t second third fourth place m rows lists after k bound gains is others offered follows lost kept =
    let beside = beside_put t second place (all_rows lists) k.counted gains in
    let counted : IsCounted fourth (all_rows after) = counted_released third fourth place (all_rows after) (beside_all second third place (all_rows lists) (all_rows after) beside follows) lost in
    let keeps : KeepsMessages second fourth = keeps_released second third fourth place follows.messages lost kept in
    let each = stored_backlogs t second place m rows lists after others is offered k.each in (
      record { counted = counted; each = all_backlogs_kept second fourth (place + 1) after keeps (all_covered fourth after counted) each; places = omega (arith, bound) },
      keeps,
    )

-- and what callers see of it
pub loaded_shown : (t second fourth : Messages) (place : ℕ) (m : Content) (rows : List StoredRow) (lists after : List Held) → IsKept t lists place → IsKept fourth after (place + 1) → KeepsMessages second fourth → message_of second place ≡ Some m → ((p : ℕ) → p ≢ place → message_of second p ≡ message_of t p) → AreOffered rows (row_of place m 0 Waiting) lists after
    → AreLoaded rows place m (all_shown t lists) (all_shown fourth after)
loaded_shown t second fourth place m rows lists after k k3 keeps is others offered =
    let none : Held = record { rows = []; limit = None; missed = 0; room = 0 } in
    record {
      number = length-map after (shown fourth) ∙ offered.number ∙ sym (length-map lists (shown t));
      each = λ i d l.
          let inside : i < length lists = omega (arith, length-map lists (shown t), l) in
          let there : i < length after = omega (arith, offered.number, inside) in
          rw (get_or-map (shown fourth) after i none d there, get_or-map (shown t) lists i none d inside)
          (shown_kept second fourth (get_or after i none) keeps (covers_one fourth after i none there k3.counted)
          ∙ stored_shown t second place m rows lists after i none inside others is offered k.each);
    }
