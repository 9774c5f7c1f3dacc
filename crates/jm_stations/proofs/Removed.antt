-- A list that goes with its rows.
use Rattle.std.proofs.Common.{◌≡◌, ◌<◌, ℕ, Bool, true, false, List, [], length, get_or, refl, subst, ap, ◌∙◌, arith, suc, take, drop}
use Rattle.std.specs.List.{All, list_any, remove}
use Rattle.std.proofs.lemmas.List.Elements.{All-take, All-drop, All-append}
use Rattle.std.proofs.lemmas.List.Folds.{list_any_at}
use Rattle.std.proofs.lemmas.List.Sums.{sum_by-remove}
use Rattle.indexmap.proofs.SetLemmas.{map-remove}
use Rattle.jm_pending.specs.Rows.{Held}
use Rattle.jm_lane.specs.Holders.{Messages, Follows, rows_at}
use Rattle.jm_pending.specs.Counts.{IsCounted}
use Rattle.jm_stations.specs.Kept.{all_rows, shown, all_shown, IsBacklog, IsKept}
use Rattle.jm_stations.proofs.Holders.{rows_get, rows_length}
use Rattle.jm_stations.proofs.Shown.{all_covered, all_backlogs_kept, all_shown_kept}

pub all_removed : {X : Type 0} (P : X → Type 0) (xs : List X) (k : ℕ) → All P xs → All P (remove xs k)
all_removed P xs k h = All-append P (take k xs) (drop (suc k) xs) (All-take P k xs h) (All-drop P (suc k) xs h)

-- where no item passes the test, it is false of each
pub all_false : {X : Type 0} (p : X → Bool) (xs : List X) → list_any p xs ≡ false → All (λ x. p x ≡ false) xs
all_false {X = X} p xs none = λ i d within. go i d within (p (get_or xs i d)) refl
  where
    go : (i : ℕ) (d : X) → i < length xs → (b : Bool) → p (get_or xs i d) ≡ b → p (get_or xs i d) ≡ false
    go i d within true e = let some : list_any p xs ≡ true = list_any_at p xs i d within e in cc
    go i d within false e = e

rows_removed : (lists : List Held) (k : ℕ) → all_rows (remove lists k) ≡ remove (all_rows lists) k
rows_removed lists k = map-remove (λ (h : Held). h.rows) lists k

-- its holders go
removed_counted : (t t' : Messages) (k : ℕ) (d : Held) (lists : List Held) → k < length lists → IsCounted t (all_rows lists) → Follows t t' (get_or lists k d).rows [] → IsCounted t' (all_rows (remove lists k))
removed_counted t t' k d lists l c f = rw (rows_removed lists k) (record {
  each = λ p.
      let inside : k < length (all_rows lists) = omega (arith, rows_length lists, l) in
      omega (arith, sum_by-remove (λ rows. rows_at p rows) (all_rows lists) k d.rows inside, ap (rows_at p) (rows_get lists k d l), c.each p, f.holders p);
})

-- what is held after it
pub removed_kept : (t t' : Messages) (place k : ℕ) (d : Held) (lists : List Held) → k < length lists → IsKept t lists place → Follows t t' (get_or lists k d).rows [] → IsKept t' (remove lists k) place
removed_kept t t' place k d lists l w f =
    let counted = removed_counted t t' k d lists l w.counted f in
    record { counted = counted; each = all_backlogs_kept t t' place (remove lists k) f.messages (all_covered t' (remove lists k) counted) (all_removed (IsBacklog t place) lists k w.each); places = w.places }

-- and what callers see of it
pub removed_shown : (t t' : Messages) (place k : ℕ) (d : Held) (lists : List Held) → k < length lists → IsKept t lists place → Follows t t' (get_or lists k d).rows [] → all_shown t' (remove lists k) ≡ remove (all_shown t lists) k
removed_shown t t' place k d lists l w f =
    let counted = removed_counted t t' k d lists l w.counted f in
    all_shown_kept t t' (remove lists k) f.messages (all_covered t' (remove lists k) counted) ∙ map-remove (shown t) lists k

-- the list that goes is cleared
pub cleared : (t t' : Messages) (k : ℕ) (h h' : Held) (lists : List Held) → h ≡ get_or lists k h → h' ≡ record h { rows = [] } → Follows t t' h.rows h'.rows → Follows t t' (get_or lists k h).rows []
cleared t t' k h h' lists is none f =
    subst (λ (x : Held). Follows t t' x.rows []) is (subst (λ (x : Held). Follows t t' h.rows x.rows) none f)
