-- A walk over lanes that edits each.
use Rattle.std.proofs.Common.{◌≡◌, ◌≢◌, ℕ, ◌+◌, ◌<◌, ◌≤◌, List, [], ◌∷◌, ◌++◌, length, get_or, set, refl, sym, ◌∙◌, arith, suc, inl, inr}
use Rattle.std.proofs.lemmas.List.{length-set, get_or-set_same, get_or-set_other}
use Rattle.std.proofs.lemmas.Bool.Decides.{eqb_tells}
use Rattle.jm_lane.specs.declared.row.Row.{Row}
use Rattle.jm_lane.specs.Lanes.{Lane}
use Rattle.jm_lanes.specs.Lanes.{Becomes, EachBecomes, all_rows}

pub record IsEdited (f : List Row → List Row) (init lanes : List Lane) (i : ℕ) : Type 0 where
  pub len : length lanes ≡ length init
  pub done : (k : ℕ) (d : Lane) → k < i → Becomes f (get_or init k d) (get_or lanes k d)
  pub rest : (k : ℕ) (d : Lane) → i ≤ k → get_or lanes k d ≡ get_or init k d

pub edited_none : (f : List Row → List Row) (init : List Lane) → IsEdited f init init 0
edited_none f init = record { len = refl; done = λ k d l. absurd (omega arith); rest = λ k d l. refl }

pub edited_more : (f : List Row → List Row) (init lanes : List Lane) (i : ℕ) (lane : Lane) → IsEdited f init lanes i → i < length init → ((d : Lane) → Becomes f (get_or lanes i d) lane) → IsEdited f init (set lanes i lane) (i + 1)
edited_more f init lanes i lane h l b =
    let inside : i < length lanes = omega (arith, h.len) in
    record {
      len = length-set lanes i lane ∙ h.len;
      done = λ k d lt. elim (eqb_tells k i) [
        | inl e ↦ rw (e.1, get_or-set_same lanes i lane d inside, ← h.rest i d (omega arith)) (b d)
        | inr n ↦ rw (get_or-set_other lanes i k lane d n.1) (h.done k d (let ne : k ≢ i = n.1 in omega arith))
      ];
      rest = λ k d le. rw (get_or-set_other lanes i k lane d (omega arith)) (h.rest k d (omega arith));
    }

pub edited_all : (f : List Row → List Row) (init lanes : List Lane) (i : ℕ) → IsEdited f init lanes i → length init ≤ i → EachBecomes f init lanes
edited_all f init lanes i h le = record { len = h.len; at = λ k d l. h.done k d (omega arith) }

pub each_tail : (f : List Row → List Row) (x y : Lane) (xs ys : List Lane) → EachBecomes f (x ∷ xs) (y ∷ ys) → EachBecomes f xs ys
each_tail f x y xs ys h = record { len = omega (arith, h.len); at = λ k d l. h.at (suc k) d (omega arith) }

-- an edit that goes over `++` is one edit of all rows
pub all_rows_each : (f : List Row → List Row) → (f [] ≡ []) → ((us vs : List Row) → f (us ++ vs) ≡ f us ++ f vs) → (xs ys : List Lane) → EachBecomes f xs ys → all_rows ys ≡ f (all_rows xs)
all_rows_each f nil over [] [] h = sym nil
all_rows_each f nil over [] (y ∷ ys) h = absurd (omega (arith, h.len))
all_rows_each f nil over (x ∷ xs) [] h = absurd (omega (arith, h.len))
all_rows_each f nil over (x ∷ xs) (y ∷ ys) h =
    rw (over x.rows (all_rows xs), (h.at 0 x (omega arith)).rows, all_rows_each f nil over xs ys (each_tail f x y xs ys h)) refl
