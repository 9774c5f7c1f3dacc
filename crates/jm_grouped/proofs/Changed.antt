-- The order of slots once an item comes or goes.
use Rattle.std.proofs.Common.{◌≡◌, inl, inr, ℕ, true, List, [], ◌∷◌, ◌++◌, length, set, Option, Some, None, arith, sym, ◌∙◌, ap, subst}
use Rattle.std.specs.List.{Contains}
use Rattle.std.specs.declared.cmp.Ordering.{Ordering}
use Rattle.std.proofs.lemmas.List.{length_push}
use Rattle.jm_slots.proofs.Items.{sides}
use Rattle.jm_grouped.specs.Order.{IsOrder, IsRising, is_taken}
use Rattle.jm_grouped.proofs.Taken.{taken_kept, taken_push, taken_within}

module _ {T V : Type 0} {cmp : T → T → Ordering} (xs : List T) (slots : List (Option V)) (order : List ℕ) (it : IsOrder cmp xs slots order) where
  -- one more item, whose slot was put among the others
  pub IsOrder-push : length slots ≡ length xs → (x : T) (v : V) (xs' : List T) (slots' : List (Option V)) (more : List ℕ) → xs' ≡ xs ++ x ∷ [] → slots' ≡ slots ++ Some v ∷ []
      → IsRising cmp (xs ++ x ∷ []) more → ((slot : ℕ) → Contains order slot → Contains more slot) → Contains more (length xs) → IsOrder cmp xs' slots' more
  IsOrder-push even x v xs' slots' more xs_are slots_are rises others there = record {
    rises = subst (λ ys. IsRising cmp ys more) (sym xs_are) rises;
    whole = λ i h.
        let h' : is_taken (slots ++ Some v ∷ []) i ≡ true = ap (λ os. is_taken os i) (sym slots_are) ∙ h in
        elim (sides i (length xs)) [
          | inl old ↦ others i (it.whole i (taken_push slots v i (omega (arith, old, even)) h'))
          | inr (inl same) ↦ subst (Contains more) (sym same) there
          | inr (inr past) ↦ absurd (let l = taken_within (slots ++ Some v ∷ []) i h' in omega (arith, l, past, even, length_push slots (Some v)))
        ];
  }

  -- an item goes
  pub IsOrder-take : (slot : ℕ) → IsOrder cmp xs (set slots slot None) order
  IsOrder-take slot = record { rises = it.rises; whole = λ i h. it.whole i (taken_kept slots slot i h) }
