-- What stays of items that are marked.
use Rattle.std.proofs.Common.{◌≡◌, ◌+◌, ◌<◌, ◌≤◌, ◌⊎◌, inl, inr, ℕ, Bool, true, false, cond, List, [], ◌∷◌, ◌++◌, length, get_or, take, drop, set, arith, refl, sym, ◌∙◌, ap, subst, suc}
use Rattle.std.specs.Prelude.{nat_lt}
use Rattle.std.specs.List.{swap}
use Rattle.std.proofs.lemmas.Bool.Decides.{nat_tests}
use Rattle.std.proofs.Math.Seq.{drop-cons}
use Rattle.std.proofs.lemmas.List.{append_assoc, drop-set-lt, get_or_default, length-set, take-set, take-set-le, take_more_set}
use Rattle.jm_slots.specs.Marks.{marked_below}

sides : (s t : ℕ) → (s < t) ⊎ ((t ≡ s) ⊎ (t < s))
sides s t = grind arith

-- an element of a list that has one
some : {X : Type 0} (xs : List X) → 0 < length xs → X
some [] l = absurd (omega (arith, l))
some (x ∷ xs) l = x

-- ---- the walk that leaves what is marked

module _ {X : Type 0} where
  take_swap : (xs : List X) (i j : ℕ) (d : X) → i ≤ j → j < length xs → take (i + 1) (swap xs i j) ≡ take i xs ++ get_or xs j d ∷ []
  take_swap [] i j d le l = absurd (omega (arith, l))
  take_swap (y ∷ ys) i j d le l = elim (sides i j) [
    | inl below ↦ (
        take-set-le (i + 1) (set (y ∷ ys) i (get_or (y ∷ ys) j y)) j (get_or (y ∷ ys) i y) (omega (arith, below))
        ∙ take_more_set (y ∷ ys) i (get_or (y ∷ ys) j y) (omega (arith, below, l)) ∙ ap (λ x. take i (y ∷ ys) ++ x ∷ []) (get_or_default (y ∷ ys) j y d l))
    | inr (inl same) ↦ subst (λ n. take (i + 1) (set (set (y ∷ ys) i (get_or (y ∷ ys) n y)) n (get_or (y ∷ ys) i y)) ≡ take i (y ∷ ys) ++ get_or (y ∷ ys) n d ∷ []) (sym same) (
        take_more_set (set (y ∷ ys) i (get_or (y ∷ ys) i y)) i (get_or (y ∷ ys) i y) (omega (arith, le, l, length-set (y ∷ ys) i (get_or (y ∷ ys) i y)))
        ∙ (λ t. take-set (y ∷ ys) i (get_or (y ∷ ys) i y) t ++ get_or_default (y ∷ ys) i y d (omega (arith, le, l)) t ∷ []))
    | inr (inr above) ↦ absurd (omega (arith, le, above))
  ]

  drop_swap : (xs : List X) (i j : ℕ) → i ≤ j → drop (j + 1) (swap xs i j) ≡ drop (j + 1) xs
  drop_swap [] i j le = refl
  drop_swap (y ∷ ys) i j le =
      drop-set-lt (j + 1) (set (y ∷ ys) i (get_or (y ∷ ys) j y)) j (get_or (y ∷ ys) i y) (omega arith) ∙ drop-set-lt (j + 1) (y ∷ ys) i (get_or (y ∷ ys) j y) (omega (arith, le))

  next : (xs : List X) (at : ℕ) (d : X) → at < length xs → drop at xs ≡ get_or xs at d ∷ drop (at + 1) xs
  next xs at d l = let one : suc at ≡ at + 1 = omega arith in drop-cons xs at d l ∙ ap (λ n. get_or xs at d ∷ drop n xs) one

  module _ (gone at kept : ℕ) (marks : List ℕ) (items all : List X) (l : at < length items) (m : at < length marks)
      (so_far : take kept items ++ marked_below gone (drop at marks) (drop at items) ≡ all) where
    abbrev rest : List X
    rest = marked_below gone (drop (at + 1) marks) (drop (at + 1) items)

    abbrev first : X
    first = some items (omega (arith, l))

    step : (b : Bool) → nat_lt (get_or marks at 0) gone ≡ b → take kept items ++ cond b (get_or items at first ∷ rest) rest ≡ all
    step b test =
        ap (λ c. take kept items ++ cond c (get_or items at first ∷ rest) rest) (sym test)
        ∙ (λ t. take kept items ++ marked_below gone (sym next_mark t) (sym next_item t)) ∙ so_far
      where
        next_mark : drop at marks ≡ get_or marks at 0 ∷ drop (at + 1) marks
        next_mark = let one : suc at ≡ at + 1 = omega arith in drop-cons marks at 0 m ∙ ap (λ n. get_or marks at 0 ∷ drop n marks) one

        next_item : drop at items ≡ get_or items at first ∷ drop (at + 1) items
        next_item = next items at first l

    -- the item at the index stays
    pub keep_stays : (items' : List X) → items' ≡ swap items kept at → kept ≤ at → get_or marks at 0 < gone → take (kept + 1) items' ++ marked_below gone (drop (at + 1) marks) (drop (at + 1) items') ≡ all
    keep_stays items' is le below =
        let test : nat_lt (get_or marks at 0) gone ≡ true = grind (arith, nat_tests) in
        (λ t. (ap (take (kept + 1)) is ∙ take_swap items kept at first le l) t ++ marked_below gone (drop (at + 1) marks) ((ap (drop (at + 1)) is ∙ drop_swap items kept at le) t))
        ∙ append_assoc (take kept items) (get_or items at first ∷ []) rest ∙ step true test

    -- the item at the index goes
    pub keep_goes : gone ≤ get_or marks at 0 → take kept items ++ marked_below gone (drop (at + 1) marks) (drop (at + 1) items) ≡ all
    keep_goes past = let test : nat_lt (get_or marks at 0) gone ≡ false = grind (arith, nat_tests) in step false test

pub marked-shorter : {X : Type 0} (gone : ℕ) (marks : List ℕ) (items : List X) → length (marked_below gone marks items) ≤ length items
marked-shorter gone [] items = omega arith
marked-shorter gone (mark ∷ marks) [] = omega arith
marked-shorter gone (mark ∷ marks) (x ∷ items) = by (nat_lt mark gone) (marked-shorter gone marks items)
  where
    by : (b : Bool) → length (marked_below gone marks items) ≤ length items → length (cond b (x ∷ marked_below gone marks items) (marked_below gone marks items)) ≤ suc (length items)
    by true h = omega (arith, h)
    by false h = omega (arith, h)
