-- A chain is decided by its first member that is FALSE under AND, and TRUE under OR.
use Rattle.std.proofs.Common.{◌≡◌, ℕ, suc, ◌<◌, List, [], ◌∷◌, length, get_or, drop, map, fold, refl, ap, sym, ◌∙◌}
use Rattle.std.proofs.Math.Seq.{drop-cons}
use Rattle.jm_tree.specs.declared.tree.Tree.{Tree}
use Rattle.jm_eval.specs.declared.truth.Truth.{Truth}
use Rattle.jm_eval.specs.declared.truth.Truth.TheVariants as t
use Rattle.jm_eval.specs.Values.{Value, and_of, or_of, condition_of}
use Rattle.jm_eval.specs.Evaluation.{and_next, or_next}

and_stays : (members : List Value) → fold and_next t.False members ≡ t.False
and_stays [] = refl
and_stays (member ∷ rest) = and_stays rest

or_stays : (members : List Value) → fold or_next t.True members ≡ t.True
or_stays [] = refl
or_stays (member ∷ rest) = or_stays rest

-- a chain that was worked up to this member, which decides it
module _ (f : Tree → Value) (members : List Tree) (k : ℕ) (member : Tree) (truth next whole : Truth) (below : k < length members)
    (is : member ≡ get_or members k member) where
  here : drop k members ≡ member ∷ drop (suc k) members
  here = drop-cons members k member below ∙ ap (λ m. m ∷ drop (suc k) members) (sym is)

  pub and_decided : whole ≡ fold and_next truth (map f (drop k members)) → next ≡ and_of truth (condition_of (f member)) → next ≡ t.False → t.False ≡ whole
  and_decided h step decided =
      let last : fold and_next truth (map f (member ∷ drop (suc k) members)) ≡ t.False =
      ap (λ x. fold and_next x (map f (drop (suc k) members))) (sym step ∙ decided) ∙ and_stays (map f (drop (suc k) members)) in
      sym (h ∙ ap (λ l. fold and_next truth (map f l)) here ∙ last)

  pub or_decided : whole ≡ fold or_next truth (map f (drop k members)) → next ≡ or_of truth (condition_of (f member)) → next ≡ t.True → t.True ≡ whole
  or_decided h step decided =
      let last : fold or_next truth (map f (member ∷ drop (suc k) members)) ≡ t.True =
      ap (λ x. fold or_next x (map f (drop (suc k) members))) (sym step ∙ decided) ∙ or_stays (map f (drop (suc k) members)) in
      sym (h ∙ ap (λ l. fold or_next truth (map f l)) here ∙ last)
