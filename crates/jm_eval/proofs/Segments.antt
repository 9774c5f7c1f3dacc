-- Segments in a text, one after another.
use Rattle.std.proofs.Common.{◌≡◌, ℕ, suc, ◌+◌, ◌<◌, false, List, ◌∷◌, ◌++◌, length, map, drop, get_or, Option, ap, sym, ◌∙◌, arith}
use Rattle.std.proofs.Math.Seq.{drop-cons, drop-length}
use Rattle.jm_tree.specs.declared.pattern.Item.{Item}
use Rattle.jm_tree.specs.declared.pattern.Item.TheVariants.{Any}
use Rattle.jm_tree.specs.Patterns.{item_of, joined}
use Rattle.jm_eval.specs.Patterns.{matches, any_suffix}

-- the question is left whether an end of the rest fits the segments from this one on
abbrev pub From : List (List (Option ℕ)) → ℕ → List ℕ → List ℕ → Type 0
From segments n whole rest = (last : List (Option ℕ)) → any_suffix (matches (joined segments last)) whole ≡ any_suffix (matches (joined (drop n segments) last)) rest

module _ (segments : List (List (Option ℕ))) (n : ℕ) (segment : List (Option ℕ)) (whole left : List ℕ) (below : n < length segments)
    (is : segment ≡ get_or segments n segment) (h : From segments n whole left) where
  here : drop n segments ≡ segment ∷ drop (suc n) segments
  here = drop-cons segments n segment below ∙ ap (λ s. s ∷ drop (suc n) segments) (sym is)

  now : (last : List (Option ℕ)) → any_suffix (matches (joined segments last)) whole ≡ any_suffix (matches (map item_of segment ++ Any ∷ joined (drop (suc n) segments) last)) left
  now last = h last ∙ ap (λ ss. any_suffix (matches (joined ss last)) left) here

  pub each_more : (rest : List ℕ) → ((is : List Item) → any_suffix (matches (map item_of segment ++ Any ∷ is)) left ≡ any_suffix (matches is) rest)
      → From segments (n + 1) whole rest
  each_more rest found last =
      let next : suc n ≡ n + 1 = omega arith in
      now last ∙ found (joined (drop (suc n) segments) last) ∙ ap (λ m. any_suffix (matches (joined (drop m segments) last)) rest) next

  pub each_fails : ((is : List Item) → any_suffix (matches (map item_of segment ++ is)) left ≡ false)
      → (last : List (Option ℕ)) → any_suffix (matches (joined segments last)) whole ≡ false
  each_fails fails last = now last ∙ fails (Any ∷ joined (drop (suc n) segments) last)

pub each_done : (segments : List (List (Option ℕ))) (n : ℕ) (whole rest : List ℕ) → n ≡ length segments → From segments n whole rest
    → (last : List (Option ℕ)) → any_suffix (matches (joined segments last)) whole ≡ any_suffix (matches (map item_of last)) rest
each_done segments n whole rest e h last =
    h last ∙ ap (λ ss. any_suffix (matches (joined ss last)) rest) (ap (λ m. drop m segments) e ∙ drop-length segments)
