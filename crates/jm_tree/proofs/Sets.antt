-- One text more in the set of a list.
use Rattle.std.proofs.Common.{◌≡◌, ℕ, suc, ◌+◌, ◌<◌, Bool, true, false, ◌||◌, cond, List, length, get_or, take, refl, ap, sym, ◌∙◌}
use Rattle.std.specs.Str.{bytes_eq}
use Rattle.std.specs.Cmp.Lexicographic.{bytes_decides}
use Rattle.std.proofs.lemmas.Bool.Decides.{Decides-like, same_from_decides}
use Rattle.std.proofs.lemmas.List.Folds.{list_any_more}
use Rattle.jm_tree.specs.Names.{texts_equal, is_among}

either_way : (xs ys : List ℕ) → texts_equal xs ys ≡ texts_equal ys xs
either_way xs ys = same_from_decides _ _ (bytes_decides xs ys) (Decides-like _ (λ e. sym e) (λ e. sym e) (bytes_decides ys xs))

cond_or : (a b : Bool) → cond a true b ≡ b || a
cond_or true true = refl
cond_or true false = refl
cond_or false true = refl
cond_or false false = refl

pub one_more : (list : List (List ℕ)) (i : ℕ) (member text : List ℕ) (before after : Bool) → i < length list → member ≡ get_or list i member
    → before ≡ is_among text (take i list) → after ≡ cond (bytes_eq member text) true before → after ≡ is_among text (take (i + 1) list)
unfolding is_among
one_more list i member text before after below is h k =
    k ∙ cond_or (bytes_eq member text) before
    ∙ ap (λ b. b || texts_equal member text) h
    ∙ ap (λ b. is_among text (take i list) || b) (either_way member text ∙ ap (texts_equal text) is)
    ∙ sym (list_any_more (λ m. texts_equal text m) list i member below)
