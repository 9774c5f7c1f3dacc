-- A loop that keeps the first of each kind, and a loop that adds to a list.
use Rattle.std.proofs.Common.{◌≡◌, ℕ, Bool, true, false, cond, List, [], ◌∷◌, ◌++◌, refl, ap, sym, ◌∙◌, drop, get_or, length, suc, add-one, ◌+◌, ◌<◌, append_assoc, Option, Some, None}
use Rattle.std.proofs.Math.Seq.{drop-cons}
use Rattle.std.specs.Prelude.{find, option_map}
use Rattle.std.specs.Option.{option_or}

-- what is left of a list from an index on begins with the element there
pub left_at : {A : Type 0} (xs : List A) (i : ℕ) (x : A) → i < length xs → x ≡ get_or xs i x → drop i xs ≡ x ∷ drop (i + 1) xs
left_at xs i x h is = rw (add-one) (drop-cons xs i x h ∙ ap (λ y. y ∷ drop (suc i) xs) (sym is))

-- one more is noted of a list of which the first of each number counts
pub noted_more : {A B : Type 0} (p : A → Bool) (f : A → B) (xs : List A) (i : ℕ) (x : A) (old new all : Option B) → i < length xs → x ≡ get_or xs i x →
    new ≡ option_or old (option_map f (find p (x ∷ []))) → option_or old (option_map f (find p (drop i xs))) ≡ all → option_or new (option_map f (find p (drop (i + 1) xs))) ≡ all
noted_more {A} {B} p f xs i x old new all h is n a =
    ap (λ o. option_or o (option_map f (find p (drop (i + 1) xs)))) n
    ∙ turn old (p x) (find p (drop (i + 1) xs))
    ∙ sym (ap (λ ys. option_or old (option_map f (find p ys))) (left_at xs i x h is))
    ∙ a
  where
    turn : (o : Option B) (b : Bool) (r : Option A) → option_or (option_or o (option_map f (cond b (Some x) None))) (option_map f r) ≡ option_or o (option_map f (cond b (Some x) r))
    turn None true r = refl
    turn None false r = refl
    turn (Some y) b r = refl

-- one more is added of a list of which some are added
pub added_more : {A B : Type 0} (f : List A → List B) (xs : List A) (i : ℕ) (x : A) (old new all : List B) (more : List B) → i < length xs → x ≡ get_or xs i x →
    ((ys : List A) → f (x ∷ ys) ≡ more ++ f ys) → new ≡ old ++ more → old ++ f (drop i xs) ≡ all → new ++ f (drop (i + 1) xs) ≡ all
added_more f xs i x old new all more h is step n a =
    ap (λ zs. zs ++ f (drop (i + 1) xs)) n
    ∙ append_assoc old more (f (drop (i + 1) xs))
    ∙ ap (λ zs. old ++ zs) (sym (step (drop (i + 1) xs)))
    ∙ ap (λ ys. old ++ f ys) (sym (left_at xs i x h is))
    ∙ a
