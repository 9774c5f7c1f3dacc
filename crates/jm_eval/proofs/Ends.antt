-- The first place at which a part fits is as good as any later one.
use Rattle.std.proofs.Common.{◌≡◌, ℕ, zero, suc, ◌+◌, ◌<◌, Bool, true, false, ◌||◌, List, [], ◌∷◌, ◌++◌, length, drop, refl, ap, sym, subst, ◌∙◌, arith, length-append, length-drop, append_assoc, true≢false}
use Rattle.std.specs.List.{AllByRecursion}
use Rattle.std.proofs.lemmas.Bool.{and_parts, or_left, or_right}
use Rattle.jm_tree.specs.declared.pattern.Item.{Item}
use Rattle.jm_tree.specs.declared.pattern.Item.TheVariants.{One, Any, Only}
use Rattle.jm_eval.specs.Patterns.{matches, any_suffix, is_any, Reaches}
use Rattle.jm_eval.proofs.Pieces.{suffix_at}

pub here_or : (test : List ℕ → Bool) (cs : List ℕ) → test cs ≡ true → any_suffix test cs ≡ true
here_or test [] h = h
here_or test (c ∷ cs) h = or_left _ _ h

pub found_here : (is : List Item) (cs : List ℕ) → true ≡ matches is cs → any_suffix (matches is) cs ≡ true
found_here is cs h = here_or (matches is) cs (sym h)

pub none_at_end : (is : List Item) (cs : List ℕ) → cs ≡ [] → false ≡ matches is cs → any_suffix (matches is) cs ≡ false
none_at_end is [] e h = sym h
none_at_end is (c ∷ cs) e h = absurd (cc)

pub none_here : (is : List Item) (all : List ℕ) (c : ℕ) (cs : List ℕ) → all ≡ c ∷ cs → false ≡ matches is all → any_suffix (matches is) all ≡ any_suffix (matches is) cs
none_here is all c cs e h =
    let no : matches is (c ∷ cs) ≡ false = ap (matches is) (sym e) ∙ sym h in
    ap (any_suffix (matches is)) e ∙ ap (λ b. b || any_suffix (matches is) cs) no

pub later_too : (test : List ℕ → Bool) (front back : List ℕ) → any_suffix test back ≡ true → any_suffix test (front ++ back) ≡ true
later_too test [] back h = h
later_too test (c ∷ front) back h = or_right _ _ (later_too test front back h)

-- what is left of an end is an end of what is left
pub drop_end : (n : ℕ) (front back : List ℕ) → (before : List ℕ) × (drop n (front ++ back) ≡ before ++ drop n back)
drop_end zero front back = (front, refl)
drop_end (suc n) (c ∷ front) [] = let r = drop_end n front [] in (r.0, r.1 ∙ ap (λ l. r.0 ++ l) (drop_none n))
  where
    drop_none : (n : ℕ) → ◌≡◌ {A = List ℕ} (drop n []) []
    drop_none zero = refl
    drop_none (suc n) = refl
drop_end (suc n) (c ∷ front) (b ∷ back) =
    let r = drop_end n (front ++ b ∷ []) back in
    (r.0, ap (drop n) (sym (append_assoc front (b ∷ []) back)) ∙ r.1)
drop_end (suc n) [] back = ([], refl)

past_part : (part later : List Item) (cs : List ℕ) → AllByRecursion (λ i. is_any i ≡ false) part → matches (part ++ Any ∷ later) cs ≡ true → any_suffix (matches later) (drop (length part) cs) ≡ true
past_part [] later cs plain h = h
past_part (Any ∷ part) later cs plain h = absurd (true≢false plain.0)
past_part (One ∷ part) later [] plain h = absurd (cc)
past_part (One ∷ part) later (c ∷ cs) plain h = past_part part later cs plain.1 h
past_part (Only d ∷ part) later [] plain h = absurd (cc)
past_part (Only d ∷ part) later (c ∷ cs) plain h = past_part part later cs plain.1 (and_parts _ _ h).1

pub same_answer : (a b : Bool) → (a ≡ true → b ≡ true) → (b ≡ true → a ≡ true) → a ≡ b
same_answer true b f g = sym (f refl)
same_answer false true f g = g refl
same_answer false false f g = refl

pub first_match : (all later : List Item) (cs rest : List ℕ) → Reaches all cs later rest → any_suffix (matches all) cs ≡ any_suffix (matches later) rest
first_match all later cs rest h = same_answer _ _
    (λ found.
    let at = suffix_at (matches all) cs found in
    let past = past_part h.part later at.1 h.plain (subst (λ l. matches l at.1 ≡ true) h.split at.3) in
    let e = drop_end (length h.part) at.0 at.1 in
    let whole : rest ≡ e.0 ++ drop (length h.part) at.1 = h.advanced ∙ ap (drop (length h.part)) at.2 ∙ e.1 in
    rw whole (later_too (matches later) e.0 _ past))
    (λ found. here_or (matches all) cs (h.same ∙ found))

pub fewer : (all later : List Item) (cs rest : List ℕ) → Reaches all cs later rest → length later + length rest < length all + length cs
fewer all later cs rest h = omega (arith, ap length h.split, length-append h.part (Any ∷ later), ap length h.advanced, length-drop (length h.part) cs)
