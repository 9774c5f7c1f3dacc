-- The first `%` of a pattern.
use Rattle.std.proofs.Common.{◌≡◌, ℕ, true, false, List, [], ◌∷◌, ◌++◌, length, drop, refl, ap, sym, ◌∙◌, append_assoc, length-append}
use Rattle.std.specs.List.{AllByRecursion}
use Rattle.std.proofs.lemmas.List.{drop-drop}
use Rattle.jm_tree.specs.declared.pattern.Item.{Item}
use Rattle.jm_tree.specs.declared.pattern.Item.TheVariants.{One, Any, Only}
use Rattle.jm_eval.specs.Patterns.{matches, is_any, fits_one, Reaches}

-- what the loop has passed
pub record HasPassed (all : List Item) (whole : List ℕ) (is : List Item) (cs : List ℕ) : Type 0 where
  pub part : List Item
  pub plain : AllByRecursion (λ i. is_any i ≡ false) part
  pub split : all ≡ part ++ is
  pub advanced : cs ≡ drop (length part) whole
  pub same : matches all whole ≡ matches is cs

pub passed_none : (all : List Item) (whole : List ℕ) → HasPassed all whole all whole
passed_none all whole = record { part = []; plain = tt; split = refl; advanced = refl; same = refl }

one_passes : (i : Item) (is : List Item) (c : ℕ) (cs : List ℕ) → is_any i ≡ false → fits_one i c ≡ true → matches (i ∷ is) (c ∷ cs) ≡ matches is cs
one_passes Any is c cs plain fit = absurd (cc)
one_passes One is c cs plain fit = refl
one_passes (Only d) is c cs plain fit = rw fit refl

pub one_fails : (i : Item) (is : List Item) (c : ℕ) (cs : List ℕ) → is_any i ≡ false → fits_one i c ≡ false → matches (i ∷ is) (c ∷ cs) ≡ false
one_fails Any is c cs plain fit = absurd (cc)
one_fails One is c cs plain fit = absurd (cc)
one_fails (Only d) is c cs plain fit = rw fit refl

pub none_left : (i : Item) (is : List Item) → is_any i ≡ false → matches (i ∷ is) [] ≡ false
none_left Any is plain = absurd (cc)
none_left One is plain = refl
none_left (Only d) is plain = refl

all_and : (part : List Item) (i : Item) → AllByRecursion (λ i. is_any i ≡ false) part → is_any i ≡ false → AllByRecursion (λ i. is_any i ≡ false) (part ++ i ∷ [])
all_and [] i plain h = (h, tt)
all_and (p ∷ part) i plain h = (plain.0, all_and part i plain.1 h)

pub passed_more : (all : List Item) (whole : List ℕ) (i : Item) (is is' : List Item) (c : ℕ) (cs cs' : List ℕ) → is' ≡ i ∷ is → cs' ≡ c ∷ cs → HasPassed all whole is' cs'
    → is_any i ≡ false → fits_one i c ≡ true → HasPassed all whole is cs
passed_more all whole i is is' c cs cs' e f h plain fit = record {
  part = h.part ++ i ∷ [];
  plain = all_and h.part i h.plain plain;
  split = rw append_assoc (h.split ∙ ap (λ l. h.part ++ l) e);
  advanced =
      let one : cs ≡ drop 1 (drop (length h.part) whole) = ap (drop 1) (sym f ∙ h.advanced) in
      one ∙ drop-drop 1 (length h.part) whole ∙ ap (λ n. drop n whole) (sym (length-append h.part (i ∷ [])));
  same = h.same ∙ ap (λ l. matches l cs') e ∙ ap (λ l. matches (i ∷ is) l) f ∙ one_passes i is c cs plain fit;
}

any_is : (i : Item) → is_any i ≡ true → i ≡ Any
any_is Any h = refl
any_is One h = absurd (cc)
any_is (Only c) h = absurd (cc)

pub reached : (all : List Item) (whole : List ℕ) (i : Item) (is is' : List Item) (cs : List ℕ) → is' ≡ i ∷ is → is_any i ≡ true → HasPassed all whole is' cs → Reaches all whole is cs
reached all whole i is is' cs e h p =
    let front : is' ≡ Any ∷ is = e ∙ ap (λ x. x ∷ is) (any_is i h) in
    record { part = p.part; plain = p.plain; split = p.split ∙ ap (λ l. p.part ++ l) front; advanced = p.advanced; same = p.same ∙ ap (λ l. matches l cs) front }
