-- LIKE: the texts that fit the items of a pattern (Jakarta Messaging 3.1, section 3.8.1).
use Rattle.std.specs.Prelude.{◌≡◌, ℕ, Bool, true, false, ◌||◌, ◌&&◌, ◌==◌, List, [], ◌∷◌, ◌++◌, length, map, drop, Option, Some, None}
use Rattle.std.specs.List.{AllByRecursion}
use Rattle.std.specs.Str.{chars}
use Rattle.std.specs.Borrow.{Bor}
use Rattle.jm_tree.specs.Patterns.{items, item_of, joined}
use Rattle.jm_tree.specs.declared.pattern.Item.{Item}
use Rattle.jm_tree.specs.declared.pattern.Item.TheVariants.{One, Any, Only}
use Rattle.jm_eval.specs.declared.pattern.Run.{Run}
use Rattle.jm_eval.specs.declared.pattern.Run.TheVariants as runs

-- ---- the texts that fit

-- a piece of a text fits an item
abbrev pub Piece : Item → List ℕ → Type 0
Piece One cs = (c : ℕ) × (cs ≡ c ∷ [])
Piece (Only c) cs = cs ≡ c ∷ []
Piece Any cs = Unit {0}

-- a text fits items: it is a concatenation of pieces that fit the items in order
abbrev pub Fits : List ℕ → List Item → Type 0
Fits cs [] = cs ≡ []
Fits cs (i ∷ is) = (front : List ℕ) × (back : List ℕ) × (cs ≡ front ++ back) × Piece i front × Fits back is

-- ---- the same as a test, by which `value` is worked; that it is the same is the contract of `law_fits`

-- whether there is no character
abbrev pub is_empty : List ℕ → Bool
is_empty [] = true
is_empty (c ∷ cs) = false

-- whether some end of a text passes a test
abbrev pub any_suffix : (List ℕ → Bool) → List ℕ → Bool
any_suffix test [] = test []
any_suffix test (c ∷ cs) = test (c ∷ cs) || any_suffix test cs

-- whether the first character passes a test, and the rest another
abbrev pub after_one : (ℕ → Bool) → (List ℕ → Bool) → List ℕ → Bool
after_one first test [] = false
after_one first test (c ∷ cs) = first c && test cs

-- whether a text fits items
abbrev pub matches : List Item → List ℕ → Bool
matches [] = is_empty
matches (Any ∷ is) = any_suffix (matches is)
matches (One ∷ is) = after_one (λ _. true) (matches is)
matches (Only d ∷ is) = after_one (λ c. c == d) (matches is)

-- ---- the parts of the scan

-- whether an item is `%`
abbrev pub is_any : Item → Bool
is_any Any = true
is_any One = false
is_any (Only c) = false

-- whether one character fits an item
abbrev pub fits_one : Item → ℕ → Bool
fits_one One c = true
fits_one Any c = true
fits_one (Only d) c = c == d

-- the items up to the first `%` fit the front of the text, and the question is left whether some end
-- of the rest fits the items after it
pub record Reaches (is : List Item) (cs : List ℕ) (later : List Item) (rest : List ℕ) : Type 0 where
  pub part : List Item
  pub plain : AllByRecursion (λ i. is_any i ≡ false) part
  pub split : is ≡ part ++ Any ∷ later
  pub advanced : rest ≡ drop (length part) cs
  pub same : matches is cs ≡ any_suffix (matches later) rest

-- what a run before the first `%` answers
abbrev pub IsRun : Option ℕ → List ℕ → List ℕ → Run → Type 0
IsRun e pattern text (runs.Ends b) = b ≡ matches (items e (chars pattern)) (chars text)
IsRun e pattern text (runs.Percent later rest) = Reaches (items e (chars pattern)) (chars text) (items e (chars later.now)) (chars rest.now)

-- ---- the parts of the scan over segments

-- whether one character fits a place
abbrev pub fits_place : Option ℕ → ℕ → Bool
fits_place None c = true
fits_place (Some d) c = c == d

-- the places fit the front of the text, and the question is left whether the rest fits the items after them; or they do not
abbrev pub IsPast : List (Option ℕ) → List ℕ → Option (Bor (List ℕ)) → Type 0
IsPast places text None = (is : List Item) → matches (map item_of places ++ is) (chars text) ≡ false
IsPast places text (Some rest) =
    ((is : List Item) → matches (map item_of places ++ is) (chars text) ≡ matches is (chars rest.now)) × (chars rest.now ≡ drop (length places) (chars text))

-- the places, with a `%` after them, fit in the text somewhere, and the question is left whether some end of the rest fits the
-- items after it; or they fit nowhere
abbrev pub IsAfterFirst : List (Option ℕ) → List ℕ → Option (Bor (List ℕ)) → Type 0
IsAfterFirst places text None = (is : List Item) → any_suffix (matches (map item_of places ++ is)) (chars text) ≡ false
IsAfterFirst places text (Some rest) =
    (is : List Item) → any_suffix (matches (map item_of places ++ Any ∷ is)) (chars text) ≡ any_suffix (matches is) (chars rest.now)

-- the same of segments, one after another
abbrev pub IsAfterEach : List (List (Option ℕ)) → List ℕ → Option (Bor (List ℕ)) → Type 0
IsAfterEach segments text None = (last : List (Option ℕ)) → any_suffix (matches (joined segments last)) (chars text) ≡ false
IsAfterEach segments text (Some rest) =
    (last : List (Option ℕ)) → any_suffix (matches (joined segments last)) (chars text) ≡ any_suffix (matches (map item_of last)) (chars rest.now)

-- the last character of a text, and what stands before it
abbrev pub IsLastChar : Option (ℕ × Bor (List ℕ)) → List ℕ → Type 0
IsLastChar None text = chars text ≡ []
IsLastChar (Some p) text = chars text ≡ chars p.1.now ++ p.0 ∷ []
