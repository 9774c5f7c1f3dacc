-- The items of a pattern, and a list of items as it is kept (Jakarta Messaging 3.1, section 3.8.1).
use Rattle.std.specs.Prelude.{◌≡◌, ℕ, ◌<◌, Bool, true, false, ◌==◌, if◌then◌else◌, List, [], ◌∷◌, ◌++◌, length, map, Option, Some, None}
use Rattle.std.specs.Str.{chars}
use Rattle.std.specs.Borrow.{Bor}
use Rattle.jm_tree.specs.declared.pattern.Item.{Item}
use Rattle.jm_tree.specs.declared.pattern.Item.TheVariants.{One, Any, Only}

-- ---- the items of a pattern

-- a character that is not escaped: `_` is any one character, `%` any sequence, any other is itself
abbrev pub plain : ℕ → Item
plain c = if c == 95 then One else (if c == 37 then Any else Only c)

-- whether a character is the escape character
abbrev pub is_escape : Option ℕ → ℕ → Bool
is_escape None c = false
is_escape (Some e) c = e == c

-- the items of the rest of a pattern; the flag says that the escape character came just before, and
-- then the next character is itself, as the escape character is at the end
abbrev pub items_from : Option ℕ → Bool → List ℕ → List Item
items_from None true [] = []
items_from (Some e) true [] = Only e ∷ []
items_from e false [] = []
items_from e true (c ∷ cs) = Only c ∷ items_from e false cs
items_from e false (c ∷ cs) = if is_escape e c then items_from e true cs else plain c ∷ items_from e false cs

-- the items of a pattern with its escape character, if it has one
unfoldable pub items : Option ℕ → List ℕ → List Item
items e cs = items_from e false cs

-- ---- items as they are kept

-- what stands between two `%`: a character, or any one where there is none
abbrev pub item_of : Option ℕ → Item
item_of None = One
item_of (Some c) = Only c

-- segments with a `%` between each two of them
abbrev pub joined : List (List (Option ℕ)) → List (Option ℕ) → List Item
joined [] last = map item_of last
joined (segment ∷ segments) last = map item_of segment ++ Any ∷ joined segments last

-- the places are those of a text
abbrev pub IsLiteral : List ℕ → List (Option ℕ) → Type 0
IsLiteral text places = places ≡ map Some (chars text)

-- the text of the places, where it is kept
abbrev pub Literal : Option (List ℕ) → List (Option ℕ) → Type 0
Literal None places = Unit {0}
Literal (Some text) places = IsLiteral text places

-- the items of a pattern with this escape character, where they are kept
abbrev pub AreKept : Option ℕ → List ℕ → Option (List Item) → Type 0
AreKept escape pattern None = Unit {0}
AreKept escape pattern (Some kept) = kept ≡ items escape (chars pattern)

-- ---- a pattern as it is read

-- the first character of a text, and what is left of the text
abbrev pub IsNext : Option (ℕ × Bor (List ℕ)) → List ℕ → Type 0
IsNext None text = chars text ≡ []
IsNext (Some p) text = chars text ≡ p.0 ∷ chars p.1.now

-- the first item of a pattern, and what is left of the pattern, which is shorter
abbrev pub IsNextItem : Option ℕ → Option (Item × Bor (List ℕ)) → List ℕ → Type 0
IsNextItem e None text = items e (chars text) ≡ []
IsNextItem e (Some p) text = (items e (chars text) ≡ p.0 ∷ items e (chars p.1.now)) × (length (chars p.1.now) < length (chars text))
