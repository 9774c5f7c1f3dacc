-- What look-ups find.
use Rattle.std.proofs.Common.{◌≡◌, ◌<◌, ◌==◌, ◌∙◌, ℕ, zero, suc, Bool, true, false, cond, List, [], ◌∷◌, ap, subst, refl, length, get_or, arith, Option, Some, None}
use Rattle.std.specs.Prelude.{◌||◌, find, option_map}
use Rattle.std.specs.List.{list_any}
use Rattle.std.proofs.lemmas.Bool.{and_parts, eq-eqb, eqb-true}
use Rattle.std.proofs.lemmas.List.Folds.{list_any_at}
use Rattle.jm_dest.specs.declared.key.Key.{Key}
use Rattle.jm_dest.specs.Keys.{key_eq}
use Rattle.jm_machine.proofs.Keys.{key_same}
use Rattle.jm_decoding.specs.declared.held.HeldRow.{HeldRow}
use Rattle.jm_loading.specs.Said.{count_said, is_held_at}

module _ {X : Type 0} (p : X → Bool) where
  -- what is found has an index
  abbrev pub IsAt : List X → X → Type 0
  IsAt xs x = (k : ℕ) × (k < length xs) × ((d : X) → get_or xs k d ≡ x) × (p x ≡ true)

  pub found_index : (xs : List X) (x : X) → find p xs ≡ Some x → IsAt xs x
  found_index [] x h = cc
  found_index (y ∷ xs) x h = go (p y) refl h (found_index xs x)
    where
      go : (b : Bool) → p y ≡ b → cond b (Some y) (find p xs) ≡ Some x → (find p xs ≡ Some x → IsAt xs x) → IsAt (y ∷ xs) x
      go true t e rest = let same : y ≡ x = cc in (zero, omega arith, λ d. same, subst (λ z. p z ≡ true) same t)
      go false t e rest = let later = rest e in let inside = later.1 in (suc later.0, omega (arith, inside), λ d. later.2 d, later.3)

  -- where something passes, something is found
  pub any_found : (xs : List X) → list_any p xs ≡ true → (x : X) × (find p xs ≡ Some x)
  any_found [] h = cc
  any_found (y ∷ xs) h = go (p y) h (any_found xs)
    where
      go : (b : Bool) → (b || list_any p xs) ≡ true → (list_any p xs ≡ true → (x : X) × (find p xs ≡ Some x)) → (x : X) × (cond b (Some y) (find p xs) ≡ Some x)
      go true e rest = (y, refl)
      go false e rest = rest e

-- a look-up that maps what it finds
pub mapped : {A B : Type 0} (f : A → B) (o : Option A) (b : B) → option_map f o ≡ Some b → (a : A) × (o ≡ Some a) × (f a ≡ b)
mapped f None b h = cc
mapped f (Some a) b h = let same : f a ≡ b = cc in (a, refl, same)

-- a row of held at an index is counted under its key
pub counted_at : (key : Key) (place : ℕ) (held : List HeldRow) (k : ℕ) (d : HeldRow) → k < length held → is_held_at key place (get_or held k d) ≡ true → (c : ℕ) × (count_said key place held ≡ Some c)
counted_at key place held k d l t =
    let found = any_found (is_held_at key place) held (list_any_at (is_held_at key place) held k d l t) in
    (found.0.count, ap (option_map (λ (h : HeldRow). h.count)) found.1)

-- what is counted is a row of held
pub record IsCounted (key : Key) (place : ℕ) (held : List HeldRow) : Type 0 where
  pub at : ℕ
  pub within : at < length held
  pub row : HeldRow
  pub row_is : (d : HeldRow) → get_or held at d ≡ row
  pub key_is : row.key ≡ key
  pub place_is : row.place ≡ place

pub counted_row : (key : Key) (place c : ℕ) (held : List HeldRow) → count_said key place held ≡ Some c → IsCounted key place held
counted_row key place c held h =
    let found = mapped (λ (h : HeldRow). h.count) (find (is_held_at key place) held) c h in
    let index = found_index (is_held_at key place) held found.0 found.1 in
    let parts = and_parts (key_eq found.0.key key) (found.0.place == place) index.3 in
    record { at = index.0; within = index.1; row = found.0; row_is = index.2; key_is = key_same found.0.key key parts.0; place_is = eqb-true found.0.place place parts.1 }

-- it is at its place
pub at_place : (place : ℕ) (held : List HeldRow) (key : Key) → IsCounted key place held → list_any (λ (h : HeldRow). h.place == place) held ≡ true
at_place place held key is = list_any_at (λ (h : HeldRow). h.place == place) held is.at is.row is.within (ap (λ (h : HeldRow). h.place == place) (is.row_is is.row) ∙ same is.row.place place is.place_is)
  where
    same : (a b : ℕ) → a ≡ b → (a == b) ≡ true
    same a b e = eq-eqb a b e
