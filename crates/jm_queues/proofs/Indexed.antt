-- Keys by their indexes.
use Rattle.std.proofs.Common.{◌≡◌, ◌<◌, ◌+◌, ◌++◌, ℕ, false, true, List, [], ◌∷◌, length, get_or, refl, ap, sym, ◌∙◌, arith, Some, zero, suc}
use Rattle.std.specs.List.{AllByRecursion, IsDistinct, position_or_len}
use Rattle.std.proofs.lemmas.List.{get_or-append-add, get_or_append_left, length-append}
use Rattle.std.proofs.lemmas.List.Quantifiers.{position-Some}
use Rattle.jm_dest.specs.declared.key.Key.{Key}
use Rattle.jm_dest.specs.Keys.{key_eq}
use Rattle.jm_machine.proofs.Keys.{key_refl, key_same}
use Rattle.jm_stations.specs.Stations.{index_in}
use Rattle.jm_queues.specs.Rows.{IsAt}
use Rattle.jm_queues.proofs.QueueRows.{positioned}

-- a key that is apart from all is so from the one at an index
pub apart_at : (a : Key) (keys : List Key) (i : ℕ) (d : Key) → AllByRecursion (λ y. key_eq a y ≡ false) keys → i < length keys → key_eq a (get_or keys i d) ≡ false
apart_at a [] i d h l = absurd (omega (arith, l))
apart_at a (k ∷ keys) zero d h l = h.0
apart_at a (k ∷ keys) (suc i) d h l = apart_at a keys i d h.1 (omega (arith, l))

-- where each key stands once, a key is found where it stands
pub place_here : (keys : List Key) (i : ℕ) (key d : Key) → IsDistinct key_eq keys → get_or keys i d ≡ key → i < length keys → position_or_len (λ x. key_eq x key) keys ≡ i
unfolding IsDistinct
place_here [] i key d h e l = absurd (omega (arith, l))
place_here (k ∷ keys) zero key d h e l = let t : key_eq k key ≡ true = rw e (key_refl key) in rw t refl
place_here (k ∷ keys) (suc i) key d h e l =
    let within : i < length keys = omega (arith, l) in
    let t : key_eq k key ≡ false = ap (λ y. key_eq k y) (sym e) ∙ apart_at k keys i d h.0 within in
    let rest = place_here keys i key d h.1 e within in
    rw t (omega (arith, rest))

pub index_here : (keys : List Key) (i : ℕ) (key d : Key) → IsDistinct key_eq keys → get_or keys i d ≡ key → i < length keys → index_in keys key ≡ Some i
index_here keys i key d h e l = positioned (λ x. key_eq x key) keys i (place_here keys i key d h e l) l

-- a key that is found stands there
pub key_there : (keys : List Key) (key : Key) (i : ℕ) → index_in keys key ≡ Some i → IsAt keys key i
key_there keys key i h = (
  (position-Some (λ x. key_eq x key) keys i key h).0,
  λ d. key_same (get_or keys i d) key (position-Some (λ x. key_eq x key) keys i d h).1,
)

-- and so where other keys follow, or stand before it
pub at_first : (xs ys : List Key) (key : Key) (i : ℕ) → IsAt xs key i → IsAt (xs ++ ys) key i
at_first xs ys key i h = (
  omega (arith, h.0, length-append xs ys),
  λ d. get_or_append_left xs ys d i h.0 ∙ h.1 d,
)

pub at_behind : (xs ys : List Key) (key : Key) (i : ℕ) → IsAt ys key i → IsAt (xs ++ ys) key (length xs + i)
at_behind xs ys key i h = (
  omega (arith, h.0, length-append xs ys),
  λ d. get_or-append-add xs ys i d ∙ h.1 d,
)
