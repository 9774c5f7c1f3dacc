-- Whether a stored row stays, over all keys.
use Rattle.std.proofs.Common.{◌≡◌, ◌⊎◌, inl, inr, ℕ, ◌<◌, ◌+◌, Bool, true, false, List, [], length, refl, subst, ◌∙◌, ap, arith}
use Rattle.std.specs.Prelude.{◌&&◌, not, nat_lt}
use Rattle.std.proofs.lemmas.Bool.Decides.{nat_tests}
use Rattle.jm_dest.specs.declared.key.Key.{Key}
use Rattle.jm_machine.specs.declared.state.Row.{Row}
use Rattle.jm_machine.specs.Machine.{State}
use Rattle.jm_machine.specs.Under.{placed_under}
use Rattle.jm_keep.specs.Persisted.{is_lasting, row_at}
use Rattle.jm_changes.specs.Standing.{Covers, key_in, stays}
use Rattle.jm_keep.specs.Steps.{passes}

-- of the first keys none has a row that stays
abbrev pub NoneOf : (Key → Row → Bool) → State → List Key → ℕ → ℕ → Type 0
NoneOf g state keys place n = (i : ℕ) → i < n → stays g state (key_in keys i) place ≡ false

pub none_of_none : (g : Key → Row → Bool) (state : State) (keys : List Key) (place : ℕ) → NoneOf g state keys place 0
none_of_none g state keys place i l = absurd (omega (arith, l))

pub none_of_more : (g : Key → Row → Bool) (state : State) (keys : List Key) (place n : ℕ) → NoneOf g state keys place n → stays g state (key_in keys n) place ≡ false → NoneOf g state keys place (n + 1)
none_of_more g state keys place n h e i l = go (nat_lt i n) refl
  where
    go : (b : Bool) → nat_lt i n ≡ b → stays g state (key_in keys i) place ≡ false
    go true f = h i (grind (arith, nat_tests))
    go false f = let same : n ≡ i = grind (arith, nat_tests) in subst (λ i. stays g state (key_in keys i) place ≡ false) same e

-- so no key at all has
pub none_of_all : (g : Key → Row → Bool) (state : State) (keys : List Key) (place : ℕ) → Covers keys state → NoneOf g state keys place (length keys) → (key : Key) → stays g state key place ≡ false
none_of_all g state keys place c h key = go (c key)
  where
    and_false : (a : Bool) → (a && false) ≡ false
    and_false true = refl
    and_false false = refl

    go : (placed_under state key ≡ []) ⊎ ((i : ℕ) × (i < length keys) × (key_in keys i ≡ key)) → stays g state key place ≡ false
    go (inl e) = ap (λ rows. is_lasting key && passes (λ r. not (g key r)) (row_at place rows)) e ∙ and_false (is_lasting key)
    go (inr w) = subst (λ k. stays g state k place ≡ false) w.2 (h w.0 w.1)
