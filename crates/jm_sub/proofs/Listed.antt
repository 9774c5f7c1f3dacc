-- The entries as a list of subscriptions: what is found in it, and a copy that grows.
use Rattle.std.proofs.Common.{◌≡◌, ◌+◌, ℕ, zero, suc, length, Bool, true, false, cond, List, [], ◌∷◌, ◌++◌, None, Some, refl, sym, ap, subst, ◌∙◌, add-one, take}
use Rattle.std.specs.Prelude.{slice_get, position, nat_lt}
use Rattle.std.specs.List.{IsDistinct, AllByRecursion, position_or_len}
use Rattle.std.specs.Map.{keys_of, lookup}
use Rattle.jm_dest.specs.declared.key.Key.{Key}
use Rattle.jm_dest.specs.Keys.{key_eq}
use Rattle.jm_machine.specs.declared.state.Definition.{Definition}
use Rattle.jm_sub.specs.Entries.{IsNew, subscription_of, subscriptions_of}
use Rattle.jm_sub.specs.Subscriptions as spec
use Rattle.jm_sub.specs.Subscriptions.{Subscription}
use Rattle.jm_machine.proofs.Keys.{key_sym, set_eq, set_is}

-- a key that stands further on is another
pub apart_at : (P : Key → Type 0) (es : List (Key × Definition)) (at : ℕ) (e : Key × Definition) → AllByRecursion P (keys_of es) → slice_get es at ≡ Some e → P e.0
apart_at P [] at e h is = cc
apart_at P (x ∷ es) zero e h is = let same : x ≡ e = cc in subst (λ (y : Key × Definition). P y.0) same h.0
apart_at P (x ∷ es) (suc at) e h is = apart_at P es at e h.1 is

-- the key at a place is new to those before it
pub new_next : (es : List (Key × Definition)) (at : ℕ) (e : Key × Definition) → IsDistinct set_eq (keys_of es) → slice_get es at ≡ Some e → IsNew e.0 (subscriptions_of (take at es))
unfolding IsDistinct
new_next [] at e d is = cc
new_next (x ∷ es) zero e d is = tt
new_next (x ∷ es) (suc at) e d is = (sym (set_is x.0 e.0) ∙ apart_at (λ k. set_eq x.0 k ≡ false) es at e d.0 is, new_next es at e d.1 is)

-- one more of them
next_taken : (es : List (Key × Definition)) (at : ℕ) (e : Key × Definition) → slice_get es at ≡ Some e → subscriptions_of (take (suc at) es) ≡ subscriptions_of (take at es) ++ subscription_of e ∷ []
next_taken [] at e is = cc
next_taken (x ∷ es) zero e is = let same : x ≡ e = cc in ap (λ y. subscription_of y ∷ []) same
next_taken (x ∷ es) (suc at) e is = ap (λ ss. subscription_of x ∷ ss) (next_taken es at e is)

pub subscriptions_next : (es : List (Key × Definition)) (at : ℕ) (e : Key × Definition) → slice_get es at ≡ Some e → subscriptions_of (take (at + 1) es) ≡ subscriptions_of (take at es) ++ subscription_of e ∷ []
subscriptions_next es at e is = rw add-one (next_taken es at e is)

-- where a key stands
place : (p : Key → Bool) (es : List (Key × Definition)) → position_or_len p (keys_of es) ≡ position_or_len (λ s. p s.key) (subscriptions_of es)
place p [] = refl
place p (e ∷ es) = by (p e.0) refl (place p es)
  where
    by : (b : Bool) → p e.0 ≡ b → position_or_len p (keys_of es) ≡ position_or_len (λ s. p s.key) (subscriptions_of es) → position_or_len p (keys_of (e ∷ es)) ≡ position_or_len (λ s. p s.key) (subscriptions_of (e ∷ es))
    by true this rest = rw this refl
    by false other rest = rw other (ap (λ n. 1 + n) rest)

as_many : (es : List (Key × Definition)) → length (keys_of es) ≡ length (subscriptions_of es)
as_many [] = refl
as_many (e ∷ es) = ap suc (as_many es)

pub position_listed : (k : Key) (es : List (Key × Definition)) → position (λ x. set_eq x k) (keys_of es) ≡ position (λ s. key_eq s.key k) (subscriptions_of es)
position_listed k es =
    (λ i. position (λ x. set_is x k i) (keys_of es)) ∙ (λ i. cond (nat_lt (place (λ x. key_eq x k) es i) (as_many es i)) (Some (place (λ x. key_eq x k) es i)) None)

-- the subscription of the entry at a place
pub entry_at : (es : List (Key × Definition)) (at : ℕ) (e : Key × Definition) → slice_get es at ≡ Some e → slice_get (subscriptions_of es) at ≡ Some (subscription_of e)
entry_at [] at e is = cc
entry_at (x ∷ es) zero e is = let same : x ≡ e = cc in ap (λ y. Some (subscription_of y)) same
entry_at (x ∷ es) (suc at) e is = entry_at es at e is

-- what is found under a key is what its subscription asks for
pub definition_found : (key : Key) (es : List (Key × Definition)) → lookup (set_eq key) es ≡ spec.definition_at key (subscriptions_of es)
definition_found key [] = refl
definition_found key (e ∷ es) = by (set_eq key e.0) refl (definition_found key es)
  where
    by : (b : Bool) → set_eq key e.0 ≡ b → lookup (set_eq key) es ≡ spec.definition_at key (subscriptions_of es) → lookup (set_eq key) (e ∷ es) ≡ spec.definition_at key (subscriptions_of (e ∷ es))
    by true this rest = rw (this, key_sym e.0 key ∙ sym (set_is key e.0) ∙ this) refl
    by false other rest = rw (other, key_sym e.0 key ∙ sym (set_is key e.0) ∙ other) rest
