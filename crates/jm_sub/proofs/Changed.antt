-- What comes to the entries, and what goes.
use Rattle.std.proofs.Common.{◌≡◌, ◌∙◌, ℕ, zero, suc, length, Bool, true, false, true≢false, cond, List, [], ◌∷◌, ◌++◌, None, Some, refl, sym, ap, subst, is_some}
use Rattle.std.specs.Prelude.{not}
use Rattle.std.specs.List.{AllByRecursion, IsDistinct, remove}
use Rattle.std.specs.Cmp.{IsEquivalence}
use Rattle.std.specs.Map.{keys_of, lookup, remove_entry}
use Rattle.jm_dest.specs.declared.key.Key.{Key}
use Rattle.jm_dest.specs.Keys.{key_eq}
use Rattle.jm_machine.specs.declared.state.Definition.{Definition}
use Rattle.jm_indexed.specs.Order.{index_in}
use Rattle.jm_indexed.proofs.Entries.{removed_is}
use Rattle.jm_machine.proofs.Keys.{key_refl, key_same, key_sym, set_eq, set_is}
use Rattle.jm_sub.specs.Channels.{channel_of, channels_in}
use Rattle.jm_sub.specs.Entries.{IsNew, subscription_of, subscriptions_of}
use Rattle.jm_sub.specs.Subscriptions.{Subscription, without}

-- there are as many subscriptions as entries, and as many channels
pub length_subscriptions : (es : List (Key × Definition)) → length (subscriptions_of es) ≡ length es
length_subscriptions [] = refl
length_subscriptions (e ∷ es) = ap suc (length_subscriptions es)

pub length_channels : (es : List (Key × Definition)) → length (channels_in es) ≡ length es
length_channels [] = refl
length_channels (e ∷ es) = ap suc (length_channels es)

-- one subscription more
pub subscriptions_more : (es : List (Key × Definition)) (e : Key × Definition) → subscriptions_of (es ++ e ∷ []) ≡ subscriptions_of es ++ subscription_of e ∷ []
subscriptions_more [] e = refl
subscriptions_more (x ∷ es) e = ap (λ ss. subscription_of x ∷ ss) (subscriptions_more es e)

-- and its channel
pub channels_more : (es : List (Key × Definition)) (e : Key × Definition) → channels_in (es ++ e ∷ []) ≡ channels_in es ++ channel_of e.1 ∷ []
channels_more [] e = refl
channels_more (x ∷ es) e = ap (λ cs. channel_of x.1 ∷ cs) (channels_more es e)

-- without the one at a place
pub subscriptions_less : (es : List (Key × Definition)) (at : ℕ) → subscriptions_of (remove es at) ≡ remove (subscriptions_of es) at
subscriptions_less [] zero = refl
subscriptions_less [] (suc at) = refl
subscriptions_less (e ∷ es) zero = refl
subscriptions_less (e ∷ es) (suc at) = ap (λ ss. subscription_of e ∷ ss) (subscriptions_less es at)

pub channels_less : (es : List (Key × Definition)) (at : ℕ) → channels_in (remove es at) ≡ remove (channels_in es) at
channels_less [] zero = refl
channels_less [] (suc at) = refl
channels_less (e ∷ es) zero = refl
channels_less (e ∷ es) (suc at) = ap (λ cs. channel_of e.1 ∷ cs) (channels_less es at)

-- where the key is nobody's, nobody is taken out
pub without_absent : (key : Key) (es : List (Key × Definition)) → is_some (lookup (set_eq key) es) ≡ false → subscriptions_of es ≡ without key (subscriptions_of es)
without_absent key [] h = refl
without_absent key (e ∷ es) h = by (set_eq key e.0) refl (without_absent key es)
  where
    by : (b : Bool) → set_eq key e.0 ≡ b → (is_some (lookup (set_eq key) es) ≡ false → subscriptions_of es ≡ without key (subscriptions_of es)) → subscriptions_of (e ∷ es) ≡ without key (subscriptions_of (e ∷ es))
    by true this rest = absurd (true≢false (sym (ap (λ b. is_some (cond b (Some e.1) (lookup (set_eq key) es))) this) ∙ h))
    by false this rest =
        let apart : key_eq e.0 key ≡ false = key_sym e.0 key ∙ sym (set_is key e.0) ∙ this in
        let later : is_some (lookup (set_eq key) es) ≡ false = sym (ap (λ b. is_some (cond b (Some e.1) (lookup (set_eq key) es))) this) ∙ h in
        rw apart (ap (λ ss. subscription_of e ∷ ss) (rest later))

-- no entry has a key that differs from all
absent : (key : Key) (es : List (Key × Definition)) → AllByRecursion (λ k. set_eq key k ≡ false) (keys_of es) → is_some (lookup (set_eq key) es) ≡ false
absent key [] apart = refl
absent key (e ∷ es) apart = rw apart.0 (absent key es apart.1)

-- the entry of a key is its subscription alone
pub without_entry : (key : Key) (es : List (Key × Definition)) → IsDistinct set_eq (keys_of es) → subscriptions_of (remove_entry (set_eq key) es) ≡ without key (subscriptions_of es)
unfolding IsDistinct
without_entry key [] d = refl
without_entry key (e ∷ es) d = by (set_eq key e.0) refl (without_entry key es d.1)
  where
    by : (b : Bool) → set_eq key e.0 ≡ b → subscriptions_of (remove_entry (set_eq key) es) ≡ without key (subscriptions_of es) → subscriptions_of (remove_entry (set_eq key) (e ∷ es)) ≡ without key (subscriptions_of (e ∷ es))
    by true this rest =
        let same : e.0 ≡ key = sym (key_same key e.0 (sym (set_is key e.0) ∙ this)) in
        rw (this, key_sym e.0 key ∙ sym (set_is key e.0) ∙ this) (without_absent key es (absent key es (subst (λ k. AllByRecursion (λ x. set_eq k x ≡ false) (keys_of es)) same d.0)))
    by false this rest = rw (this, key_sym e.0 key ∙ sym (set_is key e.0) ∙ this) (ap (λ ss. subscription_of e ∷ ss) rest)

-- the key of what was taken out is new
pub new_without : (key : Key) (ss : List Subscription) → IsNew key (without key ss)
new_without key [] = tt
new_without key (s ∷ ss) = by (key_eq s.key key) refl (new_without key ss)
  where
    by : (b : Bool) → key_eq s.key key ≡ b → IsNew key (without key ss) → IsNew key (cond (not b) (s ∷ without key ss) (without key ss))
    by true same rest = rest
    by false apart rest = (apart, rest)

-- a new key is not found
pub none_found : (key : Key) (es : List (Key × Definition)) → IsNew key (subscriptions_of es) → lookup (set_eq key) es ≡ None
none_found key [] h = refl
none_found key (e ∷ es) h =
    let apart : set_eq key e.0 ≡ false = set_is key e.0 ∙ key_sym key e.0 ∙ h.0 in
    ap (λ b. cond b (Some e.1) (lookup (set_eq key) es)) apart ∙ none_found key es h.1

key_equiv : IsEquivalence set_eq
key_equiv = record {
  refl = λ x. set_is x x ∙ key_refl x;
  symm = λ x y. set_is x y ∙ key_sym x y ∙ sym (set_is y x);
  congr = λ x y z h. ap (λ k. set_eq k z) (key_same x y (sym (set_is x y) ∙ h));
}

-- where the key stands, its subscription is taken out
pub removed_at : (key : Key) (es : List (Key × Definition)) (at : ℕ) → IsDistinct set_eq (keys_of es) → index_in set_eq (keys_of es) key ≡ Some at → remove (subscriptions_of es) at ≡ without key (subscriptions_of es)
removed_at key es at once is = sym (subscriptions_less es at) ∙ ap subscriptions_of (removed_is key_equiv key es at is) ∙ without_entry key es once
