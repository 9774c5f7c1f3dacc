-- Which subscriptions end once consumers are closed.
use Rattle.std.proofs.Common.{◌≡◌, ◌∙◌, ◌+◌, ◌<◌, ◌≤◌, ℕ, zero, suc, length, get_or, take, drop, Bool, true, false, cond, List, [], ◌∷◌, ◌++◌, arith, ap, refl, sym}
use Rattle.std.specs.Prelude.{◌||◌, map, not}
use Rattle.std.specs.List.{list_any, remove}
use Rattle.std.specs.Map.{keys_of}
use Rattle.std.specs.Ordering.{is_eq}
use Rattle.std.specs.declared.cmp.Ordering.TheVariants.{Equal}
use Rattle.jm_dest.specs.declared.key.Key.{Key}
use Rattle.jm_dest.specs.declared.key.Key.TheVariants.{Queue, Own, SharedOwn, Durable}
use Rattle.jm_dest.specs.declared.session.SessionId.{SessionId}
use Rattle.jm_dest.specs.Keys.{key_eq}
use Rattle.jm_machine.specs.Attached.{Counts, ended}
use Rattle.jm_machine.specs.declared.consumers.Consumers.{Consumers}
use Rattle.jm_machine.specs.declared.consumers.Consumers.TheVariants.{One}
use Rattle.jm_machine.specs.declared.state.Definition.{Definition}
use Rattle.jm_sub.specs.Entries.{subscriptions_of}
use Rattle.jm_machine.specs.Sections.{is_own_of, key_place}
use Rattle.jm_sub.specs.Subscriptions.{Subscription, is_shared_own, number_of_shared, without, without_ended, without_own}
use Rattle.jm_sub.proofs.Changed.{length_subscriptions}
use Rattle.jm_machine.proofs.Sections.{place_is}
use Rattle.jm_sub.proofs.Shared.{number_next}

-- the keys of the entries are those of the subscriptions
pub keys_listed : (es : List (Key × Definition)) → keys_of es ≡ map (λ s. s.key) (subscriptions_of es)
keys_listed [] = refl
keys_listed (e ∷ es) = ap (λ ks. e.0 ∷ ks) (keys_listed es)

-- one consumer's own subscription is that of its key
own_key : (s : SessionId) (c : ℕ) (key : Key) → key_eq key (Own s c) ≡ is_own_of (One s c) key
own_key s c (Queue name) = refl
own_key s c (Own t d) = refl
own_key s c (SharedOwn client name) = refl
own_key s c (Durable client name) = refl

pub own_of_one : (s : SessionId) (c : ℕ) (ss : List Subscription) → without (Own s c) ss ≡ without_own (One s c) ss
own_of_one s c [] = refl
own_of_one s c (x ∷ ss) = λ i. cond (not (own_key s c x.key i)) (x ∷ own_of_one s c ss i) (own_of_one s c ss i)

module _ (which : Consumers) where
  -- an own subscription that is there is taken out first
  own_less : (ss : List Subscription) (at : ℕ) → at < length ss → ((d : Key) → key_place which (get_or (map (λ s. s.key) ss) at d) ≡ Equal) → without_own which (remove ss at) ≡ without_own which ss
  own_less [] at within own = absurd (omega (arith, within))
  own_less (s ∷ ss) zero within own = rw (sym (place_is which s.key) ∙ ap is_eq (own s.key)) refl
  own_less (s ∷ ss) (suc at) within own = let rest = own_less ss at (omega (arith, within)) own in λ i. cond (not (is_own_of which s.key)) (s ∷ rest i) (rest i)

  pub own_taken : (es : List (Key × Definition)) (at : ℕ) (ss : List Subscription) → subscriptions_of es ≡ ss → at < length es → ((d : Key) → key_place which (get_or (keys_of es) at d) ≡ Equal) →
      without_own which (remove ss at) ≡ without_own which ss
  own_taken es at ss is within own =
      rw (← is) (own_less (subscriptions_of es) at (omega (arith, within, length_subscriptions es)) (λ d. ap (λ ks. key_place which (get_or ks at d)) (sym (keys_listed es)) ∙ own d))

  -- where there is none, none is taken out
  without_none : (ss : List Subscription) → list_any (is_own_of which) (map (λ s. s.key) ss) ≡ false → without_own which ss ≡ ss
  without_none [] none = refl
  without_none (s ∷ ss) none = by (is_own_of which s.key) refl none (without_none ss)
    where
      by : (b : Bool) → is_own_of which s.key ≡ b → (b || list_any (is_own_of which) (map (λ x. x.key) ss)) ≡ false →
          (list_any (is_own_of which) (map (λ x. x.key) ss) ≡ false → without_own which ss ≡ ss) → without_own which (s ∷ ss) ≡ s ∷ ss
      by true own h rest = cc
      by false other h rest = rw other (ap (λ xs. s ∷ xs) (rest h))

  pub none_own : (es : List (Key × Definition)) (ss : List Subscription) → subscriptions_of es ≡ ss → list_any (λ key. is_eq (key_place which key)) (keys_of es) ≡ false → without_own which ss ≡ ss
  none_own es ss is none =
      rw (← is) (without_none (subscriptions_of es) (sym (λ i. list_any (λ key. place_is which key i) (keys_listed es i)) ∙ none))

  module _ (left : Counts) where
    -- a consumer's own subscription ends with it
    own_ends : (key : Key) → is_own_of which key ≡ true → ended which left key ≡ true
    own_ends (Queue name) h = cc
    own_ends (Own t d) h = h
    own_ends (SharedOwn client name) h = cc
    own_ends (Durable client name) h = cc

    -- and no other that is not shared
    others_stay : (key : Key) → is_shared_own key ≡ false → is_own_of which key ≡ false → ended which left key ≡ false
    others_stay (Queue name) none h = refl
    others_stay (Own t d) none h = h
    others_stay (SharedOwn client name) none h = cc
    others_stay (Durable client name) none h = refl

    -- where no other is shared, none but their own end
    pub only_own : (ss : List Subscription) → number_of_shared (without_own which ss) ≡ 0 → without_own which ss ≡ without_ended which left ss
    only_own [] h = refl
    only_own (x ∷ ss) h = by (is_own_of which x.key) refl h (only_own ss)
      where
        unshared : (b : Bool) → is_shared_own x.key ≡ b → cond (is_shared_own x.key) 1 0 + number_of_shared (without_own which ss) ≡ 0 → is_shared_own x.key ≡ false
        unshared true is parts = let never : 1 + number_of_shared (without_own which ss) ≡ 0 = rw is at parts in absurd (omega arith)
        unshared false is parts = is

        by : (b : Bool) → is_own_of which x.key ≡ b → number_of_shared (cond (not b) (x ∷ without_own which ss) (without_own which ss)) ≡ 0 →
            (number_of_shared (without_own which ss) ≡ 0 → without_own which ss ≡ without_ended which left ss) → without_own which (x ∷ ss) ≡ without_ended which left (x ∷ ss)
        by true this none rest = rw (this, own_ends x.key this) (rest none)
        by false that none rest =
            let parts = sym (number_next x (without_own which ss)) ∙ none in
            rw (that, others_stay x.key (unshared (is_shared_own x.key) refl parts) that) (ap (λ xs. x ∷ xs) (rest (omega arith)))

    -- their own may end first
    pub own_first : (ss : List Subscription) → without_ended which left (without_own which ss) ≡ without_ended which left ss
    own_first [] = refl
    own_first (x ∷ ss) = by (is_own_of which x.key) refl (own_first ss)
      where
        by : (b : Bool) → is_own_of which x.key ≡ b → without_ended which left (without_own which ss) ≡ without_ended which left ss →
            without_ended which left (without_own which (x ∷ ss)) ≡ without_ended which left (x ∷ ss)
        by true this rest = rw (this, own_ends x.key this) rest
        by false that rest = rw that (λ i. cond (not (ended which left x.key)) (x ∷ rest i) (rest i))

    -- what is left once those from a place on were looked at
    abbrev pub ended_from : ℕ → List Subscription → List Subscription
    ended_from at ss = take at ss ++ without_ended which left (drop at ss)

    -- those that were not looked at are all there
    pub ended_length : (at : ℕ) (ss : List Subscription) → at ≤ length ss → at ≤ length (ended_from at ss)
    ended_length zero ss within = omega arith
    ended_length (suc at) [] within = absurd (omega (arith, within))
    ended_length (suc at) (s ∷ ss) within = omega (arith, ended_length at ss (omega (arith, within)))

    -- at first none was looked at
    pub ended_none : (ss : List Subscription) → ss ≡ ended_from (length ss) ss
    ended_none [] = refl
    ended_none (s ∷ ss) = ap (λ xs. s ∷ xs) (ended_none ss)

    -- one more was looked at, which ends
    pub ended_next : (ss : List Subscription) (at : ℕ) (key : Key) → at < length ss → ((d : Key) → key ≡ get_or (map (λ s. s.key) (ended_from (suc at) ss)) at d) → ended which left key ≡ true →
        remove (ended_from (suc at) ss) at ≡ ended_from at ss
    ended_next [] at key within here ends = absurd (omega (arith, within))
    ended_next (s ∷ ss) zero key within here ends = rw (ap (ended which left) (sym (here key)) ∙ ends) refl
    ended_next (s ∷ ss) (suc at) key within here ends = ap (λ xs. s ∷ xs) (ended_next ss at key (omega (arith, within)) here ends)

    -- or stays
    pub stays_next : (ss : List Subscription) (at : ℕ) (key : Key) → at < length ss → ((d : Key) → key ≡ get_or (map (λ s. s.key) (ended_from (suc at) ss)) at d) → ended which left key ≡ false →
        ended_from (suc at) ss ≡ ended_from at ss
    stays_next [] at key within here stays = absurd (omega (arith, within))
    stays_next (s ∷ ss) zero key within here stays = rw (ap (ended which left) (sym (here key)) ∙ stays) refl
    stays_next (s ∷ ss) (suc at) key within here stays = ap (λ xs. s ∷ xs) (stays_next ss at key (omega (arith, within)) here stays)
