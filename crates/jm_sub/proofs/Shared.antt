-- How many of the subscriptions are shared and not durable.
use Rattle.std.proofs.Common.{◌≡◌, ◌+◌, ◌<◌, ◌≤◌, ℕ, zero, suc, length, get_or, cond, List, [], ◌∷◌, ◌++◌, arith, ap}
use Rattle.std.specs.List.{remove}
use Rattle.std.specs.Map.{keys_of}
use Rattle.std.proofs.lemmas.List.Sums.{count_by-le-length, sum_by-append, sum_by-cons}
use Rattle.jm_dest.specs.declared.key.Key.{Key}
use Rattle.jm_machine.specs.declared.state.Definition.{Definition}
use Rattle.jm_sub.specs.Entries.{subscription_of, subscriptions_of}
use Rattle.jm_sub.specs.Subscriptions.{Subscription, is_shared_own, number_of_shared}

-- what a key adds
abbrev weight : Key → ℕ
weight key = cond (is_shared_own key) 1 0

-- the first, and those behind it
pub number_next : (s : Subscription) (ss : List Subscription) → number_of_shared (s ∷ ss) ≡ cond (is_shared_own s.key) 1 0 + number_of_shared ss
number_next s ss = sum_by-cons (λ (x : Subscription). cond (is_shared_own x.key) 1 0) s ss

-- one more
pub number_more : (ss : List Subscription) (s : Subscription) → number_of_shared (ss ++ s ∷ []) ≡ number_of_shared ss + cond (is_shared_own s.key) 1 0
number_more ss s = omega (arith, sum_by-append (λ (x : Subscription). cond (is_shared_own x.key) 1 0) ss (s ∷ []), number_next s [])

-- as many as there are, or fewer
pub number_within : (ss : List Subscription) → number_of_shared ss ≤ length ss
number_within ss = count_by-le-length (λ (s : Subscription). is_shared_own s.key) ss

-- without the one at a place
pub number_less : (key : Key) (es : List (Key × Definition)) (at : ℕ) → at < length es → ((d : Key) → key ≡ get_or (keys_of es) at d) →
    number_of_shared (subscriptions_of (remove es at)) + cond (is_shared_own key) 1 0 ≡ number_of_shared (subscriptions_of es)
number_less key [] at within here = absurd (omega (arith, within))
number_less key (e ∷ es) zero within here = omega (arith, ap weight (here key), number_next (subscription_of e) (subscriptions_of es))
number_less key (e ∷ es) (suc at) within here =
    omega (
      arith,
      number_less key es at (omega (arith, within)) here,
      number_next (subscription_of e) (subscriptions_of es),
      number_next (subscription_of e) (subscriptions_of (remove es at)),
    )
