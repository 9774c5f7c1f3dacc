-- The subscriptions, each under its key.
use Rattle.std.specs.Prelude.{◌≡◌, ℕ, false, List, [], ◌∷◌, map}
use Rattle.jm_dest.specs.declared.key.Key.{Key}
use Rattle.jm_dest.specs.Keys.{key_eq}
use Rattle.jm_machine.specs.declared.state.Definition.{Definition}
use Rattle.jm_sub.specs.Subscriptions.{Subscription}

-- a subscription, of the key under which it stands
abbrev pub subscription_of : Key × Definition → Subscription
subscription_of e = record { key = e.0; definition = e.1 }

-- the subscriptions, in order of creation
abbrev pub subscriptions_of : List (Key × Definition) → List Subscription
subscriptions_of entries = map subscription_of entries

-- the topics that the subscriptions are to, in order of creation
abbrev pub topics_of : List (Key × Definition) → List (List ℕ)
topics_of entries = map (λ e. e.1.topic) entries

-- no subscription has the key
abbrev pub IsNew : Key → List Subscription → Type 0
IsNew key [] = Unit {0}
IsNew key (s ∷ subscriptions) = (key_eq s.key key ≡ false) × IsNew key subscriptions
