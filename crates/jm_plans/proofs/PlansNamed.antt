-- The deletion of a subscription that has a name: why it is refused, and what is planned.
use Rattle.std.proofs.Common.{◌≡◌, ℕ, Bool, true, false, List, refl, ap, sym, ◌∙◌, Some, None, Err}
use Rattle.std.specs.Prelude.{is_some, MatchBool}
use Rattle.jm_base.specs.declared.refusal.Refusal.{Refusal}
use Rattle.jm_base.specs.declared.refusal.Refusal.TheVariants.{InvalidDestination, SubscriptionInUse}
use Rattle.jm_dest.specs.declared.session.SessionId.{SessionId}
use Rattle.jm_dest.specs.declared.key.Key.{Key}
use Rattle.jm_machine.specs.declared.answer.Answer.{Answer}
use Rattle.jm_machine.specs.declared.call.Request.TheVariants as request
use Rattle.jm_machine.specs.declared.call.Who.TheVariants.{Session}
use Rattle.jm_machine.specs.declared.call.Call.TheVariants.{Ask}
use Rattle.jm_machine.specs.Attached.{is_named}
use Rattle.jm_machine.specs.Life.{client_of, mode_of}
use Rattle.jm_machine.specs.Machine.{answer, durable_of, first_cause, held, is_free, refusal, replied, reply, unless}
use Rattle.jm_machine.specs.Wants.{is_want, may_want}
use Rattle.jm_sub.specs.Sharing.{may}
use Rattle.jm_sub.specs.Subscriptions.{definition_at, unsubscribe_refusal}
use Rattle.jm_parts.specs.Named.{home_in, idle_in}
use Rattle.jm_plans.specs.Plans.{IsDeleting, IsRefused}
use Rattle.jm_plans.specs.Provider.{Provider, state_of}
use Rattle.jm_parts.specs.State.{IsSound}
use Rattle.jm_plans.proofs.Naming.{home_seen}
use Rattle.jm_parts.proofs.Stations.{definition_seen}

-- what is held of the durable subscription that the session means by the name says whether it may be deleted
delete_seen : (limit place : ℕ) (p : Provider) (s : SessionId) (name : List ℕ) (k : Key) (idle home : Bool) → k ≡ durable_of (client_of p.known.life) s name → (is_named k ≡ true → idle ≡ idle_in k p.known.consumers) → home ≡ home_in k p.held.keys p.held.list →
    IsSound limit p.known.consumers p.subscriptions.list p.held.keys p.held.list place → unsubscribe_refusal (definition_at k p.subscriptions.list) idle home
    ≡ first_cause (unless (is_some (held (state_of p) (Session s) (request.Unsubscribe name)).definition) InvalidDestination) (unless (is_free (held (state_of p) (Session s) (request.Unsubscribe name))) SubscriptionInUse)
delete_seen limit place p s name k idle home e f g h =
    let key : Key = durable_of (client_of p.known.life) s name in
    let named : is_named k ≡ true = ap (λ x. is_named x) e in
    let definition = definition_seen key p.subscriptions.list p.held.list h.number in
    let seen = home_seen limit place key p refl h in
    let is_idle = f named in
    (λ i. unsubscribe_refusal (definition_at k p.subscriptions.list) (is_idle i) (g i))
    ∙ ap (λ x. unsubscribe_refusal (definition_at x p.subscriptions.list) (idle_in x p.known.consumers) (home_in x p.held.keys p.held.list)) e
    ∙ (λ i. unsubscribe_refusal (definition i) (idle_in key p.known.consumers) (seen i))

pub delete_refused : (limit place : ℕ) (p : Provider) (s : SessionId) (name : List ℕ) (k : Key) (idle home : Bool) (r : Refusal) → k ≡ durable_of (client_of p.known.life) s name → (is_named k ≡ true → idle ≡ idle_in k p.known.consumers) → home ≡ home_in k p.held.keys p.held.list →
    IsSound limit p.known.consumers p.subscriptions.list p.held.keys p.held.list place → is_some (mode_of p.known.life s) ≡ true → unsubscribe_refusal (definition_at k p.subscriptions.list) idle home ≡ Some r → IsRefused (state_of p) (Session s) (Ask (request.Unsubscribe name)) r
unfolding reply refusal
delete_refused limit place p s name k idle home r e f g h opened why =
    rw opened
    (go (is_some (held (state_of p) (Session s) (request.Unsubscribe name)).definition) (is_free (held (state_of p) (Session s) (request.Unsubscribe name)))
    (answer p.known.life p.known.consumers (held (state_of p) (Session s) (request.Unsubscribe name)) (Session s) (request.Unsubscribe name)) (sym (delete_seen limit place p s name k idle home e f g h) ∙ why))
  where
    wants : Type 0
    wants = may_want (state_of p) (Session s) (Ask (request.Unsubscribe name)) ≡ true

    go : (there free : Bool) (told : Answer) → first_cause (unless there InvalidDestination) (unless free SubscriptionInUse) ≡ Some r →
        MatchBool (is_want (Err r)) wants (Err r ≡ replied (first_cause (unless there InvalidDestination) (unless free SubscriptionInUse)) told)
    go false free told why = let same : InvalidDestination ≡ r = cc in rw (← same) refl
    go true false told why = let same : SubscriptionInUse ≡ r = cc in rw (← same) refl
    go true true told why = cc

pub delete_planned : (limit place : ℕ) (p : Provider) (s : SessionId) (name : List ℕ) (k : Key) (idle home : Bool) → k ≡ durable_of (client_of p.known.life) s name → (is_named k ≡ true → idle ≡ idle_in k p.known.consumers) → home ≡ home_in k p.held.keys p.held.list →
    IsSound limit p.known.consumers p.subscriptions.list p.held.keys p.held.list place → is_some (mode_of p.known.life s) ≡ true → unsubscribe_refusal (definition_at k p.subscriptions.list) idle home ≡ None → IsDeleting p (Session s) (Ask (request.Unsubscribe name)) k
delete_planned limit place p s name k idle home e f g h opened none =
    let may = go (is_some (held (state_of p) (Session s) (request.Unsubscribe name)).definition) (is_free (held (state_of p) (Session s) (request.Unsubscribe name))) (sym (delete_seen limit place p s name k idle home e f g h) ∙ none) in
    record { session = s; name = name; sender = refl; asked = refl; named = e; opened = opened; there = may.0; free = may.1 }
  where
    go : (there free : Bool) → first_cause (unless there InvalidDestination) (unless free SubscriptionInUse) ≡ None → (there ≡ true) × (free ≡ true)
    go false free none = cc
    go true false none = cc
    go true true none = (refl, refl)
