-- Why requests that name a subscription are refused.
use Rattle.std.proofs.Common.{◌≡◌, ℕ, Bool, true, false, List, Option, None, Result, Ok, Err, ap, sym, ◌∙◌}
use Rattle.std.specs.Prelude.{IfOk, is_some, not}
use Rattle.jm_dest.specs.declared.session.SessionId.{SessionId}
use Rattle.jm_dest.specs.declared.destination.Destination.{Destination}
use Rattle.jm_dest.specs.declared.key.Key.{Key}
use Rattle.jm_dest.specs.declared.key.Key.TheVariants.{Durable}
use Rattle.jm_header.specs.declared.content.Content.{Content}
use Rattle.jm_machine.specs.declared.call.Who.TheVariants.{Session}
use Rattle.jm_machine.specs.declared.call.Request.TheVariants.{CreateDurable, CreateSharedDurable, Unsubscribe}
use Rattle.jm_machine.specs.declared.call.Call.TheVariants.{Ask}
use Rattle.jm_machine.specs.declared.state.Definition.{Definition}
use Rattle.jm_machine.specs.Life.{client_of}
use Rattle.jm_machine.specs.Machine.{State, asked, definition_of, durable_of, holding_of, is_home, is_idle, selected_by, station_of}
use Rattle.jm_machine.specs.Under.{placed_under}
use Rattle.jm_why.specs.declared.cause.Why.{Why}
use Rattle.jm_why.specs.declared.cause.Why.TheVariants.{NoClient}
use Rattle.jm_why.specs.Why.{begin_why, delete_why, first_why, join_why, request_why, resume_why, session_why, subscription_why, unless, why as why_of}
use Rattle.jm_explain.specs.Held.{is_any_active, is_any_out}
use Rattle.jm_explain.proofs.Holding.{idle_is, durable_home}

-- what looks at what is held of a key, by its parts
abbrev Look : Type 0
Look = Option Definition → Bool → Bool → Option Why

-- the same by the core's rows and consumers
abbrev looked : Look → Key → State → Option Why
looked f key state = f (definition_of (station_of key state.stations)) (not (is_any_active key state.consumers)) (not (is_any_out (placed_under state key)))

-- it sees what the machine holds of the key of a durable subscription
looked_durable : (f : Look) (p : Content → Bool) (client : Option (List ℕ)) (name : List ℕ) (state : State) →
    looked f (Durable client name) state ≡ f (definition_of (station_of (Durable client name) state.stations)) (is_idle (holding_of p (Durable client name) state)) (is_home (holding_of p (Durable client name) state))
looked_durable f p client name state =
    ap (λ b. f (definition_of (station_of (Durable client name) state.stations)) b (not (is_any_out (placed_under state (Durable client name))))) (sym (idle_is p (Durable client name) state))
    ∙ ap (λ b. f (definition_of (station_of (Durable client name) state.stations)) (is_idle (holding_of p (Durable client name) state)) b) (sym (durable_home p client name state))

-- the same of a key that is that of a session's durable subscription
looked_at : (f : Look) (state : State) (s : SessionId) (name : List ℕ) (key : Key) → key ≡ durable_of (client_of state.life) s name →
    looked f key state ≡ (let holding = holding_of (selected_by None) (durable_of (client_of state.life) s name) state in f holding.definition (is_idle holding) (is_home holding))
looked_at f state s name key k = ap (λ (x : Key). looked f x state) k ∙ looked_durable f (selected_by None) (client_of state.life s.connection) name state

-- the second of two causes, where the first does not stand
second : (a b : Option Why) → a ≡ None → b ≡ first_why a b
second a b n = sym (ap (λ o. first_why o b) n)

-- why the deletion of a durable subscription is refused
pub unsubscribe_is : (state : State) (s : SessionId) (name : List ℕ) (key : Key) (w : Option Why) → key ≡ durable_of (client_of state.life) s name → session_why state.life s ≡ None →
    w ≡ looked delete_why key state → w ≡ why_of state (Session s) (Ask (Unsubscribe name))
unfolding request_why
unsubscribe_is state s name key w k n e = e ∙ looked_at delete_why state s name key k ∙ second (session_why state.life s) _ n

-- why an unshared durable subscription is refused
pub durable_is : {E : Type 0} (state : State) (s : SessionId) (c : ℕ) (destination : Destination) (name : List ℕ) (selector : Option (List ℕ)) (no_local : Bool) (key : Key) (r : Result (Option Why) E) →
    key ≡ durable_of (client_of state.life) s name → begin_why state.life state.consumers s c ≡ None → is_some (client_of state.life s.connection) ≡ true →
    IfOk r (λ w. w ≡ subscription_why destination selector (looked (λ held idle home. resume_why held idle home (asked destination selector no_local false)) key state)) →
    IfOk r (λ w. w ≡ why_of state (Session s) (Ask (CreateDurable c destination name selector no_local)))
unfolding request_why
durable_is state s c destination name selector no_local key (Err e) k n m h = tt
durable_is state s c destination name selector no_local key (Ok w) k n m h =
    h
    ∙ looked_at (λ held idle home. subscription_why destination selector (resume_why held idle home (asked destination selector no_local false))) state s name key k
    ∙ second (unless (is_some (client_of state.life s.connection)) NoClient) _ (ap (λ b. unless b NoClient) m)
    ∙ second (begin_why state.life state.consumers s c) _ n

-- why a shared durable one is refused
pub shared_durable_is : {E : Type 0} (state : State) (s : SessionId) (c : ℕ) (destination : Destination) (name : List ℕ) (selector : Option (List ℕ)) (key : Key) (r : Result (Option Why) E) →
    key ≡ durable_of (client_of state.life) s name → begin_why state.life state.consumers s c ≡ None →
    IfOk r (λ w. w ≡ subscription_why destination selector (looked (λ held idle home. join_why held idle home (asked destination selector false true)) key state)) →
    IfOk r (λ w. w ≡ why_of state (Session s) (Ask (CreateSharedDurable c destination name selector)))
unfolding request_why
shared_durable_is state s c destination name selector key (Err e) k n h = tt
shared_durable_is state s c destination name selector key (Ok w) k n h =
    h
    ∙ looked_at (λ held idle home. subscription_why destination selector (join_why held idle home (asked destination selector false true))) state s name key k
    ∙ second (begin_why state.life state.consumers s c) _ n
