-- The turns of a listener.
use Rattle.std.proofs.Common.{◌≡◌, ◌⊎◌, inl, inr, sym, subst, ℕ, true, false, Option, Some, Result, Ok, Err}
use Rattle.jm_base.specs.declared.refusal.Refusal.TheVariants.{OutOfRange}
use Rattle.jm_dest.specs.declared.session.SessionId.{SessionId}
use Rattle.jm_error.specs.Refused.{Refused, bare}
use Rattle.jm_listener.specs.declared.listener.After.{After}
use Rattle.jm_listener.specs.declared.listener.ListenerFault.{ListenerFault}
use Rattle.jm_machine.specs.declared.answer.Delivery.{Delivery}
use Rattle.jm_tx.specs.declared.buffer.Buffer.{Buffer}
use Rattle.jm_machine.specs.declared.call.Who.TheVariants.{Session}
use Rattle.jm_machine.specs.declared.call.Request.TheVariants.{SetListener}
use Rattle.jm_client.specs.Listening.{Broken, Finishes, Handling, Hears, Listens, clock, take, finish, not_set, outcome, set}
use Rattle.jm_client.specs.Told.{Answers, Takes}

err_is : {A : Type 0} (r q : Refused) → (let e : Result A Refused = Err r in e ≡ Err q) → r ≡ q
err_is r q e = cc

-- no message was taken
pub not_taken : {N : Type 0} (H : Handling N) (c : ℕ) (old : N) (b : Buffer) (s : SessionId) (r : Refused) → b.sender.session ≡ s →
    (let e : Result (Option Delivery) Refused = Err r in (e ≡ Err (bare OutOfRange)) ⊎ Takes s c e) → Broken H c old b r old b
not_taken H c old b s r same (inl e) = clock (err_is r _ e)
not_taken H c old b s r same (inr t) = take (subst (λ x. Takes x c (Err r)) (sym same) t)

taken_by : (t s : SessionId) (c : ℕ) (d : Delivery) → t ≡ s → (let e : Result (Option Delivery) Refused = Ok (Some d) in (e ≡ Err (bare OutOfRange)) ⊎ Takes s c e) → Takes t c (Ok (Some d))
taken_by t s c d same (inl e) = absurd cc
taken_by t s c d same (inr taken) = subst (λ x. Takes x c (Ok (Some d))) (sym same) taken

-- a message was taken and handled, and the end of the turn is refused
pub not_finished : {N : Type 0} (H : Handling N) (c : ℕ) (old new : N) (b left after : Buffer) (s : SessionId) (d : Delivery) (answer : Result After ListenerFault) (r : Refused) →
    b.sender.session ≡ s → (let e : Result (Option Delivery) Refused = Ok (Some d) in (e ≡ Err (bare OutOfRange)) ⊎ Takes s c e) →
    H old b d answer new left → Finishes s c answer left (Err r) after → Broken H c old b r new after
not_finished H c old new b left after s d answer r same taken handled finished =
    finish answer new left after
    (record { delivery = d; taken = taken_by b.sender.session s c d same taken; handled = handled })
    (subst (λ x. Finishes x c answer left (Err r) after) (sym same) finished)

-- the listener was not set
pub was_not_set : {N : Type 0} (H : Handling N) (c messages : ℕ) (old : N) (b : Buffer) (s : SessionId) (i : ℕ) (r : Refused) → b.sender.session ≡ s → i ≡ c →
    Answers (Session s) (SetListener i true) (Err r) → Listens H c messages old b (Err r) old b
was_not_set H c messages old b s i r same number told =
    not_set r (subst (λ x. Answers (Session x) (SetListener c true) (Err r)) (sym same) (subst (λ n. Answers (Session s) (SetListener n true) (Err r)) number told))

-- it was set, had its turns, and was taken away
pub was_set : {N : Type 0} (H : Handling N) (c messages : ℕ) (old new : N) (b after : Buffer) (s : SessionId) (i : ℕ) (turns : Result ℕ Refused) (taken_away : Result (Unit {0}) Refused) (result : Result ℕ Refused) →
    b.sender.session ≡ s → i ≡ c → Answers (Session s) (SetListener i true) (Ok tt) → Hears H i messages old b turns new after → Answers (Session s) (SetListener i false) taken_away →
    result ≡ outcome turns taken_away → Listens H c messages old b result new after
was_set H c messages old new b after s i turns taken_away result same number on hears off is =
    let P : Result ℕ Refused → Type 0 = λ r. Listens H c messages old b r new after in
    let Q : ℕ → Type 0 = λ n. Listens H n messages old b (outcome turns taken_away) new after in
    subst P (sym is) (subst Q number (set turns taken_away new after
    (subst (λ x. Answers (Session x) (SetListener i true) (Ok tt)) (sym same) on)
    hears
    (subst (λ x. Answers (Session x) (SetListener i false) taken_away) (sym same) off)))
