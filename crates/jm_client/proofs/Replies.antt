-- What a client is told of a request, by what the machine may answer to it.
use Rattle.std.proofs.Common.{◌≡◌, ◌⊎◌, ℕ, Bool, true, false, true≢false, refl, ap, sym, subst, ◌∙◌, inl, inr, List, Option, Some, None, Result, Ok, Err}
use Rattle.std.specs.Prelude.{IfOk, IfErr, if◌then◌else◌}
use Rattle.jm_base.specs.declared.refusal.Refusal.{Refusal}
use Rattle.jm_base.specs.declared.refusal.Refusal.TheVariants.{BadName, Exhausted, Memory}
use Rattle.jm_dest.specs.declared.session.SessionId.{SessionId}
use Rattle.jm_error.specs.Refused.{Refused, bare, bare_reply}
use Rattle.jm_machine.specs.declared.answer.Answer.{Answer}
use Rattle.jm_machine.specs.declared.answer.Answer.TheVariants.{Done}
use Rattle.jm_machine.specs.declared.state.Consumer.{Consumer}
use Rattle.jm_machine.specs.declared.state.Row.{Row}
use Rattle.jm_machine.specs.declared.call.Who.{Who}
use Rattle.jm_machine.specs.declared.call.Who.TheVariants.{Connection, Session}
use Rattle.jm_machine.specs.declared.call.Call.{Call}
use Rattle.jm_machine.specs.declared.call.Call.TheVariants.{Ask, Commit, Publish}
use Rattle.jm_machine.specs.declared.call.Request.{Request}
use Rattle.jm_machine.specs.declared.call.Request.TheVariants.{Receive, Missed, Take}
use Rattle.jm_machine.specs.Isolation.Reached.{New}
use Rattle.jm_machine.specs.Life.{Life}
use Rattle.jm_machine.specs.Machine.{State, Holding, answer, commit_refusal, delivered, delivery, held, new_core, publish_refusal, refusal, replied, reply}
use Rattle.jm_machine.specs.Rows.{live, next}
use Rattle.jm_client.specs.declared.shared.Way.{Way}
use Rattle.jm_client.specs.declared.shared.Way.TheVariants as ways
use Rattle.jm_client.specs.Told.{Told, RefusesNew, asked, is_plain, is_receipt, is_missed}

replied_is : (o : Option Refusal) (a b : Answer) → Ok b ≡ replied o a → b ≡ a
replied_is None a b h = cc
replied_is (Some r) a b h = cc

-- the answer to a request that is accepted
told_is : (who : Who) (request : Request) (a : Answer) (t : Told who (Ask request) (Ok a)) → a ≡ answer t.state.life t.state.consumers (held t.state who request) who request
unfolding reply
told_is who request a t = replied_is (refusal t.state.life t.state.consumers (held t.state who request) who request) _ a t.fits

plain_answer : (life : Life) (consumers : List Consumer) (holding : Holding) (who : Who) (request : Request) → is_plain request ≡ true → answer life consumers holding who request ≡ Done
unfolding answer
plain_answer life consumers holding who (Receive c now) h = absurd (true≢false (sym h))
plain_answer life consumers holding who (Missed c) h = absurd (true≢false (sym h))
plain_answer life consumers holding who (Take c now) h = absurd (true≢false (sym h))
plain_answer life consumers holding (Connection c) request h = refl
plain_answer life consumers holding (Session s) request h = refl

-- a request in which nothing is handed out is done, where it is accepted
pub told_done : (who : Who) (request : Request) (a : Answer) → is_plain request ≡ true → Told who (Ask request) (Ok a) → Told who (Ask request) (Ok Done)
told_done who request a h t =
    let is : a ≡ Done = told_is who request a t ∙ plain_answer t.state.life t.state.consumers (held t.state who request) who request h in
    subst (λ b. Told who (Ask request) (Ok b)) is t

is_delivery : (r : Option Row) → is_receipt (delivery r) ≡ true
is_delivery None = refl
is_delivery (Some r) = refl

is_delivered : (started : Bool) (now : ℕ) (rows : List Row) → is_receipt (delivered started now rows) ≡ true
is_delivered true now rows = is_delivery (next now (live now rows))
is_delivered false now rows = refl

asked_answer : (life : Life) (consumers : List Consumer) (holding : Holding) (s : SessionId) (way : Way) (c now : ℕ) → is_receipt (answer life consumers holding (Session s) (asked way c now)) ≡ true
unfolding answer
asked_answer life consumers holding s ways.Receive c now = is_delivered _ now holding.rows
asked_answer life consumers holding s ways.Take c now = is_delivered _ now holding.rows

-- a request for a message is answered by a message, or by none
pub told_receipt : (way : Way) (s : SessionId) (c now : ℕ) (a : Answer) → Told (Session s) (Ask (asked way c now)) (Ok a) → is_receipt a ≡ true
told_receipt way s c now a t =
    ap is_receipt (told_is (Session s) (asked way c now) a t) ∙ asked_answer t.state.life t.state.consumers (held t.state (Session s) (asked way c now)) s way c now

missed_answer : (life : Life) (consumers : List Consumer) (holding : Holding) (s : SessionId) (c : ℕ) → is_missed (answer life consumers holding (Session s) (Missed c)) ≡ true
unfolding answer
missed_answer life consumers holding s c = refl

-- to the question how many publications were missed the answer is a number
pub told_missed : (s : SessionId) (c : ℕ) (a : Answer) → Told (Session s) (Ask (Missed c)) (Ok a) → is_missed a ≡ true
told_missed s c a t =
    ap is_missed (told_is (Session s) (Missed c) a t) ∙ missed_answer t.state.life t.state.consumers (held t.state (Session s) (Missed c)) s c

committed_reply : (state : State) (who : Who) (messages : _) (a : Answer) → Ok a ≡ reply state who (Commit messages) → a ≡ Done
unfolding reply
committed_reply state who messages a h = replied_is (commit_refusal state who messages) Done a h

-- a commit is done, where it is accepted
pub told_commit : (who : Who) (messages : _) (a : Answer) → Told who (Commit messages) (Ok a) → Told who (Commit messages) (Ok Done)
told_commit who messages a t = subst (λ b. Told who (Commit messages) (Ok b)) (committed_reply t.state who messages a t.fits) t

published_reply : (state : State) (who : Who) (messages : _) (a : Answer) → Ok a ≡ reply state who (Publish messages) → a ≡ Done
unfolding reply
published_reply state who messages a h = replied_is (publish_refusal state who messages) Done a h

-- so is a publication
pub told_publish : (who : Who) (messages : _) (a : Answer) → Told who (Publish messages) (Ok a) → Told who (Publish messages) (Ok Done)
told_publish who messages a t = subst (λ b. Told who (Publish messages) (Ok b)) (published_reply t.state who messages a t.fits) t

-- memory may be wanted before a call is made
pub told_memory : (who : Who) (call : Call) → Told who call (Err (bare Memory))
told_memory who call = record { state = new_core 1 1; reached = New 1 1; fits = refl }

pub no_memory : (who : ℕ → Who) (request : ℕ → Request) → RefusesNew who request (bare Memory)
no_memory who request = inr (0, told_memory (who 0) (Ask (request 0)))

pub no_number : (who : ℕ → Who) (request : ℕ → Request) → RefusesNew who request (bare Exhausted)
no_number who request = inl refl

-- a name that is none, or memory that is wanted before the call
pub bad_or_memory : (who : ℕ → Who) (request : ℕ → Request) (named : Bool) (r : Refusal) → r ≡ (if named then Memory else BadName) →
    ((bare r ≡ bare BadName) × (named ≡ false)) ⊎ RefusesNew who request (bare r)
bad_or_memory who request true r h = inr (subst (λ q. RefusesNew who request (bare q)) (sym h) (no_memory who request))
bad_or_memory who request false r h = inl (ap bare h, refl)

pub bad_or_wanted_reply : (who : Who) (call : Call) (named : Bool) (r : Refusal) → r ≡ (if named then Memory else BadName) →
    ((let e : Result (Unit {0}) Refused = Err (bare r) in e ≡ Err (bare BadName)) × (named ≡ false)) ⊎ Told who call (Err (bare r))
bad_or_wanted_reply who call true r h = inr (subst (λ q. Told who call (Err (bare q))) (sym h) (told_memory who call))
bad_or_wanted_reply who call false r h = inl (ap (λ q. Err (bare q)) h, refl)

-- a reply that is passed on without a cause
pub ok_passed : {T : Type 0} (r : Result T Refusal) (P : T → Type 0) → IfOk r P → IfOk (bare_reply r) P
ok_passed (Ok t) P h = h
ok_passed (Err q) P h = tt

pub err_passed : {T : Type 0} (r : Result T Refusal) (q : Refusal) → IfErr r (λ e. e ≡ q) → IfErr (bare_reply r) (λ e. e ≡ bare q)
err_passed (Ok t) q h = tt
err_passed (Err e) q h = ap bare h
