-- The derived `==` of calls, answers and replies decides whether they are equal.
use Rattle.std.proofs.Common.{rules, ◌≡◌, refl, ap, Result, Ok, Err}
use Rattle.std.proofs.lemmas.Bool.Decides.{Decides-and, Decides-like, Decides-eqb}
use Rattle.std.specs.Bool.{Decides}
use Rattle.std.specs.Cmp.Lexicographic.{pointwise_decides}
use Rattle.std.specs.Result.{result_eq}
use Rattle.jm_base.specs.declared.refusal.Refusal.{Refusal}
use Rattle.jm_base.specs.contracts.refusal.RefusalPartialEq.TheImpl as refusal_eq
use Rattle.jm_header.proofs.Same.{content_same, destination_same, session_same, settings_same}
use Rattle.jm_machine.specs.declared.answer.Answer.{Answer}
use Rattle.jm_machine.specs.declared.answer.Answer.TheVariants.{Done, Sent, Delivered, Nothing, Missed}
use Rattle.jm_machine.specs.declared.answer.Delivery.{Delivery}
use Rattle.jm_machine.specs.declared.call.Call.{Call}
use Rattle.jm_machine.specs.declared.call.Call.TheVariants.{Ask, Publish, Commit}
use Rattle.jm_machine.specs.declared.call.ClientCall.{ClientCall}
use Rattle.jm_machine.specs.declared.call.ClientCall.TheVariants.{Ask as Asks, Send, CommitSession}
use Rattle.jm_machine.specs.declared.call.Request.{Request}
use Rattle.jm_machine.specs.declared.call.Request.TheVariants.{Open, Start, Stop, CloseConnection, CreateSession, CloseSession, CreateConsumer, CreateDurable, CreateShared, CreateSharedDurable, Unsubscribe, CloseConsumer, Receive, Acknowledge, Recover, Rollback, Missed as AskMissed, SetListener, Take, Done as DoneWith}
use Rattle.jm_machine.specs.declared.call.Step.{Step}
use Rattle.jm_machine.specs.declared.call.Who.{Who}
use Rattle.jm_machine.specs.contracts.answer.AnswerPartialEq.TheImpl as answer_eq
use Rattle.jm_machine.specs.contracts.answer.DeliveryPartialEq.TheImpl as delivery_eq
use Rattle.jm_machine.specs.contracts.call.CallPartialEq.TheImpl as call_eq
use Rattle.jm_machine.specs.contracts.call.ClientCallPartialEq.TheImpl as client_eq
use Rattle.jm_machine.specs.contracts.call.RequestPartialEq.TheImpl as request_eq
use Rattle.jm_machine.specs.contracts.call.StepPartialEq.TheImpl as step_eq
use Rattle.jm_machine.specs.contracts.call.WhoPartialEq.TheImpl as who_eq

pub refusal_same : (a b : Refusal) → Decides ((refusal_eq.ghosts).eq a b) (a ≡ b)
refusal_same a b = (λ e. search rules, λ e. search rules)

pub delivery_same : (a b : Delivery) → Decides ((delivery_eq.ghosts).eq a b) (a ≡ b)
delivery_same a b =
    Decides-like _ (λ e. λ i. record { message = e.0 i; count = e.1 i })
    (λ e. (ap (λ d. d.message) e, ap (λ d. d.count) e))
    (Decides-and _ _ (content_same a.message b.message) (Decides-eqb a.count b.count))

pub answer_same : (a b : Answer) → Decides ((answer_eq.ghosts).eq a b) (a ≡ b)
answer_same Done Done = (λ _. refl, λ _. refl)
answer_same Done (Sent b) = (λ e. cc, λ e. cc)
answer_same Done (Delivered b) = (λ e. cc, λ e. cc)
answer_same Done Nothing = (λ e. cc, λ e. cc)
answer_same Done (Missed b) = (λ e. cc, λ e. cc)
answer_same (Sent a) Done = (λ e. cc, λ e. cc)
answer_same (Sent a) (Sent b) = Decides-like _ (λ e. ap Sent e) (λ e. cc) (Decides-eqb a b)
answer_same (Sent a) (Delivered b) = (λ e. cc, λ e. cc)
answer_same (Sent a) Nothing = (λ e. cc, λ e. cc)
answer_same (Sent a) (Missed b) = (λ e. cc, λ e. cc)
answer_same (Delivered a) Done = (λ e. cc, λ e. cc)
answer_same (Delivered a) (Sent b) = (λ e. cc, λ e. cc)
answer_same (Delivered a) (Delivered b) = Decides-like _ (λ e. ap Delivered e) (λ e. cc) (delivery_same a b)
answer_same (Delivered a) Nothing = (λ e. cc, λ e. cc)
answer_same (Delivered a) (Missed b) = (λ e. cc, λ e. cc)
answer_same Nothing Done = (λ e. cc, λ e. cc)
answer_same Nothing (Sent b) = (λ e. cc, λ e. cc)
answer_same Nothing (Delivered b) = (λ e. cc, λ e. cc)
answer_same Nothing Nothing = (λ _. refl, λ _. refl)
answer_same Nothing (Missed b) = (λ e. cc, λ e. cc)
answer_same (Missed a) Done = (λ e. cc, λ e. cc)
answer_same (Missed a) (Sent b) = (λ e. cc, λ e. cc)
answer_same (Missed a) (Delivered b) = (λ e. cc, λ e. cc)
answer_same (Missed a) Nothing = (λ e. cc, λ e. cc)
answer_same (Missed a) (Missed b) = Decides-like _ (λ e. ap Missed e) (λ e. cc) (Decides-eqb a b)

pub reply_same : (a b : Result Answer Refusal) → Decides (result_eq (answer_eq.ghosts).eq (refusal_eq.ghosts).eq a b) (a ≡ b)
reply_same (Ok a) (Ok b) = Decides-like _ (λ e. ap Ok e) (λ e. cc) (answer_same a b)
reply_same (Ok a) (Err b) = (λ e. cc, λ e. cc)
reply_same (Err a) (Ok b) = (λ e. cc, λ e. cc)
reply_same (Err a) (Err b) = Decides-like _ (λ e. ap Err e) (λ e. cc) (refusal_same a b)

pub who_same : (a b : Who) → Decides ((who_eq.ghosts).eq a b) (a ≡ b)
who_same a b = (λ e. search rules, λ e. search rules)

pub request_same : (a b : Request) → Decides ((request_eq.ghosts).eq a b) (a ≡ b)
request_same (Open client) b = (λ e. search rules, λ e. search rules)
request_same Start b = (λ e. search rules, λ e. search rules)
request_same Stop b = (λ e. search rules, λ e. search rules)
request_same CloseConnection b = (λ e. search rules, λ e. search rules)
request_same (CreateSession mode) b = (λ e. search rules, λ e. search rules)
request_same CloseSession b = (λ e. search rules, λ e. search rules)
request_same (CreateConsumer c destination selector no_local) b = (λ e. search rules, λ e. search rules)
request_same (CreateDurable c destination name selector no_local) b = (λ e. search rules, λ e. search rules)
request_same (CreateShared c destination name selector) b = (λ e. search rules, λ e. search rules)
request_same (CreateSharedDurable c destination name selector) b = (λ e. search rules, λ e. search rules)
request_same (Unsubscribe name) b = (λ e. search rules, λ e. search rules)
request_same (CloseConsumer c) b = (λ e. search rules, λ e. search rules)
request_same (Receive c now) b = (λ e. search rules, λ e. search rules)
request_same Acknowledge b = (λ e. search rules, λ e. search rules)
request_same Recover b = (λ e. search rules, λ e. search rules)
request_same Rollback b = (λ e. search rules, λ e. search rules)
request_same (AskMissed c) b = (λ e. search rules, λ e. search rules)
request_same (SetListener c on) b = (λ e. search rules, λ e. search rules)
request_same (Take c now) b = (λ e. search rules, λ e. search rules)
request_same (DoneWith c ok) b = (λ e. search rules, λ e. search rules)

pub call_same : (a b : Call) → Decides ((call_eq.ghosts).eq a b) (a ≡ b)
call_same (Ask a) (Ask b) = Decides-like _ (λ e. ap Ask e) (λ e. cc) (request_same a b)
call_same (Ask a) (Publish b) = (λ e. cc, λ e. cc)
call_same (Ask a) (Commit b) = (λ e. cc, λ e. cc)
call_same (Publish a) (Ask b) = (λ e. cc, λ e. cc)
call_same (Publish a) (Publish b) = Decides-like _ (λ e. ap Publish e) (λ e. cc) (pointwise_decides content_same a b)
call_same (Publish a) (Commit b) = (λ e. cc, λ e. cc)
call_same (Commit a) (Ask b) = (λ e. cc, λ e. cc)
call_same (Commit a) (Publish b) = (λ e. cc, λ e. cc)
call_same (Commit a) (Commit b) = Decides-like _ (λ e. ap Commit e) (λ e. cc) (pointwise_decides content_same a b)

pub step_same : (a b : Step) → Decides ((step_eq.ghosts).eq a b) (a ≡ b)
step_same a b =
    Decides-like _ (λ e. λ i. record { who = e.0 i; call = e.1 i })
    (λ e. (ap (λ s. s.who) e, ap (λ s. s.call) e))
    (Decides-and _ _ (who_same a.who b.who) (call_same a.call b.call))

pub client_same : (a b : ClientCall) → Decides ((client_eq.ghosts).eq a b) (a ≡ b)
client_same (Asks who request) (Asks other asked) =
    Decides-like _ (λ e. λ i. Asks (e.0 i) (e.1 i)) (λ e. (cc, cc))
    (Decides-and _ _ (who_same who other) (request_same request asked))
client_same (Asks who request) (Send session draft destination now) = (λ e. cc, λ e. cc)
client_same (Send session draft destination now) (Asks who request) = (λ e. cc, λ e. cc)
client_same (Send session draft destination now) (Send sender sent place then) =
    Decides-like _ (λ e. λ i. Send (e.0 i) (e.1.0 i) (e.1.1.0 i) (e.1.1.1 i)) (λ e. (cc, (cc, (cc, cc))))
    (Decides-and _ _ (session_same session sender)
    (Decides-and _ _ (settings_same draft sent)
    (Decides-and _ _ (destination_same destination place) (Decides-eqb now then))))
client_same (Asks who request) (CommitSession sender) = (λ e. cc, λ e. cc)
client_same (Send session draft destination now) (CommitSession sender) = (λ e. cc, λ e. cc)
client_same (CommitSession session) (Asks who request) = (λ e. cc, λ e. cc)
client_same (CommitSession session) (Send sender sent place then) = (λ e. cc, λ e. cc)
client_same (CommitSession session) (CommitSession sender) = Decides-like _ (λ e. ap CommitSession e) (λ e. cc) (session_same session sender)
