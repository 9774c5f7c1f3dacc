-- What one entry feeds, what it is answered, and what it leaves.
use Rattle.std.proofs.Common.{◌≡◌, ℕ, Bool, true, false, cond, List, [], ◌∷◌, ◌++◌, length, drop, get_or, add-one, ◌+◌, ◌<◌, refl, ap, sym, ◌∙◌, append-nil}
use Rattle.std.specs.Prelude.{Result, Ok, Err, Option, IfOk, slice_get, ◌&&◌}
use Rattle.std.proofs.Math.Seq.{drop-cons}
use Rattle.jm_base.specs.declared.refusal.Refusal.{Refusal}
use Rattle.jm_dest.specs.declared.session.SessionId.{SessionId}
use Rattle.jm_header.specs.declared.content.Content.{Content}
use Rattle.jm_machine.specs.declared.call.Who.{Who}
use Rattle.jm_machine.specs.declared.call.Request.{Request}
use Rattle.jm_machine.specs.declared.answer.Answer.{Answer}
use Rattle.jm_machine.specs.declared.entry.Entry.{Entry}
use Rattle.jm_machine.specs.declared.entry.Entry.TheVariants.{Asked, Sent, Committed}
use Rattle.jm_machine.specs.declared.state.Definition.{Definition}
use Rattle.jm_machine.specs.Life.{Life, mode_of}
use Rattle.jm_machine.specs.Machine.{publisher_of, is_full, is_transacted, of_session, one_missed}
use Rattle.jm_machine.specs.Owns.{is_own}
use Rattle.jm_machine.specs.Rows.{fresh}
use Rattle.jm_machine.specs.Entries.{committed}
use Rattle.jm_machine.specs.Lone.{Scope, Lone, accepted, came, lone_settled, lone_after, lone_told, placed, lone_replies, lone_end, is_own_call, lone_accepts, lone_brought, fed, at_place}
use Rattle.jm_machine.specs.Lone.Item.{Called, Settled}
use Rattle.jm_model.specs.Answers.{Answers, after_commit, brought, came_to}
use Rattle.jm_transactions.specs.Transactions.{Course, message_in, messages_at}
use Rattle.jm_law.proofs.Steps.{lone_replies-came}

-- an own call is answered and taken up
pub fed_own : (S : Scope) (life : Life) (before : List Entry) (l : Lone) (place : ℕ) (who : Who) (request : Request) (r : Result Answer Refusal) → is_own_call S who r ≡ true →
    (lone_replies S l (at_place place (fed S life before l (Asked who request r))) ≡ placed place (lone_told S l (Called who request))) × (lone_end S l (fed S life before l (Asked who request r)) ≡ lone_after S l (Called who request))
unfolding committed
fed_own S life before l place who request r h = rw h (append-nil (placed place (lone_told S l (Called who request))), refl)

-- any other call is not
pub fed_none : (S : Scope) (life : Life) (before : List Entry) (l : Lone) (place : ℕ) (who : Who) (request : Request) (r : Result Answer Refusal) → is_own_call S who r ≡ false →
    (lone_replies S l (at_place place (fed S life before l (Asked who request r))) ≡ []) × (lone_end S l (fed S life before l (Asked who request r)) ≡ l)
unfolding committed
fed_none S life before l place who request r h = rw h (refl, refl)

-- what the subscription asks for stays
pub definition_stays : (S : Scope) (life : Life) (m : Content) (l : Lone) → (came_to S life m l).definition ≡ l.definition
definition_stays S life m l = go (lone_accepts S.key l.definition (publisher_of life m) m)
  where
    at : (b : Bool) → (cond b (record l { missed = one_missed l.missed }) (record l { rows = l.rows ++ fresh m ∷ [] })).definition ≡ l.definition
    at true = refl
    at false = refl

    go : (b : Bool) → (cond b (lone_brought S.key m l) l).definition ≡ l.definition
    go true = at (is_full l.limit S.key (length l.rows))
    go false = refl

-- publications come one by one
pub brought_one : (S : Scope) (life : Life) (m : Content) (ms : List Content) (l : Lone) → brought S life (m ∷ ms) l ≡ brought S life ms (came_to S life m l)
brought_one S life m ms l =
    go (lone_accepts S.key l.definition (publisher_of life m) m)
    ∙ sym (ap (λ (d : Option Definition). lone_end S (came_to S life m l) (came (accepted S.key d life ms))) (definition_stays S life m l))
  where
    go : (b : Bool) → lone_end S l (came (cond b (m ∷ accepted S.key l.definition life ms) (accepted S.key l.definition life ms))) ≡ lone_end S (cond b (lone_brought S.key m l) l) (came (accepted S.key l.definition life ms))
    go true = refl
    go false = refl

-- those of one list come before those of another
pub brought-append : (S : Scope) (life : Life) (ms ns : List Content) (l : Lone) → brought S life (ms ++ ns) l ≡ brought S life ns (brought S life ms l)
brought-append S life [] ns l = refl
brought-append S life (m ∷ ms) ns l = brought_one S life m (ms ++ ns) l ∙ brought-append S life ms ns (came_to S life m l) ∙ sym (ap (brought S life ns) (brought_one S life m ms l))

-- a message is answered by nothing, and comes where it is committed and accepted
pub fed_sent : (S : Scope) (life : Life) (before : List Entry) (l : Lone) (place : ℕ) (m : Content) →
    (lone_replies S l (at_place place (fed S life before l (Sent m))) ≡ []) × (lone_end S l (fed S life before l (Sent m)) ≡ brought S life (committed life before (Sent m)) l)
fed_sent S life before l place m = (lone_replies-came S l place (accepted S.key l.definition life (committed life before (Sent m))), refl)

pub sent_is : (S : Scope) (life : Life) (before : List Entry) (l : Lone) (m : Content) → brought S life (committed life before (Sent m)) l ≡ cond (is_transacted (mode_of life m.sender.session)) l (came_to S life m l)
unfolding committed
sent_is S life before l m = go (is_transacted (mode_of life m.sender.session))
  where
    go : (b : Bool) → brought S life (cond b [] (m ∷ [])) l ≡ cond b l (came_to S life m l)
    go true = refl
    go false = brought_one S life m [] l

-- a commit is answered by nothing, settles where it is an own one, and then publishes
pub fed_commit : (S : Scope) (life : Life) (before : List Entry) (l : Lone) (place : ℕ) (s : SessionId) →
    (lone_replies S l (at_place place (fed S life before l (Committed s))) ≡ []) × (lone_end S l (fed S life before l (Committed s)) ≡ after_commit S life s (committed life before (Committed s)) l)
fed_commit S life before l place s = go (is_own S.sessions s)
  where
    settles : (b : Bool) → lone_end S (cond b (lone_settled (of_session s) l) l) (came (accepted S.key l.definition life (committed life before (Committed s)))) ≡ brought S life (committed life before (Committed s)) (cond b (lone_settled (of_session s) l) l)
    settles true = refl
    settles false = refl

    go : (b : Bool) →
        (lone_replies S l (at_place place (cond b (Settled s ∷ []) [] ++ came (accepted S.key l.definition life (committed life before (Committed s))))) ≡ [])
        × (lone_end S l (cond b (Settled s ∷ []) [] ++ came (accepted S.key l.definition life (committed life before (Committed s))))
        ≡ brought S life (committed life before (Committed s)) (cond (b && is_transacted (mode_of l.life s)) (lone_settled (of_session s) l) l))
    go true = (lone_replies-came S (lone_after S l (Settled s)) place (accepted S.key l.definition life (committed life before (Committed s))), settles (is_transacted (mode_of l.life s)))
    go false = (lone_replies-came S l place (accepted S.key l.definition life (committed life before (Committed s))), refl)

-- one turn over places among entries
pub places_turn : (S : Scope) (life : Life) (entries : List Entry) (places : List ℕ) (i : ℕ) (l next all : Lone) → i < length places →
    next ≡ brought S life (message_in (slice_get entries (get_or places i 0))) l → brought S life (messages_at entries (drop i places)) l ≡ all → brought S life (messages_at entries (drop (i + 1) places)) next ≡ all
places_turn S life entries places i l next all h n a =
    ap (brought S life (messages_at entries (drop (i + 1) places))) n
    ∙ sym (brought-append S life (message_in (slice_get entries (get_or places i 0))) (messages_at entries (drop (i + 1) places)) l)
    ∙ sym (ap (λ xs. brought S life (messages_at entries xs) l) front)
    ∙ a
  where
    front : drop i places ≡ get_or places i 0 ∷ drop (i + 1) places
    front = rw (add-one) (drop-cons places i 0 h)

-- so what is answered to an own call, and held after it, is what an entry of it owes
pub answers_own : {E : Type 0} (S : Scope) (l : Lone) (who : Who) (request : Request) (r : Result Answer Refusal) → is_own_call S who r ≡ true →
    (answer : Result (Option (Result Answer Refusal)) E) (new : Lone) → IfOk answer (λ told. (told ≡ lone_told S l (Called who request)) × (new ≡ lone_after S l (Called who request))) →
    (entries : List Entry) (course : Course) → IfOk answer (λ told. Answers S entries course l (Asked who request r) told new)
answers_own S l who request r h (Ok told) new f entries course = λ life before place follows.
    let g = fed_own S life before l place who request r h in
    (ap (placed place) f.0 ∙ sym g.0, f.1 ∙ sym g.1)
answers_own S l who request r h (Err e) new f entries course = f
