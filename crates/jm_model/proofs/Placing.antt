-- What is answered to an entry, at its place.
use Rattle.std.proofs.Common.{◌≡◌, ℕ, suc, ◌+◌, ◌<◌, List, [], ◌∷◌, ◌++◌, length, drop, get_or, refl, ap, sym, ◌∙◌, append_assoc, append-nil, Option, subst, add-one}
use Rattle.std.specs.Prelude.{Result}
use Rattle.std.proofs.lemmas.Option.{slice_get_read}
use Rattle.std.proofs.Math.Seq.{drop-cons}
use Rattle.jm_base.specs.declared.refusal.Refusal.{Refusal}
use Rattle.jm_machine.specs.declared.answer.Answer.{Answer}
use Rattle.jm_machine.specs.declared.entry.Entry.{Entry}
use Rattle.jm_machine.specs.Life.{Life}
use Rattle.jm_machine.specs.Entries.{life_after_entry}
use Rattle.jm_machine.specs.Lone.{Scope, Lone, lone_replies, lone_end, fed, at_place, feed, placed}
use Rattle.jm_model.specs.Answers.{Answers}
use Rattle.jm_transactions.specs.Transactions.{Course, Follows, noted}
use Rattle.jm_transactions.proofs.Courses.{follows_noted}
use Rattle.jm_law.proofs.Steps.{lone_replies-append}

-- what is still to be answered
abbrev pub to_answer : Scope → ℕ → Life → List Entry → Lone → List Entry → List (ℕ × Result Answer Refusal)
to_answer S place life before l entries = lone_replies S l (feed S place life before l entries)

-- what was answered so far, and is still to be answered, is all; what was noted is so of what was before
pub record Remains (S : Scope) (given : List Entry) (x : Course) (so_far : List (ℕ × Result Answer Refusal)) (place : ℕ) (l : Lone) (entries : List Entry) (all : List (ℕ × Result Answer Refusal)) : Type 0 where
  pub life : Life
  pub before : List Entry
  pub follows : Follows given life before x
  pub rest : so_far ++ to_answer S place life before l entries ≡ all

one_entry : (S : Scope) (place : ℕ) (life : Life) (before : List Entry) (l next : Lone) (e : Entry) (entries : List Entry) (o : Option (Result Answer Refusal)) →
    placed place o ≡ lone_replies S l (at_place place (fed S life before l e)) → next ≡ lone_end S l (fed S life before l e) →
    to_answer S place life before l (e ∷ entries) ≡ placed place o ++ to_answer S (place + 1) (life_after_entry life e) (e ∷ before) next entries
unfolding feed
one_entry S place life before l next e entries o h n =
    lone_replies-append S l place (fed S life before l e) (feed S (place + 1) (life_after_entry life e) (e ∷ before) (lone_end S l (fed S life before l e)) entries)
    ∙ ap (λ xs. xs ++ to_answer S (place + 1) (life_after_entry life e) (e ∷ before) (lone_end S l (fed S life before l e)) entries) (sym h)
    ∙ ap (λ (x : Lone). placed place o ++ to_answer S (place + 1) (life_after_entry life e) (e ∷ before) x entries) (sym n)

-- one turn over a list of entries
pub answer_turn : (S : Scope) (x y : Course) (place : ℕ) (l next : Lone) (entries : List Entry) (e : Entry) (reply : Option (Result Answer Refusal)) (so_far all : List (ℕ × Result Answer Refusal)) →
    place < length entries → e ≡ get_or entries place e → Answers S entries x l e reply next → y ≡ noted place e x →
    Remains S entries x so_far place l (drop place entries) all → Remains S entries y (so_far ++ placed place reply) (place + 1) next (drop (place + 1) entries) all
answer_turn S x y place l next entries e reply so_far all h is f n r = record {
  follows = subst (Follows entries (life_after_entry r.life e) (e ∷ r.before)) (sym n) (follows_noted entries r.before r.life x place e (slice_get_read entries (length entries) place e refl h is) r.follows);
  life = life_after_entry r.life e;
  before = e ∷ r.before;
  rest = append_assoc so_far (placed place reply) (to_answer S (place + 1) (life_after_entry r.life e) (e ∷ r.before) next (drop (place + 1) entries))
      ∙ ap (λ xs. so_far ++ xs) (sym (one_entry S place r.life r.before l next e (drop (place + 1) entries) reply told.0 told.1) ∙ sym (ap (to_answer S place r.life r.before l) front))
      ∙ r.rest;
}
  where
    told : (placed place reply ≡ lone_replies S l (at_place place (fed S r.life r.before l e))) × (next ≡ lone_end S l (fed S r.life r.before l e))
    told = f r.life r.before place r.follows

    front : drop place entries ≡ e ∷ drop (place + 1) entries
    front = rw (add-one) (drop-cons entries place e h ∙ ap (λ x. x ∷ drop (suc place) entries) (sym is))

-- where nothing is left, all is answered
pub all_answered : (S : Scope) (given : List Entry) (x : Course) (so_far : List (ℕ × Result Answer Refusal)) (place : ℕ) (l : Lone) (entries : List Entry) (all : List (ℕ × Result Answer Refusal)) →
    entries ≡ [] → Remains S given x so_far place l entries all → so_far ≡ all
unfolding feed
all_answered S given x so_far place l entries all e r =
    sym (append-nil so_far) ∙ sym (ap (λ (xs : List Entry). so_far ++ to_answer S place r.life r.before l xs) e) ∙ r.rest
