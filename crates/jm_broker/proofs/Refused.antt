-- A step that is refused as it is planned leaves the machine's state, and the refusal is not the keeper's.
use Rattle.std.proofs.Common.{◌≡◌, Bool, true, false, cond, refl, sym, subst, ◌∙◌, Option, Some, None, Result, Ok, Err}
use Rattle.std.specs.Prelude.{◌&&◌, ◌≢◌, IfErr}
use Rattle.jm_base.specs.declared.refusal.Refusal.{Refusal}
use Rattle.jm_base.specs.declared.refusal.Refusal.TheVariants.{IllegalState, Exhausted, Memory, Store}
use Rattle.jm_machine.specs.declared.answer.Answer.{Answer}
use Rattle.jm_machine.specs.declared.answer.Answer.TheVariants.{Done}
use Rattle.jm_machine.specs.declared.call.Who.{Who}
use Rattle.jm_machine.specs.declared.call.Who.TheVariants.{Connection, Session}
use Rattle.jm_machine.specs.declared.call.Call.{Call}
use Rattle.jm_machine.specs.declared.call.Call.TheVariants.{Ask, Publish, Commit}
use Rattle.jm_machine.specs.Life.{mode_of}
use Rattle.jm_machine.specs.Machine.{State, held, refusal, answer, publish_refusal, commit_refusal, after, after_commit, published, replied, moved, reply, step, has_places, is_stamped, is_transacted, is_untransacted, unless}
use Rattle.jm_machine.proofs.Outside.{no_store}
use Rattle.jm_machine.specs.declared.call.Step.{Step}
use Rattle.jm_plans.specs.Plans.{IsRefused}
use Rattle.jm_broker.specs.Traces.{OnMade, reply_to, state_after}

refused : (o : Option Refusal) (r : Refusal) (a : Answer) (x y : State) → Err r ≡ replied o a → moved o x y ≡ y
refused None r a x y h = cc
refused (Some q) r a x y h = refl

refused_step : (state : State) (who : Who) (call : Call) (r : Refusal) → Err r ≡ reply state who call → step state who call ≡ state
unfolding reply step
refused_step state who (Ask request) r h =
    refused (refusal state.life state.consumers (held state who request) who request) r (answer state.life state.consumers (held state who request) who request) (after state who request) state h
refused_step state who (Publish messages) r h = refused (publish_refusal state who messages) r Done (published state messages) state h
refused_step state who (Commit messages) r h = refused (commit_refusal state who messages) r Done (after_commit state who messages) state h

pub refused_made : (state : State) (p : Step) (r : Refusal) → IsRefused state p.who p.call r → OnMade (Err r) ((Err r ≡ reply_to state p) × (state_after state p ≡ state))
refused_made state p Memory i = tt
refused_made state p Store i = tt
refused_made state p r i = (i, refused_step state p.who p.call r i)

-- a plan is never refused since the keeper refused
from_state : (b c : Bool) → Err Store ≡ replied (cond b (unless c Exhausted) (Some IllegalState)) Done → ⊥
from_state true true h = cc
from_state true false h = cc
from_state false c h = cc

no_store_reply : (state : State) (who : Who) (call : Call) → Err Store ≡ reply state who call → ⊥
unfolding reply publish_refusal commit_refusal
no_store_reply state who (Ask request) h = no_store state who request h
no_store_reply state (Connection c) (Publish messages) h = cc
no_store_reply state (Session s) (Publish messages) h = from_state (is_untransacted (mode_of state.life s) && is_stamped state.opening s messages) (has_places state.next_place messages) h
no_store_reply state (Connection c) (Commit messages) h = cc
no_store_reply state (Session s) (Commit messages) h = from_state (is_transacted (mode_of state.life s) && is_stamped state.opening s messages) (has_places state.next_place messages) h

pub never_store : (state : State) (p : Step) (r : Refusal) → IsRefused state p.who p.call r → r ≡ Store → ⊥
never_store state p r i e = no_store_reply state p.who p.call (subst (λ r. IsRefused state p.who p.call r) e i)

-- ---- where planning answers

pub made_or_wanted : {X : Type 0} (state : State) (p : Step) (result : Result X Refusal) → IfErr result (λ r. IsRefused state p.who p.call r)
    → IfErr result (λ r. OnMade (Err r) ((Err r ≡ reply_to state p) × (state_after state p ≡ state)))
made_or_wanted state p (Ok x) h = tt
made_or_wanted state p (Err r) h = refused_made state p r h

pub not_store : {X : Type 0} (state : State) (p : Step) (result : Result X Refusal) → IfErr result (λ r. IsRefused state p.who p.call r) → IfErr result (λ r. r ≢ Store)
not_store state p (Ok x) h = tt
not_store state p (Err r) h = never_store state p r h
