-- The record of a run, as a list of steps.
use Rattle.std.proofs.Common.{◌≡◌, Bool, true, false, cond, List, [], ◌∷◌, ◌++◌, refl, ap, sym, ◌∙◌}
use Rattle.jm_machine.specs.declared.call.Who.TheVariants.{Session}
use Rattle.jm_machine.specs.declared.call.Call.TheVariants.{Publish}
use Rattle.jm_machine.specs.declared.call.Step.{Step}
use Rattle.jm_machine.specs.declared.entry.Entry.{Entry}
use Rattle.jm_machine.specs.declared.entry.Entry.TheVariants.{Asked, Sent, Committed}
use Rattle.jm_machine.specs.Life.{Life, mode_of}
use Rattle.jm_machine.specs.Machine.{State, is_transacted, step}
use Rattle.jm_machine.specs.Entries.{entries_of, life_after_entry}
use Rattle.jm_machine.specs.Queues.{state_after}
use Rattle.jm_law.specs.Runs.{entry_steps, steps_of, RunsAreSteps}
use Rattle.jm_law.proofs.EntrySteps.{state_after_entry, EntriesFit, state_at_end}
use Rattle.jm_law.proofs.Run.{entry_life}
use Rattle.jm_law.proofs.Clients.{all_fit, all_end}

after_append : (xs ys : List Step) (state : State) → state_after state (xs ++ ys) ≡ state_after (state_after state xs) ys
after_append [] ys state = refl
after_append (x ∷ xs) ys state = after_append xs ys (step state x.who x.call)

one_entry : (state : State) (before : List Entry) (e : Entry) → state_after state (entry_steps state.life before e) ≡ state_after_entry state before e
unfolding state_after_entry
one_entry state before (Asked who request told) = refl
one_entry state before (Sent m) = go (is_transacted (mode_of state.life m.sender.session))
  where
    go : (b : Bool) → state_after state (cond b [] (record { who = Session m.sender.session; call = Publish (m ∷ []) } ∷ [])) ≡ cond b state (step state (Session m.sender.session) (Publish (m ∷ [])))
    go true = refl
    go false = refl
one_entry state before (Committed s) = refl

end_by : (entries before : List Entry) (state : State) → EntriesFit state before entries → state_at_end state before entries ≡ state_after state (steps_of state.life before entries)
end_by [] before state f = refl
end_by (e ∷ entries) before state f =
    let next : State = state_after_entry state before e in
    end_by entries (e ∷ before) next f.1
    ∙ ap (λ (life : Life). state_after next (steps_of life (e ∷ before) entries)) (entry_life state before e f.0)
    ∙ ap (λ (x : State). state_after x (steps_of (life_after_entry state.life e) (e ∷ before) entries)) (sym (one_entry state before e))
    ∙ sym (after_append (entry_steps state.life before e) (steps_of (life_after_entry state.life e) (e ∷ before) entries) state)

pub runs_are_steps : RunsAreSteps
runs_are_steps opening calls replies end f = all_end opening calls replies end f ∙ end_by (entries_of opening.opening calls replies) [] opening (all_fit opening calls replies end f)
