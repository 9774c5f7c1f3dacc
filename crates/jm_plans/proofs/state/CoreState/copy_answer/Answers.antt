use Rattle.std.proofs.Common.{◌≡◌, inl, inr, refl, true}
use Rattle.jm_plans.proofs.Answered.{is_done, planned_done}
use Rattle.jm_plans.proofs.Listening.{idle_told}
use Rattle.jm_plans.proofs.Planned.{missing_told}
use Rattle.jm_plans.proofs.state.CoreState.copy_answer.Goals as goal

pub returns-in-Missed : goal.returns-in-Missed
returns-in-Missed c = λ who call h. (missing_told c.args.self.now who call c.in-Missed.number (rw c.in-Missed.is at h)).0

pub returns-in-Nothing : goal.returns-in-Nothing
returns-in-Nothing c = λ who call h. (idle_told c.args.self.now who call (rw c.in-Nothing.is at h)).0

pub returns-in-Open : goal.returns-in-Open
returns-in-Open c = λ who call h.
    let done : is_done c.args.change.now ≡ true = elim c.in-Open.is [ inl e ↦ rw e.2 refl | inr f ↦ elim f [ inl e ↦ rw e.1 refl | inr f ↦ elim f [ inl e ↦ rw e.1 refl | inr f ↦ elim f [ inl e ↦ rw e.1 refl | inr f ↦ elim f [ inl e ↦ rw e.2 refl | inr f ↦ elim f [ inl e ↦ rw e.1 refl | inr f ↦ elim f [ inl e ↦ rw e.4 refl | inr f ↦ elim f [ inl e ↦ rw e.1 refl | inr f ↦ elim f [ inl e ↦ rw e.2 refl | inr f ↦ elim f [ inl e ↦ rw e.3 refl | inr f ↦ elim f [ inl e ↦ rw e.4 refl | inr f ↦ elim f [ inl e ↦ rw e.2 refl | inr f ↦ elim f [ inl e ↦ rw e.1 refl | inr f ↦ elim f [ inl e ↦ rw e.1 refl | inr f ↦ elim f [ inl e ↦ rw e.1 refl | inr e ↦ rw e.2 refl ] ] ] ] ] ] ] ] ] ] ] ] ] ] ] in
    planned_done c.args.self.now who call c.args.change.now done h
