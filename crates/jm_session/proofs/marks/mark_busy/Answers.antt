use Rattle.std.proofs.Common.{◌∙◌, sym, refl}
use Rattle.jm_machine.specs.declared.state.Consumer.{Consumer}
use Rattle.jm_session.specs.Numbers.{number_of}
use Rattle.jm_session.proofs.Found.{number_eq, number_sym}
use Rattle.jm_session.proofs.Changed.{changed_found, changed_nowhere, number_same}
use Rattle.jm_session.proofs.Counted.{counted_marked}
use Rattle.jm_session.proofs.Opened.{numbers_kept}
use Rattle.jm_session.proofs.marks.mark_busy.Goals as goal

pub returns-in-Some-clause-entries : goal.returns-in-Some-clause-entries
returns-in-Some-clause-entries c = λ h.
    changed_found number_eq number_sym number_same number_of (λ (x : Consumer). record x { is_busy = c.args.on }) (λ x. refl) c.args.number c.index_mut.result.now c.args.consumers.now.entries c.in-Some.at
    c.index_mut.ensures.value h c.get_index_of.ensures.unique (sym c.get_index_of.ensures.index ∙ c.in-Some.is)

pub returns-in-Some-clause-counted : goal.returns-in-Some-clause-counted
returns-in-Some-clause-counted c = λ counts h.
    counted_marked c.args.consumers.now.entries c.in-Some.at c.index_mut.result.now (record c.index_mut.result.now { is_busy = c.args.on }) counts c.index_mut.ensures.value (λ key. refl) h

pub returns-in-Some-clause-active : goal.returns-in-Some-clause-active
returns-in-Some-clause-active c = λ active h.
    h ∙ sym (numbers_kept number_of (λ (x : Consumer). x.is_active) c.args.consumers.now.entries c.in-Some.at c.index_mut.result.now (record c.index_mut.result.now { is_busy = c.args.on }) c.index_mut.ensures.value refl refl)

pub returns-in_default-clause-entries : goal.returns-in_default-clause-entries
returns-in_default-clause-entries c = λ h. (
  changed_nowhere number_eq number_sym number_same number_of (λ (x : Consumer). record x { is_busy = c.args.on }) (λ x. refl) c.args.number c.args.consumers.now.entries h (sym c.get_index_of.ensures.index ∙ c.in_default.is),
  h,
)
