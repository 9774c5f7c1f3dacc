use Rattle.std.proofs.Common.{◌∙◌, sym, refl, false}
use Rattle.jm_machine.specs.Machine.{shut}
use Rattle.jm_session.specs.Numbers.{number_of}
use Rattle.jm_session.proofs.Found.{number_eq, number_sym}
use Rattle.jm_session.proofs.Changed.{changed_found, changed_nowhere, number_same}
use Rattle.jm_session.proofs.Counted.{counted_set, ended_less}
use Rattle.jm_session.proofs.closing.mark_closed.Goals as goal

pub returns-in-Some-clause-values : goal.returns-in-Some-clause-values
returns-in-Some-clause-values c = rw c.close.ensures.consumer
    (changed_found number_eq number_sym number_same number_of shut (λ x. refl) c.args.number c.index_mut.result.now c.args.consumers.now.entries c.in-Some.at
    c.index_mut.ensures.value c.requires.numbered c.get_index_of.ensures.unique (sym c.get_index_of.ensures.index ∙ c.in-Some.is)).0

pub returns-in-Some-clause-numbered : goal.returns-in-Some-clause-numbered
returns-in-Some-clause-numbered c = rw c.close.ensures.consumer
    (changed_found number_eq number_sym number_same number_of shut (λ x. refl) c.args.number c.index_mut.result.now c.args.consumers.now.entries c.in-Some.at
    c.index_mut.ensures.value c.requires.numbered c.get_index_of.ensures.unique (sym c.get_index_of.ensures.index ∙ c.in-Some.is)).1

pub returns-in-Some-clause-counted : goal.returns-in-Some-clause-counted
returns-in-Some-clause-counted c =
    counted_set c.args.consumers.now.entries c.in-Some.at c.index_mut.result.now c.close.new.consumer c.args.attached.now c.close.new.attached c.index_mut.ensures.value
    (λ key. rw c.close.ensures.consumer (ended_less c.index_mut.result.now key)) c.close.ensures.counted c.requires.counted

pub returns-in_default-clause-values : goal.returns-in_default-clause-values
returns-in_default-clause-values c =
    changed_nowhere number_eq number_sym number_same number_of shut (λ x. refl) c.args.number c.args.consumers.now.entries c.requires.numbered (sym c.get_index_of.ensures.index ∙ c.in_default.is)
