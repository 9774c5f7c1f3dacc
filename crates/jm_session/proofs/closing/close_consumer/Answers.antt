use Rattle.std.proofs.Common.{◌∙◌, ap, sym}
use Rattle.std.proofs.lemmas.List.Quantifiers.{position-Some}
use Rattle.indexmap.specs.IndexMap.{values}
use Rattle.jm_session.specs.declared.number.ConsumerNumber.{ConsumerNumber}
use Rattle.jm_session.proofs.Changed.{number_same}
use Rattle.jm_session.proofs.Closed.{active_numbers, number_gone, number_nowhere}
use Rattle.jm_session.proofs.Found.{number_eq}
use Rattle.jm_session.proofs.closing.close_consumer.Goals as goal

pub returns-in-Some-clause-active : goal.returns-in-Some-clause-active
returns-in-Some-clause-active c =
    let number = c.args.number in
    let keys = c.args.active.now.keys in
    let found = position-Some (λ (y : ConsumerNumber). number_eq y number) keys c.in-Some.index number (sym c.index_of.ensures.index ∙ c.in-Some.is) in
    c.remove.ensures.keys
    ∙ number_gone number (values c.args.consumers.now) keys c.in-Some.index c.requires.active c.len-length.ensures.once found.0 (number_same _ number found.1)
    ∙ ap active_numbers (sym c.mark_closed.ensures.values)

pub returns-in_default-clause-active : goal.returns-in_default-clause-active
returns-in_default-clause-active c =
    number_nowhere c.args.number (values c.args.consumers.now) c.args.active.now.keys c.requires.active (sym c.index_of.ensures.index ∙ c.in_default.is)
    ∙ ap active_numbers (sym c.mark_closed.ensures.values)
