use Rattle.std.proofs.Common.{◌∙◌, ◌++◌, ◌∷◌, [], ap, refl, sym}
use Rattle.std.specs.Prelude.{position}
use Rattle.indexmap.specs.IndexMap.{insert_entry, values}
use Rattle.jm_machine.specs.declared.state.Consumer.{Consumer}
use Rattle.jm_session.specs.declared.number.ConsumerNumber.{ConsumerNumber}
use Rattle.jm_session.specs.Numbers.{number_of}
use Rattle.jm_session.proofs.Closed.{active_numbers, number_absent}
use Rattle.jm_session.proofs.Found.{added, number_eq, number_sym, surely}
use Rattle.jm_session.proofs.Opened.{numbers_more}
use Rattle.jm_session.proofs.roster.append.Goals as goal

pub insert-requires-clause-absent : goal.insert-requires-clause-absent
insert-requires-clause-absent c =
    ap (λ (k : ConsumerNumber). position (λ (y : ConsumerNumber). number_eq y k) c.args.active.now.keys) c.of.ensures
    ∙ number_absent (number_of c.args.consumer) (values c.args.consumers.now) c.args.active.now.keys c.requires.active c.requires.new

pub returns-clause-values : goal.returns-clause-values
returns-clause-values c =
    (added number_eq number_sym number_of c.args.consumers.now c.insert-2.new.self (number_of c.args.consumer) c.args.consumer refl c.requires.numbered c.requires.new
    (surely c.insert-2.result c.insert-2.ensures.entries (c.insert-2.ensures.succeeds c.requires.room) ∙ ap (λ (k : ConsumerNumber). insert_entry number_eq c.args.consumers.now.entries k c.args.consumer) c.of-number.ensures)).0

pub returns-clause-numbered : goal.returns-clause-numbered
returns-clause-numbered c =
    (added number_eq number_sym number_of c.args.consumers.now c.insert-2.new.self (number_of c.args.consumer) c.args.consumer refl c.requires.numbered c.requires.new
    (surely c.insert-2.result c.insert-2.ensures.entries (c.insert-2.ensures.succeeds c.requires.room) ∙ ap (λ (k : ConsumerNumber). insert_entry number_eq c.args.consumers.now.entries k c.args.consumer) c.of-number.ensures)).1

pub returns-clause-active : goal.returns-clause-active
returns-clause-active c =
    let after = added number_eq number_sym number_of c.args.consumers.now c.insert-2.new.self (number_of c.args.consumer) c.args.consumer refl c.requires.numbered c.requires.new
    (surely c.insert-2.result c.insert-2.ensures.entries (c.insert-2.ensures.succeeds c.requires.room) ∙ ap (λ (k : ConsumerNumber). insert_entry number_eq c.args.consumers.now.entries k c.args.consumer) c.of-number.ensures) in
    c.insert.ensures.keys
    ∙ (λ i. c.requires.active i ++ c.of.ensures i ∷ [])
    ∙ sym (numbers_more number_of (λ (x : Consumer). x.is_active) (values c.args.consumers.now) c.args.consumer c.requires.is_active)
    ∙ ap active_numbers (sym after.0)
