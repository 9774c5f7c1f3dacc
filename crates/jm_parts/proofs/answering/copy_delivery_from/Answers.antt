use Rattle.std.proofs.Common.{ap, refl, ◌∙◌}
use Rattle.std.specs.Prelude.{option_map}
use Rattle.jm_machine.specs.declared.state.PlacedRow.{PlacedRow}
use Rattle.jm_machine.specs.Machine.{delivery}
use Rattle.jm_queues.specs.Queues.{rows_in}
use Rattle.jm_queues.proofs.QueueRows.{rows_missing}
use Rattle.jm_parts.specs.Takings.{settles}
use Rattle.jm_parts.proofs.NextRows.{chosen_row, when_ok}
use Rattle.jm_parts.proofs.answering.copy_delivery_from.Goals as goal

pub row_picked-requires-clause-picked : goal.row_picked-requires-clause-picked
row_picked-requires-clause-picked c =
    let taken = rw c.in-Some.is at c.requires.2 in
    (c.requires.1, settles c.args.receiver.now, c.args.receiver.now.moment, taken.2)

pub returns-in-None : goal.returns-in-None
returns-in-None c = λ name p t.
    let queues = c.args.queues.now in
    rw (rows_missing queues.keys queues.list name (rw c.in-None.is at t)) refl

pub returns-in-Some : goal.returns-in-Some
returns-in-Some c = λ name p t.
    let r = c.args.receiver.now in
    let taken = rw c.in-Some.is at t in
    when_ok _ _ (λ answer e. e
    ∙ ap (λ o. delivery (option_map (λ (x : PlacedRow). x.row) o)) (c.row_picked.ensures p (settles r) r.moment name taken.0 taken.2)
    ∙ ap delivery (chosen_row p r.moment (rows_in c.args.queues.now name)))
    c.copy_handed_out.result c.copy_handed_out.ensures
