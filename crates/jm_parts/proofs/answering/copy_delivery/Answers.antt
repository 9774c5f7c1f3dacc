use Rattle.std.proofs.Common.{ap, get_or, ◌∙◌}
use Rattle.std.specs.Prelude.{option_map}
use Rattle.jm_machine.specs.declared.state.PlacedRow.{PlacedRow}
use Rattle.jm_machine.specs.Machine.{delivery}
use Rattle.jm_stations.specs.Backlogs.{any}
use Rattle.jm_stations.proofs.Any.{answered_any}
use Rattle.jm_parts.specs.Takings.{settles}
use Rattle.jm_parts.proofs.NextRows.{chosen_row, when_ok}
use Rattle.jm_parts.proofs.answering.copy_delivery.Goals as goal

pub row_picked-requires-clause-picked : goal.row_picked-requires-clause-picked
row_picked-requires-clause-picked c =
    (any, settles c.args.receiver.now, c.args.receiver.now.moment, rw c.in-Some.is at c.requires.picked)

pub returns-in-Some : goal.returns-in-Some
returns-in-Some c =
    let r = c.args.receiver.now in
    let picked = rw c.in-Some.is at c.requires.picked in
    let index = c.in-Some.taking.index in
    when_ok _ _ (λ answer e. rw c.in-Some.is (λ d. e
    ∙ ap (λ o. delivery (option_map (λ (x : PlacedRow). x.row) o)) (c.row_picked.ensures any (settles r) r.moment d picked)
    ∙ ap delivery (chosen_row any r.moment (get_or c.args.stations.now.list index d).rows)
    ∙ answered_any r.moment (get_or c.args.stations.now.list index d).rows))
    c.copy_handed_out.result c.copy_handed_out.ensures
