use Rattle.std.proofs.Common.{◌++◌, ◌∷◌, [], ◌∙◌, ap, sym, List, arith, option_map}
use Rattle.jm_machine.specs.declared.state.PlacedRow.{PlacedRow}
use Rattle.jm_pending.specs.Placed.{placed, all_placed}
use Rattle.jm_lane.proofs.From.{below_none}
use Rattle.jm_stations.proofs.Copied.{row_held, row_more, rows_all}
use Rattle.jm_stations.proofs.copies.placed_rows.Goals as goal

pub loop-rows-init : goal.loop-rows-init
loop-rows-init c = record { bound = omega arith; rows = c.in_ok-rows.ensures.items ∙ ap (all_placed c.args.table.now) (sym (below_none c.args.held.now.rows)) }

pub placed_row-requires : goal.placed_row-requires
placed_row-requires c = rw c.row_from.ensures.row (row_held c.args.table.now c.args.held.now.rows c.loop-rows.place c.requires)

pub loop-rows-smaller : goal.loop-rows-smaller
loop-rows-smaller c =
    (row_more c.args.table.now c.args.held.now.rows c.loop-rows.place c.row_from.result c.in-Some.row c.row_from.ensures.rising c.row_from.ensures.row c.row_from.ensures.place (sym c.in_ok-row.ensures ∙ c.in-Some.is)).less

pub loop-rows-preserved : goal.loop-rows-preserved
loop-rows-preserved c =
    let more = row_more c.args.table.now c.args.held.now.rows c.loop-rows.place c.row_from.result c.in-Some.row c.row_from.ensures.rising c.row_from.ensures.row c.row_from.ensures.place (sym c.in_ok-row.ensures ∙ c.in-Some.is) in
    record { bound = more.bound; rows = c.in_ok-push.ensures.items ∙ ap (λ (rows : List PlacedRow). rows ++ c.in-Some.row ∷ []) c.loop-rows.invariant.rows ∙ sym more.more }

pub returns : goal.returns
returns c =
    c.loop-rows.invariant.rows ∙ rows_all c.args.table.now c.args.held.now.rows c.loop-rows.place (ap (option_map (placed c.args.table.now)) (sym c.row_from.ensures.row) ∙ sym c.in_ok-row.ensures ∙ c.in_default.is)
