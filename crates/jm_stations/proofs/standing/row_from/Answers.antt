use Rattle.std.proofs.Common.{◌∙◌, ap, option_map}
use Rattle.jm_lane.specs.Rows as here
use Rattle.jm_pending.specs.Placed.{placed}
use Rattle.jm_stations.proofs.Readers.{found_held, from_shown}
use Rattle.jm_stations.proofs.standing.row_from.Goals as goal

pub with_message-requires : goal.with_message-requires
with_message-requires c = found_held c.args.table.now (here.is_from c.args.place) c.args.held.now.rows c.row_from.result c.row_from.ensures.row c.requires.covers

pub returns : goal.returns
returns c =
    let t = c.args.table.now in
    let rows = c.args.held.now.rows in
    c.with_message.ensures ∙ ap (option_map (placed t)) c.row_from.ensures.row ∙ from_shown t c.args.place rows
