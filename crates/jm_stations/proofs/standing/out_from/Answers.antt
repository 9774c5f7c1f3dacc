use Rattle.std.proofs.Common.{◌∙◌, ap, option_map}
use Rattle.jm_machine.specs.Machine.{are_meant}
use Rattle.jm_lane.specs.Cursors as cursor
use Rattle.jm_pending.specs.Placed.{placed}
use Rattle.jm_stations.proofs.Readers.{found_held, out_shown}
use Rattle.jm_stations.proofs.standing.out_from.Goals as goal

pub with_message-requires : goal.with_message-requires
with_message-requires c = found_held c.args.table.now (cursor.out_from c.args.place (are_meant c.args.which.now)) c.args.held.now.rows c.out_from.result c.out_from.ensures.row c.requires

pub returns : goal.returns
returns c =
    let t = c.args.table.now in
    let rows = c.args.held.now.rows in
    c.with_message.ensures ∙ ap (option_map (placed t)) c.out_from.ensures.row ∙ out_shown t c.args.place (are_meant c.args.which.now) rows
