use Rattle.std.proofs.Common.{◌∙◌, ap, option_map}
use Rattle.jm_lane.specs.Cursors as cursor
use Rattle.jm_pending.specs.Placed.{placed}
use Rattle.jm_stations.proofs.Readers.{found_held, lapsed_shown}
use Rattle.jm_stations.proofs.standing.lapsed_from.Goals as goal

pub with_message-requires : goal.with_message-requires
with_message-requires c = found_held c.args.table.now (cursor.lapsed_from c.args.place c.args.now) c.args.held.now.rows c.lapsed_from.result c.lapsed_from.ensures.row c.requires.covers

pub returns : goal.returns
returns c =
    let t = c.args.table.now in
    let rows = c.args.held.now.rows in
    c.with_message.ensures ∙ ap (option_map (placed t)) c.lapsed_from.ensures.row ∙ lapsed_shown t c.args.place c.args.now rows c.requires.own.each
