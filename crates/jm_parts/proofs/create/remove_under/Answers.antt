use Rattle.std.proofs.Common.{◌∙◌, ap, sym}
use Rattle.jm_stations.specs.Stations.{Stations}
use Rattle.jm_parts.proofs.Kept.{keys_removed, keys_stay, list_removed, list_stays}
use Rattle.jm_parts.proofs.create.remove_under.Goals as goal

pub returns-in-None-clause-keys : goal.returns-in-None-clause-keys
returns-in-None-clause-keys c = keys_stay c.args.key.now c.args.stations.now.keys c.in-None.ensures.index

pub returns-in-None-clause-list : goal.returns-in-None-clause-list
returns-in-None-clause-list c =
    let m = c.len-number.ensures in
    list_stays c.args.key.now c.args.stations.now.keys c.args.stations.now.list (sym m.keys ∙ m.list) c.in-None.ensures.index

pub returns-in-Some-clause-keys : goal.returns-in-Some-clause-keys
returns-in-Some-clause-keys c =
    ap (λ (x : Stations). x.keys) c.remove.ensures.removed
    ∙ keys_removed c.args.key.now c.args.stations.now.keys c.in-Some.index c.len-number.ensures.once c.in-Some.ensures.index

pub returns-in-Some-clause-list : goal.returns-in-Some-clause-list
returns-in-Some-clause-list c =
    let m = c.len-number.ensures in
    ap (λ (x : Stations). x.list) c.remove.ensures.removed
    ∙ list_removed c.args.key.now c.args.stations.now.keys c.args.stations.now.list c.in-Some.index (sym m.keys ∙ m.list) m.once c.in-Some.ensures.index
