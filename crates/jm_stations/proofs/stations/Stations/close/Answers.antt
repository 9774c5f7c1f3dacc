use Rattle.std.proofs.Common.{◌∙◌, sym}
use Rattle.jm_stations.proofs.Own.{own_ended, own_under}
use Rattle.jm_stations.proofs.stations.Stations.close.Goals as goal

pub returns-then-not-may_share-clause-keys : goal.returns-then-not-may_share-clause-keys
returns-then-not-may_share-clause-keys c =
    c.close_own.ensures.keys ∙ sym (own_ended c.args.which.now c.args.attached.now c.args.self.now.keys (c.may_share.ensures c.if-not-may_share.true))

pub returns-then-not-may_share-clause-list : goal.returns-then-not-may_share-clause-list
returns-then-not-may_share-clause-list c =
    c.close_own.ensures.list ∙ sym (own_under c.args.which.now c.args.attached.now c.args.self.now.keys c.args.self.now.list (c.may_share.ensures c.if-not-may_share.true))
