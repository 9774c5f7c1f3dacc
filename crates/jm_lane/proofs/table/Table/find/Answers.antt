use Rattle.std.proofs.Common.{◌≡◌, Some, slice_get, subst}
use Rattle.jm_lane.proofs.Releasing.{key_there}
use Rattle.jm_lane.proofs.table.Table.find.Goals as goal

pub returns-clause-entry : goal.returns-clause-entry
returns-clause-entry c =
    let es = c.self.inside.messages.entries in
    let found = c.in_ok-index in
    rw (← c.self.view_is) (subst (λ k. slice_get es found.index ≡ Some (k, found.stored.now)) (key_there c.args.place es found.field-0-1.now found.ensures.key) found.ensures.entry)
