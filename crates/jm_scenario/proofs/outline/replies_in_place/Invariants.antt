use Rattle.std.proofs.Common.{◌≡◌, ◌++◌, drop}
use Rattle.std.specs.Vec.Iter.{into_iter_items}
use Rattle.jm_scenario.specs.Items.{replies_in_place}
use Rattle.jm_scenario.proofs.outline.replies_in_place.Given as goal

-- the replies so far, and those to items of the other kinds, are those of all
abbrev pub invariant-loop-kind : goal.invariant-loop-kind
invariant-loop-kind l =
    l.all.items ++ replies_in_place (drop l.kind-index l.kinds) (into_iter_items l.replies) ≡ replies_in_place l.kinds l.fn.replies.items
