use Rattle.std.proofs.Common.{rules}
use Rattle.jm_property.proofs.Tables.{named, next_unset}
use Rattle.jm_property.proofs.order.find_in_turn.Goals as goal

pub returns-then-is_text : goal.returns-then-is_text
returns-then-is_text c = (
  named c.args.entries.now c.loop-place.place c.index-entries-place.result c.args.name.now c.loop-place-test.true c.index-entries-place.is (search rules),
  λ e. cc,
)

pub loop-place-preserved : goal.loop-place-preserved
loop-place-preserved c =
    next_unset c.args.entries.now c.loop-place.place c.index-entries-place.result c.args.name.now c.loop-place-test.true c.index-entries-place.is c.loop-place.invariant (search rules)
