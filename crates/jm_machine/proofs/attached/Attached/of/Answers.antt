use Rattle.std.proofs.Common.{rules, ◌≤◌, length, arith}
use Rattle.jm_machine.proofs.Counts.{counted_few, counted_more}
use Rattle.jm_machine.proofs.attached.Attached.of.Goals as goal

pub add-requires : goal.add-requires
add-requires c = λ key named.
    let within : c.loop-consumer.consumer-index ≤ length c.args.consumers.now = search rules in
    let few = counted_few c.args.consumers.now c.loop-consumer.consumer-index c.loop-consumer.attached within c.loop-consumer.invariant key named in
    omega (arith, few, c.loop-consumer-test.true)

pub loop-consumer-preserved : goal.loop-consumer-preserved
loop-consumer-preserved c =
    counted_more c.args.consumers.now c.loop-consumer.consumer-index c.consumer-item.result c.loop-consumer.attached c.add.new.self (search rules) c.consumer-item.is c.loop-consumer.invariant c.in_ok-add.ensures
