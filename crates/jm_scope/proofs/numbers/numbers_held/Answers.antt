use Rattle.std.specs.Prelude.{◌&&◌}
use Rattle.std.specs.HashMap.{get}
use Rattle.jm_machine.specs.Machine.{has_number}
use Rattle.jm_scope.specs.Numbers.{same_number}
use Rattle.jm_scope.specs.Parts.{may_be, is_of}
use Rattle.jm_scope.proofs.Found.{noted_more}
use Rattle.jm_scope.proofs.numbers.numbers_held.Goals as goal

pub loop-consumer-preserved : goal.loop-consumer-preserved
loop-consumer-preserved c s d =
    noted_more (λ x. may_be c.args.key.now s d && has_number s d x) (is_of c.args.key.now) c.args.consumers.now c.loop-consumer.consumer-index c.consumer-item.result
    (get same_number c.loop-consumer.numbers (record { session = s; consumer = d })) (get same_number c.add_consumer.new.numbers (record { session = s; consumer = d })) _
    c.loop-consumer-test.true c.consumer-item.is (c.in_ok-add_consumer.ensures s d) (c.loop-consumer.invariant s d)
