use Rattle.std.specs.Prelude.{◌==◌}
use Rattle.std.specs.HashMap.{get}
use Rattle.jm_transactions.proofs.Courses.{noted_more}
use Rattle.jm_transactions.specs.Courses.{connected_as}
use Rattle.jm_transactions.proofs.transactions.connections_of.Goals as goal

pub loop-connection-preserved : goal.loop-connection-preserved
loop-connection-preserved c k =
    noted_more (λ x. x.id == k) connected_as c.args.connections.now c.loop-connection.connection-index c.connection-item.result (get (λ a b. a == b) c.loop-connection.made k) (get (λ a b. a == b) c.add_connection.new.connections k) _
    c.loop-connection-test.true c.connection-item.is (c.in_ok-add_connection.ensures k) (c.loop-connection.invariant k)
