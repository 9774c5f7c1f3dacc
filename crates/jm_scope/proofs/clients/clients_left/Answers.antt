use Rattle.std.specs.Prelude.{◌==◌}
use Rattle.std.specs.HashMap.{get}
use Rattle.jm_scope.specs.Parts.{client_left}
use Rattle.jm_scope.proofs.Found.{noted_more}
use Rattle.jm_scope.proofs.clients.clients_left.Goals as goal

pub loop-connection-preserved : goal.loop-connection-preserved
loop-connection-preserved c k =
    noted_more (λ x. x.id == k) client_left c.args.connections.now c.loop-connection.connection-index c.connection-item.result (get (λ a b. a == b) c.loop-connection.clients k) (get (λ a b. a == b) c.add_connection.new.clients k) _
    c.loop-connection-test.true c.connection-item.is (c.in_ok-add_connection.ensures k) (c.loop-connection.invariant k)
