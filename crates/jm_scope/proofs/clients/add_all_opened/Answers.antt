use Rattle.std.specs.Prelude.{◌==◌}
use Rattle.std.specs.HashMap.{get}
use Rattle.jm_scope.specs.Parts.{client_named, opens}
use Rattle.jm_scope.proofs.Found.{noted_more}
use Rattle.jm_scope.proofs.clients.add_all_opened.Goals as goal

pub loop-entry-preserved : goal.loop-entry-preserved
loop-entry-preserved c k =
    noted_more (opens k) client_named c.args.entries.now c.loop-entry.entry-index c.entry-item.result (get (λ a b. a == b) c.loop-entry.clients k) (get (λ a b. a == b) c.add_opened.new.clients k) _
    c.loop-entry-test.true c.entry-item.is (c.in_ok-add_opened.ensures k) (c.loop-entry.invariant k)
