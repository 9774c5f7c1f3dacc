use Rattle.std.specs.Prelude.{◌&&◌}
use Rattle.std.specs.HashMap.{get}
use Rattle.jm_machine.specs.Lone.{creates, entry_names}
use Rattle.jm_scope.specs.Numbers.{same_number}
use Rattle.jm_scope.specs.Parts.{client_seen, may_be}
use Rattle.jm_scope.proofs.Found.{noted_more}
use Rattle.jm_scope.proofs.numbers.add_all_created.Goals as goal

pub loop-entry-preserved : goal.loop-entry-preserved
loop-entry-preserved c s d =
    noted_more (λ e. may_be c.args.key.now s d && creates s d e) (entry_names c.args.key.now (client_seen c.args.clients.now)) c.args.entries.now c.loop-entry.entry-index c.entry-item.result
    (get same_number c.loop-entry.numbers (record { session = s; consumer = d })) (get same_number c.add_created.new.numbers (record { session = s; consumer = d })) _
    c.loop-entry-test.true c.entry-item.is (c.in_ok-add_created.ensures s d) (c.loop-entry.invariant s d)
