use Rattle.std.proofs.Common.{Some}
use Rattle.std.specs.HashMap.{get}
use Rattle.jm_dest.specs.Names.{session_eq}
use Rattle.jm_machine.specs.Life.{open_mode}
use Rattle.jm_transactions.proofs.Courses.{noted_more}
use Rattle.jm_transactions.proofs.transactions.sessions_of.Goals as goal

pub loop-session-preserved : goal.loop-session-preserved
loop-session-preserved c s =
    noted_more (λ x. session_eq x.id s) (λ x. open_mode (Some x)) c.args.sessions.now c.loop-session.session-index c.session-item.result (get session_eq c.loop-session.made s) (get session_eq c.add_session.new.sessions s) _
    c.loop-session-test.true c.session-item.is (c.in_ok-add_session.ensures s) (c.loop-session.invariant s)
