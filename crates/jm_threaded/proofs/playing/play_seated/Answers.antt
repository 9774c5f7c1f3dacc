use denote.Param.Send.{sendable}
use Rattle.std.proofs.Common.{subst}
use Rattle.jm_sends.proofs.Sent.{Core_send}
use Rattle.jm_broker_sends.proofs.Planned.{Plan_send}
use Rattle.jm_threaded.specs.Runs.{StopsAt}
use Rattle.jm_threaded.proofs.Seated.{never_unseated}
use Rattle.jm_threaded.proofs.playing.play_seated.Goals as goal

pub run_parts-requires-send-C : goal.run_parts-requires-send-C
run_parts-requires-send-C g c κs within = search (sendable, Core_send) depth 20

pub run_parts-requires-send-C-Plan : goal.run_parts-requires-send-C-Plan
run_parts-requires-send-C-Plan g c κs within = search (sendable, Plan_send) depth 20

pub returns-in-Ok-clause-kept : goal.returns-in-Ok-clause-kept
returns-in-Ok-clause-kept g c = rw c.with_replies.ensures.keeper (rw c.with_replies.ensures.core c.audited.ensures.kept)

pub returns-in-Ok-clause-seated : goal.returns-in-Ok-clause-seated
returns-in-Ok-clause-seated g c = λ opening new all. rw c.with_replies.ensures.outcome tt

pub returns-in-Err-clause-kept : goal.returns-in-Err-clause-kept
returns-in-Err-clause-kept g c = rw c.without_replies.ensures.keeper (rw c.without_replies.ensures.core c.audited-in-Err.ensures.kept)

pub returns-in-Err-clause-seated : goal.returns-in-Err-clause-seated
returns-in-Err-clause-seated g c = λ opening new all.
    let parts = c.args.parts.items in
    let replies = c.in-Err.stopped.replies.items in
    rw c.without_replies.ensures.outcome
    (λ is.
    never_unseated opening parts c.args.seats c.run_parts.new.seats replies new c.in-Err.ensures.senders all
    (subst (λ fault. StopsAt c.args.seats parts replies fault c.run_parts.new.seats) (c.part_fault_of-fault.ensures is) c.in-Err.ensures.stopped))
