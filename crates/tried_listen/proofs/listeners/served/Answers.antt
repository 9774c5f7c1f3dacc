use denote.Param.Send.{sendable}
use Rattle.std.proofs.Crossing.{crosses}
use Rattle.jm_sends.proofs.Sent.{Core_send}
use Rattle.jm_broker_sends.proofs.Planned.{Plan_send}
use Rattle.tried_listen.proofs.listeners.served.Goals as goal

pub serve-served-requires-send-C : goal.serve-served-requires-send-C
serve-served-requires-send-C g c κs within = search (sendable, Core_send) depth 20

pub serve-served-requires-send-C-Plan : goal.serve-served-requires-send-C-Plan
serve-served-requires-send-C-Plan g c κs within = search (sendable, Plan_send) depth 20
