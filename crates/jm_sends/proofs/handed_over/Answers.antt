use denote.Param.Send.{sendable}
use Rattle.jm_sends.proofs.Sent.{Core_send}
use Rattle.jm_sends.proofs.handed_over.Goals as goal

pub crosses-requires-send-T : goal.crosses-requires-send-T
crosses-requires-send-T c κs = search (sendable, Core_send) depth 20
