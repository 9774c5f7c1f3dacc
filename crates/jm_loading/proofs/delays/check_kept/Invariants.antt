use Rattle.std.proofs.Common.{◌<◌, ℕ, get_or}
use Rattle.jm_parts.specs.declared.stored.StoredMessage.{StoredMessage}
use Rattle.jm_loading.specs.Delays.{IsHeldInTime}
use Rattle.jm_loading.proofs.delays.check_kept.Given as goal

abbrev pub invariant-loop-at : goal.invariant-loop-at
invariant-loop-at l = (k : ℕ) (d : StoredMessage) → k < l.at → IsHeldInTime l.delays (get_or l.messages k d)
