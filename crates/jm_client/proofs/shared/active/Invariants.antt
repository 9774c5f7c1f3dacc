use Rattle.std.proofs.Common.{◌≡◌, ◌≤◌, take}
use Rattle.std.specs.Prelude.{count_by}
use Rattle.jm_client.proofs.shared.active.Given as goal

abbrev pub invariant-loop-consumer : goal.invariant-loop-consumer
invariant-loop-consumer l = (l.number ≡ count_by (λ x. x.is_active) (take l.consumer-index l.consumers)) × (l.number ≤ l.consumer-index)
