use Rattle.std.proofs.Common.{◌≡◌, take}
use Rattle.std.specs.Prelude.{filter}
use Rattle.jm_dest.specs.Keys.{key_eq}
use Rattle.jm_lone.proofs.parts.consumers_of.Given as goal

abbrev pub invariant-loop-consumer : goal.invariant-loop-consumer
invariant-loop-consumer l = l.own.items ≡ filter (λ x. key_eq x.key l.key) (take l.consumer-index l.consumers)
