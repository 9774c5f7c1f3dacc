use Rattle.std.proofs.Common.{◌≡◌, ◌≤◌, ◌+◌, length}
use Rattle.std.specs.List.{sum_by}
use Rattle.jm_audit.specs.Passes.{Calls}
use Rattle.jm_broker.proofs.traced.merge_all.Given as goal

abbrev pub invariant-loop-pass : goal.invariant-loop-pass
invariant-loop-pass g l = record {
  parts : l.rest.parts ≡ l.fn.rest.parts + length l.yielded;
  amount : l.rest.amount ≡ l.fn.rest.amount + sum_by (λ (c : Calls). c.made) l.yielded;
  within : l.rest.parts ≤ g.L.Ledger.parts;
}
