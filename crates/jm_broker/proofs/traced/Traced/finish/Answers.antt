use Rattle.std.proofs.Common.{rules, ◌≡◌, ap, arith, true}
use Rattle.jm_audit.specs.Audit.{segment}
use Rattle.jm_broker.proofs.Verdicts.{once_ok, rise_ok}
use Rattle.jm_broker.proofs.traced.Traced.finish.Goals as goal

pub returns-clause-once : goal.returns-clause-once
returns-clause-once g c = once_ok c.gather_last-verdict.result (segment _ _ true) c.args.passes.items (search rules)

pub returns-clause-rise : goal.returns-clause-rise
returns-clause-rise g c = rise_ok c.gather_last-verdict.result (segment _ _ true) c.args.passes.items (search rules)

pub returns-clause-whole : goal.returns-clause-whole
returns-clause-whole g c = λ full.
    (let v = c.self.invariant in
    let left : c.self.inside.left ≡ c.args.self.left = ap (λ s. s.left) c.self.view_is in
    let all : c.merge_all.new.rest.parts ≡ g.L.Ledger.parts = omega (arith, c.merge_all.ensures.parts, v.rest_parts, left, full) in
    let total = c.audit.ensures.whole all in
    omega (arith, c.merge_all.ensures.amount, v.rest_amount, v.counted))
