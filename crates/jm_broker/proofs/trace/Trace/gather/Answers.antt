use Rattle.std.proofs.Common.{rules, false}
use Rattle.jm_audit.specs.Audit.{segment}
use Rattle.jm_broker.proofs.Verdicts.{once_ok}
use Rattle.jm_broker.proofs.trace.Trace.gather.Goals as goal

pub returns-clause-once : goal.returns-clause-once
returns-clause-once g c = once_ok c.gather.result (segment c.args.self.now.first c.args.self.now.events false) c.args.passes.now (search rules)
