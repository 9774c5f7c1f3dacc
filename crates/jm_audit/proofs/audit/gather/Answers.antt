use Rattle.std.proofs.Common.{false}
use Rattle.jm_audit.specs.Audit.{segment, Agree, EachOnce, Rise}
use Rattle.jm_audit.proofs.Audited.{once, rises, ok_map}
use Rattle.jm_audit.proofs.audit.gather.Goals as goal

pub returns-clause-once : goal.returns-clause-once
returns-clause-once g c =
    let s = segment c.args.first c.args.events.now false in
    ok_map c.audit_segment.result (Agree s c.args.passes.now) (EachOnce s c.args.passes.now) c.audit_segment.ensures.agree (once s c.args.passes.now)

pub returns-clause-rise : goal.returns-clause-rise
returns-clause-rise g c =
    let s = segment c.args.first c.args.events.now false in
    ok_map c.audit_segment.result (Agree s c.args.passes.now) (Rise s c.args.passes.now) c.audit_segment.ensures.agree (rises s c.args.passes.now)
