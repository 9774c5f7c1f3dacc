use Rattle.std.proofs.Common.{subst, true}
use Rattle.std.specs.Prelude.{IfErr, OnOk}
use Rattle.jm_audit.specs.Audit.{segment, Agree, EachOnce, IsFault, Rise}
use Rattle.jm_threaded.proofs.audit.audited.Goals as goal

pub returns-clause-audits : goal.returns-clause-audits
returns-clause-audits g c =
    let trace = c.finish-finished.result.trace in
    let s = segment trace.first trace.events true in
    let verdict = c.finish-finished.result.verdict in
    let found = c.finish-finished.ensures in
    record {
      legal = c.law_legal-2.ensures.legal;
      ends = found.ends;
      agree = subst (λ passes. OnOk verdict (Agree s passes)) c.in-Ok.ensures found.agree;
      once = subst (λ passes. OnOk verdict (EachOnce s passes)) c.in-Ok.ensures found.once;
      rise = subst (λ passes. OnOk verdict (Rise s passes)) c.in-Ok.ensures found.rise;
      fault = subst (λ passes. IfErr verdict (λ fault. IsFault s passes fault)) c.in-Ok.ensures found.fault;
    }
