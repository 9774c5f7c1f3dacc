use Rattle.std.proofs.Common.{List, subst, length, arith}
use Rattle.jm_listen.specs.declared.jobs.Job.{Job}
use Rattle.jm_listen.specs.Sessions.{Apart}
use Rattle.jm_listen.proofs.Ran.{all_ran}
use Rattle.jm_listen.proofs.served.serve.Goals as goal

pub returns-clause-ran : goal.returns-clause-ran
returns-clause-ran g c = all_ran c.args.turns c.args.jobs.items c.end-jobs.result.0.items c.end-jobs.result.1.items c.begin-tasks.result.items c.work_all.new.tasks.items c.begin-tasks.ensures c.end-jobs.ensures.jobs c.end-jobs.ensures.counts c.work_all.ensures.len c.work_all.ensures.each

pub returns-clause-apart : goal.returns-clause-apart
returns-clause-apart g c =
    let n = length c.as_slice.result.now in
    let P : List (Job g.row.N.Denot g.row.L.Denot) → Type 0 = λ jobs. Apart jobs n in
    let apart = subst P c.as_slice.ensures.value c.if-is_session_shared.ensures in
    λ i less. apart i (omega (arith, c.as_slice.ensures.len))
