use Rattle.std.proofs.Common.{◌≡◌, ap, false, inl, inr, refl, sym, Some}
use Rattle.std.proofs.lemmas.Result.{err_from_is_err_and}
use Rattle.jm_base.specs.declared.refusal.Refusal.TheVariants.{Memory}
use Rattle.jm_machine.specs.Machine.{key_at}
use Rattle.jm_queues.specs.Queues.{rows_in}
use Rattle.jm_parts.specs.Takings.{is_queue}
use Rattle.jm_plans.proofs.Listening.{take_wants, take_wants_from}
use Rattle.jm_plans.proofs.state.CoreState.plan_take_by.Goals as goal

pub returns-in_err-taking-in-Queue : goal.returns-in_err-taking-in-Queue
returns-in_err-taking-in-Queue c =
    let p = err_from_is_err_and c.from_residual.result c.from_residual.ensures.1 in
    let i = c.self.inside in
    let wants = c.in_err-taking-in-Queue.ensures.err c.in-Queue.field-0 c.in-Queue.is in
    let started = rw (← c.self.view_is) at c.requires.started in
    let allowed = rw (← c.self.view_is) at c.requires.allowed in
    let source = rw (← c.self.view_is) at c.requires.source in
    rw (p.1, p.2, ← c.self.view_is)
    (refl, take_wants_from i.opening i.limit i.sessions.life i.sessions.consumers i.subs.list i.stations.list (rows_in i.queues) i.stations.next_place c.args.receiver c.args.source.now c.in-Queue.field-0 Memory c.requires.mode started allowed source c.in-Queue.is wants refl)

pub returns-in_err-taking-in-Own : goal.returns-in_err-taking-in-Own
returns-in_err-taking-in-Own c =
    let p = err_from_is_err_and c.from_residual-in_err-taking-in-Own.result c.from_residual-in_err-taking-in-Own.ensures.1 in
    let i = c.self.inside in
    let key = c.args.source.now.key in
    let wants = rw (← c.self.invariant.0.same) at c.in_err-taking-in-Own.ensures.err in
    let started = rw (← c.self.view_is) at c.requires.started in
    let allowed = rw (← c.self.view_is) at c.requires.allowed in
    let source = rw (← c.self.view_is) at c.requires.source in
    let apart : is_queue (Some key) ≡ false = elim c.in-Own.is [ inl e ↦ rw e.2 refl | inr f ↦ elim f [ inl e ↦ rw e.2 refl | inr e ↦ rw e.2 refl ] ] in
    rw (p.1, p.2, ← c.self.view_is)
    (refl, take_wants i.opening i.limit i.sessions.life i.sessions.consumers i.subs.list i.stations.list (rows_in i.queues) i.stations.next_place c.args.receiver (Some key) Memory c.self.invariant.0.number c.requires.mode started allowed (sym (ap key_at source)) apart wants refl)
