use Rattle.std.proofs.Common.{◌∙◌, refl, sym, ap, arith, ◌++◌, length, [], ◌∷◌}
use Rattle.std.proofs.lemmas.List.{length-append}
use Rattle.std.specs.Vec.Iter.{into_iter_items}
use Rattle.jm_plans.specs.Provider.{state_of}
use Rattle.jm_core.specs.Runs.{progress}
use Rattle.jm_parts.proofs.Publishing.{list_assoc, nothing_left}
use Rattle.jm_core.proofs.Sends.{begins, fits_more}
use Rattle.jm_core.proofs.run.run_on.Goals as goal

pub loop-call-init : goal.loop-call-init
loop-call-init c = (
  rw c.in_ok-replies.ensures.items (begins (state_of c.args.core.now) c.in_ok-halves.halves c.in_ok-halves.ensures.sent c.in_ok-halves.ensures.kept),
  c.in_ok-replies.ensures.len,
  (let room = c.in_ok-replies.ensures.capacity in let calls = c.len.ensures in omega (arith, room, calls, c.args.calls.ok)),
  sym c.into_iter-call-iterator.ensures.into_iter_gives.0,
  (let gives = ap length c.into_iter-call-iterator.ensures.into_iter_gives.0 in let room = c.in_ok-halves.ensures.room in let calls = c.len-2.ensures in omega (arith, gives, room, calls)),
)

pub answer-requires : goal.answer-requires
answer-requires c =
    let n = ap length c.in-Some.ensures.steps.0 in
    let room = c.loop-call.invariant.4 in
    omega (arith, n, room)

pub push_reserved-requires : goal.push_reserved-requires
push_reserved-requires c =
    let n = ap length (c.loop-call.invariant.3 ∙ ap (λ rest. c.loop-call.yielded ++ rest) c.in-Some.ensures.steps.0) in
    omega (arith, n, length-append c.loop-call.yielded (c.in-Some.call ∷ into_iter_items c.next.new.self))

pub loop-call-preserved : goal.loop-call-preserved
loop-call-preserved c = (
  rw c.push_reserved.ensures.items (fits_more _ c.loop-call.yielded c.loop-call.replies.items (progress (state_of c.loop-call.core) c.loop-call.halves) c.in-Some.call c.answer.result (progress (state_of c.answer.new.core) c.answer.new.halves) c.loop-call.invariant.0 c.answer.ensures.owed),
  omega (arith, length-append c.loop-call.yielded (c.in-Some.call ∷ [])),
  omega arith,
  c.loop-call.invariant.3 ∙ ap (λ rest. c.loop-call.yielded ++ rest) c.in-Some.ensures.steps.0 ∙ list_assoc c.loop-call.yielded (c.in-Some.call ∷ []) (into_iter_items c.next.new.self),
  (let n = ap length c.in-Some.ensures.steps.0 in let room = c.loop-call.invariant.4 in let used = c.answer.ensures.room in omega (arith, n, room, used)),
)

pub returns-clause-ok : goal.returns-clause-ok
returns-clause-ok c = (
  progress (state_of c.loop-call.core) c.loop-call.halves,
  rw (← nothing_left c.args.calls.items c.loop-call.yielded (into_iter_items c.loop-call.call-iterator) c.loop-call.invariant.3 (sym c.loop-call.call-iterator.rest.ok.0 ∙ c.in-None.ensures.steps.0)) c.loop-call.invariant.0,
  refl,
)
