use Rattle.std.proofs.Common.{◌∙◌, refl, sym, ap, arith, ◌++◌, length, [], ◌∷◌, Err}
use Rattle.std.proofs.lemmas.List.{length-append}
use Rattle.std.specs.Vec.Iter.{into_iter_items}
use Rattle.jm_base.specs.declared.refusal.Refusal.TheVariants.{Store}
use Rattle.jm_plans.specs.Provider.{state_of}
use Rattle.jm_core.specs.Runs.{progress}
use Rattle.jm_kept.proofs.Lists.{list_assoc, nothing_left}
use Rattle.jm_kept.proofs.Running.{begins, kept_more, none_in, store_more}
use Rattle.jm_kept.proofs.runs.run_keeping.Goals as goal

pub answer-requires : goal.answer-requires
answer-requires g c =
    let n = ap length c.in-Some.ensures.steps.0 in
    let room = c.loop-call.invariant.some in
    omega (arith, n, room)

pub push_reserved-requires : goal.push_reserved-requires
push_reserved-requires g c =
    let n = ap length (c.loop-call.invariant.rest ∙ ap (λ rest. c.loop-call.yielded ++ rest) c.in-Some.ensures.steps.0) in
    omega (arith, n, length-append c.loop-call.yielded (c.in-Some.call ∷ into_iter_items c.next.new.self))

pub loop-call-init : goal.loop-call-init
loop-call-init g c = record {
  owed = rw c.in_ok-replies.ensures.items (begins (state_of c.args.core.now) c.in_ok-halves.halves c.in_ok-halves.ensures.sent c.in_ok-halves.ensures.kept);
  told = c.in_ok-replies.ensures.len;
  capacity = (let room = c.in_ok-replies.ensures.capacity in let calls = c.len.ensures in omega (arith, room, calls, c.args.calls.ok));
  rest = sym c.into_iter-call-iterator.ensures.into_iter_gives.0;
  some = (let gives = ap length c.into_iter-call-iterator.ensures.into_iter_gives.0 in let room = c.in_ok-halves.ensures.room in let calls = c.len-2.ensures in omega (arith, gives, room, calls));
  store = λ h. absurd (none_in (Err Store) (rw c.in_ok-replies.ensures.items at h));
  faults = omega arith;
  clean = λ h. h;
  kept = λ h stored. stored;
}

pub loop-call-preserved : goal.loop-call-preserved
loop-call-preserved g c = record {
  owed =
      rw c.push_reserved.ensures.items
      (kept_more _ c.loop-call.yielded c.loop-call.replies.items (progress (state_of c.loop-call.core) c.loop-call.halves) c.in-Some.call c.answer.result (progress (state_of c.answer.new.core) c.answer.new.halves)
      c.loop-call.invariant.owed c.answer.ensures.owed);
  told = omega (arith, length-append c.loop-call.yielded (c.in-Some.call ∷ []));
  capacity = omega arith;
  rest = c.loop-call.invariant.rest ∙ ap (λ rest. c.loop-call.yielded ++ rest) c.in-Some.ensures.steps.0 ∙ list_assoc c.loop-call.yielded (c.in-Some.call ∷ []) (into_iter_items c.next.new.self);
  some = (let n = ap length c.in-Some.ensures.steps.0 in let room = c.loop-call.invariant.some in let used = c.answer.ensures.room in omega (arith, n, room, used));
  store =
      rw c.push_reserved.ensures.items
      (store_more (g.K.Keep.faults c.args.keeper.now) (g.K.Keep.faults c.loop-call.keeper) (g.K.Keep.faults c.answer.new.keeper) c.loop-call.replies.items c.answer.result
      c.loop-call.invariant.faults c.answer.ensures.faults c.loop-call.invariant.store c.answer.ensures.store);
  faults = (let before = c.loop-call.invariant.faults in let now = c.answer.ensures.faults in omega (arith, before, now));
  clean = λ h. c.loop-call.invariant.clean (c.answer.ensures.clean h);
  kept = λ h stored. c.answer.ensures.kept h (c.loop-call.invariant.kept (c.answer.ensures.clean h) stored);
}

pub returns-clause-ok : goal.returns-clause-ok
returns-clause-ok g c = (
  progress (state_of c.loop-call.core) c.loop-call.halves,
  rw (← nothing_left c.args.calls.items c.loop-call.yielded (into_iter_items c.loop-call.call-iterator) c.loop-call.invariant.rest (sym c.loop-call.call-iterator.rest.ok.0 ∙ c.in-None.ensures.steps.0)) c.loop-call.invariant.owed,
  refl,
)
