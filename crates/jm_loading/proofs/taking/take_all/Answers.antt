use Rattle.std.proofs.Common.{List, subst, arith, refl, rules}
use Rattle.jm_decoding.specs.declared.held.HeldRow.{HeldRow}
use Rattle.jm_loading.specs.Fitting.{IsHeld, held_cmp}
use Rattle.jm_loading.specs.Holding.{AreHeldAs}
use Rattle.jm_loading.proofs.Fitting.{next_held, not_taken}
use Rattle.jm_loading.proofs.Taken.{take_whole, taken_next, unheld_as}
use Rattle.jm_loading.proofs.Unfit.{fewer, fit_none}
use Rattle.jm_loading.proofs.taking.take_all.Goals as goal

pub loop-at-init : goal.loop-at-init
loop-at-init c = record {
  held = λ rows h. unheld_as rows c.args.stations.now.subscriptions.items c.args.messages.now h;
  fit = λ known of rows h. fit_none held_cmp (IsHeld known rows) c.args.held.now;
}

pub loop-at-preserved : goal.loop-at-preserved
loop-at-preserved c =
    let stations = c.args.stations.now in
    record {
      held = λ rows h. taken_next rows stations.subscriptions.items c.args.held.now c.loop-at.at c.index-held-at.result c.loop-at.messages c.take.new.messages c.loop-at-test.true c.index-held-at.is (c.loop-at.invariant.held rows h) (c.in_ok-take.ensures.takes (search rules));
      fit = λ known of rows h. next_held known rows stations.queues.items stations.subscriptions.items of c.requires.durable c.requires.sorted c.args.held.now c.loop-at.at c.index-held-at.result c.loop-at.messages c.loop-at-test.true c.index-held-at.is
          (c.loop-at.invariant.held rows h) (c.loop-at.invariant.fit known of rows h) (c.is_behind.ensures.0 (search rules)) (c.in_ok-take.ensures.can (search rules));
    }

pub returns-clause-ok : goal.returns-clause-ok
returns-clause-ok c = λ rows h.
    subst (λ (xs : List HeldRow). AreHeldAs rows c.args.stations.now.subscriptions.items xs c.loop-at.messages) (take_whole c.loop-at.at c.args.held.now (omega arith)) (c.loop-at.invariant.held rows h)

pub returns-clause-fit : goal.returns-clause-fit
returns-clause-fit c = λ known of rows h. fewer held_cmp (IsHeld known rows) c.args.held.now c.loop-at.at _ (omega arith) (c.loop-at.invariant.fit known of rows h)

pub returns-then-not-branch-clause-err : goal.returns-then-not-branch-clause-err
returns-then-not-branch-clause-err c = λ known of rows h.
    let stations = c.args.stations.now in
    let held = c.loop-at.invariant.held rows h in (
      refl,
      not_taken known rows stations.queues.items stations.subscriptions.items of c.requires.durable c.requires.sorted c.args.held.now c.loop-at.at c.index-held-at.result c.loop-at.messages c.loop-at-test.true c.index-held-at.is held (c.loop-at.invariant.fit known of rows h)
          (λ can. let yes = c.in_ok-take.ensures.must held.placed can in let other = c.if-not-branch.true in cc),
    )
