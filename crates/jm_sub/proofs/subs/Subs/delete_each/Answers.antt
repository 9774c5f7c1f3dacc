use Rattle.std.proofs.Common.{◌∙◌, ap, arith, sym}
use Rattle.jm_sub.specs.Subscriptions.{Subscriptions, without_own}
use Rattle.jm_sub.proofs.Ended.{none_own, own_taken}
use Rattle.jm_sub.proofs.subs.Subs.delete_each.Goals as goal

pub loop-index-preserved : goal.loop-index-preserved
loop-index-preserved c = (
  ap (without_own c.args.which.now) c.take_out.ensures.list
      ∙ own_taken c.args.which.now c.self.inside.items.entries c.in-Some.index c.loop-index.self.list (ap (λ (v : Subscriptions). v.list) c.self.view_is) c.in-Some.ensures.within c.in-Some.ensures.found
      ∙ c.loop-index.invariant.0,
  omega arith,
)

pub returns-clause-list : goal.returns-clause-list
returns-clause-list c =
    sym (none_own c.args.which.now c.self.inside.items.entries c.loop-index.self.list (ap (λ (v : Subscriptions). v.list) c.self.view_is) c.in_default.ensures.none) ∙ c.loop-index.invariant.0
