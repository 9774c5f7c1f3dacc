use Rattle.std.proofs.Common.{sym, subst, arith, take}
use Rattle.std.proofs.lemmas.List.{take_all}
use Rattle.std.proofs.lemmas.List.Elements.{All-more, All-same}
use Rattle.jm_lane.specs.Lanes.{IsBound}
use Rattle.jm_lane.proofs.Steps.{lower_bound}
use Rattle.jm_lane.proofs.walks.bound_of.Goals as goal

pub loop-i-preserved : goal.loop-i-preserved
loop-i-preserved c =
    All-more (IsBound c.earlier-least.result) c.args.rows.now.items c.loop-i.i c.index.result.now (omega arith) (lower_bound (take c.loop-i.i c.args.rows.now.items) c.earlier-least.result c.loop-i.least c.earlier-least.ensures.lower c.loop-i.invariant) (subst (IsBound c.earlier-least.result) c.index.ensures c.earlier-least.ensures.bound)

pub returns : goal.returns
returns c =
    All-same (IsBound c.loop-i.least) c.args.rows.now.items (take c.loop-i.i c.args.rows.now.items) (sym (take_all c.loop-i.i c.args.rows.now.items (omega arith))) c.loop-i.invariant
