use Rattle.std.proofs.Common.{sym, subst, arith, take}
use Rattle.std.proofs.lemmas.List.{take_all}
use Rattle.std.proofs.lemmas.List.Elements.{All-more, All-same}
use Rattle.jm_lane.specs.Lanes.{IsDueBound}
use Rattle.jm_lane.proofs.Dues.{due_lower}
use Rattle.jm_lane.proofs.walks.due_of.Goals as goal

pub loop-i-preserved : goal.loop-i-preserved
loop-i-preserved c =
    All-more (IsDueBound c.due_earlier-due.result) c.args.rows.now.items c.loop-i.i c.index.result.now (omega arith) (due_lower (take c.loop-i.i c.args.rows.now.items) c.due_earlier-due.result c.loop-i.due c.due_earlier-due.ensures.lower c.loop-i.invariant) (subst (IsDueBound c.due_earlier-due.result) c.index.ensures c.due_earlier-due.ensures.bound)

pub returns : goal.returns
returns c =
    All-same (IsDueBound c.loop-i.due) c.args.rows.now.items (take c.loop-i.i c.args.rows.now.items) (sym (take_all c.loop-i.i c.args.rows.now.items (omega arith))) c.loop-i.invariant
