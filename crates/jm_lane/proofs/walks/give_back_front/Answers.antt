use Rattle.std.proofs.Common.{◌≡◌, ◌∙◌, ◌++◌, ap, sym, subst, arith, take, drop, map, get_or, set}
use Rattle.std.proofs.lemmas.List.{map-append, take-append-drop, get_or-set_same}
use Rattle.std.proofs.lemmas.List.Edits.{map_over_more}
use Rattle.std.proofs.lemmas.List.Elements.{All-set}
use Rattle.jm_lane.specs.Rows.{back, is_among}
use Rattle.jm_lane.specs.Lanes.{IsBound, IsDueBound}
use Rattle.jm_lane.proofs.Dues.{due_lower}
use Rattle.jm_lane.proofs.Steps.{lower_bound, map_back_waiting}
use Rattle.jm_lane.proofs.walks.give_back_front.Goals as goal

pub loop-i-preserved : goal.loop-i-preserved
loop-i-preserved c =
    let at = c.loop-i.i in
    let row : (get_or (set c.loop-i.rows.items at c.back.result) at c.index-in-loop-i.result.now) ≡ c.back.result = get_or-set_same c.loop-i.rows.items at c.back.result c.index-in-loop-i.result.now (omega arith) in
    let row2 : (get_or (set c.loop-i.rows.items at c.back.result) at c.index-in-loop-i-2.result.now) ≡ c.back.result = get_or-set_same c.loop-i.rows.items at c.back.result c.index-in-loop-i-2.result.now (omega arith) in
    record {
      items = rw c.back.ensures (map_over_more (back (is_among c.args.outs.now)) c.args.rows.now.items c.loop-i.rows.items at c.index.result.now (omega arith) c.loop-i.invariant.items c.index.ensures);
      bound = All-set (IsBound c.earlier-least.result) c.loop-i.rows.items at c.back.result (subst (IsBound c.earlier-least.result) (c.index-in-loop-i.ensures ∙ row) c.earlier-least.ensures.bound) (lower_bound c.loop-i.rows.items c.earlier-least.result c.loop-i.least c.earlier-least.ensures.lower c.loop-i.invariant.bound);
      due = All-set (IsDueBound c.due_earlier-due.result) c.loop-i.rows.items at c.back.result (subst (IsDueBound c.due_earlier-due.result) (c.index-in-loop-i-2.ensures ∙ row2) c.due_earlier-due.ensures.bound) (due_lower c.loop-i.rows.items c.due_earlier-due.result c.loop-i.due c.due_earlier-due.ensures.lower c.loop-i.invariant.due);
      room = c.loop-i.invariant.room;
      len = c.loop-i.invariant.len;
    }

pub returns-clause-rows : goal.returns-clause-rows
returns-clause-rows c =
    let end : c.loop-i.i ≡ c.args.high = omega arith in
    let rest : map (back (is_among c.args.outs.now)) (drop c.loop-i.i c.args.rows.now.items) ≡ drop c.loop-i.i c.args.rows.now.items = rw end (map_back_waiting c.args.outs.now (drop c.args.high c.args.rows.now.items) c.requires.behind) in
    c.loop-i.invariant.items ∙ ap (λ zs. map (back (is_among c.args.outs.now)) (take c.loop-i.i c.args.rows.now.items) ++ zs) (sym rest) ∙ sym (map-append (back (is_among c.args.outs.now)) (take c.loop-i.i c.args.rows.now.items) (drop c.loop-i.i c.args.rows.now.items)) ∙ ap (map (back (is_among c.args.outs.now))) (take-append-drop c.loop-i.i c.args.rows.now.items)
