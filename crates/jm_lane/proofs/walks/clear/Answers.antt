use Rattle.std.proofs.Common.{rules, ◌∙◌, ap, arith, length, ◌<◌, drop, length-drop}
use Rattle.std.proofs.lemmas.List.{drop_all, drop-drop}
use Rattle.jm_lane.proofs.Holding.{first_gone}
use Rattle.jm_lane.proofs.walks.clear.Goals as goal

pub loop-turn-preserved : goal.loop-turn-preserved
loop-turn-preserved c =
    let init = c.args.rows.now.items in
    let ys = c.loop-turn.rows.items in
    let there : 0 < length ys = omega (arith, ap length c.loop-turn.invariant.rest, length-drop c.loop-turn._turn init) in
    let let_go = first_gone c.args.table.now c.loop-turn.table c.let_go.new.self init ys c.index-row.result.now there c.index-row.ensures c.loop-turn.invariant.follows c.loop-turn.invariant.covers c.let_go.ensures.holders c.let_go.ensures.messages in
    record {
      rest = c.pop_front.ensures.rest ∙ ap (drop 1) c.loop-turn.invariant.rest ∙ drop-drop 1 c.loop-turn._turn init;
      follows = rw (c.pop_front.ensures.rest) let_go.0;
      covers = rw (c.pop_front.ensures.rest) let_go.1;
      room = search rules;
      len = search rules;
    }

pub returns-clause-rows : goal.returns-clause-rows
returns-clause-rows c = c.loop-turn.invariant.rest ∙ drop_all c.loop-turn._turn c.args.rows.now.items (omega arith)
