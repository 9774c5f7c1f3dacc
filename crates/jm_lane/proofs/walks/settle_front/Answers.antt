use Rattle.std.proofs.Common.{◌≡◌, ◌∙◌, ap, sym, not, false, true, arith, length, ◌<◌}
use Rattle.std.specs.List.{remove}
use Rattle.jm_lane.specs.Rows.{keeps}
use Rattle.jm_lane.proofs.Sieve.{sieved_gone, sieved_left, sieved_all, sieved_rest, sieved_in}
use Rattle.jm_lane.proofs.Letting.{row_gone}
use Rattle.jm_lane.proofs.Holding.{holder_there}
use Rattle.jm_lane.proofs.Steps.{waiting_kept}
use Rattle.jm_lane.proofs.walks.settle_front.Goals as goal
use Rattle.jm_lane.proofs.walks.settle_front.Goals.{then-is_among, else-is_among, After-loop-turn}

at_end : (c : After-loop-turn) → c.loop-turn._turn ≡ c.args.high
at_end c = omega arith

pub let_go-requires : goal.let_go-requires
let_go-requires c =
    let within : c.loop-turn._turn < length c.args.rows.now.items = omega arith in
    holder_there c.loop-turn.table c.loop-turn.rows.items c.loop-turn.at c.index.result.now c.loop-turn.invariant.covers (sieved_in (keeps c.args.outs.now) c.args.rows.now.items c.loop-turn.rows.items c.loop-turn._turn c.loop-turn.at c.loop-turn.invariant.sieved within) c.index.ensures

pub loop-turn-preserved : goal.loop-turn-preserved
loop-turn-preserved c =
    let within : c.loop-turn._turn < length c.args.rows.now.items = omega arith in
    elim c.if-is_among.branch [
      | then-is_among w ↦
          let test : keeps c.args.outs.now c.index.result.now ≡ false = ap not (sym c.is_among.ensures ∙ w.if-is_among.true) in
          let gone = sieved_gone (keeps c.args.outs.now) c.args.rows.now.items c.loop-turn.rows.items c.loop-turn._turn c.loop-turn.at c.index.result.now c.loop-turn.invariant.sieved within (ap (keeps c.args.outs.now) (sym c.index.ensures) ∙ test) in
          let there : c.loop-turn.at < length c.loop-turn.rows.items = sieved_in (keeps c.args.outs.now) c.args.rows.now.items c.loop-turn.rows.items c.loop-turn._turn c.loop-turn.at c.loop-turn.invariant.sieved within in
          let got = w.remove.ensures.succeeds c.index.result.now (omega arith) in
          let items : w.remove.new.self.items ≡ remove c.loop-turn.rows.items c.loop-turn.at = rw got at w.remove.ensures.items in
          let let_go = row_gone c.args.table.now c.loop-turn.table w.let_go.new.self c.args.rows.now.items c.loop-turn.rows.items c.loop-turn.at c.index.result.now there c.index.ensures c.loop-turn.invariant.follows c.loop-turn.invariant.covers w.let_go.ensures.holders w.let_go.ensures.messages in
          record { follows = rw (w.rows-is, w.table-is, items) let_go.0; covers = rw (w.rows-is, w.table-is, items) let_go.1; sieved = rw (w.rows-is, w.at-is, items) gone; room = rw w.rows-is (w.remove.ensures.capacity ∙ c.loop-turn.invariant.room); len = let shorter = rw got at w.remove.ensures.len in rw w.rows-is (omega (arith, shorter, c.loop-turn.invariant.len)) }
      | else-is_among w ↦
          let test : keeps c.args.outs.now c.index.result.now ≡ true = ap not (sym c.is_among.ensures ∙ w.if-is_among.false) in
          record { follows = rw (w.rows-is, w.table-is) c.loop-turn.invariant.follows; covers = rw (w.rows-is, w.table-is) c.loop-turn.invariant.covers; sieved = rw (w.rows-is, w.at-is) (sieved_left (keeps c.args.outs.now) c.args.rows.now.items c.loop-turn.rows.items c.loop-turn._turn c.loop-turn.at c.index.result.now c.loop-turn.invariant.sieved within (ap (keeps c.args.outs.now) (sym c.index.ensures) ∙ test)); room = rw w.rows-is c.loop-turn.invariant.room; len = rw w.rows-is c.loop-turn.invariant.len }
    ]

pub returns-clause-rows : goal.returns-clause-rows
returns-clause-rows c =
    sieved_all (keeps c.args.outs.now) c.args.rows.now.items c.loop-turn.rows.items c.loop-turn._turn c.loop-turn.at c.loop-turn.invariant.sieved (rw (at_end c) (waiting_kept c.args.outs.now _ c.requires.behind))

pub returns-clause-behind : goal.returns-clause-behind
returns-clause-behind c =
    rw (sieved_rest (keeps c.args.outs.now) c.args.rows.now.items c.loop-turn.rows.items c.loop-turn._turn c.loop-turn.at c.loop-turn.invariant.sieved, at_end c) c.requires.behind
