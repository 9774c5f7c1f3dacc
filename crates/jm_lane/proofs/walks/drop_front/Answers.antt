use Rattle.std.proofs.Common.{◌≡◌, ◌∙◌, ap, sym, false, true, arith, length, ◌<◌, refl, get_or}
use Rattle.std.specs.List.{remove}
use Rattle.std.proofs.lemmas.List.Elements.{All-more}
use Rattle.jm_lane.specs.Rows.{stays, is_expired, is_waiting}
use Rattle.jm_lane.proofs.Sieve.{sieved_gone, sieved_left, sieved_all, sieved_in, sieved_here, take_remove}
use Rattle.jm_lane.proofs.Letting.{row_gone, follows_none}
use Rattle.jm_lane.proofs.Turns.{steady_rest, away, is_expired_by, sieved_low, stays_away, stays_gone}
use Rattle.jm_lane.proofs.Holding.{holder_there}
use Rattle.jm_lane.proofs.walks.drop_front.Goals as goal
use Rattle.jm_lane.proofs.walks.drop_front.Goals.{then-is_waiting, else-is_waiting}

pub loop-turn-init : goal.loop-turn-init
loop-turn-init c =
    record { sieved = sieved_low (stays c.args.now) c.args.rows.now.items c.args.low (away c.args.now _ c.requires.before) (omega (arith, c.requires.in_range)); follows = follows_none c.args.table.now c.args.rows.now.items; covers = c.requires.covered; room = refl; len = omega arith; low = c.requires.before }

pub returns-then-not-is_expired-clause-rows : goal.returns-then-not-is_expired-clause-rows
returns-then-not-is_expired-clause-rows c =
    let init = c.args.rows.now.items in
    let row = c.index.result.now in
    let within : c.loop-turn._turn < length init = omega arith in
    let here : row ≡ get_or init c.loop-turn._turn row = c.index.ensures ∙ sieved_here (stays c.args.now) init c.loop-turn.rows.items c.loop-turn._turn c.loop-turn.at row c.loop-turn.invariant.sieved within in
    let test : is_expired c.args.now (get_or init c.loop-turn._turn row) ≡ false = ap (is_expired c.args.now) (sym here) ∙ is_expired_by c.args.now row _ c.is_expired.ensures c.if-not-is_expired.true in
    sieved_all (stays c.args.now) init c.loop-turn.rows.items c.loop-turn._turn c.loop-turn.at c.loop-turn.invariant.sieved (steady_rest c.args.now c.loop-turn._turn init row within c.requires.steady test)

pub let_go-requires : goal.let_go-requires
let_go-requires c =
    holder_there c.loop-turn.table c.loop-turn.rows.items c.loop-turn.at c.index.result.now c.loop-turn.invariant.covers (sieved_in (stays c.args.now) c.args.rows.now.items c.loop-turn.rows.items c.loop-turn._turn c.loop-turn.at c.loop-turn.invariant.sieved (omega arith)) c.index.ensures

pub loop-turn-preserved : goal.loop-turn-preserved
loop-turn-preserved c =
    let init = c.args.rows.now.items in
    let ys = c.loop-turn.rows.items in
    let row = c.index.result.now in
    let within : c.loop-turn._turn < length init = omega arith in
    let there : c.loop-turn.at < length ys = sieved_in (stays c.args.now) init ys c.loop-turn._turn c.loop-turn.at c.loop-turn.invariant.sieved within in
    elim c.if-is_waiting.branch [
      | then-is_waiting w ↦
          let test : stays c.args.now (get_or ys c.loop-turn.at row) ≡ false = ap (stays c.args.now) (sym c.index.ensures) ∙ stays_gone c.args.now row _ _ c.is_waiting.ensures w.if-is_waiting.true c.is_expired.ensures c.if-not-is_expired.false in
          let got = w.remove.ensures.succeeds row (omega arith) in
          let items : w.remove.new.self.items ≡ remove ys c.loop-turn.at = rw got at w.remove.ensures.items in
          let let_go = row_gone c.args.table.now c.loop-turn.table w.let_go.new.self init ys c.loop-turn.at row there c.index.ensures c.loop-turn.invariant.follows c.loop-turn.invariant.covers w.let_go.ensures.holders w.let_go.ensures.messages in
          record {
            sieved = rw (w.rows-is, w.at-is, items) (sieved_gone (stays c.args.now) init ys c.loop-turn._turn c.loop-turn.at row c.loop-turn.invariant.sieved within test);
            follows = rw (w.rows-is, w.table-is, items) let_go.0;
            covers = rw (w.rows-is, w.table-is, items) let_go.1;
            room = rw w.rows-is (w.remove.ensures.capacity ∙ c.loop-turn.invariant.room);
            len = let shorter = rw got at w.remove.ensures.len in rw w.rows-is (omega (arith, shorter, c.loop-turn.invariant.len));
            low = rw (w.rows-is, w.at-is, items, take_remove ys c.loop-turn.at) c.loop-turn.invariant.low;
          }
      | else-is_waiting w ↦
          let out : is_waiting (get_or ys c.loop-turn.at row) ≡ false = ap is_waiting (sym c.index.ensures) ∙ sym c.is_waiting.ensures ∙ w.if-is_waiting.false in
          let test : stays c.args.now (get_or ys c.loop-turn.at row) ≡ true = ap (stays c.args.now) (sym c.index.ensures) ∙ stays_away c.args.now row _ c.is_waiting.ensures w.if-is_waiting.false in
          record {
            sieved = rw (w.rows-is, w.at-is) (sieved_left (stays c.args.now) init ys c.loop-turn._turn c.loop-turn.at row c.loop-turn.invariant.sieved within test);
            follows = rw (w.rows-is, w.table-is) c.loop-turn.invariant.follows;
            covers = rw (w.rows-is, w.table-is) c.loop-turn.invariant.covers;
            room = rw w.rows-is c.loop-turn.invariant.room;
            len = rw w.rows-is c.loop-turn.invariant.len;
            low = rw (w.rows-is, w.at-is) (All-more (λ r. is_waiting r ≡ false) ys c.loop-turn.at row there c.loop-turn.invariant.low out);
          }
    ]
