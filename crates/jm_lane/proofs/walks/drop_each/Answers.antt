use Rattle.std.proofs.Common.{rules, ◌≡◌, ◌∙◌, ap, sym, false, true, arith, length, ◌<◌, ◌++◌, ◌∷◌, [], drop, get_or}
use Rattle.jm_lane.specs.Rows.{stays}
use Rattle.jm_lane.proofs.Rolling.{rolled_in, rolled_gone, rolled_left, rolled_all}
use Rattle.jm_lane.proofs.Holding.{first_gone, rolled_count, follows_same, covers_same}
use Rattle.jm_lane.proofs.walks.drop_each.Goals as goal
use Rattle.jm_lane.proofs.walks.drop_each.Goals.{then-stays, else-stays}

pub loop-turn-preserved : goal.loop-turn-preserved
loop-turn-preserved c =
    let init = c.args.rows.now.items in
    let ys = c.loop-turn.rows.items in
    let row = c.index.result.now in
    let within : c.loop-turn._turn < length init = omega arith in
    let there : 0 < length ys = rolled_in (stays c.args.now) init ys c.loop-turn._turn c.loop-turn.invariant.rolled within in
    elim c.if-stays.branch [
      | then-stays w ↦
          let test : stays c.args.now (get_or ys 0 row) ≡ true = ap (stays c.args.now) (sym c.index.ensures) ∙ sym c.stays.ensures ∙ w.if-stays.true in
          let items : w.push_back_reserved.new.self.items ≡ drop 1 ys ++ get_or ys 0 row ∷ [] = w.push_back_reserved.ensures.items ∙ ap (λ zs. zs ++ row ∷ []) c.pop_front.ensures.rest ∙ ap (λ r. drop 1 ys ++ r ∷ []) c.index.ensures in
          record {
            rolled = rw (w.rows-is, items) (rolled_left (stays c.args.now) init ys c.loop-turn._turn row c.loop-turn.invariant.rolled within test);
            follows = rw (w.rows-is, w.table-is, items) (follows_same c.args.table.now c.loop-turn.table init ys _ (λ p. rolled_count p ys row there) c.loop-turn.invariant.follows);
            covers = rw (w.rows-is, w.table-is, items) (covers_same c.loop-turn.table ys _ (λ p. rolled_count p ys row there) c.loop-turn.invariant.covers);
            room = search rules;
            len = search rules;
          }
      | else-stays w ↦
          let test : stays c.args.now (get_or ys 0 row) ≡ false = ap (stays c.args.now) (sym c.index.ensures) ∙ sym c.stays.ensures ∙ w.if-stays.false in
          let let_go = first_gone c.args.table.now c.loop-turn.table w.let_go.new.self init ys row there c.index.ensures c.loop-turn.invariant.follows c.loop-turn.invariant.covers w.let_go.ensures.holders w.let_go.ensures.messages in
          record {
            rolled = rw (w.rows-is, c.pop_front.ensures.rest) (rolled_gone (stays c.args.now) init ys c.loop-turn._turn row c.loop-turn.invariant.rolled within test);
            follows = rw (w.rows-is, w.table-is, c.pop_front.ensures.rest) let_go.0;
            covers = rw (w.rows-is, w.table-is, c.pop_front.ensures.rest) let_go.1;
            room = search rules;
            len = search rules;
          }
    ]

pub returns-clause-rows : goal.returns-clause-rows
returns-clause-rows c = rolled_all (stays c.args.now) c.args.rows.now.items c.loop-turn.rows.items c.loop-turn._turn c.loop-turn.invariant.rolled (omega arith)
