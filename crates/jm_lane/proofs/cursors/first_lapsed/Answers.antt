use Rattle.std.proofs.Common.{◌≡◌, ◌∙◌, ap, sym, arith, false, get_or}
use Rattle.jm_lane.specs.Rows.{is_expired}
use Rattle.jm_lane.specs.Cursors.{has_lapsed, is_under}
use Rattle.jm_lane.proofs.Lowest.{none_above, none_in_turn}
use Rattle.jm_lane.proofs.cursors.first_lapsed.Goals as goal

pub returns-then-not-is_under-clause-before : goal.returns-then-not-is_under-clause-before
returns-then-not-is_under-clause-before c =
    let rows = c.args.rows.now.items in
    let best = c.args.best.now in
    let row = c.index.result.now in
    let over : is_under best (get_or rows c.loop-i.i row) ≡ false = ap (is_under best) (sym c.index.ensures) ∙ sym c.is_under.ensures ∙ c.if-not-is_under.true in
    none_above best (has_lapsed c.args.now) rows c.args.from c.loop-i.i c.len.result row c.requires.rising (omega arith) over c.loop-i.invariant (omega arith)

pub returns-then-ends_turn-clause-before : goal.returns-then-ends_turn-clause-before
returns-then-ends_turn-clause-before c =
    let rows = c.args.rows.now.items in
    let now = c.args.now in
    let row = c.index-in-loop-i.result.now in
    let ends = c.if-ends_turn.true in
    let later : is_expired now (get_or rows c.loop-i.i row) ≡ false = ap (is_expired now) (sym c.index-in-loop-i.ensures) ∙ c.ends_turn.ensures.row ends in
    none_in_turn c.args.best.now now rows c.args.from c.loop-i.i c.len-then-ends_turn.result row (c.requires.steady (c.ends_turn.ensures.steady ends)) (omega arith) later c.loop-i.invariant (omega arith)
