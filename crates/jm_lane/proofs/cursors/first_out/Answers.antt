use Rattle.std.proofs.Common.{◌≡◌, ◌∙◌, ap, sym, arith, false, get_or}
use Rattle.jm_machine.specs.Machine.{are_meant}
use Rattle.jm_lane.specs.Rows.{is_out}
use Rattle.jm_lane.specs.Cursors.{is_under}
use Rattle.jm_lane.proofs.Lowest.{none_above, none_behind, waits_not_out}
use Rattle.jm_lane.proofs.cursors.first_out.Goals as goal

pub returns-then-not-is_under-clause-before : goal.returns-then-not-is_under-clause-before
returns-then-not-is_under-clause-before c =
    let rows = c.args.rows.now.items in
    let best = c.args.best.now in
    let row = c.index.result.now in
    let over : is_under best (get_or rows c.loop-i.i row) ≡ false = ap (is_under best) (sym c.index.ensures) ∙ sym c.is_under.ensures ∙ c.if-not-is_under.true in
    none_above best (is_out (are_meant c.args.which.now)) rows c.args.from c.loop-i.i c.len.result row c.requires.rising (omega arith) over c.loop-i.invariant (omega arith)

pub returns-clause-before : goal.returns-clause-before
returns-clause-before c =
    let p = are_meant c.args.which.now in
    none_behind c.args.best.now (is_out p) c.args.rows.now.items c.args.from c.loop-i.i c.args.high c.len-2.result (waits_not_out p) c.requires.behind (omega arith) c.loop-i.invariant (omega arith)
