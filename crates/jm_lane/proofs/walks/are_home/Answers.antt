use Rattle.std.proofs.Common.{◌≡◌, ◌∙◌, ap, sym, arith}
use Rattle.jm_lane.specs.Rows.{is_waiting}
use Rattle.jm_lane.proofs.Home.{home_more, home_all, away_at}
use Rattle.jm_lane.proofs.walks.are_home.Goals as goal

pub loop-i-preserved : goal.loop-i-preserved
loop-i-preserved c =
    home_more c.args.rows.now.items c.loop-i.i c.index.result.now (omega arith) c.loop-i.invariant (ap is_waiting (sym c.index.ensures) ∙ sym c.is_waiting.ensures ∙ c.if-not-is_waiting.false)

pub returns-then-not-is_waiting : goal.returns-then-not-is_waiting
returns-then-not-is_waiting c =
    sym (away_at c.args.rows.now.items c.loop-i.i c.index.result.now (omega arith) (ap is_waiting (sym c.index.ensures) ∙ sym c.is_waiting.ensures ∙ c.if-not-is_waiting.true))

pub returns : goal.returns
returns c =
    let end : c.loop-i.i ≡ c.args.high = omega arith in
    sym (home_all c.args.rows.now.items c.args.high (rw (← end) c.loop-i.invariant) c.requires.behind)
