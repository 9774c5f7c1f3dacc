use Rattle.std.proofs.Common.{◌≡◌, ◌∙◌, ap, sym, arith, false}
use Rattle.std.proofs.lemmas.List.Elements.{All-more}
use Rattle.jm_lane.specs.Rows.{is_waiting}
use Rattle.jm_lane.proofs.walks.first_waiting.Goals as goal

pub loop-i-preserved : goal.loop-i-preserved
loop-i-preserved c =
    All-more (λ r. is_waiting r ≡ false) _ c.loop-i.i c.index.result.now (omega arith) c.loop-i.invariant (ap is_waiting (sym c.index.ensures) ∙ sym c.is_waiting.ensures ∙ c.if-is_waiting.false)
