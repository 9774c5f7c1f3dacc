use Rattle.std.proofs.Common.{refl, subst}
use Rattle.std.proofs.lemmas.Result.{IfOk-weaker}
use Rattle.jm_machine.specs.Client.{begun, RunOwed}
use Rattle.jm_play.proofs.runs.run.Goals as goal

pub returns-clause-ran : goal.returns-clause-ran
returns-clause-ran c =
    IfOk-weaker c.run.result _ _ (λ replies ran. (
      ran.0,
      subst (λ state. RunOwed (begun state) c.args.calls.items replies.items ran.0) c.new_core-core.ensures ran.1,
    )) (c.run.ensures.without refl)
