use Rattle.jm_opening.proofs.Faults.{alone, of_one}
use Rattle.jm_opening.proofs.judged.judge.Goals as goal

pub returns-in-1-clause-err : goal.returns-in-1-clause-err
returns-in-1-clause-err c =
    of_one c.judge_only.result c.args.rows.now c.index-rows-0.result c.judge_only.ensures.err (alone c.args.rows.now c.index-rows-0.result c.in-1.is c.index-rows-0.is)
