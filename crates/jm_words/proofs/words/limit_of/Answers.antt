use Rattle.jm_words.proofs.CommandLine.{limit_of_number}
use Rattle.jm_words.proofs.words.limit_of.Goals as goal

pub returns-in-Ok : goal.returns-in-Ok
returns-in-Ok c =
    limit_of_number c.args.text.now c.parse.result c.in-Ok.number c.parse.ensures.value.0 c.in-Ok.is c.if-number-ge1.true c.if-number-le-GREATEST_LIMIT.true
