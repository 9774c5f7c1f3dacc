use Rattle.std.proofs.Common.{rules}
use Rattle.jm_load.proofs.Unmade.{first_unmade_of, whole_unmade}
use Rattle.jm_load.proofs.making.make.Goals as goal

pub returns-in-Some-clause-err : goal.returns-in-Some-clause-err
returns-in-Some-clause-err c =
    let d = c.args.decoded in
    first_unmade_of d.stations.items d.messages.items d.held.items _ d.delays.items _ c.assemble-assembled.result c.in-Some.fault c.first_of.result d.damaged c.in-Some.is c.first_of.ensures
    c.assemble-assembled.ensures.fit c.assemble-assembled.ensures.err (search rules) (search rules)

pub returns-clause-err : goal.returns-clause-err
returns-clause-err c =
    let d = c.args.decoded in
    whole_unmade d.stations.items d.messages.items d.held.items _ d.delays.items _ c.reopened.result d.damaged c.in-None.is c.reopened.ensures.err (search rules) (search rules)
