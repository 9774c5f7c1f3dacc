use Rattle.jm_listed.proofs.planned.PlannedStepPlanned.takers.Goals as goal

pub returns : goal.returns
returns c =
    let planned = rw (← c.self.view_is) at c.requires in
    rw (← c.self.view_is) (c.lasting_takers.ensures c.args._message.now planned)
