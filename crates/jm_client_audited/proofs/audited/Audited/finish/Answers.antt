use Rattle.jm_client_audited.proofs.audited.Audited.finish.Goals as goal

pub returns-clause-once : goal.returns-clause-once
returns-clause-once g c = rw (← c.self.view_is) c.finish.ensures.once

pub returns-clause-rise : goal.returns-clause-rise
returns-clause-rise g c = rw (← c.self.view_is) c.finish.ensures.rise
