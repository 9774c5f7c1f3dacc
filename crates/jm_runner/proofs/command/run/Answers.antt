use Rattle.jm_runner.proofs.command.run.Goals as goal

pub returns-in-Some-clause-ends : goal.returns-in-Some-clause-ends
returns-in-Some-clause-ends g c = rw c.in-Some.is (rw c.as_str.ensures at c.run_over.ensures.ends)
