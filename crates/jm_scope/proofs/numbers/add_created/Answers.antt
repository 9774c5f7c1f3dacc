use Rattle.jm_scope.proofs.numbers.add_created.Goals as goal

pub returns-in-Session : goal.returns-in-Session
returns-in-Session c = rw (c.in-Asked.is, c.in-Session.is) (c.add_named.ensures c.in-Asked.reply)
