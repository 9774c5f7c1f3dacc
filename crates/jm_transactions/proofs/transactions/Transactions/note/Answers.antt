use Rattle.jm_transactions.proofs.transactions.Transactions.note.Goals as goal

pub returns-in-Connection : goal.returns-in-Connection
returns-in-Connection c = rw (c.in-Asked.is, c.in-Connection.is) (c.note_connection.ensures c.args.place)

pub returns-in-Session : goal.returns-in-Session
returns-in-Session c = rw (c.in-Asked.is, c.in-Session.is) (c.note_session.ensures c.args.place c.in-Asked.reply)
