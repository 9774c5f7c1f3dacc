use Rattle.sqlite.specs.Held.{state}
use Rattle.jm_queries.proofs.Undone.{if_ok_then, if_err_then}
use Rattle.jm_queries.proofs.TableRows.{held_are, held_meant}
use Rattle.jm_queries.proofs.Texts.{held_query}
use Rattle.jm_queries.proofs.tables.held.Goals as goal

pub returns-clause-rows : goal.returns-clause-rows
returns-clause-rows g c clean serves =
    let db = (state g.S.Store c.args.conn.now).now in
    if_ok_then c.ask.result _ _ (c.ask.ensures.rows clean) (λ rows h. held_are db rows.items serves (h held_query (held_meant db serves)))

pub returns-clause-fault : goal.returns-clause-fault
returns-clause-fault g c clean serves = if_err_then c.ask.result _ _ (c.ask.ensures.fault clean) (λ e h. h held_query (held_meant (state g.S.Store c.args.conn.now).now serves))
