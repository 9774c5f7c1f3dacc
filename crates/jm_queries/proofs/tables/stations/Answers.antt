use Rattle.sqlite.specs.Held.{state}
use Rattle.jm_queries.proofs.Undone.{if_ok_then, if_err_then}
use Rattle.jm_queries.proofs.TableRows.{stations_are, stations_meant}
use Rattle.jm_queries.proofs.Texts.{stations_query}
use Rattle.jm_queries.proofs.tables.stations.Goals as goal

pub returns-clause-rows : goal.returns-clause-rows
returns-clause-rows g c clean serves =
    let db = (state g.S.Store c.args.conn.now).now in
    if_ok_then c.ask.result _ _ (c.ask.ensures.rows clean) (λ rows h. stations_are db rows.items serves (h stations_query (stations_meant db serves)))

pub returns-clause-fault : goal.returns-clause-fault
returns-clause-fault g c clean serves = if_err_then c.ask.result _ _ (c.ask.ensures.fault clean) (λ e h. h stations_query (stations_meant (state g.S.Store c.args.conn.now).now serves))
