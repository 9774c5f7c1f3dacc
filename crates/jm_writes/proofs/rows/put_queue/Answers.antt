use Rattle.std.proofs.lemmas.Bool.{and_from}
use Rattle.std.proofs.lemmas.Str.{is_utf8-from_IsUtf8}
use Rattle.sqlite.specs.Held.{state}
use Rattle.jm_writes.proofs.Upserts.{put_queue_on}
use Rattle.jm_writes.proofs.rows.put_queue.Goals as goal

pub returns-clause-done : goal.returns-clause-done
returns-clause-done g c clean serves =
    put_queue_on (state g.S.Store c.args.tx.now.conn.now) (state g.S.Store c.run.new.tx.conn.now) c.args.name.now c.run.result (and_from _ _ (rw c.as_str.ensures.text at (is_utf8-from_IsUtf8 c.as_str.result.now c.as_str.utf8)) c.as_str.ensures.valid) serves
    (rw (c.params-to_sql.ensures, c.as_str.ensures.text) at (c.run.ensures.runs clean))
