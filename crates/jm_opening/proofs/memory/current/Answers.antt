use Rattle.sqlite.proofs.Callers.{memory_is_clean}
use Rattle.jm_opening.proofs.memory.current.Goals as goal

pub returns : goal.returns
returns c =
    let empty = c.in_ok-conn.ensures.empty in
    record { schema = (c.in_ok-write.ensures.opened (memory_is_clean c.write.new.conn) empty.0.is_open (record { schema_is = empty.2; says = tt })).0.schema_is }
