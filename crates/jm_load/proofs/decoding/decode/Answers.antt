use Rattle.jm_load.proofs.Unmade.{message_told}
use Rattle.jm_load.proofs.decoding.decode.Goals as goal

pub returns-in-Err-decode_messages-clause-err : goal.returns-in-Err-decode_messages-clause-err
returns-in-Err-decode_messages-clause-err c =
    message_told c.args.rows.now c.deref.result.now c.deref-2.result.now c.in-Ok.stations.items c.in-Err-decode_messages.fault c.fault_in-in-Err-decode_messages.result c.fault_in-in-Err-decode_messages.ensures
    c.in-Ok.ensures.ok c.in-Err-decode_messages.ensures.err c.deref.ensures.value c.deref-2.ensures.value
