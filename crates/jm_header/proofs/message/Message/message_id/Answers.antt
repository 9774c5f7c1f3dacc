use Rattle.std.proofs.Common.{IsAscii, arith, sym, subst}
use Rattle.jm_header.proofs.Digits.{written, text_ascii}
use Rattle.jm_header.specs.MessageIds.{message_id}
use Rattle.jm_header.proofs.message.Message.message_id.Goals as goal

pub invariant_of-result : goal.invariant_of-result
invariant_of-result c =
    let e = written c.from-3.result c.from-2.result c.from.result c.number.result _ _ _ _ _ _ _ (cc)
    c.write_part-end.ensures.written c.write_part-end-2.ensures.written c.write_part-end-3.ensures.written c.write_part-end-4.ensures.written
    c.write_byte-end.ensures.written c.write_byte-start.ensures.written in
    (omega arith, subst IsAscii (sym e) (text_ascii c.from-3.result c.from-2.result c.from.result c.number.result (omega arith) (omega arith) (omega arith) (omega arith)))

pub returns : goal.returns
unfolding message_id
returns c =
    let e = written c.from-3.result c.from-2.result c.from.result c.number.result _ _ _ _ _ _ _ (cc)
    c.write_part-end.ensures.written c.write_part-end-2.ensures.written c.write_part-end-3.ensures.written c.write_part-end-4.ensures.written
    c.write_byte-end.ensures.written c.write_byte-start.ensures.written in
    cc
