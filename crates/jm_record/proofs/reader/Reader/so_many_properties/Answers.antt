use Rattle.std.proofs.lemmas.Result.{err_from_is_err_and}
use Rattle.jm_record.proofs.Loop.{goes_on, fails, is_done}
use Rattle.jm_record.proofs.reader.Reader.so_many_properties.Goals as goal

pub returns-in_err-property : goal.returns-in_err-property
returns-in_err-property c =
    let p = err_from_is_err_and c.from_residual.result c.from_residual.ensures.1 in
    rw (p.1, p.2) (fails {A = Unit {0}} _ (λ _. c.property.new.properties) c.args.count c.loop.counter c.loop.properties c.loop.self _ _ c.loop-test.true c.in_err-property.ensures c.loop.invariant)

pub loop-preserved : goal.loop-preserved
loop-preserved c =
    goes_on c.args.count c.loop.counter c.loop.properties c.property.new.properties c.loop.self c.property.new.self _ c.loop-test.true c.in_ok-property.ensures c.loop.invariant

pub returns : goal.returns
returns c = is_done c.args.count c.loop.counter c.loop.properties c.loop.self _ c.loop-test.false c.loop.invariant
