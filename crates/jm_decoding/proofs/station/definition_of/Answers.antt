use Rattle.std.specs.Prelude.{Some}
use Rattle.std.proofs.Common.{◌∙◌, ap}
use Rattle.std.proofs.lemmas.Result.{err_from_is_err_and}
use Rattle.jm_decoding.specs.Asked.{MayAsk}
use Rattle.jm_decoding.specs.Readable.{IsReadableStation}
use Rattle.jm_decoding.proofs.Asking.{asked_of_durable}
use Rattle.jm_decoding.proofs.Values.{fault_of_part}
use Rattle.jm_decoding.proofs.station.definition_of.Goals as goal

pub returns-in_err-asked_by-in-Durable-clause-err : goal.returns-in_err-asked_by-in-Durable-clause-err
returns-in_err-asked_by-in-Durable-clause-err c =
    let passed = err_from_is_err_and c.from_residual.result c.from_residual.ensures.1 in
    let is = c.requires.key ∙ ap Some c.in-Durable.is in
    rw (passed.1, passed.2)
    (fault_of_part (MayAsk c.args.row.now) (IsReadableStation c.args.row.now) c.in_err-asked_by-in-Durable.field-0.0
    (asked_of_durable c.args.row.now c.in-Durable.client c.in-Durable.field-1 is) c.in_err-asked_by-in-Durable.ensures.err)
