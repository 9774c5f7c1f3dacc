use Rattle.std.proofs.Common.{◌≡◌, true, rules}
use Rattle.serde_json.specs.View.{view}
use Rattle.jm_fields.specs.Fields.{is_operation_in_place}
use Rattle.jm_scenario.proofs.Operations.{call_stays}
use Rattle.jm_scenario.proofs.call.call.Goals as goal

pub returns : goal.returns
returns c =
    let owner = c.in_ok-operation.operation in
    let placed : is_operation_in_place c.args.is_forked owner ≡ true = search rules in
    call_stays c.whole_call.result c.args.is_forked owner (view c.args.object.now) c.in_ok-operation.ensures placed c.whole_call.ensures
