use Rattle.std.proofs.Common.{◌≡◌, None}
use Rattle.serde_json.specs.View.{view}
use Rattle.jm_scenario.specs.Calls.{fork_or_join}
use Rattle.jm_scenario.proofs.Places.{call_placed}
use Rattle.jm_scenario.proofs.item.item_in_place.Goals as goal

pub returns-in_ok-call-in-None : goal.returns-in_ok-call-in-None
returns-in_ok-call-in-None c =
    let value = view c.args.object.now in
    let none : fork_or_join value ≡ None = cc in
    call_placed c.args.is_forked value c.in_ok-call-in-None.field-0 none c.in_ok-call-in-None.ensures
