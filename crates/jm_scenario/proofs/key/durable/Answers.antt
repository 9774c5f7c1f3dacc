use Rattle.std.proofs.Common.{◌≡◌, None, arith, rules}
use Rattle.serde_json.specs.View.{items_view}
use Rattle.jm_scenario.proofs.Keys.{durable_of_items-others}
use Rattle.jm_scenario.specs.Key.{durable_of_items}
use Rattle.jm_scenario.proofs.key.durable.Goals as goal

pub returns-then-names-ne2 : goal.returns-then-names-ne2
returns-then-names-ne2 c =
    let values = c.args.names.now in
    let none : durable_of_items (items_view values) ≡ None = durable_of_items-others values (λ e. omega arith) in
    search rules
