use Rattle.std.proofs.Common.{◌≡◌, None, arith, rules}
use Rattle.serde_json.specs.View.{items_view}
use Rattle.jm_scenario.proofs.Keys.{own_of_items-others}
use Rattle.jm_scenario.specs.Key.{own_of_items}
use Rattle.jm_scenario.proofs.key.own.Goals as goal

pub returns-then-numbers-ne3 : goal.returns-then-numbers-ne3
returns-then-numbers-ne3 c =
    let values = c.args.numbers.now in
    let none : own_of_items (items_view values) ≡ None = own_of_items-others values (λ e. omega arith) in
    search rules
