use Rattle.std.proofs.Common.{refl, rules}
use Rattle.std.proofs.lemmas.Iterator.Adapters.{items_from_extend}
use Rattle.std.proofs.lemmas.Iterator.Consumers.{YieldsList-from_first}
use Rattle.jm_grouped.specs.Order.{indexes_in}
use Rattle.jm_grouped.proofs.copy.copy_order.Goals as goal

pub returns : goal.returns
returns c =
    let whole = items_from_extend c.extend.result c.extend.ensures.ran (YieldsList-from_first (λ x. x) (λ rest. rest) (indexes_in c.args.slots.now.slots c.args.order.now) refl) in
    search rules
