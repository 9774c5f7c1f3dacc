use Rattle.std.proofs.Common.{rules}
use Rattle.std.proofs.lemmas.Fn.{always_returns_same}
use Rattle.jm_parts.specs.declared.stored.StoredSubscription.{StoredSubscription}
use Rattle.jm_loading.specs.Order.{key_cmp}
use Rattle.jm_loading.proofs.Search.{alone_named, none_named}
use Rattle.jm_loading.proofs.taking.place_of.Goals as goal

pub returns-clause-none : goal.returns-clause-none
returns-clause-none c =
    let facts = c.binary_search_by.ensures in
    none_named c.args.subscriptions.now c.args.key.now _ _ c.requires (facts.position (λ (s : StoredSubscription). key_cmp s.key c.args.key.now) (always_returns_same _ _ _ (λ a r g called. (search rules, search rules)))) c.ok.ensures.value

pub returns-clause-alone : goal.returns-clause-alone
returns-clause-alone c =
    let facts = c.binary_search_by.ensures in
    alone_named c.args.subscriptions.now c.args.key.now _ _ c.requires facts.bound (facts.position (λ (s : StoredSubscription). key_cmp s.key c.args.key.now) (always_returns_same _ _ _ (λ a r g called. (search rules, search rules)))) c.ok.ensures.value
