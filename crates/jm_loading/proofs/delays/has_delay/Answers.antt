use Rattle.std.proofs.Common.{◌∙◌, sym, rules}
use Rattle.std.proofs.lemmas.List.Sorted.{answers_always}
use Rattle.jm_decoding.specs.declared.delay.DelayRow.{DelayRow}
use Rattle.jm_loading.proofs.Search.{place_listed}
use Rattle.jm_loading.proofs.delays.has_delay.Goals as goal

pub returns-else-not-is_delayed : goal.returns-else-not-is_delayed
returns-else-not-is_delayed c =
    let facts = c.binary_search_by_key.ensures in
    let found = place_listed c.args.delays.now c.args.message.now.place _ c.requires facts.bound (facts.position (λ (d : DelayRow). d.place) (answers_always _ _ _ (λ f a r g called. search rules))) in
    (λ is delayed. found.0 (sym c.is_ok.ensures.value ∙ is), λ has. c.is_ok.ensures.value ∙ found.1 (has (search rules)))
