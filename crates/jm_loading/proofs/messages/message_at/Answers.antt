use Rattle.std.proofs.Common.{rules, ap, nat_cmp, sym, ◌∙◌}
use Rattle.std.proofs.lemmas.Cmp.{nat_cmp_total, tied_itself}
use Rattle.std.proofs.lemmas.List.Sorted.{answers_always}
use Rattle.jm_parts.specs.declared.stored.StoredMessage.{StoredMessage}
use Rattle.jm_loading.proofs.Paired.{placed_rise}
use Rattle.jm_loading.proofs.Search.{found_at, none_left}
use Rattle.jm_loading.proofs.messages.message_at.Goals as goal

pub returns-clause-there : goal.returns-clause-there
returns-clause-there c =
    let facts = c.binary_search_by_key.ensures in
    found_at (λ (m : StoredMessage). m.place) _ c.args.place _ _ facts.bound (facts.position (λ (m : StoredMessage). m.place) (answers_always _ _ _ (λ f a r g called. search rules))) c.ok.ensures.value

pub returns-clause-none : goal.returns-clause-none
returns-clause-none c placed none k d l same =
    let facts = c.binary_search_by_key.ensures in
    none_left nat_cmp_total (λ (m : StoredMessage). m.place) c.args.messages.now (placed_rise 1 c.args.messages.now placed) c.args.place _ (facts.position (λ (m : StoredMessage). m.place) (answers_always _ _ _ (λ f a r g called. search rules)))
    (sym c.ok.ensures.value ∙ none) k d l (ap (λ p. nat_cmp p c.args.place) same ∙ tied_itself nat_cmp_total c.args.place)
