use Rattle.std.proofs.Common.{◌∙◌, ℕ, List, nat_cmp, rules}
use Rattle.std.specs.Cmp.Lexicographic.{slice_cmp}
use Rattle.std.proofs.lemmas.Fn.{always_returns_same}
use Rattle.jm_loading.proofs.Search.{any_queue}
use Rattle.jm_loading.proofs.taking.has_queue.Goals as goal

pub returns : goal.returns
returns c =
    let facts = c.binary_search_by.ensures in
    c.is_ok.ensures.value ∙ any_queue c.args.queues.now c.args.name.now _ c.requires facts.bound (facts.position (λ (queue : List ℕ). slice_cmp nat_cmp queue c.args.name.now) (always_returns_same _ _ _ (λ a r g called. (search rules, search rules))))
