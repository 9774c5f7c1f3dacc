use Rattle.std.proofs.Common.{◌≡◌, ◌∙◌, ℕ, Bool, ap, drop, get_or, length, map, rules, take}
use Rattle.std.specs.Prelude.{nat_lt}
use Rattle.std.specs.List.{filter}
use Rattle.std.proofs.lemmas.Fn.{filter_same}
use Rattle.std.proofs.lemmas.List.{length-map, take_at}
use Rattle.jm_grouped.proofs.sweep.keep_places.Goals as goal

pub returns-clause-items : goal.returns-clause-items
returns-clause-items c =
    let marks = c.args.marks.now in
    let stays : ℕ → Bool = λ n. nat_lt n (length marks) in
    let replaced = c.replace_each.new.order in
    let long : length replaced ≡ c.args.order.now.len = ap length c.replace_each.ensures ∙ length-map c.deref_mut.result.now (λ n. get_or marks n 0) ∙ c.deref_mut.ensures.len in
    let left : c.retain.new.self.items ≡ filter stays (take c.args.order.now.len _) = filter_same _ stays _ (λ x b f' k. search rules) _ _ c.retain.ensures.filtered in
    left ∙ ap (filter stays) (take_at replaced (drop (length replaced) c.args.order.now.items) c.args.order.now.len long ∙ c.replace_each.ensures ∙ ap (map (λ n. get_or marks n 0)) c.deref_mut.ensures.value)
