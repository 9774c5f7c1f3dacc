use Rattle.std.proofs.Common.{◌≡◌, ◌==◌, ◌-◌, ◌<◌, ◌∙◌, ℕ, suc, Bool, not, ap, sym, subst, drop, length, map, List, rules, arith}
use Rattle.std.specs.List.{filter}
use Rattle.std.proofs.lemmas.Fn.{filter_same}
use Rattle.std.proofs.lemmas.List.{length-map, take_at}
use Rattle.jm_stations.specs.Backlogs.{is_named}
use Rattle.jm_stations.specs.Outstanding.{Outstanding, AreRising, moved_down, moved_up}
use Rattle.jm_stations.proofs.Rising.{rising_gap, rising_wider, named_gap}
use Rattle.jm_stations.proofs.outstanding.Outstanding.remove_list.Goals as goal

pub invariant_of-self : goal.invariant_of-self
invariant_of-self c =
    let index = c.args.index in
    let stays : ℕ → Bool = λ j. not (j == index) in
    let left : c.retain.new.self.items ≡ filter stays c.self.inside.indexes.items = filter_same _ stays _ (λ x b f' k. search rules) _ _ c.retain.ensures.filtered in
    let moved : c.close_gap.new.indexes ≡ map (moved_up index) (filter stays c.self.inside.indexes.items) = c.close_gap.ensures ∙ ap (map (moved_up index)) (c.deref_mut.ensures.value ∙ left) in
    let long : length c.close_gap.new.indexes ≡ c.retain.new.self.len = ap length c.close_gap.ensures ∙ length-map c.deref_mut.result.now (moved_up index) ∙ c.deref_mut.ensures.len in
    let all = take_at c.close_gap.new.indexes (drop (length c.close_gap.new.indexes) c.retain.new.self.items) c.retain.new.self.len long ∙ moved in
    let within : index < c.self.inside.number = rw (← c.self.view_is) at c.requires in
    let rises : AreRising 0 (c.self.inside.number - 1) (map (moved_up index) (filter stays c.self.inside.indexes.items)) = rising_gap 0 (c.self.inside.number - 1) index c.self.inside.indexes.items (rising_wider 0 c.self.inside.number 0 (suc (c.self.inside.number - 1)) c.self.inside.indexes.items (omega arith) (omega (arith, within)) c.self.invariant.0) (omega arith) (omega (arith, within)) in
    (subst (AreRising 0 (c.self.inside.number - 1)) (sym all) rises, omega (arith, c.retain.ensures.capacity, c.self.invariant.1))

pub returns-clause-named : goal.returns-clause-named
returns-clause-named c = λ k.
    let index = c.args.index in
    let stays : ℕ → Bool = λ j. not (j == index) in
    let left : c.retain.new.self.items ≡ filter stays c.self.inside.indexes.items = filter_same _ stays _ (λ x b f' k. search rules) _ _ c.retain.ensures.filtered in
    let moved : c.close_gap.new.indexes ≡ map (moved_up index) (filter stays c.self.inside.indexes.items) = c.close_gap.ensures ∙ ap (map (moved_up index)) (c.deref_mut.ensures.value ∙ left) in
    let long : length c.close_gap.new.indexes ≡ c.retain.new.self.len = ap length c.close_gap.ensures ∙ length-map c.deref_mut.result.now (moved_up index) ∙ c.deref_mut.ensures.len in
    let all = take_at c.close_gap.new.indexes (drop (length c.close_gap.new.indexes) c.retain.new.self.items) c.retain.new.self.len long ∙ moved in
    ap (λ (is : List ℕ). is_named is k) all ∙ named_gap index k c.self.inside.indexes.items ∙ ap (λ (o : Outstanding). is_named o.indexes (moved_down index k)) c.self.view_is
