use Rattle.std.proofs.Common.{◌≡◌, ◌==◌, ℕ, Bool, not, rules, arith}
use Rattle.std.specs.List.{filter}
use Rattle.std.proofs.lemmas.Fn.{filter_same}
use Rattle.jm_stations.proofs.Rising.{rising_filter, named_filter}
use Rattle.jm_stations.proofs.outstanding.Outstanding.remove_where.Goals as goal

pub invariant_of-self : goal.invariant_of-self
invariant_of-self c =
    let stays : ℕ → Bool = λ j. not (j == c.args.index) in
    let left : c.retain.new.self.items ≡ filter stays c.self.inside.indexes.items = filter_same _ stays _ (λ x b f' k. search rules) _ _ c.retain.ensures.filtered in
    (rw left (rising_filter 0 c.self.inside.number stays c.self.inside.indexes.items c.self.invariant.0), omega (arith, c.retain.ensures.capacity, c.self.invariant.1))

pub returns-then-is_home-clause-named : goal.returns-then-is_home-clause-named
returns-then-is_home-clause-named c = λ k.
    let stays : ℕ → Bool = λ j. not (j == c.args.index) in
    let left : c.retain.new.self.items ≡ filter stays c.self.inside.indexes.items = filter_same _ stays _ (λ x b f' k. search rules) _ _ c.retain.ensures.filtered in
    rw (left, ← c.self.view_is, c.if-is_home.true) (named_filter c.args.index k c.self.inside.indexes.items)
