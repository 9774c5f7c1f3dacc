use Rattle.std.proofs.Common.{◌≡◌, ◌∙◌, ap, sym}
use Rattle.std.specs.Prelude.{nat_eq}
use Rattle.std.specs.List.{dedup}
use Rattle.std.specs.Set.{is_member}
use Rattle.std.proofs.lemmas.List.Filters.{dedup_is}
use Rattle.std.proofs.lemmas.List.Sorted.{list_any-IsPermutation}
use Rattle.std.proofs.lemmas.Map.Keys.{IsStrictlyIncreasing-dedup}
use Rattle.jm_sub.proofs.Places.{dedup_same}
use Rattle.jm_sub.proofs.accepting.put_in_order.Goals as goal

pub returns-then-not-is_rising-clause-order : goal.returns-then-not-is_rising-clause-order
returns-then-not-is_rising-clause-order c =
    let once : c.dedup.new.self.items ≡ dedup nat_eq c.sort_unstable.new.self.items = dedup_is nat_eq c.sort_unstable.new.self.items c.dedup.new.self.items c.dedup.ensures.filtered in
    rw once (IsStrictlyIncreasing-dedup c.sort_unstable.new.self.items c.sort_unstable.ensures.sorted)

pub returns-then-not-is_rising-clause-same : goal.returns-then-not-is_rising-clause-same
returns-then-not-is_rising-clause-same c = λ at.
    let once : c.dedup.new.self.items ≡ dedup nat_eq c.sort_unstable.new.self.items = dedup_is nat_eq c.sort_unstable.new.self.items c.dedup.new.self.items c.dedup.ensures.filtered in
    ap (λ ps. is_member nat_eq ps at) once ∙ dedup_same c.sort_unstable.new.self.items at
    ∙ sym (list_any-IsPermutation (nat_eq at) c.args.places.now.items c.sort_unstable.new.self.items c.sort_unstable.ensures.permutation)
