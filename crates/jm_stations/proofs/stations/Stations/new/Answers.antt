use Rattle.std.proofs.Common.{◌∙◌, [], ap, arith, length, subst, sym}
use Rattle.std.specs.List.{IsDistinct}
use Rattle.jm_dest.specs.Keys.{key_eq}
use Rattle.jm_stations.proofs.Publishing.{nothing_kept}
use Rattle.jm_stations.proofs.stations.Stations.new.Goals as goal

none_twice : IsDistinct key_eq []
unfolding IsDistinct
none_twice = search

pub invariant_of-result : goal.invariant_of-result
invariant_of-result c = (
  nothing_kept c.new-3.result c.new-2.result.items c.new-2.ensures.items c.new-3.ensures,
  c.new-4.ensures.number ∙ sym (ap length c.new-2.ensures.items),
  λ k d l none. absurd (omega (arith, l, ap length c.new-2.ensures.items)),
  ap length c.new.ensures ∙ sym (ap length c.new-2.ensures.items),
  subst (IsDistinct key_eq) (sym c.new.ensures) none_twice,
  λ h k d l. absurd (omega (arith, l, ap length c.new.ensures)),
)
