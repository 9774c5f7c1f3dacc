use Rattle.std.proofs.Common.{◌≡◌, ◌∙◌, ap, arith, sym, subst}
use Rattle.std.specs.Map.{values_of}
use Rattle.indexmap.specs.IndexMap.{values}
use Rattle.jm_machine.specs.Attached.{AreCounted}
use Rattle.jm_session.specs.Known.{Listed}
use Rattle.jm_session.specs.Numbers.{IsNumbered, number_of}
use Rattle.jm_session.proofs.Closed.{active_numbers}
use Rattle.jm_session.proofs.roster.Roster.copy.Goals as goal

pub invariant_of-result : goal.invariant_of-result
invariant_of-result c =
    let same = ap values_of c.in_ok-copied_consumers.ensures in
    let listed : c.as_slice.result.now ≡ values c.in_ok-copied_consumers.field-0 = c.as_slice.ensures ∙ sym (ap (λ (k : Listed). k.consumers) c.self.view_is) ∙ sym same in (
      subst (IsNumbered number_of) (sym c.in_ok-copied_consumers.ensures) c.self.invariant.0,
      subst (λ xs. AreCounted xs c.in_ok-attached.attached) listed c.in_ok-attached.ensures,
      omega arith,
      c.in_ok-active.ensures ∙ c.self.invariant.3 ∙ ap active_numbers (sym same),
    )

pub returns : goal.returns
returns c =
    ap values_of c.in_ok-copied_consumers.ensures
    ∙ ap (λ (k : Listed). k.consumers) c.self.view_is
