use Rattle.std.proofs.Common.{◌∙◌, ap, arith, sym, subst}
use Rattle.std.specs.Map.{values_of}
use Rattle.jm_machine.specs.Attached.{AreCounted}
use Rattle.jm_session.specs.Numbers.{IsNumbered, number_of}
use Rattle.jm_session.specs.Opened.{AreActive}
use Rattle.jm_session.proofs.Found.{one_numbered, one_value}
use Rattle.jm_session.proofs.roster.Roster.of_one.Goals as goal

pub invariant_of-result : goal.invariant_of-result
invariant_of-result c = (
  subst (IsNumbered number_of) (sym c.in_ok-consumers.ensures) (one_numbered number_of c.args.consumer),
  subst (λ xs. AreCounted xs c.in_ok-attached.attached) (c.as_slice.ensures ∙ c.values.ensures.rest) c.in_ok-attached.ensures,
  omega arith,
  subst (λ xs. AreActive xs c.in_ok-active.active) (sym (ap values_of c.in_ok-consumers.ensures ∙ one_value number_of c.args.consumer)) c.in_ok-active.ensures,
)

pub returns : goal.returns
returns c = ap values_of c.in_ok-consumers.ensures ∙ one_value number_of c.args.consumer
