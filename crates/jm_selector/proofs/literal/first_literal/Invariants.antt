use Rattle.std.proofs.Common.{◌≡◌, drop}
use Rattle.jm_selector.specs.Literals.{first_literal}
use Rattle.jm_selector.proofs.literal.first_literal.Given as goal

abbrev pub invariant-loop-member : goal.invariant-loop-member
invariant-loop-member l = first_literal l.fn.members ≡ first_literal (drop l.member-index l.members)
