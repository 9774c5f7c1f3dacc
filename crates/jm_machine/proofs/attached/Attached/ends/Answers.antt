use Rattle.std.proofs.Common.{ap, ◌∙◌, nat_eq}
use Rattle.jm_dest.specs.declared.key.Key.TheVariants.{Own, SharedOwn}
use Rattle.jm_machine.specs.Attached.{number_at}
use Rattle.jm_machine.proofs.Ends.{ends_so}
use Rattle.jm_machine.proofs.attached.Attached.ends.Goals as goal

pub returns-in-Own-clause-before : goal.returns-in-Own-clause-before
returns-in-Own-clause-before c =
    rw c.in-Own.is
    (λ consumers own made counted. c.include.ensures ∙ ends_so c.args.which.now consumers c.args.self.now own counted (Own c.in-Own.session c.in-Own.id) made)

pub returns-in-SharedOwn-clause-before : goal.returns-in-SharedOwn-clause-before
returns-in-SharedOwn-clause-before c =
    rw c.in-SharedOwn.is
    (λ consumers own made counted.
    ap (λ n. nat_eq n 0) (c.number.ensures ∙ ap (number_at c.args.self.now) c.in-SharedOwn.is)
    ∙ ends_so c.args.which.now consumers c.args.self.now own counted (SharedOwn c.in-SharedOwn.field-0 c.in-SharedOwn.field-1) made)
