use Rattle.std.proofs.Common.{rules, ◌-◌}
use Rattle.jm_machine.proofs.Counts.{none_left, one_less}
use Rattle.jm_machine.proofs.attached.Attached.leave.Goals as goal

pub returns-then-number-le1-clause-number : goal.returns-then-number-le1-clause-number
returns-then-number-le1-clause-number c = λ k.
    rw (← c.self.view_is) (none_left c.self.inside.counts.entries c.remove.new.self.entries c.args.key.now (search rules) c.remove.ensures.updates k)

pub returns-in-Some-clause-number : goal.returns-in-Some-clause-number
returns-in-Some-clause-number c = λ k.
    let n = c.number-number.result - 1 in
    rw (← c.self.view_is) (one_less c.self.inside.counts.entries (c.get_mut.follows.lender n).entries c.args.key.now n (search rules) ((c.get_mut.follows.holds n).updates (search rules)) k)
