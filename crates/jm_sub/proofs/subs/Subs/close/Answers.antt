use Rattle.std.proofs.Common.{◌≡◌, ◌∙◌, ap, arith, sym}
use Rattle.jm_sub.specs.Subscriptions.{Subscriptions, number_of_shared, without_ended, without_own}
use Rattle.jm_sub.proofs.Ended.{only_own, own_first}
use Rattle.jm_sub.proofs.subs.Subs.close.Goals as goal

pub returns-then-self-gt0-clause-list : goal.returns-then-self-gt0-clause-list
returns-then-self-gt0-clause-list c =
    c.delete_ended.ensures.list ∙ ap (without_ended c.args.which.now c.args.attached.now) c.delete_own.ensures.list ∙ own_first c.args.which.now c.args.attached.now c.args.self.now.list

pub returns-else-self-gt0-clause-list : goal.returns-else-self-gt0-clause-list
returns-else-self-gt0-clause-list c =
    let none : c.self.inside.shared ≡ 0 = omega arith in
    let no_shared : number_of_shared (without_own c.args.which.now c.args.self.now.list) ≡ 0 =
    ap number_of_shared (sym c.delete_own.ensures.list) ∙ sym (ap (λ (v : Subscriptions). number_of_shared v.list) c.self.view_is) ∙ sym c.self.invariant.1 ∙ none in
    c.delete_own.ensures.list ∙ only_own c.args.which.now c.args.attached.now c.args.self.now.list no_shared
