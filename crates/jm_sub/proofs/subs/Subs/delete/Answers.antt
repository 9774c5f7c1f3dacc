use Rattle.std.proofs.Common.{◌∙◌, ap, sym}
use Rattle.std.specs.List.{remove}
use Rattle.jm_sub.specs.Subscriptions.{Subscriptions, without}
use Rattle.jm_sub.proofs.Changed.{removed_at, without_absent}
use Rattle.jm_sub.proofs.subs.Subs.delete.Goals as goal

pub returns-in-Some-clause-list : goal.returns-in-Some-clause-list
returns-in-Some-clause-list c =
    let list = ap (λ (v : Subscriptions). v.list) c.self.view_is in
    c.take_out.ensures.list ∙ ap (λ ss. remove ss c.in-Some.index) (sym list)
    ∙ removed_at c.args.key.now c.self.inside.items.entries c.in-Some.index c.len-number.ensures.once (sym c.in-Some.ensures.index) ∙ ap (without c.args.key.now) list

pub returns-in_default-clause-list : goal.returns-in_default-clause-list
returns-in_default-clause-list c =
    let list = ap (λ (v : Subscriptions). v.list) c.self.view_is in
    sym list ∙ without_absent c.args.key.now c.self.inside.items.entries (sym c.in_default.ensures.found) ∙ ap (without c.args.key.now) list
