use Rattle.std.proofs.Common.{◌∙◌, ◌<◌, ap, arith, length, sym}
use Rattle.std.specs.List.{remove}
use Rattle.jm_sub.specs.Entries.{subscriptions_of}
use Rattle.jm_sub.specs.Subscriptions.{Subscriptions, number_of_shared}
use Rattle.jm_sub.proofs.Changed.{channels_less, length_subscriptions, subscriptions_less}
use Rattle.jm_sub.proofs.Shared.{number_less}
use Rattle.jm_sub.proofs.subs.Subs.take_out.Goals as goal

pub overflow_sub-self : goal.overflow_sub-self
overflow_sub-self c =
    let within : c.args.index < length c.self.inside.items.entries = omega (arith, c.requires, ap (λ (v : Subscriptions). length v.list) c.self.view_is, length_subscriptions c.self.inside.items.entries) in
    omega (arith, c.shared_own.ensures, number_less c.key_at.result.now c.self.inside.items.entries c.args.index within c.key_at.ensures, c.self.invariant.1)

pub invariant_of-self : goal.invariant_of-self
invariant_of-self c =
    let within : c.args.index < length c.self.inside.items.entries = omega (arith, c.requires, ap (λ (v : Subscriptions). length v.list) c.self.view_is, length_subscriptions c.self.inside.items.entries) in
    let es = c.self.inside.items.entries in (
      c.remove_at-2.ensures.items ∙ ap (λ cs. remove cs c.args.index) c.self.invariant.0 ∙ sym (rw c.remove_at.ensures.entries (channels_less es c.args.index)),
      omega (arith, c.shared_own.ensures, number_less c.key_at.result.now es c.args.index within c.key_at.ensures, ap (λ xs. number_of_shared (subscriptions_of xs)) c.remove_at.ensures.entries, c.self.invariant.1),
    )

pub returns-clause-list : goal.returns-clause-list
returns-clause-list c = rw (← c.self.view_is) (ap subscriptions_of c.remove_at.ensures.entries ∙ subscriptions_less c.self.inside.items.entries c.args.index)
