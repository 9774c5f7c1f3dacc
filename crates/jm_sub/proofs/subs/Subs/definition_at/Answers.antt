use Rattle.std.proofs.Common.{◌∙◌, ap, arith, length, sym, Some}
use Rattle.std.specs.Prelude.{option_map}
use Rattle.jm_sub.specs.Subscriptions.{Subscription}
use Rattle.jm_sub.proofs.Listed.{entry_at}
use Rattle.jm_sub.proofs.Changed.{length_subscriptions}
use Rattle.jm_sub.proofs.subs.Subs.definition_at.Goals as goal

pub entry_at-requires : goal.entry_at-requires
entry_at-requires c = omega (arith, c.requires, ap (λ s. length s.list) c.self.view_is, length_subscriptions c.self.inside.items.entries)

pub returns : goal.returns
returns c = rw (← c.self.view_is) (ap (option_map (λ (s : Subscription). s.definition)) (entry_at c.self.inside.items.entries c.args.at (c.entry_at.result.0.now, c.entry_at.result.1.now) c.entry_at.ensures) ∙ ap (λ d. Some d) (sym c.get.ensures))
