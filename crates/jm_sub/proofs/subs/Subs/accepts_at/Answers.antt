use Rattle.std.proofs.Common.{◌∙◌, ap, arith, length, sym, Some}
use Rattle.std.specs.Prelude.{option_map}
use Rattle.std.specs.Option.{option_copied}
use Rattle.jm_machine.specs.Machine.{accepts}
use Rattle.jm_sub.specs.Subscriptions.{publisher, takes}
use Rattle.jm_sub.proofs.Listed.{entry_at}
use Rattle.jm_sub.proofs.Changed.{length_subscriptions}
use Rattle.jm_sub.proofs.subs.Subs.accepts_at.Goals as goal

pub entry_at-requires : goal.entry_at-requires
entry_at-requires c = omega (arith, c.requires, ap (λ s. length s.list) c.self.view_is, length_subscriptions c.self.inside.items.entries)

pub returns : goal.returns
returns c =
    rw (← c.self.view_is) (
    ap (option_map (takes (publisher c.args.message.now (option_copied c.args.client)) c.args.message.now)) (entry_at c.self.inside.items.entries c.args.at (c.entry_at.result.0.now, c.entry_at.result.1.now) c.entry_at.ensures)
    ∙ ap (λ d. Some (accepts c.entry_at.result.0.now d (publisher c.args.message.now (option_copied c.args.client)) c.args.message.now)) (sym c.get.ensures)
    ∙ ap (λ b. Some b) (sym c.accepts.ensures))
