use Rattle.std.proofs.Common.{◌∙◌, sym}
use Rattle.std.specs.Option.{option_copied}
use Rattle.jm_sub.specs.Subscriptions.{publisher}
use Rattle.jm_sub.proofs.Heard.{to_queue}
use Rattle.jm_sub.proofs.subs.Subs.accepting_places.Goals as goal

pub returns-in_default-clause-ok : goal.returns-in_default-clause-ok
returns-in_default-clause-ok c =
    c.new.ensures.items
    ∙ to_queue (publisher c.args.message.now (option_copied c.args.client)) c.args.message.now c.in_default.field-0 c.args.self.now.list (sym c.destination.ensures ∙ c.in_default.is)
