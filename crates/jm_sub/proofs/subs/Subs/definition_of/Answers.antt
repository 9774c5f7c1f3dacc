use Rattle.std.proofs.Common.{◌∙◌, ap, sym, Some}
use Rattle.std.specs.Option.{option_copied}
use Rattle.jm_sub.proofs.Listed.{definition_found}
use Rattle.jm_sub.proofs.subs.Subs.definition_of.Goals as goal

pub returns-in-None : goal.returns-in-None
returns-in-None c = rw (← c.self.view_is) (ap option_copied (sym c.in-None.is) ∙ c.get.ensures ∙ definition_found c.args.key.now c.self.inside.items.entries)

pub returns-in-Some : goal.returns-in-Some
returns-in-Some c =
    rw (← c.self.view_is) (ap (λ d. Some d) c.get-in-Some.ensures ∙ ap option_copied (sym c.in-Some.is) ∙ c.get.ensures ∙ definition_found c.args.key.now c.self.inside.items.entries)
