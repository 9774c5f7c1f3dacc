use Rattle.std.proofs.Common.{rules, ◌∙◌, ap, nat_le}
use Rattle.std.proofs.lemmas.Fn.{filter_same}
use Rattle.jm_audit.specs.declared.pass.PassEntry.{PassEntry}
use Rattle.jm_audit.specs.Passes.{Calls, not_below}
use Rattle.jm_audit.proofs.pass.Pass.forget.Goals as goal

pub returns-clause-entries : goal.returns-clause-entries
returns-clause-entries g c =
    filter_same _ (λ (e : PassEntry). nat_le c.args.first e.position) _ (λ x b f' k. search rules) _ _ c.retain.ensures.filtered
    ∙ ap (λ (x : Calls). not_below c.args.first x.entries) c.self.view_is
