use Rattle.std.proofs.Common.{sym, ◌∙◌}
use Rattle.jm_client.proofs.Causes.{found_told, other_told, wanted_told, told_as}
use Rattle.jm_client.proofs.shared.error_of.Goals as goal

pub returns-then-not-has_cause-clause-told : goal.returns-then-not-has_cause-clause-told
returns-then-not-has_cause-clause-told c =
    told_as _ _ _ _ _ c.new.ensures (other_told c.law_explained.ensures _ _ _ _ (sym c.has_cause.ensures ∙ c.if-not-has_cause.true) c.requires)

pub returns-in-Ok-clause-told : goal.returns-in-Ok-clause-told
returns-in-Ok-clause-told c =
    told_as _ _ _ _ _ c.new-in-Ok.ensures (found_told _ _ _ _ _ (sym c.has_cause.ensures ∙ c.if-not-has_cause.false) c.requires c.in-Ok.ensures.ok)

pub returns-in-Err-clause-told : goal.returns-in-Err-clause-told
returns-in-Err-clause-told c =
    told_as _ _ _ _ _ c.new-in-Err.ensures
    (wanted_told c.law_explained.ensures _ _ _ _ (sym c.has_cause.ensures ∙ c.if-not-has_cause.false) c.in-Err.ensures.memory c.requires)
