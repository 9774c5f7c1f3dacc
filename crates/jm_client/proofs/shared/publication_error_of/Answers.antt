use Rattle.std.proofs.Common.{sym, ◌∙◌}
use Rattle.jm_client.proofs.Causes.{found_told, other_told, told_as}
use Rattle.jm_client.proofs.shared.publication_error_of.Goals as goal

pub returns-then-not-has_cause-clause-told : goal.returns-then-not-has_cause-clause-told
returns-then-not-has_cause-clause-told c = λ message stamped refused.
    told_as _ _ _ _ _ c.new.ensures (other_told c.law_explained.ensures _ _ _ _ (sym c.has_cause.ensures ∙ c.if-not-has_cause.true) refused)

pub returns-clause-told : goal.returns-clause-told
returns-clause-told c = λ message stamped refused.
    told_as _ _ _ _ _ c.new-2.ensures (found_told _ _ _ _ _ (sym c.has_cause.ensures ∙ c.if-not-has_cause.false) refused (c.send_why-cause.ensures message stamped))
