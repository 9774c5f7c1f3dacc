use Rattle.jm_keep_law.proofs.Calls.{changes_lead}
use Rattle.jm_changes.proofs.Listed.{ok_map}
use Rattle.jm_changes.proofs.listing.changes.Goals as goal

pub returns-clause-leads : goal.returns-clause-leads
returns-clause-leads g c =
    λ ok. ok_map c.listed.result _ _ (λ changes listed. changes_lead (g.P.Planned.state c.args.planned.now) c.args.step.now.who c.args.step.now.call changes.items c.requires.order ok listed) c.listed.ensures
