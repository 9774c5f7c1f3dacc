use Rattle.std.proofs.Common.{◌≡◌}
use Rattle.jm_base.specs.declared.refusal.MessageFault.TheVariants.{BadName}
use Rattle.jm_property.specs.Properties.{is_allowed, set_fault}
use Rattle.jm_fields.proofs.Items.{where_true-bad_name}
use Rattle.jm_fields.proofs.drafts.set_allowed.Goals as goal

pub returns-in-Err-BadName : goal.returns-in-Err-BadName
returns-in-Err-BadName c =
    let e : BadName ≡ set_fault c.args.name.now c.args.property = rw c.in-Err-BadName.field-0-is at c.in-Err-BadName.ensures.1 in
    (c.in-Err-BadName.ensures.0, λ _. where_true-bad_name (is_allowed c.args.name.now c.args.property) _ e)
