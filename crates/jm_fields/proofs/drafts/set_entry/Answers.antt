use Rattle.std.proofs.Common.{◌≡◌, None, arith, rules}
use Rattle.serde_json.specs.View.{items_view}
use Rattle.jm_fields.proofs.Items.{with_three-others}
use Rattle.jm_fields.specs.Drafts.{with_three}
use Rattle.jm_fields.proofs.drafts.set_entry.Goals as goal

pub returns-then-parts-ne3 : goal.returns-then-parts-ne3
returns-then-parts-ne3 c =
    let values = c.as_slice-parts.result.now in
    let none : with_three (items_view values) c.args.draft.now ≡ None = with_three-others values c.args.draft.now (λ e. omega arith) in
    search rules
