use Rattle.std.proofs.Common.{◌≡◌, None, arith, rules}
use Rattle.serde_json.specs.View.{items_view}
use Rattle.jm_fields.proofs.Items.{misfit_of_items-others, session_of_items-others}
use Rattle.jm_fields.specs.Misfits.{misfit_of_items}
use Rattle.jm_fields.specs.Values.{session_of_items}
use Rattle.jm_fields.specs.declared.field.Field.TheVariants.{Session}
use Rattle.jm_fields.specs.declared.misfit.Misfit.TheVariants.{Shape}
use Rattle.jm_fields.proofs.value.session_in.Goals as goal

pub returns-then-numbers-ne2 : goal.returns-then-numbers-ne2
returns-then-numbers-ne2 c =
    let values = c.as_slice-numbers.result.now in
    let none : session_of_items (items_view values) ≡ None = session_of_items-others values (λ e. omega arith) in
    let told : misfit_of_items (items_view values) ≡ Shape Session = misfit_of_items-others values (λ e. omega arith) in
    search rules
