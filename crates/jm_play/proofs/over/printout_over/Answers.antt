use Rattle.std.proofs.Common.{◌≡◌, ◌∙◌, ap, string_bytes}
use Rattle.std.proofs.lemmas.Result.{IfOk-weaker}
use Rattle.std.specs.Prelude.{map}
use Rattle.jm_plans.specs.Provider.{state_of}
use Rattle.jm_scenario.specs.Items.{kind_of}
use Rattle.jm_play.proofs.Both.{both}
use Rattle.jm_play.proofs.Marked.{printed_over}
use Rattle.jm_play.proofs.over.printout_over.Goals as goal

pub returns-clause-told : goal.returns-clause-told
returns-clause-told g c =
    let ran = c.in_ok-replies.ensures in
    let items = c.args.items.items in
    let kinds_same : c.deref-2.result.now ≡ map kind_of items = c.deref-2.ensures.value ∙ c.in_ok-kinds.ensures ∙ ap (map kind_of) c.deref.ensures.value in
    IfOk-weaker c.printout_of.result _ _ (λ printout is.
    printed_over (state_of c.args.core.now) (state_of c.run.new.core) _ _ items c.in_ok-calls.calls.items c.deref-2.result.now c.in_ok-replies.replies.items
    (string_bytes printout.text) printout.status c.in_ok-calls.ensures kinds_same ran.ok ran.isolated ran.store is.0 is.1)
    (both _ _ c.printout_of.result c.printout_of.ensures.text c.printout_of.ensures.status)
