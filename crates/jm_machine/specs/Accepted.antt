-- What is held for a subscription was accepted by it.
use Rattle.std.specs.Prelude.{◌≡◌, true, List, [], ◌∷◌, Option, Ok}
use Rattle.jm_header.specs.declared.content.Content.{Content}
use Rattle.jm_tree.specs.declared.tree.Tree.{Tree}
use Rattle.jm_eval.specs.Evaluation.{Selects}
use Rattle.jm_eval.specs.Views.{view}
use Rattle.jm_machine.specs.declared.state.Definition.{Definition}
use Rattle.jm_machine.specs.declared.state.PlacedRow.{PlacedRow}
use Rattle.jm_machine.specs.declared.state.Station.{Station}
use Rattle.jm_machine.specs.Machine.{is_to}
use Rattle.jm_selector.specs.Selectors.{selector_read}

-- the message goes to the topic, and the tree of the selector is TRUE for it, or there is no tree
abbrev pub IsAccepted : Definition → Content → Type 0
IsAccepted d m = (is_to d.topic m.destination ≡ true) × ((tree : Option Tree) × ((selector_read d.selector ≡ Ok tree) × Selects (view m) tree))

-- each row's message is accepted
abbrev pub AllAccepted : Definition → List PlacedRow → Type 0
AllAccepted d [] = Unit {0}
AllAccepted d (x ∷ rows) = IsAccepted d x.row.message × AllAccepted d rows

-- each row is accepted by the subscription that holds it
abbrev pub HoldsAccepted : List Station → Type 0
HoldsAccepted [] = Unit {0}
HoldsAccepted (x ∷ stations) = AllAccepted x.definition x.rows × HoldsAccepted stations
