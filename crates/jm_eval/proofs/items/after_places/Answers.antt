use Rattle.std.proofs.Common.{◌∷◌, ◌∙◌}
use Rattle.jm_tree.specs.declared.pattern.Item.TheVariants.{Any}
use Rattle.jm_eval.proofs.Places.{found_after}
use Rattle.jm_eval.proofs.items.after_places.Goals as goal

pub returns-in-Some : goal.returns-in-Some
returns-in-Some c = λ is. c.search.invariant.0 (Any ∷ is) ∙ found_after c.args.places.now _ _ c.in-Some.ensures.0 c.in-Some.ensures.1 is
