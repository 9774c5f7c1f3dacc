use Rattle.std.proofs.Common.{◌≡◌, ◌∙◌, ◌++◌, ◌∷◌, [], arith, ap}
use Rattle.std.proofs.lemmas.List.{replicate-append-replicate}
use Rattle.jm_indexed.proofs.Copied.{all_held, held}
use Rattle.jm_indexed.proofs.copy.units.Goals as goal

pub loop-made-preserved : goal.loop-made-preserved
loop-made-preserved c = record {
  slots = c.push.ensures.slots ∙ ap (λ xs. xs ++ held ∷ []) c.loop-made.invariant.slots ∙ replicate-append-replicate c.loop-made._made 1 held;
  room = omega arith;
}

pub returns : goal.returns
returns c = let same : c.loop-made._made ≡ c.args.n = omega arith in c.loop-made.invariant.slots ∙ ap all_held same
