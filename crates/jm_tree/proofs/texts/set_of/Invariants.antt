use Rattle.std.proofs.Common.{◌≡◌, ℕ, List, take}
use Rattle.std.specs.BTreeSet.{contains_text}
use Rattle.jm_tree.specs.Names.{is_among}
use Rattle.jm_tree.proofs.texts.set_of.Given as goal

abbrev pub invariant-loop-text : goal.invariant-loop-text
invariant-loop-text l = (text : List ℕ) → contains_text l.set text ≡ is_among text (take l.text-index l.texts)
