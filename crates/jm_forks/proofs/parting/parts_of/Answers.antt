use Rattle.std.proofs.Common.{ap, sym, subst, ◌∙◌, rules}
use Rattle.std.specs.Prelude.{All}
use Rattle.jm_forks.specs.Forks.{IsBySessions, calls_of_parts}
use Rattle.jm_forks.proofs.Laws.{calls_of_parts-parts, parts-by_sessions}
use Rattle.jm_forks.proofs.parting.parts_of.Goals as goal

pub returns-clause-parts : goal.returns-clause-parts
returns-clause-parts c = search rules

pub returns-clause-calls : goal.returns-clause-calls
returns-clause-calls c = ap calls_of_parts (returns-clause-parts c) ∙ calls_of_parts-parts c.args.items.items

pub returns-clause-by_sessions : goal.returns-clause-by_sessions
returns-clause-by_sessions c = λ well.
    subst (λ ps. All IsBySessions ps) (sym (returns-clause-parts c)) (parts-by_sessions c.args.items.items well)
