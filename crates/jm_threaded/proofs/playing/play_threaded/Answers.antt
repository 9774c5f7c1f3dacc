use Rattle.std.proofs.Common.{◌≡◌, ◌∙◌, subst, sym}
use Rattle.std.specs.Prelude.{All}
use Rattle.jm_plans.specs.Provider.{state_of}
use Rattle.jm_forks.specs.Forks.{IsBySessions}
use Rattle.jm_forks.proofs.Laws.{parts-by_sessions}
use Rattle.jm_threaded.proofs.Played.{if_there, played}
use Rattle.jm_threaded.proofs.playing.play_threaded.Goals as goal

pub returns-in-Ok-made-clause-played : goal.returns-in-Ok-made-clause-played
returns-in-Ok-made-clause-played g c =
    if_there c.play_script.result.outcome
    (λ told ran.
    rw (← c.opening-opening.ensures)
    (played c.opening-opening.result c.args.items.items c.in-Ok.script.parts.items told.replies.items told.verdict (state_of c.play_script.result.core) c.in-Ok.ensures.parts ran))
    c.play_script.ensures.ran

pub returns-in-Ok-made-clause-seated : goal.returns-in-Ok-made-clause-seated
returns-in-Ok-made-clause-seated g c = λ well.
    c.play_script.ensures.seated (subst (λ ps. All IsBySessions ps) (sym c.in-Ok.ensures.parts) (parts-by_sessions c.args.items.items well))

pub returns-in-Err-clause-kept : goal.returns-in-Err-clause-kept
returns-in-Err-clause-kept g c = λ clean.
    let core : c.without_memory-in-Err.result.core ≡ c.args.core = c.without_memory-in-Err.ensures.core ∙ c.in-Err.ensures.0 in
    let keeper : c.without_memory-in-Err.result.keeper ≡ c.args.keeper = c.without_memory-in-Err.ensures.keeper ∙ c.in-Err.ensures.1 in
    rw (core, keeper) (c.requires.kept (rw keeper at clean))

pub returns-in-Err-clause-seated : goal.returns-in-Err-clause-seated
returns-in-Err-clause-seated g c = λ well. rw c.without_memory-in-Err.ensures.outcome (λ e. cc)
