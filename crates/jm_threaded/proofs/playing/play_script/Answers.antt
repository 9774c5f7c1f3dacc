use Rattle.std.proofs.Common.{◌∙◌}
use Rattle.jm_forks.specs.Forks.{sessions_of}
use Rattle.jm_threaded.proofs.Played.{are_new, if_there}
use Rattle.jm_threaded.proofs.playing.play_script.Goals as goal

pub returns-in-Ok-clause-ran : goal.returns-in-Ok-clause-ran
returns-in-Ok-clause-ran g c =
    let seats = c.in-Ok.seats in
    let all = sessions_of c.args.script.parts.items in
    let new = are_new c.args.opening c.deref.result.now all seats (c.deref.ensures.value ∙ c.requires) c.in-Ok.ensures.halves c.in-Ok.ensures.unused in
    if_there c.play_seated.result.outcome (λ told ran. (seats, new, ran)) c.play_seated.ensures.ran

pub returns-in-Ok-clause-seated : goal.returns-in-Ok-clause-seated
returns-in-Ok-clause-seated g c =
    let all = sessions_of c.args.script.parts.items in
    c.play_seated.ensures.seated c.args.opening
    (are_new c.args.opening c.deref.result.now all c.in-Ok.seats (c.deref.ensures.value ∙ c.requires) c.in-Ok.ensures.halves c.in-Ok.ensures.unused)

pub returns-in-Err-clause-kept : goal.returns-in-Err-clause-kept
returns-in-Err-clause-kept g c = rw c.without_replies.ensures.keeper (rw c.without_replies.ensures.core c.finish.ensures.kept)

pub returns-in-Err-clause-seated : goal.returns-in-Err-clause-seated
returns-in-Err-clause-seated g c = λ all. rw c.without_replies.ensures.outcome c.seats_fault_of.ensures
