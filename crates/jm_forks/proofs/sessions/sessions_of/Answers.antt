use Rattle.std.proofs.Common.{◌≡◌, ◌∙◌}
use Rattle.std.specs.Prelude.{◌↔◌, Contains}
use Rattle.std.proofs.lemmas.Result.{IfOk-weaker}
use Rattle.jm_dest.specs.declared.session.SessionId.{SessionId}
use Rattle.jm_forks.specs.Forks.{IsCaller, sessions_of}
use Rattle.jm_forks.proofs.Laws.{listed_callers, sessions_end, sessions_step}
use Rattle.jm_forks.proofs.sessions.sessions_of.Goals as goal

pub loop-part-preserved : goal.loop-part-preserved
loop-part-preserved c =
    sessions_step c.loop-part.sessions.keys c.note_part.new.sessions.keys c.args.parts.now c.loop-part.part-index c.part-item.result _
    c.loop-part-test.true c.part-item.is c.in_ok-note_part.ensures c.loop-part.invariant

pub returns-clause-sessions : goal.returns-clause-sessions
returns-clause-sessions c =
    let all : c.loop-part.sessions.keys ≡ sessions_of c.args.parts.now =
    sessions_end c.loop-part.sessions.keys c.args.parts.now c.loop-part.part-index _ c.loop-part-test.false c.loop-part.invariant in
    IfOk-weaker c.listed.result (λ list. list.items ≡ c.as_slice.result.now) (λ list. list.items ≡ sessions_of c.args.parts.now)
    (λ list e. e ∙ c.as_slice.ensures.keys ∙ all) c.listed.ensures

pub returns-clause-callers : goal.returns-clause-callers
returns-clause-callers c =
    IfOk-weaker c.listed.result (λ list. list.items ≡ sessions_of c.args.parts.now)
    (λ list. (s : SessionId) → Contains list.items s ↔ IsCaller s c.args.parts.now)
    (λ list e. listed_callers list.items c.args.parts.now e) (returns-clause-sessions c)
