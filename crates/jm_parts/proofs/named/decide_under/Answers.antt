use Rattle.std.proofs.Common.{◌∙◌, sym}
use Rattle.std.proofs.lemmas.Result.{err_from_is_err_and}
use Rattle.jm_parts.specs.Named.{asked_by}
use Rattle.jm_parts.proofs.Naming.{had_by, had_refused, room_beside}
use Rattle.jm_parts.proofs.named.decide_under.Goals as goal

pub returns-in_err-decision-clause-refused : goal.returns-in_err-decision-clause-refused
returns-in_err-decision-clause-refused c =
    let p = err_from_is_err_and c.from_residual.result c.from_residual.ensures.1 in
    let w = c.args.wanted.now in
    let idle = c.is_idle-is_idle.ensures c.requires.named in
    let had = had_by w.sharing c.args.key.now (asked_by c.args.topic.now w) c.args.sessions.now.consumers c.args.subs.now.list c.args.stations.now.keys c.args.stations.now.list c.is_idle-is_idle.result c.is_home-is_home.result idle c.is_home-is_home.ensures in
    rw (p.1, p.2) (had_refused w.selector.now c.in_err-decision.field-0.0 _ _ had c.in_err-decision.ensures.refused)

pub returns-clause-had : goal.returns-clause-had
returns-clause-had c =
    let w = c.args.wanted.now in
    let idle = c.is_idle-is_idle.ensures c.requires.named in
    let had = had_by w.sharing c.args.key.now (asked_by c.args.topic.now w) c.args.sessions.now.consumers c.args.subs.now.list c.args.stations.now.keys c.args.stations.now.list c.is_idle-is_idle.result c.is_home-is_home.result idle c.is_home-is_home.ensures in
    sym had ∙ c.in_ok-decision.ensures.had

pub returns-clause-room : goal.returns-clause-room
returns-clause-room c = room_beside _ c.args.key.now c.in_ok-with_key.field-0 c.in_ok-decision.decision c.in_ok-with_key.ensures c.in_ok-decision.ensures.room
