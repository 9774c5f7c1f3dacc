use Rattle.std.proofs.Common.{◌∙◌, ap, sym}
use Rattle.std.proofs.lemmas.List.Quantifiers.{position-Some}
use Rattle.indexmap.specs.IndexMap.{values}
use Rattle.jm_dest.specs.declared.session.SessionId.{SessionId}
use Rattle.jm_dest.specs.Names.{session_eq}
use Rattle.jm_machine.proofs.Keys.{session_same}
use Rattle.jm_session.proofs.Closed.{open_sessions, session_gone, session_nowhere}
use Rattle.jm_session.proofs.closing.close_session.Goals as goal

pub returns-in-Some-clause-opened : goal.returns-in-Some-clause-opened
returns-in-Some-clause-opened c =
    let id = c.args.id.now in
    let keys = c.args.opened.now.keys in
    let found = position-Some (λ (y : SessionId). session_eq y id) keys c.in-Some.index id (sym c.index_of.ensures.index ∙ c.in-Some.is) in
    c.remove.ensures.keys
    ∙ session_gone id (values c.args.sessions.now) keys c.in-Some.index c.requires.opened c.len-length.ensures.once found.0 (session_same _ id found.1)
    ∙ ap open_sessions (sym c.mark_session_closed.ensures.values)

pub returns-in_default-clause-opened : goal.returns-in_default-clause-opened
returns-in_default-clause-opened c =
    session_nowhere c.args.id.now (values c.args.sessions.now) c.args.opened.now.keys c.requires.opened (sym c.index_of.ensures.index ∙ c.in_default.is)
    ∙ ap open_sessions (sym c.mark_session_closed.ensures.values)
