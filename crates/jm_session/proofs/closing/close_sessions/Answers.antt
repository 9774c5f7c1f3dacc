use Rattle.std.proofs.Common.{◌∙◌, ap, arith, length, sym}
use Rattle.std.specs.Prelude.{◌==◌, map}
use Rattle.std.specs.Ordering.{nat_cmp}
use Rattle.std.proofs.lemmas.List.Edits.{length-remove}
use Rattle.indexmap.specs.IndexMap.{values}
use Rattle.jm_dest.specs.declared.session.SessionId.{SessionId}
use Rattle.jm_dest.specs.Names.{session_eq}
use Rattle.jm_machine.specs.Life.{closed_where}
use Rattle.jm_session.proofs.Closed.{ended_first, open_sessions, session_gone, sessions_left}
use Rattle.jm_session.proofs.Opened.{map_twice}
use Rattle.jm_session.proofs.closing.close_sessions.Goals as goal

pub loop-index-preserved : goal.loop-index-preserved
loop-index-preserved c =
    let id : SessionId = c.key_at.result.now in
    let place = ap (λ (s : SessionId). nat_cmp s.connection c.args.connection) (c.key_at.ensures id) ∙ c.in-Some.ensures.found id in
    record {
      closing =
          ap (map (closed_where (λ s. s.connection == c.args.connection))) c.mark_session_closed.ensures.values
          ∙ map_twice (closed_where (λ s. s.connection == c.args.connection)) (closed_where (λ t. session_eq t id)) (ended_first c.args.connection id place) (values c.loop-index.sessions)
          ∙ c.loop-index.invariant.closing;
      numbered = c.mark_session_closed.ensures.numbered;
      opened =
          c.remove.ensures.keys
          ∙ session_gone id (values c.loop-index.sessions) c.loop-index.opened.keys c.in-Some.index c.loop-index.invariant.opened c.len-length.ensures.once c.in-Some.ensures.within (sym (c.key_at.ensures id))
          ∙ ap open_sessions (sym c.mark_session_closed.ensures.values);
      room = omega arith;
      opened_room = omega arith;
    }

pub loop-index-smaller : goal.loop-index-smaller
loop-index-smaller c = omega (arith, ap length c.remove.ensures.keys, length-remove c.loop-index.opened.keys c.in-Some.index c.in-Some.ensures.within)

pub returns-clause-values : goal.returns-clause-values
returns-clause-values c =
    sym (sessions_left c.args.connection (values c.loop-index.sessions) c.loop-index.opened.keys c.loop-index.invariant.opened c.in_default.ensures.none)
    ∙ c.loop-index.invariant.closing
