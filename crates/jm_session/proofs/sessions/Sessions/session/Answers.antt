use Rattle.std.proofs.Common.{◌≡◌, ◌∙◌, ◌++◌, ◌∷◌, [], ap, sym, refl, subst, false, true, arith}
use Rattle.std.specs.Prelude.{is_some}
use Rattle.std.specs.Map.{values_of}
use Rattle.indexmap.specs.IndexMap.{insert_entry, values}
use Rattle.jm_dest.specs.Names.{session_eq}
use Rattle.jm_machine.specs.declared.state.SessionState.{SessionState}
use Rattle.jm_machine.specs.Life.{life_after, is_new_session, session_of, is_open_connection, connection_of}
use Rattle.jm_session.specs.Known.{Known}
use Rattle.jm_session.specs.Numbers.{IsNumbered}
use Rattle.jm_session.proofs.Closed.{open_sessions, session_absent}
use Rattle.jm_session.proofs.Found.{added, session_sym, life_of, not_used, surely}
use Rattle.jm_session.proofs.Opened.{numbers_more}
use Rattle.jm_session.proofs.sessions.Sessions.session.Goals as goal

pub insert-requires-clause-absent : goal.insert-requires-clause-absent
insert-requires-clause-absent c =
    let new : is_new_session c.args.self.now.life c.args.id.now ≡ true = sym c.is_new_session.ensures ∙ c.if-not-is_new_session.false in
    let absent : is_some (session_of c.args.self.now.life.sessions c.args.id.now) ≡ false = not_used (is_open_connection (connection_of c.args.self.now.life.connections c.args.id.now.connection)) (is_some (session_of c.args.self.now.life.sessions c.args.id.now)) new in
    session_absent c.args.id.now (values c.self.inside.sessions) c.reserve-2.new.self.keys (c.reserve-2.ensures.keys ∙ c.self.invariant.4)
    (subst (λ (k : Known). is_some (session_of k.life.sessions c.args.id.now) ≡ false) (sym c.self.view_is) absent)

pub invariant_of-self : goal.invariant_of-self
invariant_of-self c = (
  c.self.invariant.0,
  subst (IsNumbered (λ (x : SessionState). x.id)) (sym c.reserve.ensures.entries) c.self.invariant.1,
  c.self.invariant.2,
  c.self.invariant.3,
  c.self.invariant.4 ∙ ap open_sessions (sym (ap values_of c.reserve.ensures.entries)),
)

pub invariant_of-self-2 : goal.invariant_of-self-2
invariant_of-self-2 c =
    let x : SessionState = record { id = c.args.id.now; mode = c.args.mode; is_open = true } in
    let new : is_new_session c.args.self.now.life c.args.id.now ≡ true = sym c.is_new_session.ensures ∙ c.if-not-is_new_session.false in
    let absent : is_some (session_of c.args.self.now.life.sessions c.args.id.now) ≡ false = not_used (is_open_connection (connection_of c.args.self.now.life.connections c.args.id.now.connection)) (is_some (session_of c.args.self.now.life.sessions c.args.id.now)) new in
    let after = added session_eq session_sym (λ x. x.id) c.self.inside.sessions c.insert-2.new.self c.args.id.now x refl c.self.invariant.1 (subst (λ (k : Known). is_some (session_of k.life.sessions c.args.id.now) ≡ false) (sym c.self.view_is) absent)
    (surely c.insert-2.result c.insert-2.ensures.entries (c.insert-2.ensures.succeeds (omega (arith, c.in_ok-reserve.ensures.ok)))
    ∙ ap (λ es. insert_entry session_eq es c.args.id.now x) c.reserve.ensures.entries) in (
      c.self.invariant.0,
      after.1,
      c.self.invariant.2,
      c.self.invariant.3,
      c.insert.ensures.keys
          ∙ ap (λ ks. ks ++ c.args.id.now ∷ []) (c.reserve-2.ensures.keys ∙ c.self.invariant.4)
          ∙ sym (numbers_more (λ (x : SessionState). x.id) (λ (x : SessionState). x.is_open) (values c.self.inside.sessions) x refl)
          ∙ ap open_sessions (sym after.0),
    )

pub returns-clause-life : goal.returns-clause-life
unfolding life_after
returns-clause-life c =
    let x : SessionState = record { id = c.args.id.now; mode = c.args.mode; is_open = true } in
    let new : is_new_session c.args.self.now.life c.args.id.now ≡ true = sym c.is_new_session.ensures ∙ c.if-not-is_new_session.false in
    let absent : is_some (session_of c.args.self.now.life.sessions c.args.id.now) ≡ false = not_used (is_open_connection (connection_of c.args.self.now.life.connections c.args.id.now.connection)) (is_some (session_of c.args.self.now.life.sessions c.args.id.now)) new in
    let after = added session_eq session_sym (λ x. x.id) c.self.inside.sessions c.insert-2.new.self c.args.id.now x refl c.self.invariant.1 (subst (λ (k : Known). is_some (session_of k.life.sessions c.args.id.now) ≡ false) (sym c.self.view_is) absent)
    (surely c.insert-2.result c.insert-2.ensures.entries (c.insert-2.ensures.succeeds (omega (arith, c.in_ok-reserve.ensures.ok)))
    ∙ ap (λ es. insert_entry session_eq es c.args.id.now x) c.reserve.ensures.entries) in
    rw (new, ← c.self.view_is) (ap (λ xs. life_of (values c.self.inside.connections) xs) after.0)
