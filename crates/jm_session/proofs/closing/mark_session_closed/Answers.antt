use Rattle.std.proofs.Common.{◌∙◌, sym, refl, false}
use Rattle.jm_dest.specs.Names.{session_eq}
use Rattle.jm_machine.specs.declared.state.SessionState.{SessionState}
use Rattle.jm_machine.proofs.Keys.{session_same}
use Rattle.jm_session.proofs.Found.{session_sym}
use Rattle.jm_session.proofs.Changed.{changed_found, changed_nowhere}
use Rattle.jm_session.proofs.closing.mark_session_closed.Goals as goal

pub returns-in-Some-clause-values : goal.returns-in-Some-clause-values
returns-in-Some-clause-values c =
    (changed_found session_eq session_sym session_same (λ (x : SessionState). x.id) (λ (x : SessionState). record x { is_open = false }) (λ x. refl) c.args.id.now c.index_mut.result.now c.args.sessions.now.entries c.in-Some.at
    c.index_mut.ensures.value c.requires c.get_index_of.ensures.unique (sym c.get_index_of.ensures.index ∙ c.in-Some.is)).0

pub returns-in-Some-clause-numbered : goal.returns-in-Some-clause-numbered
returns-in-Some-clause-numbered c =
    (changed_found session_eq session_sym session_same (λ (x : SessionState). x.id) (λ (x : SessionState). record x { is_open = false }) (λ x. refl) c.args.id.now c.index_mut.result.now c.args.sessions.now.entries c.in-Some.at
    c.index_mut.ensures.value c.requires c.get_index_of.ensures.unique (sym c.get_index_of.ensures.index ∙ c.in-Some.is)).1

pub returns-in_default-clause-values : goal.returns-in_default-clause-values
returns-in_default-clause-values c =
    changed_nowhere session_eq session_sym session_same (λ (x : SessionState). x.id) (λ (x : SessionState). record x { is_open = false }) (λ x. refl) c.args.id.now c.args.sessions.now.entries c.requires (sym c.get_index_of.ensures.index ∙ c.in_default.is)
