-- What a subscription starts with is what the state holds of it, part by part.
use Rattle.std.proofs.Common.{◌≡◌, ℕ, ◌∙◌, ap, sym, List, Option}
use Rattle.std.specs.Prelude.{filter}
use Rattle.jm_dest.specs.Keys.{key_eq}
use Rattle.jm_machine.specs.declared.state.ConnectionState.{ConnectionState}
use Rattle.jm_machine.specs.declared.state.SessionState.{SessionState}
use Rattle.jm_machine.specs.declared.state.Consumer.{Consumer}
use Rattle.jm_machine.specs.declared.state.Definition.{Definition}
use Rattle.jm_machine.specs.declared.state.Station.{Station}
use Rattle.jm_machine.specs.Life.{own_life}
use Rattle.jm_machine.specs.Machine.{State, station_of, definition_of, missed_of, rows_of}
use Rattle.jm_machine.specs.Owns.{is_own, is_own_connection}
use Rattle.jm_machine.specs.Lone.{Scope, Lone, lone_of}

pub opened : (S : Scope) (state : State) (lone : Lone) (connections : List ConnectionState) (sessions : List SessionState) (consumers : List Consumer) (station : Option Station) →
    state.limit ≡ lone.limit → state.life.connections ≡ connections → state.life.sessions ≡ sessions → state.consumers ≡ consumers → station_of S.key state.stations ≡ station →
    lone.life.connections ≡ filter (λ x. is_own_connection S.sessions x.id) connections → lone.life.sessions ≡ filter (λ x. is_own S.sessions x.id) sessions → lone.consumers ≡ filter (λ x. key_eq x.key S.key) consumers →
    lone.definition ≡ definition_of station → lone.missed ≡ missed_of station → lone.rows ≡ rows_of station → lone ≡ lone_of S state
unfolding lone_of own_life
opened S state lone connections sessions consumers station n c s k t own_c own_s own_k d m r = λ i. record {
  limit = sym n i;
  life = record {
    connections = (own_c ∙ ap (filter (λ (x : ConnectionState). is_own_connection S.sessions x.id)) (sym c)) i;
    sessions = (own_s ∙ ap (filter (λ (x : SessionState). is_own S.sessions x.id)) (sym s)) i;
  };
  consumers = (own_k ∙ ap (filter (λ (x : Consumer). key_eq x.key S.key)) (sym k)) i;
  definition = (d ∙ ap definition_of (sym t)) i;
  missed = (m ∙ ap missed_of (sym t)) i;
  rows = (r ∙ ap rows_of (sym t)) i;
}
