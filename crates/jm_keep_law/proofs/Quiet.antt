-- Of what most calls change nothing is stored.
use Rattle.std.proofs.Common.{◌≡◌, ℕ, Bool, true, false, cond, List, [], ◌∷◌, refl, sym, subst, ◌∙◌, ap, Option, Some, None}
use Rattle.std.specs.Prelude.{filter, not}
use Rattle.jm_dest.specs.declared.destination.Destination.{Destination}
use Rattle.jm_dest.specs.declared.destination.Destination.TheVariants.{Queue as ToQueue, Topic as ToTopic}
use Rattle.jm_dest.specs.declared.key.Key.{Key}
use Rattle.jm_dest.specs.declared.key.Key.TheVariants.{Queue, Own, SharedOwn, Durable}
use Rattle.jm_dest.specs.declared.session.SessionId.{SessionId}
use Rattle.jm_dest.specs.Keys.{key_eq}
use Rattle.jm_machine.specs.declared.call.Who.{Who}
use Rattle.jm_machine.specs.declared.call.Request.{Request}
use Rattle.jm_machine.specs.declared.state.Definition.{Definition}
use Rattle.jm_machine.specs.declared.state.PlacedRow.{PlacedRow}
use Rattle.jm_machine.specs.declared.state.Station.{Station}
use Rattle.jm_machine.specs.Machine.{State, station_of, definition_of, closed, defined, deleted, ends, joined, made, put, returned, standing_as, with_life, without}
use Rattle.jm_machine.specs.Wants.{placed_rows}
use Rattle.jm_machine.proofs.Keys.{key_same}
use Rattle.jm_keep.specs.declared.change.RowChange.{RowChange}
use Rattle.jm_keep.specs.Persisted.{row_at, stored_row, if_stored, durable_definition, is_lasting, LeadsTo}
use Rattle.jm_keep.specs.Leads.{StoresTheSame}
use Rattle.jm_keep_law.proofs.Leads.{nothing_leads}
use Rattle.jm_keep_law.proofs.Settled.{return_stores}
use Rattle.jm_keep_law.proofs.Received.{changes, found_other}
use Rattle.jm_keep_law.proofs.Deleted.{without_other, without_own, found_before}

-- no change leads where the changes are none
pub none_lead : (a b : State) (cs : List RowChange) → StoresTheSame a b → cs ≡ [] → LeadsTo a b cs
none_lead a b cs h e = subst (λ t. LeadsTo a b t) (sym e) (nothing_leads a b h)

pub same_trans : (a b c : State) → StoresTheSame a b → StoresTheSame b c → StoresTheSame a c
same_trans a b c f g = record {
  definitions = λ key. g.definitions key ∙ f.definitions key;
  rows = λ key place. g.rows key place ∙ f.rows key place;
}

pub same_refl : (a : State) → StoresTheSame a a
same_refl a = record { definitions = λ key. refl; rows = λ key place. refl }

-- where the durable subscriptions are found as before, and the queues are as before, the same is stored
pub durables_same : (a b : State) → ((client : Option (List ℕ)) (name : List ℕ) → station_of (Durable client name) b.stations ≡ station_of (Durable client name) a.stations) → b.queues ≡ a.queues → StoresTheSame a b
durables_same a b f g = record { definitions = definition; rows = row }
  where
    definition : (key : Key) → durable_definition b key ≡ durable_definition a key
    definition (Queue name) = refl
    definition (Own s c) = refl
    definition (SharedOwn client name) = refl
    definition (Durable client name) = ap definition_of (f client name)

    row : (key : Key) (place : ℕ) → stored_row b key place ≡ stored_row a key place
    row (Queue name) place = ap (λ (q : List ℕ → List PlacedRow). if_stored (row_at place (q name))) g
    row (Own s c) place = refl
    row (SharedOwn client name) place = refl
    row (Durable client name) place = ap (λ x. if_stored (row_at place (placed_rows x))) (f client name)

-- fewer stations, but each that is meant
filter_found : (q : Station → Bool) (key : Key) → ((x : Station) → key_eq x.key key ≡ true → q x ≡ true) → (stations : List Station) → station_of key (filter q stations) ≡ station_of key stations
filter_found q key h [] = refl
filter_found q key h (x ∷ stations) = go (q x) (key_eq x.key key) refl refl (filter_found q key h stations)
  where
    go : (a b : Bool) → q x ≡ a → key_eq x.key key ≡ b → station_of key (filter q stations) ≡ station_of key stations
        → station_of key (cond a (x ∷ filter q stations) (filter q stations)) ≡ cond b (Some x) (station_of key stations)
    go true true e f r = ap (λ c. cond c (Some x) (station_of key (filter q stations))) f
    go true false e f r = ap (λ c. cond c (Some x) (station_of key (filter q stations))) f ∙ r
    go false true e f r = absurd (let yes : q x ≡ true = h x f in let bad : true ≡ false = sym yes ∙ e in cc)
    go false false e f r = r

pub closed_same : (p : SessionId → ℕ → Bool) (state : State) → StoresTheSame state (closed p state)
closed_same p state = durables_same state (closed p state) found refl
  where
    stays : (client : Option (List ℕ)) (name : List ℕ) (x : Station) → key_eq x.key (Durable client name) ≡ true → not (ends p state.consumers x.key) ≡ true
    stays client name x e = ap (λ k. not (ends p state.consumers k)) (key_same x.key (Durable client name) e)

    found : (client : Option (List ℕ)) (name : List ℕ) → station_of (Durable client name) (filter (λ x. not (ends p state.consumers x.key)) state.stations) ≡ station_of (Durable client name) state.stations
    found client name = filter_found (λ x. not (ends p state.consumers x.key)) (Durable client name) (stays client name) state.stations

pub life_same : (who : Who) (request : Request) (state : State) → StoresTheSame state (with_life who request state)
life_same who request state = durables_same state (with_life who request state) (λ client name. refl) refl

-- what closes gives back first
pub given_closed : (who : Who) (request : Request) (p : SessionId → ℕ → Bool) (state : State) → StoresTheSame state (closed p (returned p (with_life who request state)))
given_closed who request p state =
    same_trans state (with_life who request state) (closed p (returned p (with_life who request state))) (life_same who request state)
    (same_trans (with_life who request state) (returned p (with_life who request state)) (closed p (returned p (with_life who request state)))
    (return_stores (with_life who request state) p) (closed_same p (returned p (with_life who request state))))

pub joined_same : (s : SessionId) (c : ℕ) (k : Key) (selector : Option (List ℕ)) (state : State) → StoresTheSame state (joined s c k selector state)
joined_same s c k selector state = durables_same state (joined s c k selector state) (λ client name. refl) refl

-- a subscription that is not durable takes the place of another
pub put_same : (k : Key) (d : Definition) (state : State) → ((client : Option (List ℕ)) (name : List ℕ) → key_eq k (Durable client name) ≡ false) → StoresTheSame state (put k d state)
put_same k d state e = durables_same state (put k d state)
    (λ client name. found_before (Durable client name) (record { key = k; definition = d; missed = 0; rows = [] }) (without k state.stations) (e client name) ∙ without_other k (Durable client name) state.stations (e client name))
    refl

pub made_same : (s : SessionId) (c : ℕ) (destination : Destination) (selector : Option (List ℕ)) (no_local : Bool) (state : State) → StoresTheSame state (made s c destination selector no_local state)
made_same s c (ToQueue name) selector no_local state = joined_same s c (Queue name) (standing_as selector) state
made_same s c (ToTopic name) selector no_local state =
    same_trans state (put (Own s c) (defined name selector no_local false) state) (joined s c (Own s c) None (put (Own s c) (defined name selector no_local false) state))
    (put_same (Own s c) (defined name selector no_local false) state (λ client n. refl)) (joined_same s c (Own s c) None (put (Own s c) (defined name selector no_local false) state))

-- rows of a subscription that is not durable change
pub changes_same : (fs fq : List PlacedRow → List PlacedRow) (k : Key) (state : State) → is_lasting k ≡ false → StoresTheSame state (changes fs fq k state)
changes_same fs fq (Queue name) state e = cc
changes_same fs fq (Own s c) state e = durables_same state (changes fs fq (Own s c) state) (λ client name. found_other (Own s c) (Durable client name) fs state.stations refl) refl
changes_same fs fq (SharedOwn cl n) state e = durables_same state (changes fs fq (SharedOwn cl n) state) (λ client name. found_other (SharedOwn cl n) (Durable client name) fs state.stations refl) refl
changes_same fs fq (Durable client name) state e = cc

-- a subscription that is not there is deleted
pub deleted_same : (client : Option (List ℕ)) (name : List ℕ) (state : State) → definition_of (station_of (Durable client name) state.stations) ≡ None → StoresTheSame state (deleted (Durable client name) state)
deleted_same client name state e = durables_same state (deleted (Durable client name) state) (λ c n. go c n (key_eq (Durable client name) (Durable c n)) refl) refl
  where
    none : (o : Option Station) → definition_of o ≡ None → None ≡ o
    none None e = refl
    none (Some x) e = cc

    go : (c : Option (List ℕ)) (n : List ℕ) (b : Bool) → key_eq (Durable client name) (Durable c n) ≡ b → station_of (Durable c n) (without (Durable client name) state.stations) ≡ station_of (Durable c n) state.stations
    go c n true f = subst (λ t. station_of t (without (Durable client name) state.stations) ≡ station_of t state.stations) (key_same (Durable client name) (Durable c n) f)
        (without_own (Durable client name) state.stations ∙ none (station_of (Durable client name) state.stations) e)
    go c n false f = without_other (Durable client name) (Durable c n) state.stations f
