-- Subscriptions that have names: what their parts say is what the state says, and what is prepared is the machine's.
use Rattle.std.proofs.Common.{◌≡◌, ◌≢◌, ◌<◌, ℕ, Bool, true, false, cond, List, [], length, refl, ap, sym, subst, ◌∙◌, arith, Option, Some, None, Ok, Err}
use Rattle.std.specs.Prelude.{◌&&◌, not, is_some, option_map, IfErr, IfOk, IfSome, OnOk, Result, MatchBool}
use Rattle.std.specs.List.{list_any}
use Rattle.jm_base.specs.declared.refusal.Refusal.{Refusal}
use Rattle.jm_base.specs.declared.refusal.Refusal.TheVariants.{IllegalState, InvalidDestination, Memory}
use Rattle.jm_dest.specs.declared.session.SessionId.{SessionId}
use Rattle.jm_dest.specs.declared.destination.Destination.TheVariants.{Queue, Topic}
use Rattle.jm_dest.specs.declared.key.Key.{Key}
use Rattle.jm_dest.specs.declared.key.Key.TheVariants.{Own, SharedOwn, Durable, Queue as OfQueue}
use Rattle.jm_dest.specs.Keys.{key_eq}
use Rattle.jm_header.specs.declared.content.Content.{Content}
use Rattle.jm_machine.specs.declared.answer.Answer.{Answer}
use Rattle.jm_machine.specs.declared.call.Request.{Request}
use Rattle.jm_machine.specs.declared.call.Request.TheVariants.{CreateDurable, CreateShared, CreateSharedDurable}
use Rattle.jm_machine.specs.declared.call.Who.TheVariants.{Session}
use Rattle.jm_machine.specs.declared.call.Call.TheVariants.{Ask}
use Rattle.jm_machine.specs.declared.state.Consumer.{Consumer}
use Rattle.jm_machine.specs.declared.state.Definition.{Definition}
use Rattle.jm_machine.specs.Attached.{IsOwn, is_named}
use Rattle.jm_machine.specs.Life.{Life, client_of}
use Rattle.jm_machine.specs.Rows.{is_out}
use Rattle.jm_machine.specs.Machine.{State, after, answer, asked, definition_of, is_home, is_same, joined, may_begin, put, refusal, replied, reply, rows_of, rows_under, selected_by, station_of, subscribed}
use Rattle.jm_machine.specs.Wants.{is_want, may_want}
use Rattle.jm_selector.specs.Selectors.{selector_refusal}
use Rattle.jm_session.specs.Sources.{Origin}
use Rattle.jm_stations.specs.Backlogs.{Backlog, are_home}
use Rattle.jm_stations.specs.Stations.{index_in}
use Rattle.jm_sub.specs.declared.sharing.Sharing.{Sharing}
use Rattle.jm_sub.specs.declared.sharing.Sharing.TheVariants.{Unshared, SharedDurable, Shared}
use Rattle.jm_sub.specs.Sharing.{is_shared, may}
use Rattle.jm_sub.specs.Subscriptions.{Subscription, definition_at, needed}
use Rattle.jm_parts.specs.declared.named.Wanted.{Wanted}
use Rattle.jm_plans.specs.declared.plan.Change.TheVariants as change
use Rattle.jm_plans.specs.Named.{IsDecided, IsNaming, IsPrepared, decision_of, held_of, is_had, key_wanted, naming_refusal, put_decided}
use Rattle.jm_parts.specs.Named.{asked_by, had_refusal, home_in, idle_in, may_ask, may_have, named_key}
use Rattle.jm_plans.specs.Plans.{IsPlan, IsRefused}
use Rattle.jm_plans.specs.Provider.{Provider, state_of}
use Rattle.jm_parts.specs.State.{IsSound, keys_of, stations_of}
use Rattle.jm_parts.specs.Takings.{is_queue}
use Rattle.jm_plans.proofs.Fits.{not_wanted, rows_bare}
use Rattle.jm_parts.proofs.Stations.{definition_seen, key_found, key_missing, length-keys}
use Rattle.jm_queues.proofs.Found.{fails_all, found_at, found_none}
use Rattle.jm_parts.proofs.Naming.{home_there}

-- ---- what is held of a key

-- no row out, to whichever session, of those under the key
rows_home : (k : Key) (ss : List Subscription) (list : List Backlog) → length list ≡ length ss → not (list_any (λ r. is_out (λ s c. true) r) (rows_of (station_of k (stations_of ss list)))) ≡ home_in k (keys_of ss) list
rows_home k ss list n = go (index_in (keys_of ss) k) refl
  where
    home : Bool
    home = not (list_any (λ r. is_out (λ s c. true) r) (rows_of (station_of k (stations_of ss list))))

    go : (o : Option ℕ) → index_in (keys_of ss) k ≡ o → home ≡ home_in k (keys_of ss) list
    go None e =
        let none = key_missing k (λ x. x) ss list (fails_all (λ x. key_eq x k) (keys_of ss) (found_none (λ x. key_eq x k) (keys_of ss) e)) in
        rw (none.1, e) refl
    go (Some i) e =
        let at = found_at (λ x. key_eq x k) (keys_of ss) i e in
        let inside : i < length ss = omega (arith, at.1, length-keys ss) in
        let there = home_there list i home (omega (arith, inside, n)) (λ d.
        ap (λ rows. not (list_any (λ r. is_out (λ s c. true) r) rows)) (rows_bare (station_of k (stations_of ss list)))
        ∙ ap (λ rows. are_home rows) (key_found k (λ rows. rows) ss list d i n at.0 inside).1) in
        rw e there

rows_named : (pass : Content → Bool) (k : Key) (state : State) → is_named k ≡ true → rows_under pass k state ≡ rows_of (station_of k state.stations)
rows_named pass (OfQueue name) state h = absurd cc
rows_named pass (Own s c) state h = refl
rows_named pass (SharedOwn client name) state h = refl
rows_named pass (Durable client name) state h = refl

pub home_seen : (limit place : ℕ) (k : Key) (p : Provider) → is_named k ≡ true → IsSound limit p.known.consumers p.subscriptions.list p.held.keys p.held.list place → home_in k p.held.keys p.held.list ≡ is_home (held_of k (state_of p))
home_seen limit place k p named h =
    ap (λ keys. home_in k keys p.held.list) (sym h.same)
    ∙ sym (rows_home k p.subscriptions.list p.held.list h.number)
    ∙ ap (λ rows. not (list_any (λ r. is_out (λ s c. true) r) rows)) (sym (rows_named (selected_by None) k (state_of p) named))

-- whether a subscription may be had
pub had_seen : (limit place : ℕ) (sharing : Sharing) (k : Key) (d : Definition) (p : Provider) → is_named k ≡ true → IsSound limit p.known.consumers p.subscriptions.list p.held.keys p.held.list place →
    may_have sharing k d p.known.consumers p.subscriptions.list p.held.keys p.held.list ≡ is_had sharing k d (state_of p)
had_seen limit place sharing k d p named h =
    let definition = definition_seen k p.subscriptions.list p.held.list h.number in
    let home = home_seen limit place k p named h in
    λ i. may sharing (definition i) (idle_in k p.known.consumers) (home i) d

-- ---- what is prepared

not_queue : (k : Key) → is_named k ≡ true → is_queue (Some k) ≡ false
not_queue (OfQueue name) h = absurd cc
not_queue (Own s c) h = refl
not_queue (SharedOwn client name) h = refl
not_queue (Durable client name) h = refl

pub key_named : (sharing : Sharing) (clients : ℕ → Option (List ℕ)) (s : SessionId) (name : List ℕ) → is_named (named_key sharing clients s name) ≡ true
key_named Unshared clients s name = refl
key_named SharedDurable clients s name = refl
key_named Shared clients s name = refl

pub prepared_if : (limit place : ℕ) (old p : Provider) (sharing : Sharing) (k : Key) (selector : Option (List ℕ)) (d : Definition) (r : Result (Origin × Option (Key × Subscription)) Refusal) → is_named k ≡ true →
    IsSound limit old.known.consumers old.subscriptions.list old.held.keys old.held.list place → state_of p ≡ state_of old →
    IfOk r (λ x. x.0 ≡ record { key = k; selector = None }) → IfOk r (λ x. x.1 ≡ option_map (λ (y : Subscription). (k, y)) (needed k d old.subscriptions.list)) → OnOk r (selector_refusal selector ≡ None) →
    OnOk r (may_have sharing k d old.known.consumers old.subscriptions.list old.held.keys old.held.list ≡ true) → OnOk r (0 < p.known.spare) → IfOk r (λ x. IfSome x.1 (λ y. 0 < p.subscriptions.spare)) → OnOk r (0 < p.held.key_room) →
    IfOk r (λ x. IsPrepared p sharing k selector d x.0 x.1)
prepared_if limit place old p sharing k selector d (Err e) named h same source decided valid had room subs_room key_room = tt
prepared_if limit place old p sharing k selector d (Ok x) named h same source decided valid had room subs_room key_room =
    let definition : definition_at k old.subscriptions.list ≡ definition_of (station_of k (state_of p).stations) = definition_seen k old.subscriptions.list old.held.list h.number ∙ ap (λ (state : State). definition_of (station_of k state.stations)) (sym same) in
    record {
      source_is = source;
      valid = valid;
      had = ap (λ (state : State). is_had sharing k d state) same ∙ sym (had_seen limit place sharing k d old named h) ∙ had;
      chosen = decided ∙ one (is_same (definition_at k old.subscriptions.list) d) ∙ ap (λ (o : Option Definition). decision_of o k d) definition;
      left = ap (λ o. put_decided o (state_of p)) decided ∙ left (is_same (definition_at k old.subscriptions.list) d) ∙ ap (λ (o : Option Definition). cond (is_same o d) (state_of p) (put k d (state_of p))) definition;
      room = room;
      decided = subst (λ (o : Option (Key × Subscription)). IsDecided p k o) (sym decided) (fits (is_same (definition_at k old.subscriptions.list) d) (subst (λ (o : Option (Key × Subscription)). IfSome o (λ y. 0 < p.subscriptions.spare)) decided subs_room));
    }
  where
    -- what is decided, where it is the same or not
    chosen : Bool → Option (Key × Subscription)
    chosen b = option_map (λ (y : Subscription). (k, y)) (cond b None (Some (record { key = k; definition = d })))

    one : (b : Bool) → chosen b ≡ cond b None (Some (k, record { key = k; definition = d }))
    one true = refl
    one false = refl

    left : (b : Bool) → put_decided (chosen b) (state_of p) ≡ cond b (state_of p) (put k d (state_of p))
    left true = refl
    left false = refl

    fits : (b : Bool) → IfSome (chosen b) (λ y. 0 < p.subscriptions.spare) → IsDecided p k (chosen b)
    fits true room = tt
    fits false room = (refl, refl, not_queue k named, room, key_room)

pub refused_if : (limit place : ℕ) (p : Provider) (sharing : Sharing) (k : Key) (selector : Option (List ℕ)) (d : Definition) (r : Result (Origin × Option (Key × Subscription)) Refusal) → is_named k ≡ true →
    IsSound limit p.known.consumers p.subscriptions.list p.held.keys p.held.list place → IfErr r (λ e. e ≢ Memory → had_refusal selector (may_have sharing k d p.known.consumers p.subscriptions.list p.held.keys p.held.list) ≡ Some e) →
    IfErr r (λ e. e ≢ Memory → had_refusal selector (is_had sharing k d (state_of p)) ≡ Some e)
refused_if limit place p sharing k selector d r named h why =
    subst (λ b. IfErr r (λ e. e ≢ Memory → had_refusal selector b ≡ Some e)) (had_seen limit place sharing k d p named h) why

-- ---- requests

told_by : (x : Option Refusal) (a : Answer) (r : Refusal) → x ≡ Some r → Err r ≡ replied x a
told_by x a r e = rw e refl

pub naming_illegal : (state : State) (s : SessionId) (c : ℕ) (w : Wanted) (request : Request) → IsNaming state s c w request → may_ask w.sharing state.life state.consumers s c ≡ false → IsRefused state (Session s) (Ask request) IllegalState
unfolding reply
naming_illegal state s c w request h e =
    let cause : naming_refusal state s c w ≡ Some IllegalState = rw e refl in
    told_by _ _ IllegalState (h.refused ∙ cause)

pub naming_queue : (state : State) (s : SessionId) (c : ℕ) (w : Wanted) (request : Request) (name : List ℕ) → IsNaming state s c w request → may_ask w.sharing state.life state.consumers s c ≡ true → w.destination.now ≡ Queue name →
    IsRefused state (Session s) (Ask request) InvalidDestination
unfolding reply
naming_queue state s c w request name h e f =
    let cause : naming_refusal state s c w ≡ Some InvalidDestination = rw (e, f) refl in
    told_by _ _ InvalidDestination (h.refused ∙ cause)

pub naming_refused : (state : State) (s : SessionId) (c : ℕ) (w : Wanted) (request : Request) (topic : List ℕ) (r : Refusal) → IsNaming state s c w request → may_ask w.sharing state.life state.consumers s c ≡ true → w.destination.now ≡ Topic topic →
    (r ≢ Memory → had_refusal w.selector.now (is_had w.sharing (key_wanted state s w) (asked_by topic w) state) ≡ Some r) → IsRefused state (Session s) (Ask request) r
unfolding reply may_want
naming_refused state s c w request topic r h e f k = go (is_want (Err r)) refl
  where
    go : (b : Bool) → is_want (Err r) ≡ b → MatchBool b (may_want state (Session s) (Ask request) ≡ true) (Err r ≡ reply state (Session s) (Ask request))
    go true wanted = h.takes ∙ rw (e, f) refl
    go false wanted =
        let why = k (not_wanted r wanted) in
        let cause : naming_refusal state s c w ≡ Some r = rw (e, f) why in
        told_by _ _ r (h.refused ∙ cause)

-- who may ask may begin
asked_begins : (sharing : Sharing) (life : Life) (consumers : List Consumer) (s : SessionId) (c : ℕ) → may_ask sharing life consumers s c ≡ true → may_begin life consumers s c ≡ true
asked_begins Unshared life consumers s c h = both (may_begin life consumers s c) (is_some (client_of life s.connection)) h
  where
    both : (a b : Bool) → (a && b) ≡ true → a ≡ true
    both true b h = refl
    both false b h = h
asked_begins SharedDurable life consumers s c h = h
asked_begins Shared life consumers s c h = h

named_own : (sharing : Sharing) (clients : ℕ → Option (List ℕ)) (s : SessionId) (c : ℕ) (name : List ℕ) → IsOwn s c (named_key sharing clients s name)
named_own Unshared clients s c name = tt
named_own SharedDurable clients s c name = tt
named_own Shared clients s c name = tt

naming_created : (p : Provider) (s : SessionId) (c : ℕ) (w : Wanted) (request : Request) (topic : List ℕ) (source : Origin) (decision : Option (Key × Subscription)) → IsNaming (state_of p) s c w request → may_ask w.sharing p.known.life p.known.consumers s c ≡ true →
    w.destination.now ≡ Topic topic → IsPrepared p w.sharing (key_wanted (state_of p) s w) w.selector.now (asked_by topic w) source decision → IsPlan p (Session s) (Ask request) (change.CreateConsumer s c source decision)
naming_created p s c w request topic source decision h e f g =
    let none : naming_refusal (state_of p) s c w ≡ None = rw (e, f, g.valid, g.had) refl in
    record {
      request = request;
      sender = refl;
      asked = refl;
      allowed = h.refused ∙ none;
      told = h.told;
      left =
          h.left
          ∙ ap (λ x. subscribed s c (key_wanted (state_of p) s w) (asked x w.selector.now w.no_local (is_shared w.sharing)) (state_of p)) f
          ∙ ap (λ (state : State). joined s c (key_wanted (state_of p) s w) None state) (sym g.left)
          ∙ ap (λ (x : Origin). joined s c x.key x.selector (put_decided decision (state_of p))) (sym g.source_is);
      chosen = h.decides decision (g.chosen ∙ ap (λ x. decision_of (definition_of (station_of (key_wanted (state_of p) s w) (state_of p).stations)) (key_wanted (state_of p) s w) (asked x w.selector.now w.no_local (is_shared w.sharing))) (sym f));
      begins = asked_begins w.sharing p.known.life p.known.consumers s c e;
      own = subst (λ (x : Origin). IsOwn s c x.key) (sym g.source_is) (named_own w.sharing (client_of p.known.life) s c w.name.now);
      room = g.room;
      decided = subst (λ (x : Origin). IsDecided p x.key decision) (sym g.source_is) g.decided;
    }

pub naming_planned : (old : State) (p : Provider) (s : SessionId) (c : ℕ) (w : Wanted) (request : Request) (topic : List ℕ) (source : Origin) (decision : Option (Key × Subscription)) → state_of p ≡ old → IsNaming old s c w request → may_ask w.sharing old.life old.consumers s c ≡ true →
    w.destination.now ≡ Topic topic → IsPrepared p w.sharing (key_wanted (state_of p) s w) w.selector.now (asked_by topic w) source decision → IsPlan p (Session s) (Ask request) (change.CreateConsumer s c source decision)
naming_planned old p s c w request topic source decision same h e f g =
    naming_created p s c w request topic source decision (subst (λ (state : State). IsNaming state s c w request) (sym same) h) (subst (λ (state : State). may_ask w.sharing state.life state.consumers s c ≡ true) (sym same) e) f g

-- ---- the requests that ask so

pub durable_naming : (state : State) (s : SessionId) (c : ℕ) (w : Wanted) → w.sharing ≡ Unshared → IsNaming state s c w (CreateDurable c w.destination.now w.name.now w.selector.now w.no_local)
unfolding refusal answer after
durable_naming state s c w is = rw is (record { refused = refl; told = refl; left = refl; takes = refl; decides = λ decision e. e })

pub shared_naming : (state : State) (s : SessionId) (c : ℕ) (w : Wanted) → w.sharing ≡ Shared → w.no_local ≡ false → IsNaming state s c w (CreateShared c w.destination.now w.name.now w.selector.now)
unfolding refusal answer after
shared_naming state s c w is local = rw (is, local) (record { refused = refl; told = refl; left = refl; takes = refl; decides = λ decision e. e })

pub shared_durable_naming : (state : State) (s : SessionId) (c : ℕ) (w : Wanted) → w.sharing ≡ SharedDurable → w.no_local ≡ false → IsNaming state s c w (CreateSharedDurable c w.destination.now w.name.now w.selector.now)
unfolding refusal answer after
shared_durable_naming state s c w is local = rw (is, local) (record { refused = refl; told = refl; left = refl; takes = refl; decides = λ decision e. e })
