-- The law of isolation, at the keys of unshared topic subscriptions.
use Rattle.std.proofs.Common.{◌≡◌, ℕ, Bool, true, false, cond, List, [], ◌∷◌, ◌++◌, map, refl, sym, subst, ◌∙◌, arith, Option, Some, None}
use Rattle.std.specs.Prelude.{filter, not, ◌&&◌, ◌||◌, ◌==◌}
use Rattle.std.specs.List.{list_all}
use Rattle.std.proofs.lemmas.Bool.Decides.{nat_tests}
use Rattle.jm_dest.specs.declared.session.SessionId.{SessionId}
use Rattle.jm_dest.specs.declared.key.Key.{Key}
use Rattle.jm_dest.specs.declared.key.Key.TheVariants.{Own, SharedOwn, Durable, Queue as OfQueue}
use Rattle.jm_dest.specs.declared.destination.Destination.TheVariants.{Queue, Topic}
use Rattle.jm_dest.specs.Names.{session_eq}
use Rattle.jm_dest.specs.Keys.{key_eq}
use Rattle.jm_machine.specs.declared.call.Who.TheVariants.{Connection, Session}
use Rattle.jm_machine.specs.declared.call.Request.TheVariants.{CreateConsumer, CreateDurable, CreateShared, CreateSharedDurable, Unsubscribe}
use Rattle.jm_machine.specs.declared.entry.Entry.{Entry}
use Rattle.jm_machine.specs.declared.entry.Entry.TheVariants.{Asked, Sent, Committed}
use Rattle.jm_machine.specs.declared.state.Consumer.{Consumer}
use Rattle.jm_machine.specs.declared.state.Row.{Row}
use Rattle.jm_machine.specs.declared.state.RowState.{RowState}
use Rattle.jm_machine.specs.declared.state.RowState.TheVariants.{Waiting, Out}
use Rattle.jm_machine.specs.Owns.{is_own}
use Rattle.jm_machine.specs.Machine.{State, station_of, rows_of}
use Rattle.jm_machine.specs.Entries.{entries_of}
use Rattle.jm_machine.specs.Lone.{clients_in, is_made_for, creates, entry_names, names_key, asks_for, askers, consuming, out_to, holding_rows, own_sessions, scope_of}
use Rattle.jm_machine.specs.Isolation.{Reached, keeps_number, keeps_consumer, keeps_named, asks_no_shared, is_unshared, keeps_numbers, answered, alone, Isolation, IsolationOfRuns}
use Rattle.jm_machine.proofs.Keys.{session_same, session_refl, key_same}
use Rattle.jm_law.proofs.Consumers.{OutBy, OwnOut}
use Rattle.jm_law.proofs.EntrySteps.{EntriesFit}
use Rattle.jm_law.proofs.Run.{run_alone}
use Rattle.jm_law.proofs.Keyed.{OwnFits, Keyed, reached_keyed}
use Rattle.jm_law.proofs.Homed.{out_own}
use Rattle.jm_law.proofs.Numbers.{Kept, ConsumersKept, CallsKept, Numbers, placed_by, and_both, or_first, or_second}
use Rattle.jm_law.proofs.Fair.{EntryAside, AllAside, fair_by}
use Rattle.jm_machine.specs.Client.{begun}
use Rattle.jm_machine.proofs.Reaches.{owed_fits}
use Rattle.jm_law.proofs.Clients.{all_fit}

-- ---- a consumer's own key

moved_kept : (t : SessionId) (d : ℕ) (opening : State) (all : List Entry) (s : SessionId) (c : ℕ) → s ≡ t → c ≡ d → Kept (Own t d) opening all t d → Kept (Own t d) opening all s c
moved_kept t d opening all s c i j k = subst (λ (r : SessionId). Kept (Own t d) opening all r c) (sym i) (subst (λ (n : ℕ). Kept (Own t d) opening all t n) (sym j) k)

own_kept : (t : SessionId) (d : ℕ) (opening : State) (all : List Entry) → keeps_number (Own t d) opening all t d ≡ true → Kept (Own t d) opening all t d
own_kept t d opening all h = (h, belongs_own (is_made_for (Own t d) opening all t d))
  where
    belongs_own : (b : Bool) → b ≡ true → (is_own (t ∷ []) t && (session_eq t t && (d == d) && b)) ≡ true
    belongs_own b i = grind (arith, nat_tests, session_refl t)

own_consumers : (t : SessionId) (d : ℕ) (opening : State) (all : List Entry) → Kept (Own t d) opening all t d → (xs : List Consumer) → Keyed xs → ConsumersKept (Own t d) opening all xs
own_consumers t d opening all k [] f = tt
own_consumers t d opening all k (x ∷ xs) f = (
  λ e.
      let o : (session_eq x.session t && (x.id == d)) ≡ true = subst (λ (y : Key). OwnFits y x.session x.id) (key_same x.key (Own t d) e) f.0 in
      moved_kept t d opening all x.session x.id (session_same x.session t (and_both _ _ o).0) (let n : (x.id == d) ≡ true = (and_both (session_eq x.session t) _ o).1 in grind (arith, nat_tests)) k,
  own_consumers t d opening all k xs f.1,
)

own_calls : (t : SessionId) (d : ℕ) (opening : State) (all : List Entry) → Kept (Own t d) opening all t d → (entries : List Entry) → CallsKept (Own t d) opening all entries
own_calls t d opening all k [] = tt
own_calls t d opening all k (e ∷ entries) = (one e, own_calls t d opening all k entries)
  where
    one : (e : Entry) (s : SessionId) (c : ℕ) → creates s c e ≡ true → entry_names (Own t d) (clients_in opening all) e ≡ true → Kept (Own t d) opening all s c
    one (Asked (Session r) (CreateConsumer b (Queue name) selector no_local) told) s c h g = cc
    one (Asked (Session r) (CreateConsumer b (Topic name) selector no_local) told) s c h g =
        moved_kept t d opening all s c (sym (session_same r s (and_both _ _ h).0) ∙ session_same r t (and_both _ _ g).0)
        (let n : (b == c) ≡ true = (and_both (session_eq r s) _ h).1 in let m : (b == d) ≡ true = (and_both (session_eq r t) _ g).1 in grind (arith, nat_tests)) k
    one (Asked (Session r) (CreateDurable b destination name selector no_local) told) s c h g = cc
    one (Asked (Session r) (CreateShared b destination name selector) told) s c h g = cc
    one (Asked (Session r) (CreateSharedDurable b destination name selector) told) s c h g = cc
    one (Asked (Session r) request told) s c h g = cc
    one (Asked (Connection r) request told) s c h g = cc
    one (Sent m) s c h g = cc
    one (Committed r) s c h g = cc

own_aside : (t : SessionId) (d : ℕ) (opening : State) (all entries : List Entry) → AllAside (Own t d) opening all entries
own_aside t d opening all [] = tt
own_aside t d opening all (e ∷ entries) = (one e, own_aside t d opening all entries)
  where
    one : (e : Entry) → EntryAside (Own t d) opening all e
    one (Asked (Session s) (Unsubscribe name) told) = λ h. cc
    one (Asked (Session s) (CreateShared c destination name selector) told) = refl
    one (Asked (Session s) (CreateSharedDurable c destination name selector) told) = refl
    one (Asked who request told) = tt
    one (Sent m) = tt
    one (Committed s) = tt

-- ---- a durable key

own_before : (xs ys : List SessionId) (s : SessionId) → is_own xs s ≡ true → is_own (xs ++ ys) s ≡ true
own_before [] ys s h = cc
own_before (x ∷ xs) ys s h = grind (arith, nat_tests, own_before xs ys s)

own_behind : (xs ys : List SessionId) (s : SessionId) → is_own ys s ≡ true → is_own (xs ++ ys) s ≡ true
own_behind [] ys s h = h
own_behind (x ∷ xs) ys s h = or_second (session_eq s x) _ (own_behind xs ys s h)

own_head : (s : SessionId) (xs : List SessionId) → is_own (s ∷ xs) s ≡ true
own_head s xs = or_first _ _ (session_refl s)

implied : (a b : Bool) → (not a || b) ≡ true → a ≡ true → b ≡ true
implied true b h i = h
implied false b h i = cc

denied : (a : Bool) → not a ≡ true → a ≡ false
denied true h = cc
denied false h = refl

-- a number that keeps to the key, of an own session
durable_kept : (client : Option (List ℕ)) (name : List ℕ) (opening : State) (all : List Entry) (s : SessionId) (c : ℕ) → keeps_number (Durable client name) opening all s c ≡ true → is_own (own_sessions (Durable client name) opening all) s ≡ true →
    Kept (Durable client name) opening all s c
durable_kept client name opening all s c h o = (h, go (is_own (own_sessions (Durable client name) opening all) s) (is_made_for (Durable client name) opening all s c) o)
  where
    go : (a b : Bool) → a ≡ true → b ≡ true → (a && (a && b)) ≡ true
    go true b o i = i
    go false b o i = cc

durable_consumers : (client : Option (List ℕ)) (name : List ℕ) (opening : State) (all : List Entry) (xs : List Consumer) → list_all (keeps_consumer (Durable client name) opening all) xs ≡ true →
    ((s : SessionId) → is_own (consuming (Durable client name) xs) s ≡ true → is_own (own_sessions (Durable client name) opening all) s ≡ true) → ConsumersKept (Durable client name) opening all xs
durable_consumers client name opening all [] h g = tt
durable_consumers client name opening all (x ∷ xs) h g = (
  λ e.
      durable_kept client name opening all x.session x.id (implied (key_eq x.key (Durable client name)) _ (and_both _ _ h).0 e)
      (g x.session (subst (λ (b : Bool). is_own (map (λ y. y.session) (cond b (x ∷ filter (λ y. key_eq y.key (Durable client name)) xs) (filter (λ y. key_eq y.key (Durable client name)) xs))) x.session ≡ true) (sym e)
      (own_head x.session (consuming (Durable client name) xs)))),
  durable_consumers client name opening all xs (and_both _ _ h).1 (λ s o. g s (more (key_eq x.key (Durable client name)) s o)),
)
  where
    more : (b : Bool) (s : SessionId) → is_own (consuming (Durable client name) xs) s ≡ true →
        is_own (map (λ y. y.session) (cond b (x ∷ filter (λ y. key_eq y.key (Durable client name)) xs) (filter (λ y. key_eq y.key (Durable client name)) xs))) s ≡ true
    more true s o = or_second (session_eq s x.session) _ o
    more false s o = o

-- the sessions that are left to ask for the key are own ones
abbrev pub AskersOwn : Key → State → List Entry → List Entry → Type 0
AskersOwn key opening all left = (s : SessionId) → is_own (askers key (clients_in opening all) left) s ≡ true → is_own (own_sessions key opening all) s ≡ true

pub asker_first : (key : Key) (opening : State) (all left : List Entry) (s : SessionId) (b : Bool) → b ≡ true → ((r : SessionId) → is_own (cond b (s ∷ askers key (clients_in opening all) left) (askers key (clients_in opening all) left)) r ≡ true → is_own (own_sessions key opening all) r ≡ true) →
    is_own (own_sessions key opening all) s ≡ true
asker_first key opening all left s true h g = g s (own_head s (askers key (clients_in opening all) left))
asker_first key opening all left s false h g = cc

pub askers_left : (key : Key) (opening : State) (all : List Entry) (e : Entry) (left : List Entry) → AskersOwn key opening all (e ∷ left) → AskersOwn key opening all left
askers_left key opening all (Asked (Session r) request told) left g s o = g s (more (asks_for key (clients_in opening all) r request))
  where
    more : (b : Bool) → is_own (cond b (r ∷ askers key (clients_in opening all) left) (askers key (clients_in opening all) left)) s ≡ true
    more true = or_second (session_eq s r) _ o
    more false = o
askers_left key opening all (Asked (Connection r) request told) left g s o = g s o
askers_left key opening all (Sent m) left g s o = g s o
askers_left key opening all (Committed r) left g s o = g s o

durable_call : (client : Option (List ℕ)) (name : List ℕ) (opening : State) (all : List Entry) (e : Entry) (left : List Entry) → keeps_named (Durable client name) opening all e ≡ true → asks_no_shared (Durable client name) (clients_in opening all) e ≡ true →
    AskersOwn (Durable client name) opening all (e ∷ left) → (s : SessionId) (c : ℕ) → creates s c e ≡ true → entry_names (Durable client name) (clients_in opening all) e ≡ true → Kept (Durable client name) opening all s c
durable_call client name opening all (Asked (Session r) (CreateConsumer b (Queue other) selector no_local) told) left k n a s c h g = cc
durable_call client name opening all (Asked (Session r) (CreateConsumer b (Topic other) selector no_local) told) left k n a s c h g = cc
durable_call client name opening all (Asked (Session r) (CreateDurable b destination other selector no_local) told) left k n a s c h g =
    subst (λ (q : SessionId). Kept (Durable client name) opening all q c) (session_same r s (and_both _ _ h).0)
    (subst (λ (i : ℕ). Kept (Durable client name) opening all r i) (let m : (b == c) ≡ true = (and_both (session_eq r s) _ h).1 in let j : b ≡ c = grind (arith, nat_tests) in j)
    (durable_kept client name opening all r b (implied (names_key (Durable client name) (clients_in opening all) r (CreateDurable b destination other selector no_local)) _ k g)
    (asker_first (Durable client name) opening all left r (names_key (Durable client name) (clients_in opening all) r (CreateDurable b destination other selector no_local)) g a)))
durable_call client name opening all (Asked (Session r) (CreateShared b destination other selector) told) left k n a s c h g = cc
durable_call client name opening all (Asked (Session r) (CreateSharedDurable b destination other selector) told) left k n a s c h g =
    let i : true ≡ false = sym g ∙ denied _ n in cc
durable_call client name opening all (Asked (Session r) request told) left k n a s c h g = cc
durable_call client name opening all (Asked (Connection r) request told) left k n a s c h g = cc
durable_call client name opening all (Sent m) left k n a s c h g = cc
durable_call client name opening all (Committed r) left k n a s c h g = cc

durable_calls : (client : Option (List ℕ)) (name : List ℕ) (opening : State) (all left : List Entry) → list_all (keeps_named (Durable client name) opening all) left ≡ true →
    list_all (asks_no_shared (Durable client name) (clients_in opening all)) left ≡ true → AskersOwn (Durable client name) opening all left → CallsKept (Durable client name) opening all left
durable_calls client name opening all [] k n a = tt
durable_calls client name opening all (e ∷ left) k n a =
    (durable_call client name opening all e left (and_both _ _ k).0 (and_both _ _ n).0 a, durable_calls client name opening all left (and_both _ _ k).1 (and_both _ _ n).1 (askers_left (Durable client name) opening all e left a))

durable_one : (client : Option (List ℕ)) (name : List ℕ) (opening : State) (all : List Entry) (e : Entry) (left : List Entry) → asks_no_shared (Durable client name) (clients_in opening all) e ≡ true → AskersOwn (Durable client name) opening all (e ∷ left) →
    EntryAside (Durable client name) opening all e
durable_one client name opening all (Asked (Session s) (Unsubscribe other) told) left n a = λ h. asker_first (Durable client name) opening all left s (asks_for (Durable client name) (clients_in opening all) s (Unsubscribe other)) h a
durable_one client name opening all (Asked (Session s) (CreateShared c destination other selector) told) left n a = refl
durable_one client name opening all (Asked (Session s) (CreateSharedDurable c destination other selector) told) left n a = denied _ n
durable_one client name opening all (Asked who request told) left n a = tt
durable_one client name opening all (Sent m) left n a = tt
durable_one client name opening all (Committed s) left n a = tt

durable_aside : (client : Option (List ℕ)) (name : List ℕ) (opening : State) (all left : List Entry) → list_all (asks_no_shared (Durable client name) (clients_in opening all)) left ≡ true → AskersOwn (Durable client name) opening all left →
    AllAside (Durable client name) opening all left
durable_aside client name opening all [] n a = tt
durable_aside client name opening all (e ∷ left) n a =
    (durable_one client name opening all e left (and_both _ _ n).0 a, durable_aside client name opening all left (and_both _ _ n).1 (askers_left (Durable client name) opening all e left a))

-- the rows of the opening are out to own sessions
rows_own : (own : List SessionId) (rows : List Row) → ((s : SessionId) → is_own (holding_rows rows) s ≡ true → is_own own s ≡ true) → OwnOut own rows
rows_own own [] h = tt
rows_own own (r ∷ rows) h = (one r.state h, rows_own own rows (λ s o. h s (own_behind (out_to r.state) (holding_rows rows) s o)))
  where
    one : (a : RowState) → ((s : SessionId) → is_own (out_to a ++ holding_rows rows) s ≡ true → is_own own s ≡ true) → OutBy own a
    one Waiting h = tt
    one (Out s c) h = h s (own_head s (holding_rows rows))

-- ---- both kinds of keys

own_by : (t : SessionId) (d : ℕ) (opening : State) (entries : List Entry) → keeps_number (Own t d) opening entries t d ≡ true → Reached opening → EntriesFit opening [] entries → answered (Own t d) opening entries ≡ alone (Own t d) opening entries
own_by t d opening entries u r f =
    let k : Kept (Own t d) opening entries t d = own_kept t d opening entries u in
    let n : Numbers (Own t d) opening entries = record { consumers = own_consumers t d opening entries k opening.consumers (reached_keyed opening r); calls = own_calls t d opening entries k entries } in
    run_alone (scope_of (Own t d) opening entries) tt entries 0 [] opening (fair_by (Own t d) opening entries tt n (own_aside t d opening entries entries) r f)
    (record { placed = placed_by (Own t d) opening entries tt n; out = out_own t d opening r }) f

-- those that ask are own sessions
pub askers_own : (client : Option (List ℕ)) (name : List ℕ) (opening : State) (entries : List Entry) → AskersOwn (Durable client name) opening entries entries
askers_own client name opening entries s o =
    let key : Key = Durable client name in
    let rows : List Row = rows_of (station_of key opening.stations) in
    let last : List SessionId = askers key (clients_in opening entries) entries in
    own_behind (consuming key opening.consumers) (holding_rows rows ++ last) s (own_behind (holding_rows rows) last s o)

-- and each of the numbers says the same
pub durable_numbers : (client : Option (List ℕ)) (name : List ℕ) (opening : State) (entries : List Entry) → list_all (asks_no_shared (Durable client name) (clients_in opening entries)) entries ≡ true →
    keeps_numbers (Durable client name) opening entries ≡ true → Numbers (Durable client name) opening entries
durable_numbers client name opening entries s k =
    let key : Key = Durable client name in
    let b = and_both _ _ k in
    record {
      consumers = durable_consumers client name opening entries opening.consumers b.0 (λ t o. own_before (consuming key opening.consumers) _ t o);
      calls = durable_calls client name opening entries entries b.1 s (askers_own client name opening entries);
    }

durable_by : (client : Option (List ℕ)) (name : List ℕ) (opening : State) (entries : List Entry) → list_all (asks_no_shared (Durable client name) (clients_in opening entries)) entries ≡ true →
    keeps_numbers (Durable client name) opening entries ≡ true → Reached opening → EntriesFit opening [] entries → answered (Durable client name) opening entries ≡ alone (Durable client name) opening entries
durable_by client name opening entries s k r f =
    let own : List SessionId = own_sessions (Durable client name) opening entries in
    let rows : List Row = rows_of (station_of (Durable client name) opening.stations) in
    let first : List SessionId = consuming (Durable client name) opening.consumers in
    let last : List SessionId = askers (Durable client name) (clients_in opening entries) entries in
    let n : Numbers (Durable client name) opening entries = durable_numbers client name opening entries s k in
    run_alone (scope_of (Durable client name) opening entries) tt entries 0 [] opening
    (fair_by (Durable client name) opening entries tt n (durable_aside client name opening entries entries s (askers_own client name opening entries)) r f)
    (record { placed = placed_by (Durable client name) opening entries tt n; out = rows_own own rows (λ t o. own_behind first (holding_rows rows ++ last) t (own_before (holding_rows rows) last t o)) }) f

pub by_key : (opening : State) (entries : List Entry) (key : Key) → is_unshared key opening entries ≡ true → keeps_numbers key opening entries ≡ true → Reached opening → EntriesFit opening [] entries →
    answered key opening entries ≡ alone key opening entries
by_key opening entries (OfQueue name) u n r f = cc
by_key opening entries (Own s c) u n r f = own_by s c opening entries u r f
by_key opening entries (SharedOwn client name) u n r f = cc
by_key opening entries (Durable None name) u n r f = cc
by_key opening entries (Durable (Some client) name) u n r f =
    durable_by (Some client) name opening entries (and_both _ _ u).1 n r f

pub isolation : Isolation
isolation opening calls replies end key f p =
    by_key opening (entries_of opening.opening calls replies) key p.unshared p.numbers p.reached (all_fit opening calls replies end f)

pub isolation_of_runs : IsolationOfRuns
isolation_of_runs opening calls replies end r f key u n =
    isolation opening calls replies end key (owed_fits (begun opening) calls replies end f) (record { unshared = u; numbers = n; reached = r })
