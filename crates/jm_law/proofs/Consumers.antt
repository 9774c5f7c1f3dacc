-- The consumers of all keys, seen at one key.
use Rattle.std.proofs.Common.{◌≡◌, ℕ, Bool, true, false, cond, List, [], ◌∷◌, ◌++◌, refl, ap, subst, ◌∙◌, arith, map, sym, Option, Some, None}
use Rattle.std.specs.Prelude.{filter, is_some, ◌&&◌}
use Rattle.std.proofs.lemmas.Bool.Decides.{nat_tests}
use Rattle.jm_dest.specs.declared.session.SessionId.{SessionId}
use Rattle.jm_dest.specs.declared.key.Key.{Key}
use Rattle.jm_dest.specs.declared.key.Key.TheVariants.{Own, SharedOwn, Durable, Queue as OfQueue}
use Rattle.jm_dest.specs.Keys.{key_eq}
use Rattle.jm_machine.specs.declared.call.Who.TheVariants.{Session}
use Rattle.jm_machine.specs.declared.call.Request.{Request}
use Rattle.jm_machine.specs.declared.call.Request.TheVariants.{CreateConsumer, CreateDurable, CreateShared, CreateSharedDurable, Unsubscribe}
use Rattle.jm_machine.specs.declared.entry.Entry.{Entry}
use Rattle.jm_machine.specs.declared.entry.Entry.TheVariants.{Asked}
use Rattle.jm_machine.specs.declared.state.Consumer.{Consumer}
use Rattle.jm_machine.specs.declared.state.Row.{Row}
use Rattle.jm_machine.specs.declared.state.RowState.{RowState}
use Rattle.jm_machine.specs.declared.state.RowState.TheVariants.{Waiting, Out}
use Rattle.jm_machine.specs.Owns.{is_own}
use Rattle.jm_machine.specs.Machine.{has_number, consumer_of, is_active, key_at, shut, closed_consumer, listening_if, busy_if, is_one_of, ends, State, station_of, rows_of}
use Rattle.jm_machine.specs.Lone.{Scope, belongs, names_key, deletes_key}
use Rattle.jm_machine.specs.Life.{Life, client_of, mode_of}
use Rattle.jm_machine.specs.Entries.{life_after_entry}
use Rattle.jm_law.proofs.Lists.{filter_map_same}
use Rattle.jm_machine.proofs.Keys.{session_same, key_same}
use Rattle.jm_machine.proofs.Marks.{KeepsName, closed_keeps}

-- the key is that of a subscription which no two consumers share
abbrev pub Unshared : Key → Type 0
Unshared (OfQueue name) = ⊥
Unshared (Own s c) = Unit {0}
Unshared (SharedOwn client name) = ⊥
Unshared (Durable client name) = Unit {0}

-- what a creating request of a session names: where the session is open the machine and the scope say the same, and so
-- does the number of the consumer
abbrev pub FairMade : Scope → Life → SessionId → ℕ → Request → Type 0
FairMade S life s c request =
    (is_some (mode_of life s) ≡ true → names_key S.key (client_of life) s request ≡ (is_own S.sessions s && names_key S.key S.clients s request))
    × ((is_own S.sessions s && names_key S.key S.clients s request) ≡ belongs S s c)

-- the same, and it does not name the key
abbrev pub FairShared : Scope → Life → SessionId → ℕ → Request → Type 0
FairShared S life s c request = FairMade S life s c request × ((is_own S.sessions s && names_key S.key S.clients s request) ≡ false)

abbrev pub FairRequest : Scope → Life → SessionId → Request → Type 0
FairRequest S life s (CreateConsumer c destination selector no_local) = FairMade S life s c (CreateConsumer c destination selector no_local)
FairRequest S life s (CreateDurable c destination name selector no_local) = FairMade S life s c (CreateDurable c destination name selector no_local)
FairRequest S life s (CreateShared c destination name selector) = FairShared S life s c (CreateShared c destination name selector)
FairRequest S life s (CreateSharedDurable c destination name selector) = FairShared S life s c (CreateSharedDurable c destination name selector)
FairRequest S life s (Unsubscribe name) = is_some (mode_of life s) ≡ true → deletes_key S.key (client_of life) s name ≡ (is_own S.sessions s && deletes_key S.key S.clients s name)
FairRequest S life s _ = Unit {0}

-- and so of each entry, at the connections and sessions before it
abbrev pub FairEntry : Scope → Life → Entry → Type 0
FairEntry S life (Asked (Session s) request told) = FairRequest S life s request
FairEntry S life _ = Unit {0}

abbrev pub FairAll : Scope → Life → List Entry → Type 0
FairAll S life [] = Unit {0}
FairAll S life (e ∷ entries) = FairEntry S life e × FairAll S (life_after_entry life e) entries

-- the key's consumers are those whose numbers belong to it
abbrev pub Placed : Scope → List Consumer → Type 0
Placed S [] = Unit {0}
Placed S (x ∷ xs) = (key_eq x.key S.key ≡ belongs S x.session x.id) × Placed S xs

named : (S : Scope) (s : SessionId) (c : ℕ) (x : Consumer) → has_number s c x ≡ true → belongs S x.session x.id ≡ belongs S s c
named S s c x h =
    let e : x.session ≡ s = grind (arith, nat_tests, session_same x.session s) in
    let f : x.id ≡ c = grind (arith, nat_tests) in
    cc

-- a number that belongs to the key finds the same consumer among the key's
pub consumer_own : (S : Scope) (s : SessionId) (c : ℕ) → belongs S s c ≡ true → (xs : List Consumer) → Placed S xs → consumer_of (filter (λ x. key_eq x.key S.key) xs) s c ≡ consumer_of xs s c
consumer_own S s c h [] p = refl
consumer_own S s c h (x ∷ xs) p = grind (arith, nat_tests, p.0, named S s c x, consumer_own S s c h xs p.1)

abbrev KeyIs : Scope → Bool → Option Consumer → Type 0
KeyIs S b None = Unit {0}
KeyIs S b (Some x) = key_eq x.key S.key ≡ b

consumer_key : (S : Scope) (s : SessionId) (c : ℕ) (xs : List Consumer) → Placed S xs → KeyIs S (belongs S s c) (consumer_of xs s c)
consumer_key S s c [] p = tt
consumer_key S s c (x ∷ xs) p = go (has_number s c x) refl (consumer_key S s c xs p.1)
  where
    go : (b : Bool) → has_number s c x ≡ b → KeyIs S (belongs S s c) (consumer_of xs s c) → KeyIs S (belongs S s c) (cond b (Some x) (consumer_of xs s c))
    go true e r = p.0 ∙ named S s c x e
    go false e r = r

key_known : (S : Scope) (x : Option Consumer) → KeyIs S true x → is_active x ≡ true → key_at x ≡ Some S.key
key_known S None k a = cc
key_known S (Some x) k a = ap (λ (k : Key). Some k) (key_same x.key S.key k)

-- a key that may be absent is not the scope's
abbrev pub IsOther : Scope → Option Key → Type 0
IsOther S None = Unit {0}
IsOther S (Some k) = key_eq k S.key ≡ false

key_other : (S : Scope) (x : Option Consumer) → KeyIs S false x → IsOther S (key_at x)
key_other S None k = tt
key_other S (Some x) k = k

-- the key that a consumer receives from, where its number belongs to the key, and where it does not
pub key_mine : (S : Scope) (s : SessionId) (c : ℕ) (xs : List Consumer) → Placed S xs → belongs S s c ≡ true → is_active (consumer_of xs s c) ≡ true → key_at (consumer_of xs s c) ≡ Some S.key
key_mine S s c xs p n a = key_known S (consumer_of xs s c) (subst (λ v. KeyIs S v (consumer_of xs s c)) n (consumer_key S s c xs p)) a

pub key_not_mine : (S : Scope) (s : SessionId) (c : ℕ) (xs : List Consumer) → Placed S xs → belongs S s c ≡ false → IsOther S (key_at (consumer_of xs s c))
key_not_mine S s c xs p n = key_other S (consumer_of xs s c) (subst (λ v. KeyIs S v (consumer_of xs s c)) n (consumer_key S s c xs p))

pub placed_push : (S : Scope) (y : Consumer) → key_eq y.key S.key ≡ belongs S y.session y.id → (xs : List Consumer) → Placed S xs → Placed S (xs ++ y ∷ [])
placed_push S y h [] p = (h, tt)
placed_push S y h (x ∷ xs) p = (p.0, placed_push S y h xs p.1)

-- consumers that keep their keys and numbers are the key's as before
pub placed_map : (S : Scope) (f : Consumer → Consumer) → KeepsName f → (xs : List Consumer) → Placed S xs → Placed S (map f xs)
placed_map S f k [] h = tt
placed_map S f k (x ∷ xs) h =
    (ap (λ (y : Key). key_eq y S.key) (k.key x) ∙ h.0 ∙ sym (ap (λ (s : SessionId). belongs S s x.id) (k.session x)) ∙ sym (ap (λ (c : ℕ). belongs S (f x).session c) (k.id x)), placed_map S f k xs h.1)

pub placed_closed : (S : Scope) (p : SessionId → ℕ → Bool) (xs : List Consumer) → Placed S xs → Placed S (map (closed_consumer p) xs)
placed_closed S p xs h = placed_map S (closed_consumer p) (closed_keeps p) xs h

-- the key's consumers change as all do
pub kept_in : (S : Scope) (f : Consumer → Consumer) → KeepsName f → (xs : List Consumer) → filter (λ x. key_eq x.key S.key) (map f xs) ≡ map f (filter (λ x. key_eq x.key S.key) xs)
kept_in S f k xs = filter_map_same _ _ (λ x. ap (λ (y : Key). key_eq y S.key) (k.key x)) xs

pub closed_in : (S : Scope) (p : SessionId → ℕ → Bool) (xs : List Consumer) → filter (λ x. key_eq x.key S.key) (map (closed_consumer p) xs) ≡ map (closed_consumer p) (filter (λ x. key_eq x.key S.key) xs)
closed_in S p xs = kept_in S (closed_consumer p) (closed_keeps p) xs

-- where none of them changes, they are the same
pub kept_out : (S : Scope) (f : Consumer → Consumer) → KeepsName f → ((x : Consumer) → belongs S x.session x.id ≡ true → f x ≡ x) → (xs : List Consumer) → Placed S xs →
    filter (λ x. key_eq x.key S.key) (map f xs) ≡ filter (λ x. key_eq x.key S.key) xs
kept_out S f k h [] q = refl
kept_out S f k h (x ∷ xs) q = one (key_eq x.key S.key) refl (kept_out S f k h xs q.1)
  where
    one : (b : Bool) → key_eq x.key S.key ≡ b → filter (λ y. key_eq y.key S.key) (map f xs) ≡ filter (λ y. key_eq y.key S.key) xs →
        filter (λ y. key_eq y.key S.key) (map f (x ∷ xs)) ≡ cond b (x ∷ filter (λ y. key_eq y.key S.key) xs) (filter (λ y. key_eq y.key S.key) xs)
    one true e rest =
        ap (λ (z : Consumer). cond (key_eq z.key S.key) (z ∷ filter (λ y. key_eq y.key S.key) (map f xs)) (filter (λ y. key_eq y.key S.key) (map f xs))) (h x (sym q.0 ∙ e))
        ∙ ap (λ (v : Bool). cond v (x ∷ filter (λ y. key_eq y.key S.key) (map f xs)) (filter (λ y. key_eq y.key S.key) (map f xs))) e
        ∙ ap (λ t. x ∷ t) rest
    one false e rest =
        ap (λ (v : Bool). cond v (f x ∷ filter (λ y. key_eq y.key S.key) (map f xs)) (filter (λ y. key_eq y.key S.key) (map f xs))) (ap (λ (y : Key). key_eq y S.key) (k.key x) ∙ e)
        ∙ rest

-- a mark of a consumer of another key changes none of them
number_apart : (S : Scope) (s : SessionId) (c : ℕ) → belongs S s c ≡ false → (x : Consumer) → belongs S x.session x.id ≡ true → has_number s c x ≡ false
number_apart S s c n x b = go (has_number s c x) refl
  where
    go : (v : Bool) → has_number s c x ≡ v → v ≡ false
    go true e = let i : true ≡ false = sym b ∙ named S s c x e ∙ n in cc
    go false e = refl

pub listening_out : (S : Scope) (s : SessionId) (c : ℕ) (on : Bool) → belongs S s c ≡ false → (x : Consumer) → belongs S x.session x.id ≡ true → listening_if s c on x ≡ x
listening_out S s c on n x b = ap (λ (v : Bool). cond v (record x { is_listening = on }) x) (number_apart S s c n x b)

pub busy_out : (S : Scope) (s : SessionId) (c : ℕ) (on : Bool) → belongs S s c ≡ false → (x : Consumer) → belongs S x.session x.id ≡ true → busy_if s c on x ≡ x
busy_out S s c on n x b = ap (λ (v : Bool). cond v (record x { is_busy = on }) x) (number_apart S s c n x b)

-- none of the key's consumers passes
abbrev pub Passes : Scope → (SessionId → ℕ → Bool) → Type 0
Passes S p = (s : SessionId) (c : ℕ) → belongs S s c ≡ true → p s c ≡ false

pub closed_out : (S : Scope) (p : SessionId → ℕ → Bool) → Passes S p → (xs : List Consumer) → Placed S xs → filter (λ x. key_eq x.key S.key) (map (closed_consumer p) xs) ≡ filter (λ x. key_eq x.key S.key) xs
closed_out S p h xs q = kept_out S (closed_consumer p) (closed_keeps p) (λ x b. ap (λ (v : Bool). cond v (shut x) x) (h x.session x.id b)) xs q

-- the key's consumers say whether it ends
one_in : (p : SessionId → ℕ → Bool) (k : Key) (xs : List Consumer) → is_one_of p (filter (λ x. key_eq x.key k) xs) k ≡ is_one_of p xs k
one_in p k [] = refl
one_in p k (x ∷ xs) = grind (arith, nat_tests, one_in p k xs)

pub ends_in : (p : SessionId → ℕ → Bool) (k : Key) → Unshared k → (xs : List Consumer) → ends p (filter (λ x. key_eq x.key k) xs) k ≡ ends p xs k
ends_in p (OfQueue name) u xs = refl
ends_in p (Own s c) u xs = one_in p (Own s c) xs
ends_in p (SharedOwn client name) u xs = absurd u
ends_in p (Durable client name) u xs = refl

one_out : (S : Scope) (p : SessionId → ℕ → Bool) → Passes S p → (xs : List Consumer) → Placed S xs → is_one_of p xs S.key ≡ false
one_out S p h [] q = refl
one_out S p h (x ∷ xs) q = go (key_eq x.key S.key) refl (one_out S p h xs q.1)
  where
    go : (b : Bool) → key_eq x.key S.key ≡ b → is_one_of p xs S.key ≡ false → is_one_of p (x ∷ xs) S.key ≡ false
    go true e r = let i : p x.session x.id ≡ false = h x.session x.id (sym q.0 ∙ e) in grind (arith, nat_tests)
    go false e r = grind (arith, nat_tests)

pub ends_out : (S : Scope) (p : SessionId → ℕ → Bool) → Unshared S.key → Passes S p → (xs : List Consumer) → Placed S xs → ends p xs S.key ≡ false
ends_out S p u h xs q = go S.key u (one_out S p h xs q)
  where
    go : (k : Key) → Unshared k → is_one_of p xs k ≡ false → ends p xs k ≡ false
    go (OfQueue name) u i = refl
    go (Own s c) u i = i
    go (SharedOwn client name) u i = absurd u
    go (Durable client name) u i = refl

-- rows that are out to own sessions alone
abbrev pub OutBy : List SessionId → RowState → Type 0
OutBy sessions Waiting = Unit {0}
OutBy sessions (Out s c) = is_own sessions s ≡ true

abbrev pub OwnOut : List SessionId → List Row → Type 0
OwnOut sessions [] = Unit {0}
OwnOut sessions (r ∷ rows) = OutBy sessions r.state × OwnOut sessions rows

-- what each state keeps at the key: which consumers are the key's, and that its rows are out to own sessions alone
pub record Sound (S : Scope) (state : State) : Type 0 where
  pub placed : Placed S state.consumers
  pub out : OwnOut S.sessions (rows_of (station_of S.key state.stations))
