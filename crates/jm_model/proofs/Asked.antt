-- Of an unshared key no call asks as for a shared one.
use Rattle.std.proofs.Common.{◌≡◌, ℕ, Bool, true, false, cond, List, [], ◌∷◌, refl, Option, Some, None, length, get_or, ◌<◌, ap, ◌∙◌}
use Rattle.std.specs.Prelude.{◌&&◌, not, Result}
use Rattle.std.specs.List.{list_all}
use Rattle.std.proofs.lemmas.List.Folds.{list_all_at}
use Rattle.jm_base.specs.declared.refusal.Refusal.{Refusal}
use Rattle.jm_dest.specs.declared.session.SessionId.{SessionId}
use Rattle.jm_dest.specs.declared.key.Key.{Key}
use Rattle.jm_dest.specs.declared.key.Key.TheVariants.{Own, SharedOwn, Durable, Queue as OfQueue}
use Rattle.jm_machine.specs.declared.answer.Answer.{Answer}
use Rattle.jm_machine.specs.declared.call.Who.{Who}
use Rattle.jm_machine.specs.declared.call.Who.TheVariants.{Connection, Session}
use Rattle.jm_machine.specs.declared.call.Request.{Request}
use Rattle.jm_machine.specs.declared.call.Request.TheVariants.{CreateSharedDurable}
use Rattle.jm_machine.specs.declared.entry.Entry.{Entry}
use Rattle.jm_machine.specs.declared.entry.Entry.TheVariants.{Asked}
use Rattle.jm_machine.specs.Owns.{is_own_connection}
use Rattle.jm_machine.specs.Machine.{State, station_of, definition_of}
use Rattle.jm_machine.specs.Isolation.{is_shared, is_unshared, asks_no_shared}
use Rattle.jm_machine.specs.Lone.{Scope, clients_in, clients_of, own_clients, own_sessions}
use Rattle.jm_lone.specs.Parts.{is_held_alone, asks_no_shared as call_asks_no_shared}

-- it is held alone
pub unshared_alone : (key : Key) (opening : State) (entries : List Entry) → is_unshared key opening entries ≡ true → is_held_alone key ≡ true
unshared_alone (OfQueue name) opening entries h = h
unshared_alone (Own s c) opening entries h = refl
unshared_alone (SharedOwn client name) opening entries h = h
unshared_alone (Durable client name) opening entries h = refl

-- what passes in each case passes in all
all_so : {A : Type 0} (p : A → Bool) → ((x : A) → p x ≡ true) → (xs : List A) → list_all p xs ≡ true
all_so p f [] = refl
all_so p f (x ∷ xs) = rw (f x) (all_so p f xs)

both_true : (a b : Bool) → (a && b) ≡ true → (a ≡ true) × (b ≡ true)
both_true true b h = (refl, h)
both_true false b h = cc

all_more : {A : Type 0} (p q : A → Bool) → ((x : A) → p x ≡ true → q x ≡ true) → (xs : List A) → list_all p xs ≡ true → list_all q xs ≡ true
all_more p q f [] h = refl
all_more p q f (x ∷ xs) h = let i = both_true (p x) (list_all p xs) h in rw (f x i.0) (all_more p q f xs i.1)

-- one of a list in which each passes
pub all_one : {A : Type 0} (p : A → Bool) (xs : List A) (i : ℕ) (x : A) → i < length xs → x ≡ get_or xs i x → list_all p xs ≡ true → p x ≡ true
all_one p xs i x h is a = go (p (get_or xs i x)) refl
  where
    go : (b : Bool) → p (get_or xs i x) ≡ b → p x ≡ true
    go true e = ap p is ∙ e
    go false e = let none : list_all p xs ≡ false = list_all_at p xs i x h e in cc

-- a call asks for a consumer's own subscription by no name
own_asks : (s : SessionId) (c : ℕ) (clients : ℕ → Option (List ℕ)) (e : Entry) → asks_no_shared (Own s c) clients e ≡ true
own_asks s c clients (Asked (Session t) (CreateSharedDurable d destination name selector) told) = refl
own_asks s c clients _ = refl

-- on connections that are not own ones a call asks for a subscription without a client
fewer_clients : (sessions : List SessionId) (client name : List ℕ) (clients : ℕ → Option (List ℕ)) (e : Entry) → asks_no_shared (Durable (Some client) name) clients e ≡ true →
    asks_no_shared (Durable (Some client) name) (own_clients sessions clients) e ≡ true
fewer_clients sessions client name clients (Asked (Session t) (CreateSharedDurable d destination n selector) told) h = go (is_own_connection sessions t.connection) h
  where
    go : (b : Bool) → asks_no_shared (Durable (Some client) name) clients (Asked (Session t) (CreateSharedDurable d destination n selector) told) ≡ true →
        asks_no_shared (Durable (Some client) name) (λ c. cond b (clients c) None) (Asked (Session t) (CreateSharedDurable d destination n selector) told) ≡ true
    go true h = h
    go false h = refl
fewer_clients sessions client name clients _ h = refl

-- none asks for an unshared key
pub none_asks : (key : Key) (opening : State) (entries : List Entry) → is_unshared key opening entries ≡ true → list_all (asks_no_shared key (clients_of key opening entries)) entries ≡ true
none_asks (OfQueue name) opening entries h = cc
none_asks (Own s c) opening entries h = all_so (asks_no_shared (Own s c) (clients_of (Own s c) opening entries)) (own_asks s c (clients_of (Own s c) opening entries)) entries
none_asks (SharedOwn client name) opening entries h = cc
none_asks (Durable None name) opening entries h = cc
none_asks (Durable (Some client) name) opening entries h =
    all_more (asks_no_shared (Durable (Some client) name) (clients_in opening entries)) (asks_no_shared (Durable (Some client) name) (clients_of (Durable (Some client) name) opening entries))
    (fewer_clients (own_sessions (Durable (Some client) name) opening entries) client name (clients_in opening entries)) entries
    (both_true (not (is_shared (definition_of (station_of (Durable (Some client) name) opening.stations)))) _ h).1

-- so it is of a call, whatever it was told
pub call_asks : (S : Scope) (who : Who) (request : Request) (told : Result Answer Refusal) → asks_no_shared S.key S.clients (Asked who request told) ≡ call_asks_no_shared S who request
call_asks S (Connection c) request told = refl
call_asks S (Session s) (CreateSharedDurable c destination name selector) told = refl
call_asks S (Session s) _ told = refl
