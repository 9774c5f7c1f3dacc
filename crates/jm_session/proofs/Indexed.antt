-- What stands in the index of clients, and which clients have open connections, after each change.
use Rattle.std.proofs.Common.{◌≡◌, ◌≤◌, ◌+◌, ℕ, zero, suc, Bool, true, false, cond, List, [], ◌∷◌, ◌++◌, Option, None, Some, refl, sym, ap, ◌∙◌, arith}
use Rattle.std.specs.Prelude.{◌&&◌, ◌||◌, not, is_some, unwrap_or, slice_get, option_to_list, if◌then◌else◌}
use Rattle.std.specs.Cmp.Lexicographic.{bytes_decides}
use Rattle.std.specs.Map.{lookup, values_of}
use Rattle.std.proofs.lemmas.List.Folds.{list_any-append}
use Rattle.indexmap.specs.IndexMap.{set_value_at}
use Rattle.jm_dest.specs.Names.{client_eq, text_eq}
use Rattle.jm_indexed.specs.Entries.{Updates}
use Rattle.jm_machine.specs.declared.state.ConnectionState.{ConnectionState}
use Rattle.jm_machine.specs.declared.state.SessionState.{SessionState}
use Rattle.jm_machine.specs.Life.{is_client_open, is_client_taken}
use Rattle.jm_session.specs.declared.clients.Clients.{Clients}
use Rattle.jm_session.specs.Clients.{AreClientsApart, IsIndexOf, has_client, is_indexed, open_with}
use Rattle.jm_session.proofs.Found.{life_of}

-- the client of an open connection is its own
pub is_own : (x : ConnectionState) (own client : List ℕ) → x.is_open ≡ true → x.client ≡ Some own → has_client x client ≡ text_eq own client
is_own x own client still is = ap (λ b. b && client_eq x.client (Some client)) still ∙ ap (λ k. client_eq k (Some client)) is

-- an empty index has no client
pub nothing_indexed : (clients : Clients) → clients.owners.entries ≡ [] → IsIndexOf [] clients
unfolding is_indexed
nothing_indexed clients e = λ client. ap (λ es. is_some (lookup (text_eq client) es)) e

-- where the entries stay, each client stands in the index as before
pub still_indexed : (old new : Clients) → new.owners.entries ≡ old.owners.entries → (client : List ℕ) → is_indexed new client ≡ is_indexed old client
unfolding is_indexed
still_indexed old new same client = ap (λ es. is_some (lookup (text_eq client) es)) same

-- one more client stands in the index
pub one_indexed : (old new : Clients) (own : List ℕ) (n : ℕ) → Updates text_eq old.owners.entries new.owners.entries own (Some n) → (client : List ℕ) → is_indexed new client ≡ (is_indexed old client || text_eq own client)
unfolding is_indexed
one_indexed old new own n h client = ap is_some (h client) ∙ go (text_eq own client) (lookup (text_eq client) old.owners.entries)
  where
    go : (b : Bool) (o : Option ℕ) → is_some (cond b (Some n) o) ≡ (is_some o || b)
    go true None = refl
    go true (Some x) = refl
    go false None = refl
    go false (Some x) = refl

-- none of two
or_none : (b : Bool) → (b || false) ≡ b
or_none true = refl
or_none false = refl

-- a client that stands in the index already
pub still_there : (clients : Clients) (own : List ℕ) → is_indexed clients own ≡ true → (client : List ℕ) → is_indexed clients client ≡ (is_indexed clients client || text_eq own client)
still_there clients own there client = go (text_eq own client) refl
  where
    stays : (b : Bool) → b ≡ true → b ≡ (b || true)
    stays true e = refl
    stays false e = e

    go : (b : Bool) → text_eq own client ≡ b → is_indexed clients client ≡ (is_indexed clients client || b)
    go true e = stays (is_indexed clients client) (ap (is_indexed clients) (sym ((bytes_decides own client).0 e)) ∙ there)
    go false e = sym (or_none (is_indexed clients client))

-- a client stands in the index no more
pub one_freed : (old new : Clients) (own : List ℕ) → Updates text_eq old.owners.entries new.owners.entries own None → (client : List ℕ) → is_indexed new client ≡ (is_indexed old client && not (text_eq own client))
unfolding is_indexed
one_freed old new own h client = ap is_some (h client) ∙ go (text_eq own client) (lookup (text_eq client) old.owners.entries)
  where
    go : (b : Bool) (o : Option ℕ) → is_some (cond b None o) ≡ (is_some o && not b)
    go true None = refl
    go true (Some x) = refl
    go false None = refl
    go false (Some x) = refl

-- an open connection may be the last
open_last : (connections : List ConnectionState) (x : ConnectionState) (client : List ℕ) → is_client_open (connections ++ x ∷ []) client ≡ (is_client_open connections client || has_client x client)
open_last connections x client =
    list_any-append (λ y. has_client y client) connections (x ∷ [])
    ∙ ap (λ b. is_client_open connections client || b) (or_none (has_client x client))

-- the index with one more connection's client
pub index_of_more : (connections : List ConnectionState) (x : ConnectionState) (old new : Clients) → IsIndexOf connections old → ((client : List ℕ) → is_indexed new client ≡ (is_indexed old client || has_client x client)) → IsIndexOf (connections ++ x ∷ []) new
index_of_more connections x old new h more = λ client.
    more client ∙ ap (λ b. b || has_client x client) (h client) ∙ sym (open_last connections x client)

-- more than none
abbrev positive : ℕ → Bool
positive zero = false
positive (suc n) = true

-- a client that some open connection has
open_positive : (connections : List ConnectionState) (client : List ℕ) → is_client_open connections client ≡ positive (open_with connections client)
open_positive [] client = refl
open_positive (x ∷ xs) client = ap (λ b. has_client x client || b) (open_positive xs client) ∙ go (has_client x client) (open_with xs client)
  where
    go : (b : Bool) (n : ℕ) → (b || positive n) ≡ positive ((if b then 1 else 0) + n)
    go true n = let next : 1 + n ≡ suc n = omega arith in sym (ap positive next)
    go false n = let same : 0 + n ≡ n = omega arith in sym (ap positive same)

-- one alone
abbrev hit : ConnectionState → List ℕ → ℕ
hit x client = if has_client x client then 1 else 0

-- as many have it once one more connection stands last
open_with_more : (connections : List ConnectionState) (x : ConnectionState) (client : List ℕ) → open_with (connections ++ x ∷ []) client ≡ open_with connections client + hit x client
open_with_more [] x client = omega arith
open_with_more (y ∷ ys) x client = omega (arith, open_with_more ys x client)

none_positive : (n : ℕ) → positive n ≡ false → n ≡ 0
none_positive zero h = refl
none_positive (suc n) h = cc

-- one connection alone has no client of another
pub apart_one : (one : Option ConnectionState) → AreClientsApart (option_to_list one)
apart_one None = λ client. omega arith
apart_one (Some x) = λ client. go (has_client x client)
  where
    go : (b : Bool) → (if b then 1 else 0) + 0 ≤ 1
    go true = omega arith
    go false = omega arith

-- the clients stay apart where one connection more has a client that no open one has
pub apart_more : (connections : List ConnectionState) (x : ConnectionState) → AreClientsApart connections → ((client : List ℕ) → has_client x client ≡ true → is_client_open connections client ≡ false) → AreClientsApart (connections ++ x ∷ [])
apart_more connections x apart free = λ client. by client (has_client x client) refl
  where
    by : (client : List ℕ) (b : Bool) → has_client x client ≡ b → open_with (connections ++ x ∷ []) client ≤ 1
    by client true e =
        let none : open_with connections client ≡ 0 = none_positive (open_with connections client) (sym (open_positive connections client) ∙ free client e) in
        let one : hit x client ≡ 1 = ap (λ b. if b then 1 else 0) e in
        omega (arith, open_with_more connections x client, none, one)
    by client false e =
        let none : hit x client ≡ 0 = ap (λ b. if b then 1 else 0) e in
        omega (arith, open_with_more connections x client, apart client, none)

-- a connection of a client that is not taken
pub free_client : (connections : List ConnectionState) (sessions : List SessionState) (x : ConnectionState) → is_client_taken (life_of connections sessions) x.client ≡ false → (client : List ℕ) → has_client x client ≡ true → is_client_open connections client ≡ false
free_client connections sessions x free client has = by x.client refl (second x.is_open (client_eq x.client (Some client)) has)
  where
    second : (a b : Bool) → (a && b) ≡ true → b ≡ true
    second true b h = h
    second false b h = cc

    by : (own : Option (List ℕ)) → x.client ≡ own → client_eq own (Some client) ≡ true → is_client_open connections client ≡ false
    by None is same = cc
    by (Some text) is same =
        ap (is_client_open connections) (sym ((bytes_decides text client).0 same))
        ∙ ap (is_client_taken (life_of connections sessions)) (sym is)
        ∙ free

module _ (w : ConnectionState) where
  -- one connection in the place of another
  open_with_set : (entries : List (ℕ × ConnectionState)) (at : ℕ) (v : ConnectionState) (client : List ℕ) → slice_get (values_of entries) at ≡ Some v →
      open_with (values_of (set_value_at entries at w)) client + hit v client ≡ open_with (values_of entries) client + hit w client
  open_with_set [] at v client there = cc
  open_with_set (e ∷ entries) zero v client there =
      let same : hit e.1 client ≡ hit v client = ap (λ o. hit (unwrap_or o v) client) there in
      omega (arith, same)
  open_with_set (e ∷ entries) (suc at) v client there = omega (arith, open_with_set entries at v client there)

  -- a connection whose client and opening stay
  pub apart_kept : (entries : List (ℕ × ConnectionState)) (at : ℕ) (v : ConnectionState) → slice_get (values_of entries) at ≡ Some v → ((client : List ℕ) → has_client w client ≡ has_client v client) →
      AreClientsApart (values_of entries) → AreClientsApart (values_of (set_value_at entries at w))
  apart_kept entries at v there keeps apart = λ client. omega (arith, open_with_set entries at v client there, same client, apart client)
    where
      same : (client : List ℕ) → hit w client ≡ hit v client
      same client = ap (λ b. if b then 1 else 0) (keeps client)

  pub index_kept : (entries : List (ℕ × ConnectionState)) (at : ℕ) (v : ConnectionState) (clients : Clients) → slice_get (values_of entries) at ≡ Some v → ((client : List ℕ) → has_client w client ≡ has_client v client) →
      IsIndexOf (values_of entries) clients → IsIndexOf (values_of (set_value_at entries at w)) clients
  index_kept entries at v clients there keeps index = λ client.
      index client
      ∙ open_positive (values_of entries) client
      ∙ ap positive (omega (arith, open_with_set entries at v client there, same client))
      ∙ sym (open_positive (values_of (set_value_at entries at w)) client)
    where
      same : (client : List ℕ) → hit w client ≡ hit v client
      same client = ap (λ b. if b then 1 else 0) (keeps client)

  -- a connection that is closed
  pub apart_closed : (entries : List (ℕ × ConnectionState)) (at : ℕ) (v : ConnectionState) → slice_get (values_of entries) at ≡ Some v → w.is_open ≡ false → AreClientsApart (values_of entries) → AreClientsApart (values_of (set_value_at entries at w))
  apart_closed entries at v there closed apart = λ client. omega (arith, open_with_set entries at v client there, none client, apart client)
    where
      none : (client : List ℕ) → hit w client ≡ 0
      none client = ap (λ b. if b && client_eq w.client (Some client) then 1 else 0) closed

  pub index_closed : (entries : List (ℕ × ConnectionState)) (at : ℕ) (v : ConnectionState) (old new : Clients) → slice_get (values_of entries) at ≡ Some v → w.is_open ≡ false → AreClientsApart (values_of entries) →
      ((client : List ℕ) → is_indexed new client ≡ (is_indexed old client && not (has_client v client))) → IsIndexOf (values_of entries) old → IsIndexOf (values_of (set_value_at entries at w)) new
  index_closed entries at v old new there closed apart freed index = λ client.
      freed client
      ∙ ap (λ b. b && not (has_client v client)) (index client ∙ open_positive (values_of entries) client)
      ∙ go (has_client v client) (open_with (values_of entries) client) (open_with (values_of (set_value_at entries at w)) client) (omega (arith, open_with_set entries at v client there, none client)) (apart client)
      ∙ sym (open_positive (values_of (set_value_at entries at w)) client)
    where
      none : (client : List ℕ) → hit w client ≡ 0
      none client = ap (λ b. if b && client_eq w.client (Some client) then 1 else 0) closed

      and_none : (b : Bool) → (b && false) ≡ false
      and_none true = refl
      and_none false = refl

      and_all : (b : Bool) → (b && true) ≡ b
      and_all true = refl
      and_all false = refl

      go : (b : Bool) (n m : ℕ) → m + (if b then 1 else 0) ≡ n → n ≤ 1 → (positive n && not b) ≡ positive m
      go true n m e few = let no : m ≡ 0 = omega (arith, e, few) in and_none (positive n) ∙ sym (ap positive no)
      go false n m e few = let same : n ≡ m = omega (arith, e) in and_all (positive n) ∙ ap positive same
