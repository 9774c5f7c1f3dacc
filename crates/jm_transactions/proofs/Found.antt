-- What a look-up finds after a change.
use Rattle.std.proofs.Common.{◌≡◌, ℕ, Bool, true, false, cond, List, [], ◌∷◌, map, refl, ap, arith, Option, Some, None}
use Rattle.std.specs.Prelude.{◌==◌, find, is_some, option_map, None}
use Rattle.std.proofs.lemmas.Bool.Decides.{nat_tests}
use Rattle.jm_dest.specs.declared.session.SessionId.{SessionId}
use Rattle.jm_dest.specs.Names.{session_eq}
use Rattle.jm_machine.specs.declared.state.ConnectionState.{ConnectionState}
use Rattle.jm_machine.specs.declared.state.SessionState.{SessionState}
use Rattle.jm_machine.specs.Life.{connection_of, session_of, with_started, started_if, closed_if, closed_where, close_sessions}
use Rattle.jm_machine.proofs.Keys.{session_same}

-- a change that keeps what the test asks for
find-map : {A : Type 0} (p : A → Bool) (f : A → A) → ((x : A) → p (f x) ≡ p x) → (xs : List A) → find p (map f xs) ≡ option_map f (find p xs)
find-map p f h [] = refl
find-map p f h (x ∷ xs) = rw (h x, find-map p f h xs) (go (p x) (find p xs))
  where
    go : (b : Bool) (o : Option _) → cond b (Some (f x)) (option_map f o) ≡ option_map f (cond b (Some x) o)
    go true o = refl
    go false o = refl

-- what is found passes the test
abbrev pub Passes : {A : Type 0} → (A → Bool) → Option A → Type 0
Passes p None = Unit {0}
Passes p (Some x) = p x ≡ true

pub found_passes : {A : Type 0} (p : A → Bool) (xs : List A) → Passes p (find p xs)
found_passes p [] = tt
found_passes p (x ∷ xs) = go (p x) refl (found_passes p xs)
  where
    go : (b : Bool) → p x ≡ b → Passes p (find p xs) → Passes p (cond b (Some x) (find p xs))
    go true e r = e
    go false e r = r

-- a connection that is started or stopped, or closes, is found where it was
pub found_started : (c : ℕ) (on : Bool) (k : ℕ) (xs : List ConnectionState) → connection_of (with_started c on xs) k ≡ option_map (started_if c on) (connection_of xs k)
found_started c on k xs = find-map (λ x. x.id == k) (started_if c on) (λ x. ap (λ n. n == k) (keeps x (x.id == c))) xs
  where
    keeps : (x : ConnectionState) (b : Bool) → (cond b (record x { is_started = on }) x).id ≡ x.id
    keeps x true = refl
    keeps x false = refl

pub found_closed : (c k : ℕ) (xs : List ConnectionState) → connection_of (map (closed_if c) xs) k ≡ option_map (closed_if c) (connection_of xs k)
found_closed c k xs = find-map (λ x. x.id == k) (closed_if c) (λ x. ap (λ n. n == k) (keeps x (x.id == c))) xs
  where
    keeps : (x : ConnectionState) (b : Bool) → (cond b (record x { client = None; is_started = false; is_open = false }) x).id ≡ x.id
    keeps x true = refl
    keeps x false = refl

-- a session that closes
pub found_session : (p : SessionId → Bool) (s : SessionId) (xs : List SessionState) → session_of (close_sessions p xs) s ≡ option_map (closed_where p) (session_of xs s)
found_session p s xs = find-map (λ x. session_eq x.id s) (closed_where p) (λ x. ap (λ (t : SessionId). session_eq t s) (keeps x (p x.id))) xs
  where
    keeps : (x : SessionState) (b : Bool) → (cond b (record x { is_open = false }) x).id ≡ x.id
    keeps x true = refl
    keeps x false = refl

-- what is there after a change is there before
pub still_there : {A B : Type 0} (f : A → B) (o : Option A) → is_some (option_map f o) ≡ is_some o
still_there f None = refl
still_there f (Some x) = refl
