-- What is found by number, and what an insertion adds.
use Rattle.std.proofs.Common.{◌≡◌, ◌<◌, ℕ, length, Bool, true, false, cond, List, [], ◌∷◌, ◌++◌, Option, None, Some, refl, sym, ap, ◌∙◌, subst, arith, Result, Ok, Err, IsOk, OnOk, OnErr}
use Rattle.std.specs.Prelude.{◌==◌, ◌&&◌, find, position, nat_lt, is_some, not, map, option_to_list}
use Rattle.std.specs.List.{AllZip, position_or_len}
use Rattle.std.proofs.lemmas.Bool.Decides.{nat_tests}
use Rattle.std.specs.Map.{lookup, values_of}
use Rattle.std.proofs.lemmas.Bool.{eqb-true, eq-eqb}
use Rattle.indexmap.specs.IndexMap.{IndexMap, insert_entry, values}
use Rattle.indexmap.proofs.CallerLemmas.{insert_entry-new}
use Rattle.jm_dest.specs.declared.session.SessionId.{SessionId}
use Rattle.jm_dest.specs.Names.{session_eq}
use Rattle.jm_machine.specs.declared.state.ConnectionState.{ConnectionState}
use Rattle.jm_machine.specs.declared.state.SessionState.{SessionState}
use Rattle.jm_machine.specs.Life.{Life, connection_of, session_of}
use Rattle.jm_machine.proofs.Keys.{session_refl}
use Rattle.jm_session.specs.declared.number.ConsumerNumber.{ConsumerNumber}
use Rattle.jm_session.specs.Numbers.{IsNumbered}

-- what follows from each outcome of a call follows from the call
pub either : {T E A B P : Type 0} (r : Result T E) → OnOk r A → OnErr r B → (A → P) → (B → P) → P
either (Ok x) ok err f g = f ok
either (Err x) ok err f g = g err

pub num_sym : (a b : ℕ) → (a == b) ≡ (b == a)
num_sym a b = by (a == b) refl
  where
    by : (r : Bool) → (a == b) ≡ r → (a == b) ≡ (b == a)
    by true e = e ∙ sym (eq-eqb b a (sym (eqb-true a b e)))
    by false e = other (b == a) refl
      where
        other : (s : Bool) → (b == a) ≡ s → (a == b) ≡ (b == a)
        other true f = eq-eqb a b (sym (eqb-true b a f)) ∙ sym f
        other false f = e ∙ sym f

pub session_sym : (a b : SessionId) → session_eq a b ≡ session_eq b a
session_sym a b = λ i. num_sym a.connection b.connection i && num_sym a.number b.number i

-- two numbers of consumers are the same
abbrev pub number_eq : ConsumerNumber → ConsumerNumber → Bool
number_eq a b = session_eq a.session b.session && (a.consumer == b.consumer)

pub number_refl : (a : ConsumerNumber) → number_eq a a ≡ true
number_refl a = (λ i. session_refl a.session i && (a.consumer == a.consumer)) ∙ eq-eqb a.consumer a.consumer refl

pub number_sym : (a b : ConsumerNumber) → number_eq a b ≡ number_eq b a
number_sym a b = λ i. session_sym a.session b.session i && num_sym a.consumer b.consumer i

module _ {K V : Type 0} (eq : K → K → Bool) (symmetric : (a b : K) → eq a b ≡ eq b a) (number : V → K) where
  -- what is found under a number is the first that has it
  pub found : (entries : List (K × V)) (k : K) → IsNumbered number entries → lookup (eq k) entries ≡ find (λ x. eq (number x) k) (values_of entries)
  found [] k h = refl
  found (e ∷ entries) k h =
      (λ i. cond (eq k (h.0 i)) (Some e.1) (found entries k h.1 i))
      ∙ ap (λ b. cond b (Some e.1) (find (λ x. eq (number x) k) (values_of entries))) (symmetric k (number e.1))

-- the connection of a number is what stands under it
pub connection_found : (entries : List (ℕ × ConnectionState)) (k : ℕ) → IsNumbered (λ x. x.id) entries → connection_of (values_of entries) k ≡ lookup (λ j. k == j) entries
connection_found entries k h = sym (found (λ a b. a == b) num_sym (λ x. x.id) entries k h)

-- the session of a number is what stands under it
pub session_found : (entries : List (SessionId × SessionState)) (k : SessionId) → IsNumbered (λ x. x.id) entries → session_of (values_of entries) k ≡ lookup (session_eq k) entries
session_found entries k h = sym (found session_eq session_sym (λ x. x.id) entries k h)

module _ {K V : Type 0} where
  -- what is added stands last
  pub values-added : (entries : List (K × V)) (k : K) (v : V) → values_of (entries ++ (k, v) ∷ []) ≡ values_of entries ++ v ∷ []
  values-added [] k v = refl
  values-added (e ∷ entries) k v = ap (λ t. e.1 ∷ t) (values-added entries k v)

  pub numbered-added : (number : V → K) (entries : List (K × V)) (k : K) (v : V) → k ≡ number v → IsNumbered number entries → IsNumbered number (entries ++ (k, v) ∷ [])
  numbered-added number [] k v e h = (e, tt)
  numbered-added number (x ∷ entries) k v e h = (h.0, numbered-added number entries k v e h.1)

-- what an index that was looked for says
pub found_at : {A : Type 0} (p : A → Bool) (xs : List A) (i : ℕ) → position p xs ≡ Some i → (position_or_len p xs ≡ i) × (i < length xs)
found_at {A} p xs i h = go (position_or_len p xs) (length xs) (nat_lt (position_or_len p xs) (length xs)) refl h
  where
    go : (n m : ℕ) (b : Bool) → nat_lt n m ≡ b → cond b (Some n) None ≡ Some i → (n ≡ i) × (i < m)
    go n m true e h = let same : n ≡ i = cc in (same, grind (arith, nat_tests))
    go n m false e h = cc

-- what is not there is nothing
pub nothing : {A : Type 0} (o : Option A) → is_some o ≡ false → o ≡ None
nothing None h = refl
nothing (Some x) h = cc

module _ {K V S : Type 0} (eq : K → K → Bool) (symmetric : (a b : K) → eq a b ≡ eq b a) (number : V → K) where
  -- a value of a new number, once it is inserted
  pub added : (old new : IndexMap K V S) (k : K) (v : V) → k ≡ number v → IsNumbered number old.entries → is_some (find (λ x. eq (number x) k) (values old)) ≡ false →
      new.entries ≡ insert_entry eq old.entries k v → (values new ≡ values old ++ v ∷ []) × IsNumbered number new.entries
  added old new k v e h absent is =
      let all : new.entries ≡ old.entries ++ (k, v) ∷ [] = is ∙ insert_entry-new eq old k v (found eq symmetric number old.entries k h ∙ nothing (find (λ x. eq (number x) k) (values old)) absent) in
      (ap values_of all ∙ values-added old.entries k v, subst (IsNumbered number) (sym all) (numbered-added number old.entries k v e h))

-- what an insertion for which there is room does
pub surely : {T E P : Type 0} (r : Result T E) → OnOk r P → IsOk r → P
surely (Ok x) h ok = h
surely (Err x) h ok = cc

-- the connections after one of a new number, for which room was made, was inserted
pub opened : {S : Type 0} (old reserved new : IndexMap ℕ ConnectionState S) (x : ConnectionState) → IsNumbered (λ x. x.id) old.entries → is_some (connection_of (values old) x.id) ≡ false →
    reserved.entries ≡ old.entries → new.entries ≡ insert_entry (λ a b. a == b) reserved.entries x.id x → (values new ≡ values old ++ x ∷ []) × IsNumbered (λ x. x.id) new.entries
opened old reserved new x h absent same is =
    added (λ a b. a == b) num_sym (λ x. x.id) old new x.id x refl h absent (is ∙ ap (λ es. insert_entry (λ a b. a == b) es x.id x) same)

-- a clone has the same entries
pub same_entries : {K V : Type 0} (old new : List (K × V)) → AllZip (λ p q. (q.0 ≡ p.0) × (q.1 ≡ p.1)) old new → new ≡ old
same_entries [] [] h = refl
same_entries [] (f ∷ fs) h = absurd h
same_entries (e ∷ es) [] h = absurd h
same_entries (e ∷ es) (f ∷ fs) h = λ i. (h.0.0 i, h.0.1 i) ∷ same_entries es fs h.1 i

-- one value alone, under its number
pub one_numbered : {K V : Type 0} (number : V → K) (one : Option V) → IsNumbered number (map (λ x. (number x, x)) (option_to_list one))
one_numbered number None = tt
one_numbered number (Some x) = (refl, tt)

pub one_value : {K V : Type 0} (number : V → K) (one : Option V) → values_of (map (λ x. (number x, x)) (option_to_list one)) ≡ option_to_list one
one_value number None = refl
one_value number (Some x) = refl

-- a life of these connections and sessions
abbrev pub life_of : List ConnectionState → List SessionState → Life
life_of connections sessions = record { connections = connections; sessions = sessions }

-- of two checks the second fails
pub not_used : (a b : Bool) → (a && not b) ≡ true → b ≡ false
not_used a false h = refl
not_used true true h = cc
not_used false true h = cc
