-- What is stored of a core that was made of what was stored.
use Rattle.std.proofs.Common.{◌≡◌, ◌<◌, ◌+◌, ◌==◌, ℕ, zero, suc, Bool, true, false, cond, List, [], ◌∷◌, ◌++◌, map, length, get_or, refl, ap, sym, subst, ◌∙◌, arith, Option, Some, None}
use Rattle.std.specs.Prelude.{◌&&◌, IfSome, find, option_map}
use Rattle.std.specs.List.{All, AllByRecursion, IsDistinct}
use Rattle.std.proofs.lemmas.Bool.{eq-eqb, eqb-true}
use Rattle.std.proofs.lemmas.Bool.Decides.{nat_tests}
use Rattle.std.proofs.lemmas.List.Elements.{All-head, All-tail}
use Rattle.jm_dest.specs.declared.destination.Destination.{Destination}
use Rattle.jm_dest.specs.declared.destination.Destination.TheVariants as destination
use Rattle.jm_dest.specs.declared.key.Key.{Key}
use Rattle.jm_dest.specs.declared.key.Key.TheVariants.{Queue, Own, SharedOwn, Durable}
use Rattle.jm_dest.specs.Keys.{key_eq}
use Rattle.jm_dest.specs.Names.{text_eq}
use Rattle.jm_format.specs.Format as format
use Rattle.jm_header.specs.declared.content.Content.{Content}
use Rattle.jm_keep.specs.Persisted.{IsPersisted, StoredRow as KeptRow, count_of, due_time, durable_definition, if_stored, row_at, stored_row as kept_row}
use Rattle.jm_machine.specs.declared.state.PlacedRow.{PlacedRow}
use Rattle.jm_machine.specs.declared.state.Row.{Row}
use Rattle.jm_machine.specs.declared.state.Station.{Station}
use Rattle.jm_machine.specs.Machine.{definition_of, station_of}
use Rattle.jm_machine.specs.Reopened.{is_durable}
use Rattle.jm_machine.specs.Wants.{placed_rows}
use Rattle.jm_machine.specs.Under.{is_persistent}
use Rattle.jm_machine.proofs.Keys.{key_refl}
use Rattle.jm_stations.specs.declared.loading.StoredRow.{StoredRow}
use Rattle.jm_stations.specs.Loading.{stored_at, stored_row}
use Rattle.jm_parts.specs.declared.stored.Holders.{Holders}
use Rattle.jm_parts.specs.declared.stored.Holders.TheVariants as holders
use Rattle.jm_parts.specs.declared.stored.StoredMessage.{StoredMessage}
use Rattle.jm_parts.specs.declared.stored.StoredSubscription.{StoredSubscription}
use Rattle.jm_parts.specs.Stored.{AreHolders, ArePlaced, IsAdmitted, MayReopen, count_at, count_under, row_stored, rows_stored, rows_under, sent_to, state_stored, stations_stored}
use Rattle.jm_reopened.specs.Given.{AreSome, ReopenedIsGiven, count_given, count_in, count_of_key, due_given, given, given_at}

-- what stands for a row where there is none
abbrev no_stored : StoredRow
no_stored = record { index = 0; count = 0 }

-- ---- the row at a place

-- the row of a message that was delivered so often
abbrev row_of : Content → Option ℕ → Option Row
row_of m None = None
row_of m (Some n) = Some (stored_row m n)

-- the same of one that may have been given
abbrev given_row : (StoredMessage → Option ℕ) → Option StoredMessage → Option Row
given_row f None = None
given_row f (Some m) = row_of m.message (f m)

no_row : (p low : ℕ) (f : StoredMessage → Option ℕ) (ms : List StoredMessage) → p < low → ArePlaced low ms → row_at p (rows_stored f ms) ≡ None
no_row p low f [] l h = refl
no_row p low f (m ∷ ms) l h =
    let from = h.0 in
    let other : (m.place == p) ≡ false = grind (arith, nat_tests) in
    go other (f m) (no_row p (m.place + 1) f ms (omega (arith, l, from)) h.2)
  where
    go : (m.place == p) ≡ false → (o : Option ℕ) → row_at p (rows_stored f ms) ≡ None → row_at p (row_stored m.place m.message o ++ rows_stored f ms) ≡ None
    go other None rest = rest
    go other (Some n) rest = ap (λ b. cond b (Some (stored_row m.message n)) (row_at p (rows_stored f ms))) other ∙ rest

row_given : (p low : ℕ) (f : StoredMessage → Option ℕ) (ms : List StoredMessage) → ArePlaced low ms → row_at p (rows_stored f ms) ≡ given_row f (given_at p ms)
row_given p low f [] h = refl
row_given p low f (m ∷ ms) h = go (m.place == p) refl (f m) refl (row_given p (m.place + 1) f ms h.2)
  where
    go : (b : Bool) → (m.place == p) ≡ b → (o : Option ℕ) → f m ≡ o → row_at p (rows_stored f ms) ≡ given_row f (given_at p ms) → row_at p (row_stored m.place m.message o ++ rows_stored f ms) ≡ given_row f (cond b (Some m) (given_at p ms))
    go true t None e rest =
        let none = no_row p (m.place + 1) f ms (let same : m.place ≡ p = eqb-true m.place p t in omega (arith, same)) h.2 in
        none ∙ sym (ap (row_of m.message) e)
    go true t (Some n) e rest = ap (λ b. cond b (Some (stored_row m.message n)) (row_at p (rows_stored f ms))) t ∙ sym (ap (row_of m.message) e)
    go false t None e rest = rest
    go false t (Some n) e rest = ap (λ b. cond b (Some (stored_row m.message n)) (row_at p (rows_stored f ms))) t ∙ rest

-- the row under the subscription of a key
row_in : (p low : ℕ) (g : ℕ → StoredMessage → Option ℕ) (ss : List StoredSubscription) (ms : List StoredMessage) (key : Key) → ArePlaced low ms → row_at p (placed_rows (station_of key (stations_stored (λ i. rows_stored (g i) ms) ss))) ≡ given_row (λ m. count_in (λ i. g i m) ss key) (given_at p ms)
row_in p low g [] ms key h = go (given_at p ms)
  where
    go : (o : Option StoredMessage) → None ≡ given_row (λ m. None) o
    go None = refl
    go (Some m) = refl
row_in p low g (s ∷ ss) ms key h = go (key_eq s.key key) (row_given p low (g zero) ms h) (row_in p low (λ i. g (suc i)) ss ms key h)
  where
    first : Station
    first = record { key = s.key; definition = s.definition; missed = 0; rows = rows_stored (g zero) ms }

    go : (b : Bool) → row_at p (rows_stored (g zero) ms) ≡ given_row (g zero) (given_at p ms) → row_at p (placed_rows (station_of key (stations_stored (λ i. rows_stored (g (suc i)) ms) ss))) ≡ given_row (λ m. count_in (λ i. g (suc i) m) ss key) (given_at p ms) →
        row_at p (placed_rows (cond b (Some first) (station_of key (stations_stored (λ i. rows_stored (g (suc i)) ms) ss)))) ≡ given_row (λ m. cond b (g zero m) (count_in (λ i. g (suc i) m) ss key)) (given_at p ms)
    go true here rest = here
    go false here rest = rest

-- ---- what is stored of it: all messages that are held are PERSISTENT

stored_kept : (m : Content) (n : ℕ) → is_persistent m.mode ≡ true → if_stored (Some (stored_row m n)) ≡ Some (record { count = n; message = m })
stored_kept m n e = ap (λ b. cond b (Some (record { count = n; message = m })) None) e

first_true : (a b : Bool) → (a && b) ≡ true → a ≡ true
first_true true b h = refl
first_true false b h = cc

-- a message that a queue or a subscription holds is
held_persists : (ss : List StoredSubscription) (m : Content) (h : Holders) → AreHolders ss m h → AreSome h → is_persistent m.mode ≡ true
held_persists ss m (holders.Queue count) a some = go m.destination a.0.1
  where
    go : (d : Destination) → sent_to a.0.0 (is_persistent m.mode) d ≡ true → is_persistent m.mode ≡ true
    go (destination.Queue queue) e = first_true (is_persistent m.mode) (text_eq queue a.0.0) e
    go (destination.Topic topic) e = cc
held_persists ss m (holders.Subscriptions rows) a some = at ss (a.0 zero no_stored some)
  where
    at : (ss : List StoredSubscription) → IsAdmitted ss m (get_or rows.items zero no_stored) → is_persistent m.mode ≡ true
    at [] x = absurd (let w = x.within in omega (arith, w))
    at (s ∷ ss) x = first_true (is_persistent m.mode) _ (x.admitted s)

-- what holds of each message holds of the one at a place
of_given : (P : StoredMessage → Type 0) (p : ℕ) (ms : List StoredMessage) → All P ms → IfSome (given_at p ms) P
of_given P p [] h = tt
of_given P p (m ∷ ms) h = go (m.place == p) (All-head P m ms h) (of_given P p ms (All-tail P m ms h))
  where
    go : (b : Bool) → P m → IfSome (given_at p ms) P → IfSome (cond b (Some m) (given_at p ms)) P
    go true here rest = here
    go false here rest = rest

-- a message may be held by those who hold it, and somebody does
record IsHeld (ss : List StoredSubscription) (m : StoredMessage) : Type 0 where
  may : AreHolders ss m.message m.holders
  some : AreSome m.holders

all_held : (ss : List StoredSubscription) (ms : List StoredMessage) → MayReopen ss ms → All (λ (m : StoredMessage). AreSome m.holders) ms → All (IsHeld ss) ms
all_held ss ms h some = λ k d l. record { may = h.held k d l; some = some k d l }

-- what a keeper has of a message that was delivered so often
abbrev kept_of : Content → Option ℕ → Option KeptRow
kept_of m n = option_map (λ n. record { count = n; message = m }) n

-- the same of one that may have been given
abbrev kept_given : (StoredMessage → Option ℕ) → Option StoredMessage → Option KeptRow
kept_given f None = None
kept_given f (Some m) = kept_of m.message (f m)

kept_one : (ss : List StoredSubscription) (f : StoredMessage → Option ℕ) (o : Option StoredMessage) → IfSome o (IsHeld ss) → if_stored (given_row f o) ≡ kept_given f o
kept_one ss f None h = refl
kept_one ss f (Some m) h = go (f m)
  where
    go : (n : Option ℕ) → if_stored (row_of m.message n) ≡ kept_of m.message n
    go None = refl
    go (Some n) = stored_kept m.message n (held_persists ss m.message m.holders h.may h.some)

nothing_kept : (o : Option StoredMessage) → None ≡ kept_given (λ m. None) o
nothing_kept None = refl
nothing_kept (Some m) = refl

-- under each key
kept_is : (opening limit : ℕ) (ss : List StoredSubscription) (ms : List StoredMessage) → MayReopen ss ms → All (IsHeld ss) ms → (key : Key) (place : ℕ) → kept_row (state_stored opening limit ss ms) key place ≡ kept_given (count_of_key ss key) (given_at place ms)
kept_is opening limit ss ms h a (Queue name) place =
    let f : StoredMessage → Option ℕ = λ m. count_at name m.message.destination m.holders in
    ap if_stored (row_given place 1 f ms h.placed) ∙ kept_one ss f (given_at place ms) (of_given (IsHeld ss) place ms a)
kept_is opening limit ss ms h a (Own s c) place = nothing_kept (given_at place ms)
kept_is opening limit ss ms h a (SharedOwn client name) place = nothing_kept (given_at place ms)
kept_is opening limit ss ms h a (Durable client name) place =
    let f : StoredMessage → Option ℕ = λ m. count_in (λ i. count_under i m.holders) ss (Durable client name) in
    ap if_stored (row_in place 1 (λ i m. count_under i m.holders) ss ms (Durable client name) h.placed) ∙ kept_one ss f (given_at place ms) (of_given (IsHeld ss) place ms a)

-- ---- definitions

definition_found : (key : Key) (rows : ℕ → List PlacedRow) (ss : List StoredSubscription) → option_map (λ (s : StoredSubscription). s.definition) (find (λ s. key_eq s.key key) ss) ≡ definition_of (station_of key (stations_stored rows ss))
definition_found key rows [] = refl
definition_found key rows (s ∷ ss) = go (key_eq s.key key) (definition_found key (λ i. rows (suc i)) ss)
  where
    first : Station
    first = record { key = s.key; definition = s.definition; missed = 0; rows = rows zero }

    go : (b : Bool) → option_map (λ (s : StoredSubscription). s.definition) (find (λ s. key_eq s.key key) ss) ≡ definition_of (station_of key (stations_stored (λ i. rows (suc i)) ss)) →
        option_map (λ (s : StoredSubscription). s.definition) (cond b (Some s) (find (λ s. key_eq s.key key) ss)) ≡ definition_of (cond b (Some first) (station_of key (stations_stored (λ i. rows (suc i)) ss)))
    go true rest = refl
    go false rest = rest

other_family : (a b : Key) → is_durable a ≡ true → is_durable b ≡ false → key_eq a b ≡ false
other_family (Durable client name) (Queue other) e f = refl
other_family (Durable client name) (Own s c) e f = refl
other_family (Durable client name) (SharedOwn other n) e f = refl
other_family (Durable client name) (Durable other n) e f = cc
other_family (Queue name) b e f = cc
other_family (Own s c) b e f = cc
other_family (SharedOwn client name) b e f = cc

none_found : (key : Key) (ss : List StoredSubscription) → is_durable key ≡ false → All (λ (s : StoredSubscription). is_durable s.key ≡ true) ss → option_map (λ (s : StoredSubscription). s.definition) (find (λ s. key_eq s.key key) ss) ≡ None
none_found key [] e h = refl
none_found key (s ∷ ss) e h =
    let other = other_family s.key key (All-head (λ (x : StoredSubscription). is_durable x.key ≡ true) s ss h) e in
    ap (λ b. option_map (λ (x : StoredSubscription). x.definition) (cond b (Some s) (find (λ x. key_eq x.key key) ss))) other
    ∙ none_found key ss e (All-tail (λ (x : StoredSubscription). is_durable x.key ≡ true) s ss h)

definition_is : (opening limit : ℕ) (ss : List StoredSubscription) (ms : List StoredMessage) → MayReopen ss ms → (key : Key) → (given ss ms).definition key ≡ durable_definition (state_stored opening limit ss ms) key
definition_is opening limit ss ms h (Queue name) = none_found (Queue name) ss refl h.durable
definition_is opening limit ss ms h (Own s c) = none_found (Own s c) ss refl h.durable
definition_is opening limit ss ms h (SharedOwn client name) = none_found (SharedOwn client name) ss refl h.durable
definition_is opening limit ss ms h (Durable client name) = definition_found (Durable client name) (rows_under ms) ss

-- ---- counts

count_is : (ss : List StoredSubscription) (key : Key) (o : Option StoredMessage) → count_given ss key o ≡ count_of (kept_given (count_of_key ss key) o)
count_is ss key None = refl
count_is ss key (Some m) = go (count_of_key ss key m)
  where
    go : (n : Option ℕ) → n ≡ count_of (kept_of m.message n)
    go None = refl
    go (Some n) = refl

-- ---- records

record_is : (f : StoredMessage → Option ℕ) (o : Option StoredMessage) → IfSome (kept_given f o) (λ r. option_map (λ (m : StoredMessage). format.record m.message) o ≡ Some (format.record r.message))
record_is f None = tt
record_is f (Some m) = go (f m)
  where
    go : (n : Option ℕ) → IfSome (kept_of m.message n) (λ r. Some (format.record m.message) ≡ Some (format.record r.message))
    go None = tt
    go (Some n) = refl

due_is : (f : StoredMessage → Option ℕ) (o : Option StoredMessage) → IfSome (kept_given f o) (λ r. due_given o ≡ due_time r.message)
due_is f None = tt
due_is f (Some m) = go (f m)
  where
    go : (n : Option ℕ) → IfSome (kept_of m.message n) (λ r. due_time m.message ≡ due_time r.message)
    go None = tt
    go (Some n) = refl

-- the key of the subscription with an index finds what stands there
count_first : (f : ℕ → Option ℕ) (ss : List StoredSubscription) (i : ℕ) (d : StoredSubscription) → IsDistinct key_eq (map (λ (s : StoredSubscription). s.key) ss) → i < length ss → count_in f ss (get_or ss i d).key ≡ f i
unfolding IsDistinct
count_first f [] i d h l = absurd (omega arith)
count_first f (s ∷ ss) zero d h l = rw (key_refl s.key) refl
count_first f (s ∷ ss) (suc i) d h l = rw (apart s.key ss i d h.0 (omega (arith, l))) (count_first (λ i. f (suc i)) ss i d h.1 (omega (arith, l)))
  where
    apart : (k : Key) (ss : List StoredSubscription) (i : ℕ) (d : StoredSubscription) → AllByRecursion (λ y. key_eq k y ≡ false) (map (λ (s : StoredSubscription). s.key) ss) → i < length ss → key_eq k (get_or ss i d).key ≡ false
    apart k [] i d h l = absurd (omega arith)
    apart k (s ∷ ss) zero d h l = h.0
    apart k (s ∷ ss) (suc i) d h l = apart k ss i d h.1 (omega (arith, l))

-- somebody who holds a message has a row of it
holder_of : (ss : List StoredSubscription) (ms : List StoredMessage) → MayReopen ss ms → (m : StoredMessage) → IsHeld ss m → (key : Key) × (n : ℕ) × (count_of_key ss key m ≡ Some n)
holder_of ss ms h m held = go m.message.destination refl m.holders refl held.may held.some
  where
    by_queue : (d : Destination) → m.message.destination ≡ d → (count : ℕ) → m.holders ≡ holders.Queue count → (name : List ℕ) → sent_to name (is_persistent m.message.mode) d ≡ true → count_at name d (holders.Queue count) ≡ Some count
    by_queue (destination.Queue queue) e count f name q = ap (λ b. cond b (Some count) None) (second_true (is_persistent m.message.mode) (text_eq queue name) q)
      where
        second_true : (a b : Bool) → (a && b) ≡ true → b ≡ true
        second_true true b h = h
        second_true false b h = cc
    by_queue (destination.Topic topic) e count f name q = cc

    of_durable : (k : Key) → is_durable k ≡ true → count_of_key ss k m ≡ count_in (λ i. count_under i m.holders) ss k
    of_durable (Durable client name) e = refl
    of_durable (Queue name) e = cc
    of_durable (Own s c) e = cc
    of_durable (SharedOwn client name) e = cc

    first_stored : (rows : List StoredRow) → 0 < length rows → option_map (λ (r : StoredRow). r.count) (stored_at (get_or rows zero no_stored).index rows) ≡ Some (get_or rows zero no_stored).count
    first_stored [] l = absurd (omega arith)
    first_stored (r ∷ rows) l = rw (eq-eqb r.index r.index refl) refl

    go : (d : Destination) → m.message.destination ≡ d → (x : Holders) → m.holders ≡ x → AreHolders ss m.message x → AreSome x → (key : Key) × (n : ℕ) × (count_of_key ss key m ≡ Some n)
    go d e (holders.Queue count) f a some =
        (Queue a.0.0, count, ap (λ y. count_at a.0.0 m.message.destination y) f ∙ by_queue m.message.destination refl count f a.0.0 a.0.1)
    go d e (holders.Subscriptions rows) f a some =
        let r : StoredRow = get_or rows.items zero no_stored in
        let admitted = a.0 zero no_stored some in
        let none : StoredSubscription = first_of ss admitted.within in
        let key : Key = (get_or ss r.index none).key in
        (key, r.count, of_durable key (h.durable r.index none admitted.within) ∙ count_first (λ i. count_under i m.holders) ss r.index none h.once admitted.within ∙ ap (λ y. count_under r.index y) f ∙ first_stored rows.items some)
      where
        first_of : (ss : List StoredSubscription) → {i : ℕ} → i < length ss → StoredSubscription
        first_of [] l = absurd (omega (arith, l))
        first_of (s ∷ ss) l = s

-- ---- all of it

pub reopened_is_given : ReopenedIsGiven
reopened_is_given opening limit ss ms h some =
    let held = all_held ss ms h some in
    let kept = kept_is opening limit ss ms h held in
    record {
      definitions = definition_is opening limit ss ms h;
      counts = λ key place. count_is ss key (given_at place ms) ∙ sym (ap count_of (kept key place));
      messages = λ place. record {
        held = λ key. subst (λ o. IfSome o (λ r. (given ss ms).message place ≡ Some (format.record r.message))) (sym (kept key place)) (record_is (count_of_key ss key) (given_at place ms));
        free = λ none. ap (option_map (λ (m : StoredMessage). format.record m.message)) (free place (given_at place ms) refl (of_given (IsHeld ss) place ms held) (λ key. sym (kept key place) ∙ none key));
      };
      dues = λ place. record {
        held = λ key. subst (λ o. IfSome o (λ r. due_given (given_at place ms) ≡ due_time r.message)) (sym (kept key place)) (due_is (count_of_key ss key) (given_at place ms));
        free = λ none. ap due_given (free place (given_at place ms) refl (of_given (IsHeld ss) place ms held) (λ key. sym (kept key place) ∙ none key));
      };
    }
  where
    free : (place : ℕ) (o : Option StoredMessage) → given_at place ms ≡ o → IfSome o (IsHeld ss) → ((key : Key) → kept_given (count_of_key ss key) (given_at place ms) ≡ None) → o ≡ None
    free place None e held none = refl
    free place (Some m) e held none =
        let holder = holder_of ss ms h m held in
        let nothing : kept_of m.message (count_of_key ss holder.0 m) ≡ None = ap (kept_given (count_of_key ss holder.0)) (sym e) ∙ none holder.0 in
        absurd (let some = rw holder.2 at nothing in cc)
