-- The rows that go, and the messages that go with them.
use Rattle.std.proofs.Common.{◌≡◌, ◌⊎◌, inl, inr, ℕ, ◌<◌, ◌+◌, Bool, true, false, cond, List, [], ◌∷◌, ◌++◌, length, refl, sym, subst, ◌∙◌, ap, Option, Some, None, arith}
use Rattle.std.specs.Prelude.{◌==◌, ◌&&◌, ◌||◌, not, IfSome, IsSome, nat_lt}
use Rattle.std.proofs.lemmas.Bool.Decides.{nat_tests}
use Rattle.std.proofs.lemmas.List.Folds.{list_any-append}
use Rattle.jm_dest.specs.declared.key.Key.{Key}
use Rattle.jm_dest.specs.declared.key.Key.TheVariants.{Queue, Own, SharedOwn, Durable}
use Rattle.jm_dest.specs.declared.session.SessionId.{SessionId}
use Rattle.jm_dest.specs.Keys.{key_eq}
use Rattle.jm_header.specs.declared.content.Content.{Content}
use Rattle.jm_header.specs.Headers.{is_delayed}
use Rattle.jm_machine.specs.declared.state.PlacedRow.{PlacedRow}
use Rattle.jm_machine.specs.declared.state.Row.{Row}
use Rattle.jm_machine.specs.Rows.{has_lapsed, is_out}
use Rattle.jm_machine.specs.Machine.{State}
use Rattle.jm_machine.specs.Under.{is_persistent, next_under, placed_under}
use Rattle.jm_machine.proofs.Keys.{key_same, key_refl}
use Rattle.jm_keep.specs.Stored.{is_at}
use Rattle.jm_keep.specs.Leads.{AreDelays, AreLast, is_among, is_one_of}
use Rattle.jm_keep.specs.Persisted.{StoredRow, if_stored, is_lasting, row_at, shown, stored_row}
use Rattle.jm_keep.specs.Steps.{AreGone, all_under, is_place_of, lapsed_under, out_through, out_under, passes, taken_under}
use Rattle.jm_changes.specs.Standing.{AreMet, AreOf, Covers, key_in, stays}

-- ---- rows that are stored, and stay or go

-- a row that is stored
stored_is : (a : Bool) (o : Option Row) → IsSome (cond a (if_stored o) None) → (r : Row) × (a ≡ true) × (o ≡ Some r) × (is_persistent r.message.mode ≡ true)
stored_is false o h = cc
stored_is true None h = cc
stored_is true (Some r) h = go (is_persistent r.message.mode) refl h
  where
    go : (p : Bool) → is_persistent r.message.mode ≡ p → IsSome (cond p (Some (shown r)) None) → (x : Row) × (true ≡ true) × (Some r ≡ Some x) × (is_persistent x.message.mode ≡ true)
    go true e h = (r, refl, refl, e)
    go false e h = cc

-- goes, where it does not stay
must_go : (f : Row → Bool) (a : Bool) (o : Option Row) (r : Row) → a ≡ true → o ≡ Some r → is_persistent r.message.mode ≡ true → (a && passes (λ r. not (f r)) o) ≡ false → f r ≡ true
must_go f a o r e g p h = go (f r) (sym (ap (λ b. b && passes (λ r. not (f r)) o) e ∙ ap (passes (λ r. not (f r))) g ∙ ap (λ b. b && not (f r)) p) ∙ h)
  where
    go : (b : Bool) → not b ≡ false → b ≡ true
    go true h = refl
    go false h = cc

-- a row that stays is stored, and does not go
stays_stored : (g : Key → Row → Bool) (state : State) (key : Key) (place : ℕ) → stays g state key place ≡ true → (r : Row) × (row_at place (placed_under state key) ≡ Some r) × (g key r ≡ false) × IsSome (stored_row state key place)
stays_stored g state key place e = go (is_lasting key) (row_at place (placed_under state key)) e
  where
    some : (r : Row) (p b : Bool) → is_persistent r.message.mode ≡ p → g key r ≡ b → (p && not b) ≡ true → (x : Row) × (Some r ≡ Some x) × (g key x ≡ false) × IsSome (if_stored (Some r))
    some r true false i j e = (r, refl, j, subst (λ b. IsSome (cond b (Some (shown r)) None)) (sym i) refl)
    some r true true i j e = cc
    some r false b i j e = cc

    go : (a : Bool) (o : Option Row) → (a && passes (λ r. not (g key r)) o) ≡ true → (r : Row) × (o ≡ Some r) × (g key r ≡ false) × IsSome (cond a (if_stored o) None)
    go false o e = cc
    go true None e = cc
    go true (Some r) e = some r (is_persistent r.message.mode) (g key r) refl refl e

passes_same : (p q : Row → Bool) → ((r : Row) → p r ≡ q r) → (o : Option Row) → passes p o ≡ passes q o
passes_same p q h None = refl
passes_same p q h (Some r) = ap (λ b. is_persistent r.message.mode && b) (h r)

and_is : (b c : Bool) → (b && c) ≡ true → b ≡ true
and_is true c h = refl
and_is false c h = cc

if_not : (b : Bool) → (b ≡ true → false ≡ true) → b ≡ false
if_not true h = sym (h refl)
if_not false h = refl

-- of the messages that go those have a delay of which a stored row shows it
delays_met : (f : Key → Row → Bool) (goes : Key → ℕ → Row → Bool) (state : State) (rows : List (Key × ℕ)) (delays gone : List ℕ) → ((key : Key) (place : ℕ) → is_one_of rows key place ≡ (is_lasting key && passes (goes key place) (row_at place (placed_under state key)))) → AreMet f state rows delays gone → AreDelays state delays gone
delays_met f goes state rows delays gone a m = record {
  among = m.among;
  delayed = λ place e. let w = m.met place e in let x = shows (is_lasting w.0) (goes w.0 place) (row_at place (placed_under state w.0)) (is_among delays place) (sym (a w.0 place) ∙ w.1) w.2 in (w.0, x.0, x.1, x.2);
}
  where
    shows : (b : Bool) (q : Row → Bool) (o : Option Row) (d : Bool) → (b && passes q o) ≡ true → IfSome o (λ r. d ≡ is_delayed r.message) → (x : StoredRow) × (cond b (if_stored o) None ≡ Some x) × (d ≡ is_delayed x.message)
    shows false q o d h s = cc
    shows true q None d h s = cc
    shows true q (Some r) d h s = go (is_persistent r.message.mode) refl h
      where
        go : (p : Bool) → is_persistent r.message.mode ≡ p → (p && q r) ≡ true → (x : StoredRow) × (if_stored (Some r) ≡ Some x) × (d ≡ is_delayed x.message)
        go true e h = (shown r, ap (λ b. cond b (Some (shown r)) None) e, s)
        go false e h = cc

-- ---- rows of one key

one_last : (k : Key) (q : ℕ → Row → Bool) (state : State) (rows : List (Key × ℕ)) (delays gone : List ℕ) → AreOf k q state rows → AreMet (λ key r. key_eq k key) state rows delays gone → AreLast state rows gone
one_last k q state rows delays gone a m = record {
  last = λ key place e h.
      let s = stored_is (is_lasting key) (row_at place (placed_under state key)) h in
      let own : key_eq k key ≡ true = must_go (λ r. key_eq k key) (is_lasting key) (row_at place (placed_under state key)) s.0 s.1 s.2 s.3 (m.last place e key) in
      let met = m.met place e in
      subst (λ t. is_one_of rows t place ≡ true) (sym (key_same k met.0 (only met.0 place met.1)) ∙ key_same k key own) met.1;
  left = λ key place e h.
      let l = m.left key place e h in
      let s = stays_stored (λ key r. key_eq k key) state l.0 place l.1 in
      (l.0, s.3, if_not (is_one_of rows l.0 place) (λ t. sym s.2 ∙ only l.0 place t));
}
  where
    only : (key : Key) (place : ℕ) → is_one_of rows key place ≡ true → key_eq k key ≡ true
    only key place e = and_is (key_eq k key) (passes (q place) (row_at place (placed_under state k))) (sym (a key place) ∙ e)

one_gone : (k : Key) (q : ℕ → Row → Bool) (goes : Key → ℕ → Row → Bool) (state : State) (rows : List (Key × ℕ)) (delays gone : List ℕ) → is_lasting k ≡ true → ((key : Key) (place : ℕ) (r : Row) → goes key place r ≡ (key_eq k key && q place r)) →
    AreOf k q state rows → AreMet (λ key r. key_eq k key) state rows delays gone → AreGone goes state rows delays gone
one_gone k q goes state rows delays gone l g a m = record {
  rows_are = rows_are;
  places_are = one_last k q state rows delays gone a m;
  delays_are = delays_met (λ key r. key_eq k key) goes state rows delays gone rows_are m;
}
  where
    own : (place : ℕ) (b : Bool) → b ≡ true → (o : Option Row) → passes (q place) o ≡ passes (λ r. b && q place r) o
    own place true e o = refl
    own place false e o = cc

    none : (b : Bool) → b ≡ false → (place : ℕ) (o : Option Row) → false ≡ passes (λ r. b && q place r) o
    none true e place o = cc
    none false e place None = refl
    none false e place (Some r) = sym (and_false (is_persistent r.message.mode))
      where
        and_false : (b : Bool) → (b && false) ≡ false
        and_false true = refl
        and_false false = refl

    and_none : (b c : Bool) → false ≡ c → false ≡ (b && c)
    and_none true c e = e
    and_none false c e = refl

    go : (key : Key) (place : ℕ) (b : Bool) → key_eq k key ≡ b → (b && passes (q place) (row_at place (placed_under state k))) ≡ (is_lasting key && passes (λ r. key_eq k key && q place r) (row_at place (placed_under state key)))
    go key place true e =
        subst (λ t. passes (q place) (row_at place (placed_under state k)) ≡ (is_lasting t && passes (λ r. key_eq k t && q place r) (row_at place (placed_under state t)))) (key_same k key e)
        (own place (key_eq k k) (key_refl k) (row_at place (placed_under state k)) ∙ sym (ap (λ b. b && passes (λ r. key_eq k k && q place r) (row_at place (placed_under state k))) l))
    go key place false e = and_none (is_lasting key) (passes (λ r. key_eq k key && q place r) (row_at place (placed_under state key))) (none (key_eq k key) e place (row_at place (placed_under state key)))

    rows_are : (key : Key) (place : ℕ) → is_one_of rows key place ≡ (is_lasting key && passes (goes key place) (row_at place (placed_under state key)))
    rows_are key place = a key place ∙ go key place (key_eq k key) refl ∙ sym (ap (λ b. is_lasting key && b) (passes_same (goes key place) (λ r. key_eq k key && q place r) (g key place) (row_at place (placed_under state key))))

-- nothing goes where no row stands under the key
pub none_of : (k : Key) (q : ℕ → Row → Bool) (state : State) → placed_under state k ≡ [] → AreOf k q state []
none_of k q state e key place = sym (ap (λ rows. key_eq k key && passes (q place) (row_at place rows)) e ∙ go (key_eq k key))
  where
    go : (b : Bool) → (b && false) ≡ false
    go true = refl
    go false = refl

pub met_none : (g : Key → Row → Bool) (state : State) → AreMet g state [] [] []
met_none g state = record { met = λ p e. cc; among = λ p e. cc; last = λ p e. cc; left = λ key p e i. cc }

-- ---- of a delivery, and of a subscription that is deleted

pub lapsed_gone : (k : Key) (now : ℕ) (state : State) (rows : List (Key × ℕ)) (delays gone : List ℕ) → is_lasting k ≡ true → AreOf k (λ place. has_lapsed now) state rows → AreMet (λ key r. key_eq k key) state rows delays gone → AreGone (lapsed_under k now) state rows delays gone
lapsed_gone k now state rows delays gone l a m = one_gone k (λ place. has_lapsed now) (lapsed_under k now) state rows delays gone l (λ key place r. refl) a m

pub all_gone : (k : Key) (state : State) (rows : List (Key × ℕ)) (delays gone : List ℕ) → is_lasting k ≡ true → AreOf k (λ place r. true) state rows → AreMet (λ key r. key_eq k key) state rows delays gone → AreGone (all_under k) state rows delays gone
all_gone k state rows delays gone l a m = one_gone k (λ place r. true) (all_under k) state rows delays gone l (λ key place r. and_true (key_eq k key)) a m
  where
    and_true : (b : Bool) → b ≡ (b && true)
    and_true true = refl
    and_true false = refl

pub held_gone : (k : Key) (p : SessionId → ℕ → Bool) (state : State) (rows : List (Key × ℕ)) (delays gone : List ℕ) → is_lasting k ≡ true → AreOf k (λ place. is_out p) state rows → AreMet (λ key r. key_eq k key) state rows delays gone → AreGone (out_under k p) state rows delays gone
held_gone k p state rows delays gone l a m = one_gone k (λ place. is_out p) (out_under k p) state rows delays gone l (λ key place r. refl) a m

pub taken_gone : (k : Key) (now : ℕ) (next : Option PlacedRow) (state : State) (rows : List (Key × ℕ)) (delays gone : List ℕ) → is_lasting k ≡ true → AreOf k (λ place r. has_lapsed now r || is_place_of next place) state rows → AreMet (λ key r. key_eq k key) state rows delays gone → AreGone (taken_under k now next) state rows delays gone
taken_gone k now next state rows delays gone l a m = one_gone k (λ place r. has_lapsed now r || is_place_of next place) (taken_under k now next) state rows delays gone l (λ key place r. refl) a m

-- the one that is taken goes with those that lapsed, where it is stored
or_false : (b : Bool) → (b || false) ≡ b
or_false true = refl
or_false false = refl

or_true : (b : Bool) → (b || true) ≡ true
or_true true = refl
or_true false = refl

taken_none : (now place : ℕ) (o : Option Row) → passes (λ r. has_lapsed now r || false) o ≡ passes (has_lapsed now) o
taken_none now place None = refl
taken_none now place (Some r) = ap (λ b. is_persistent r.message.mode && b) (or_false (has_lapsed now r))

elsewhere : (now place : ℕ) (x : PlacedRow) (o : Option Row) → (x.place == place) ≡ false → passes (λ r. has_lapsed now r || is_place_of (Some x) place) o ≡ passes (has_lapsed now) o
elsewhere now place x None e = refl
elsewhere now place x (Some r) e = ap (λ b. is_persistent r.message.mode && (has_lapsed now r || b)) e ∙ ap (λ b. is_persistent r.message.mode && b) (or_false (has_lapsed now r))

taken_unstored : (now place : ℕ) (x : PlacedRow) (under : List PlacedRow) → row_at x.place under ≡ Some x.row → is_persistent x.row.message.mode ≡ false → passes (λ r. has_lapsed now r || is_place_of (Some x) place) (row_at place under) ≡ passes (has_lapsed now) (row_at place under)
taken_unstored now place x under t p = go (x.place == place) refl
  where
    go : (b : Bool) → (x.place == place) ≡ b → passes (λ r. has_lapsed now r || is_place_of (Some x) place) (row_at place under) ≡ passes (has_lapsed now) (row_at place under)
    go true e =
        let same : x.place ≡ place = grind (arith, nat_tests) in
        let here : row_at place under ≡ Some x.row = subst (λ q. row_at q under ≡ Some x.row) same t in
        ap (passes (λ r. has_lapsed now r || is_place_of (Some x) place)) here ∙ ap (λ b. b && (has_lapsed now x.row || (x.place == place))) p
        ∙ sym (ap (passes (has_lapsed now)) here ∙ ap (λ b. b && has_lapsed now x.row) p)
    go false e = elsewhere now place x (row_at place under) e

taken_stored : (now place : ℕ) (x : PlacedRow) (under : List PlacedRow) → row_at x.place under ≡ Some x.row → is_persistent x.row.message.mode ≡ true → passes (λ r. has_lapsed now r || is_place_of (Some x) place) (row_at place under) ≡ (passes (has_lapsed now) (row_at place under) || (x.place == place))
taken_stored now place x under t p = go (x.place == place) refl
  where
    go : (b : Bool) → (x.place == place) ≡ b → passes (λ r. has_lapsed now r || is_place_of (Some x) place) (row_at place under) ≡ (passes (has_lapsed now) (row_at place under) || (x.place == place))
    go true e =
        let same : x.place ≡ place = grind (arith, nat_tests) in
        let here : row_at place under ≡ Some x.row = subst (λ q. row_at q under ≡ Some x.row) same t in
        ap (passes (λ r. has_lapsed now r || is_place_of (Some x) place)) here ∙ ap (λ b. b && (has_lapsed now x.row || (x.place == place))) p ∙ ap (λ b. has_lapsed now x.row || b) e ∙ or_true (has_lapsed now x.row)
        ∙ sym (ap (λ b. passes (has_lapsed now) (row_at place under) || b) e ∙ or_true (passes (has_lapsed now) (row_at place under)))
    go false e = elsewhere now place x (row_at place under) e ∙ sym (ap (λ b. passes (has_lapsed now) (row_at place under) || b) e ∙ or_false (passes (has_lapsed now) (row_at place under)))

pub takes_nothing : (now : ℕ) (k : Key) (next : Option PlacedRow) (state : State) (rows : List (Key × ℕ)) → next ≡ None → AreOf k (λ place. has_lapsed now) state rows → AreOf k (λ place r. has_lapsed now r || is_place_of next place) state rows
takes_nothing now k next state rows e a key place = a key place ∙ ap (λ b. key_eq k key && b) (sym (ap (λ n. passes (λ r. has_lapsed now r || is_place_of n place) (row_at place (placed_under state k))) e ∙ taken_none now place (row_at place (placed_under state k))))

pub takes_unstored : (now : ℕ) (k : Key) (next : Option PlacedRow) (state : State) (x : PlacedRow) (rows : List (Key × ℕ)) → row_at x.place (placed_under state k) ≡ Some x.row → next ≡ Some x → is_persistent x.row.message.mode ≡ false →
    AreOf k (λ place. has_lapsed now) state rows → AreOf k (λ place r. has_lapsed now r || is_place_of next place) state rows
takes_unstored now k next state x rows t e f a key place = a key place ∙ ap (λ b. key_eq k key && b) (sym (ap (λ n. passes (λ r. has_lapsed now r || is_place_of n place) (row_at place (placed_under state k))) e ∙ taken_unstored now place x (placed_under state k) t f))

pub takes_stored : (now : ℕ) (k : Key) (next : Option PlacedRow) (state : State) (x : PlacedRow) (rows : List (Key × ℕ)) → row_at x.place (placed_under state k) ≡ Some x.row → next ≡ Some x → is_persistent x.row.message.mode ≡ true →
    AreOf k (λ place. has_lapsed now) state rows → AreOf k (λ place r. has_lapsed now r || is_place_of next place) state (rows ++ (k, x.place) ∷ [])
takes_stored now k next state x rows t e f a key place =
    list_any-append (λ y. is_at y.0 y.1 key place) rows ((k, x.place) ∷ [])
    ∙ ap (λ b. b || ((key_eq k key && (x.place == place)) || false)) (a key place)
    ∙ joins (key_eq k key) (passes (has_lapsed now) (row_at place (placed_under state k))) (x.place == place)
    ∙ ap (λ b. key_eq k key && b) (sym (ap (λ n. passes (λ r. has_lapsed now r || is_place_of n place) (row_at place (placed_under state k))) e ∙ taken_stored now place x (placed_under state k) t f))
  where
    joins : (a l e : Bool) → ((a && l) || ((a && e) || false)) ≡ (a && (l || e))
    joins true true e = refl
    joins true false true = refl
    joins true false false = refl
    joins false l e = refl

pub next_none : (p : Content → Bool) (now : ℕ) (k : Key) (rows : List PlacedRow) → rows ≡ [] → next_under p now k rows ≡ None
next_none p now (Queue name) rows e = ap (next_under p now (Queue name)) e
next_none p now (Own s c) rows e = ap (next_under p now (Own s c)) e
next_none p now (SharedOwn client name) rows e = ap (next_under p now (SharedOwn client name)) e
next_none p now (Durable client name) rows e = ap (next_under p now (Durable client name)) e

-- ---- rows that are out

-- of the first keys, the rows that are out were met
pub record AreOut (p : SessionId → ℕ → Bool) (state : State) (keys : List Key) (rows : List (Key × ℕ)) (n : ℕ) : Type 0 where
  pub out : (key : Key) (place : ℕ) → is_one_of rows key place ≡ true → (is_lasting key && passes (is_out p) (row_at place (placed_under state key))) ≡ true
  pub all : (i place : ℕ) → i < n → (is_lasting (key_in keys i) && passes (is_out p) (row_at place (placed_under state (key_in keys i)))) ≡ true → is_one_of rows (key_in keys i) place ≡ true

pub out_none : (p : SessionId → ℕ → Bool) (state : State) (keys : List Key) → AreOut p state keys [] 0
out_none p state keys = record { out = λ key place e. cc; all = λ i place l e. absurd (omega (arith, l)) }

-- those of the next key were met
pub out_more : (p : SessionId → ℕ → Bool) (state : State) (keys : List Key) (old new : List (Key × ℕ)) (n : ℕ) → is_lasting (key_in keys n) ≡ true → AreOut p state keys old n →
    ((key : Key) (place : ℕ) → is_one_of new key place ≡ (is_one_of old key place || (key_eq (key_in keys n) key && passes (is_out p) (row_at place (placed_under state (key_in keys n)))))) → AreOut p state keys new (n + 1)
out_more p state keys old new n l a e = record {
  out = λ key place h. out key place (is_one_of old key place) (key_eq (key_in keys n) key) refl refl (sym (e key place) ∙ h);
  all = λ i place m h. all i place (nat_lt i n) refl m h;
}
  where
    out : (key : Key) (place : ℕ) (b c : Bool) → is_one_of old key place ≡ b → key_eq (key_in keys n) key ≡ c → (b || (c && passes (is_out p) (row_at place (placed_under state (key_in keys n))))) ≡ true → (is_lasting key && passes (is_out p) (row_at place (placed_under state key))) ≡ true
    out key place true c f g h = a.out key place f
    out key place false true f g h =
        subst (λ t. (is_lasting t && passes (is_out p) (row_at place (placed_under state t))) ≡ true) (key_same (key_in keys n) key g)
        (ap (λ b. b && passes (is_out p) (row_at place (placed_under state (key_in keys n)))) l ∙ h)
    out key place false false f g h = cc

    and_too : (b c : Bool) → (b && c) ≡ true → c ≡ true
    and_too true c h = h
    and_too false c h = cc

    all : (i place : ℕ) (b : Bool) → nat_lt i n ≡ b → i < n + 1 → (is_lasting (key_in keys i) && passes (is_out p) (row_at place (placed_under state (key_in keys i)))) ≡ true → is_one_of new (key_in keys i) place ≡ true
    all i place true f m h = e (key_in keys i) place ∙ ap (λ b. b || (key_eq (key_in keys n) (key_in keys i) && passes (is_out p) (row_at place (placed_under state (key_in keys n))))) (a.all i place (grind (arith, nat_tests)) h)
    all i place false f m h =
        let same : n ≡ i = grind (arith, nat_tests) in
        subst (λ i. (is_lasting (key_in keys i) && passes (is_out p) (row_at place (placed_under state (key_in keys i)))) ≡ true → is_one_of new (key_in keys i) place ≡ true) same
        (λ h. e (key_in keys n) place
        ∙ ap (λ b. is_one_of old (key_in keys n) place || (b && passes (is_out p) (row_at place (placed_under state (key_in keys n))))) (key_refl (key_in keys n))
        ∙ ap (λ b. is_one_of old (key_in keys n) place || b) (and_too (is_lasting (key_in keys n)) (passes (is_out p) (row_at place (placed_under state (key_in keys n)))) h)
        ∙ or_true (is_one_of old (key_in keys n) place)) h

-- a key under which nothing lasts has none
pub out_same : (p : SessionId → ℕ → Bool) (state : State) (keys : List Key) (rows : List (Key × ℕ)) (n : ℕ) → is_lasting (key_in keys n) ≡ false → AreOut p state keys rows n → AreOut p state keys rows (n + 1)
out_same p state keys rows n l a = record { out = a.out; all = λ i place m h. all i place (nat_lt i n) refl m h }
  where
    all : (i place : ℕ) (b : Bool) → nat_lt i n ≡ b → i < n + 1 → (is_lasting (key_in keys i) && passes (is_out p) (row_at place (placed_under state (key_in keys i)))) ≡ true → is_one_of rows (key_in keys i) place ≡ true
    all i place true f m h = a.all i place (grind (arith, nat_tests)) h
    all i place false f m h =
        let same : n ≡ i = grind (arith, nat_tests) in
        subst (λ i. (is_lasting (key_in keys i) && passes (is_out p) (row_at place (placed_under state (key_in keys i)))) ≡ true → is_one_of rows (key_in keys i) place ≡ true) same
        (λ h. absurd (let both : false ≡ true = sym (ap (λ b. b && passes (is_out p) (row_at place (placed_under state (key_in keys n)))) l) ∙ h in cc)) h

-- so all that are out were met
pub out_gone : (p : SessionId → ℕ → Bool) (state : State) (keys : List Key) (rows : List (Key × ℕ)) (delays gone : List ℕ) → Covers keys state → AreOut p state keys rows (length keys) → AreMet (λ key r. is_out p r) state rows delays gone → AreGone (out_through p) state rows delays gone
out_gone p state keys rows delays gone c a m = record {
  rows_are = rows_are;
  places_are = record {
    last = λ key place e h.
        let s = stored_is (is_lasting key) (row_at place (placed_under state key)) h in
        let own : is_out p s.0 ≡ true = must_go (is_out p) (is_lasting key) (row_at place (placed_under state key)) s.0 s.1 s.2 s.3 (m.last place e key) in
        rows_are key place ∙ ap (λ b. b && passes (is_out p) (row_at place (placed_under state key))) s.1 ∙ ap (passes (is_out p)) s.2 ∙ ap (λ b. b && is_out p s.0) s.3 ∙ own;
    left = λ key place e h.
        let l = m.left key place e h in
        let s = stays_stored (λ key r. is_out p r) state l.0 place l.1 in
        (l.0, s.3, rows_are l.0 place ∙ ap (λ o. is_lasting l.0 && passes (is_out p) o) s.1 ∙ ap (λ b. is_lasting l.0 && (is_persistent s.0.message.mode && b)) s.2 ∙ nothing (is_lasting l.0) (is_persistent s.0.message.mode));
  };
  delays_are = delays_met (λ key r. is_out p r) (out_through p) state rows delays gone rows_are m;
}
  where
    nothing : (a b : Bool) → (a && (b && false)) ≡ false
    nothing true true = refl
    nothing true false = refl
    nothing false b = refl

    both : (a b : Bool) → (a ≡ true → b ≡ true) → (b ≡ true → a ≡ true) → a ≡ b
    both true b f g = sym (f refl)
    both false true f g = g refl
    both false false f g = refl

    never : (b : Bool) → (b && false) ≡ true → false ≡ true
    never true e = e
    never false e = e

    all : (key : Key) (place : ℕ) → (placed_under state key ≡ []) ⊎ ((i : ℕ) × (i < length keys) × (key_in keys i ≡ key)) → (is_lasting key && passes (is_out p) (row_at place (placed_under state key))) ≡ true → is_one_of rows key place ≡ true
    all key place (inl e) h = absurd (let no : false ≡ true = never (is_lasting key) (sym (ap (λ rows. is_lasting key && passes (is_out p) (row_at place rows)) e) ∙ h) in cc)
    all key place (inr w) h = subst (λ t. (is_lasting t && passes (is_out p) (row_at place (placed_under state t))) ≡ true → is_one_of rows t place ≡ true) w.2 (a.all w.0 place w.1) h

    rows_are : (key : Key) (place : ℕ) → is_one_of rows key place ≡ (is_lasting key && passes (is_out p) (row_at place (placed_under state key)))
    rows_are key place = both (is_one_of rows key place) (is_lasting key && passes (is_out p) (row_at place (placed_under state key))) (a.out key place) (all key place (c key))
