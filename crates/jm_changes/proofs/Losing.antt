-- The rows that are lost, as far as they were met, and the messages that go with them.
use Rattle.std.proofs.Common.{◌≡◌, ℕ, ◌≤◌, ◌+◌, Bool, true, false, List, [], ◌∷◌, ◌++◌, refl, sym, subst, ◌∙◌, ap, None, arith}
use Rattle.std.specs.Prelude.{◌==◌, ◌&&◌, ◌||◌, nat_lt, IfSome}
use Rattle.std.proofs.lemmas.Bool.Decides.{nat_tests}
use Rattle.std.proofs.lemmas.List.Folds.{list_any-append}
use Rattle.jm_dest.specs.declared.key.Key.{Key}
use Rattle.jm_dest.specs.Keys.{key_eq}
use Rattle.jm_header.specs.Headers.{is_delayed}
use Rattle.jm_machine.specs.declared.state.PlacedRow.{PlacedRow}
use Rattle.jm_machine.specs.declared.state.Row.{Row}
use Rattle.jm_machine.specs.Machine.{State}
use Rattle.jm_machine.specs.Under.{is_persistent, placed_under}
use Rattle.jm_machine.proofs.Keys.{key_refl}
use Rattle.jm_keep.specs.Stored.{is_at}
use Rattle.jm_keep.specs.Leads.{is_among, is_one_of}
use Rattle.jm_keep.specs.Persisted.{row_at}
use Rattle.jm_changes.specs.declared.planned.Standing.{Standing}
use Rattle.jm_changes.specs.Standing.{IsLeft, IsRead, AreMet, Tells, delay_at, first_where, stays}
use Rattle.jm_keep.specs.Steps.{passes}
use Rattle.jm_changes.proofs.First.{IsFirst, IsMet, none_from}

-- ---- messages that go

more_one : (rows : List (Key × ℕ)) (x : Key × ℕ) (key : Key) (p : ℕ) → is_one_of rows key p ≡ true → is_one_of (rows ++ x ∷ []) key p ≡ true
more_one rows x key p e = list_any-append (λ y. is_at y.0 y.1 key p) rows (x ∷ []) ∙ ap (λ b. b || (is_at x.0 x.1 key p || false)) e

last_one : (rows : List (Key × ℕ)) (k : Key) (place : ℕ) → is_one_of (rows ++ (k, place) ∷ []) k place ≡ true
last_one rows k place =
    list_any-append (λ y. is_at y.0 y.1 k place) rows ((k, place) ∷ [])
    ∙ ap (λ b. is_one_of rows k place || ((b && (place == place)) || false)) (key_refl k)
    ∙ ap (λ b. is_one_of rows k place || (b || false)) here
    ∙ or_true (is_one_of rows k place)
  where
    here : (place == place) ≡ true
    here = grind (arith, nat_tests)

    or_true : (a : Bool) → (a || true) ≡ true
    or_true true = refl
    or_true false = refl

pub fits_none : (g : Key → Row → Bool) (state : State) → AreMet g state [] [] []
fits_none g state = record { met = λ p e. cc; among = λ p e. cc; last = λ p e. cc; left = λ key p e i. cc }

pub fits_left : (g : Key → Row → Bool) (state : State) (rows : List (Key × ℕ)) (delays gone : List ℕ) (k : Key) (place : ℕ) → AreMet g state rows delays gone → (other : Key) × (stays g state other place ≡ true) → AreMet g state (rows ++ (k, place) ∷ []) delays gone
fits_left g state rows delays gone k place f o = record {
  met = λ p e. let m = f.met p e in (m.0, more_one rows (k, place) m.0 p m.1, m.2);
  among = f.among;
  last = f.last;
  left = λ key p e i. go key p e (is_one_of rows key p) (key_eq k key) (place == p) refl refl refl (sym (list_any-append (λ x. is_at x.0 x.1 key p) rows ((k, place) ∷ [])) ∙ i);
}
  where
    go : (key : Key) (p : ℕ) → is_among gone p ≡ false → (a b c : Bool) → is_one_of rows key p ≡ a → key_eq k key ≡ b → (place == p) ≡ c → (a || ((b && c) || false)) ≡ true → (other : Key) × (stays g state other p ≡ true)
    go key p e true b c h i j m = f.left key p e h
    go key p e false true true h i j m = let same : place ≡ p = grind (arith, nat_tests) in subst (λ p. (other : Key) × (stays g state other p ≡ true)) same o
    go key p e false true false h i j m = cc
    go key p e false false c h i j m = cc

-- whether a place is among the delays with the one that may be added
more_delays : (delays : List ℕ) (d : Bool) (place p : ℕ) → is_among (delays ++ delay_at d place) p ≡ (is_among delays p || (d && (place == p)))
more_delays delays d place p = list_any-append (λ q. q == p) delays (delay_at d place) ∙ ap (λ b. is_among delays p || b) (go d)
  where
    or_false : (a : Bool) → (a || false) ≡ a
    or_false true = refl
    or_false false = refl

    go : (d : Bool) → is_among (delay_at d place) p ≡ (d && (place == p))
    go true = or_false (place == p)
    go false = refl

-- a message goes of which no stored row stays, with a delay or without
fits_delayed : (g : Key → Row → Bool) (state : State) (rows : List (Key × ℕ)) (delays gone : List ℕ) (k : Key) (place : ℕ) (d : Bool) → AreMet g state rows delays gone → IfSome (row_at place (placed_under state k)) (λ r. d ≡ is_delayed r.message) → ((key : Key) → stays g state key place ≡ false) →
    AreMet g state (rows ++ (k, place) ∷ []) (delays ++ delay_at d place) (gone ++ place ∷ [])
fits_delayed g state rows delays gone k place d f s n = record {
  met = λ p e. met p (is_among gone p) (place == p) refl refl (sym (list_any-append (λ q. q == p) gone (place ∷ [])) ∙ e);
  among = λ p e. list_any-append (λ q. q == p) gone (place ∷ []) ∙ among p (is_among delays p) (place == p) refl (sym (more_delays delays d place p) ∙ e);
  last = λ p e. last p (is_among gone p) (place == p) refl refl (sym (list_any-append (λ q. q == p) gone (place ∷ [])) ∙ e);
  left = λ key p e i. left key p (is_among gone p) (is_one_of rows key p) (key_eq k key) (place == p) refl refl refl refl (sym (list_any-append (λ q. q == p) gone (place ∷ [])) ∙ e) (sym (list_any-append (λ x. is_at x.0 x.1 key p) rows ((k, place) ∷ [])) ∙ i);
}
  where
    or_true : (a : Bool) → (a || true) ≡ true
    or_true true = refl
    or_true false = refl

    or_false : (a : Bool) → (a || false) ≡ a
    or_false true = refl
    or_false false = refl

    and_true : (a : Bool) → (a && true) ≡ a
    and_true true = refl
    and_true false = refl

    and_false : (a : Bool) → (a && false) ≡ false
    and_false true = refl
    and_false false = refl

    kept : (p : ℕ) → is_among gone p ≡ true → is_among (delays ++ delay_at d place) p ≡ is_among delays p → Tells state (rows ++ (k, place) ∷ []) (delays ++ delay_at d place) p
    kept p h e = let w = f.met p h in (w.0, more_one rows (k, place) w.0 p w.1, subst (λ b. IfSome (row_at p (placed_under state w.0)) (λ r. b ≡ is_delayed r.message)) (sym e) w.2)

    told : (p : ℕ) → place ≡ p → is_among (delays ++ delay_at d place) p ≡ d → Tells state (rows ++ (k, place) ∷ []) (delays ++ delay_at d place) p
    told p same e = subst (λ p. is_among (delays ++ delay_at d place) p ≡ d → Tells state (rows ++ (k, place) ∷ []) (delays ++ delay_at d place) p) same (λ e. (k, last_one rows k place, subst (λ b. IfSome (row_at place (placed_under state k)) (λ r. b ≡ is_delayed r.message)) (sym e) s)) e

    not_among : (p : ℕ) → is_among gone p ≡ false → is_among delays p ≡ false
    not_among p h = go (is_among delays p) refl
      where
        go : (b : Bool) → is_among delays p ≡ b → b ≡ false
        go true e = sym (f.among p e) ∙ h
        go false e = refl

    both : (p : ℕ) → is_among gone p ≡ true → (place == p) ≡ true → place ≡ p → (b : Bool) → d ≡ b → Tells state (rows ++ (k, place) ∷ []) (delays ++ delay_at d place) p
    both p h j same true e = told p same (more_delays delays d place p ∙ ap (λ x. is_among delays p || (x && (place == p))) e ∙ ap (λ x. is_among delays p || x) j ∙ or_true (is_among delays p) ∙ sym e)
    both p h j same false e = kept p h (more_delays delays d place p ∙ ap (λ x. is_among delays p || (x && (place == p))) e ∙ or_false (is_among delays p))

    met : (p : ℕ) (a c : Bool) → is_among gone p ≡ a → (place == p) ≡ c → (a || (c || false)) ≡ true → Tells state (rows ++ (k, place) ∷ []) (delays ++ delay_at d place) p
    met p true true h j m = both p h j (grind (arith, nat_tests)) d refl
    met p true false h j m = kept p h (more_delays delays d place p ∙ ap (λ b. is_among delays p || (d && b)) j ∙ ap (λ b. is_among delays p || b) (and_false d) ∙ or_false (is_among delays p))
    met p false true h j m = told p (grind (arith, nat_tests)) (more_delays delays d place p ∙ ap (λ b. is_among delays p || (d && b)) j ∙ ap (λ b. b || (d && true)) (not_among p h) ∙ and_true d)
    met p false false h j m = cc

    among : (p : ℕ) (a c : Bool) → is_among delays p ≡ a → (a || (d && c)) ≡ true → (is_among gone p || (c || false)) ≡ true
    among p true c h m = ap (λ b. b || (c || false)) (f.among p h)
    among p false true h m = or_true (is_among gone p)
    among p false false h m = absurd (let bad : false ≡ true = sym (and_false d) ∙ m in cc)

    last : (p : ℕ) (a c : Bool) → is_among gone p ≡ a → (place == p) ≡ c → (a || (c || false)) ≡ true → (key : Key) → stays g state key p ≡ false
    last p true c h j m = f.last p h
    last p false true h j m = let same : place ≡ p = grind (arith, nat_tests) in subst (λ p. (key : Key) → stays g state key p ≡ false) same n
    last p false false h j m = cc

    left : (key : Key) (p : ℕ) (d a b c : Bool) → is_among gone p ≡ d → is_one_of rows key p ≡ a → key_eq k key ≡ b → (place == p) ≡ c → (d || (c || false)) ≡ false → (a || ((b && c) || false)) ≡ true → (other : Key) × (stays g state other p ≡ true)
    left key p true a b c w h i j m o = cc
    left key p false true b true w h i j m o = cc
    left key p false true b false w h i j m o = f.left key p w h
    left key p false false true true w h i j m o = cc
    left key p false false true false w h i j m o = cc
    left key p false false false c w h i j m o = cc

-- the same, where that was read of the row that goes
pub fits_last : (g : Key → Row → Bool) (state : State) (rows : List (Key × ℕ)) (delays gone : List ℕ) (k : Key) (r : Standing) → AreMet g state rows delays gone → IsRead state k r → ((key : Key) → stays g state key r.place ≡ false) →
    AreMet g state (rows ++ (k, r.place) ∷ []) (delays ++ delay_at r.is_delayed r.place) (gone ++ r.place ∷ [])
fits_last g state rows delays gone k r f s n = fits_delayed g state rows delays gone k r.place r.is_delayed f s n

-- ---- rows that were met

-- beside the rows from before, those under the key are in it that pass and stand at places below that one
abbrev pub Has : (Row → Bool) → Key → List PlacedRow → List (Key × ℕ) → List (Key × ℕ) → ℕ → Type 0
Has q k under before rows place = (key : Key) (p : ℕ) → is_one_of rows key p ≡ (is_one_of before key p || (key_eq k key && (nat_lt p place && passes q (row_at p under))))

pub none_yet : (q : Row → Bool) (k : Key) (under : List PlacedRow) (rows : List (Key × ℕ)) → Has q k under rows rows 0
none_yet q k under rows key p = sym (ap (λ b. is_one_of rows key p || (key_eq k key && (b && passes q (row_at p under)))) none ∙ go (is_one_of rows key p) (key_eq k key))
  where
    none : nat_lt p 0 ≡ false
    none = grind (arith, nat_tests)

    go : (a b : Bool) → (a || (b && false)) ≡ a
    go true true = refl
    go true false = refl
    go false true = refl
    go false false = refl

-- one row further on
further : (q : Row → Bool) (place : ℕ) (under : List PlacedRow) (x : PlacedRow) → IsFirst q place under x → (b : Bool) → is_persistent x.row.message.mode ≡ b → (p : ℕ) →
    (nat_lt p (x.place + 1) && passes q (row_at p under)) ≡ ((nat_lt p place && passes q (row_at p under)) || (b && (x.place == p)))
further q place under x i b e p = go (nat_lt p place) (nat_lt p x.place) (x.place == p) refl refl refl
  where
    from : place ≤ x.place
    from = i.from

    and_false : (a : Bool) → (a && false) ≡ false
    and_false true = refl
    and_false false = refl

    and_true : (a : Bool) → (a && true) ≡ a
    and_true true = refl
    and_true false = refl

    or_false : (a : Bool) → (a || false) ≡ a
    or_false true = refl
    or_false false = refl

    go : (a c d : Bool) → nat_lt p place ≡ a → nat_lt p x.place ≡ c → (x.place == p) ≡ d → (nat_lt p (x.place + 1) && passes q (row_at p under)) ≡ ((nat_lt p place && passes q (row_at p under)) || (b && (x.place == p)))
    go true c d f g k =
        let l = from in
        let other : (x.place == p) ≡ false = grind (arith, nat_tests) in
        let below : nat_lt p (x.place + 1) ≡ true = grind (arith, nat_tests) in
        ap (λ y. y && passes q (row_at p under)) below ∙ sym (ap (λ y. (y && passes q (row_at p under)) || (b && (x.place == p))) f ∙ ap (λ y. passes q (row_at p under) || (b && y)) other ∙ ap (λ y. passes q (row_at p under) || y) (and_false b) ∙ or_false (passes q (row_at p under)))
    go false true d f g k =
        let other : (x.place == p) ≡ false = grind (arith, nat_tests) in
        let none : passes q (row_at p under) ≡ false = i.between p (grind (arith, nat_tests)) (grind (arith, nat_tests)) in
        ap (λ y. nat_lt p (x.place + 1) && y) none ∙ and_false (nat_lt p (x.place + 1)) ∙ sym (ap (λ y. (y && passes q (row_at p under)) || (b && (x.place == p))) f ∙ ap (λ y. b && y) other ∙ and_false b)
    go false false true f g k =
        let below : nat_lt p (x.place + 1) ≡ true = grind (arith, nat_tests) in
        let same : x.place ≡ p = grind (arith, nat_tests) in
        ap (λ y. y && passes q (row_at p under)) below
        ∙ subst (λ p. passes q (row_at p under) ≡ b) same (ap (passes q) i.there ∙ ap (λ y. is_persistent x.row.message.mode && y) i.good ∙ and_true (is_persistent x.row.message.mode) ∙ e)
        ∙ sym (ap (λ y. (y && passes q (row_at p under)) || (b && (x.place == p))) f ∙ ap (λ y. b && y) k ∙ and_true b)
    go false false false f g k =
        let above : nat_lt p (x.place + 1) ≡ false = grind (arith, nat_tests) in
        ap (λ y. y && passes q (row_at p under)) above ∙ sym (ap (λ y. (y && passes q (row_at p under)) || (b && (x.place == p))) f ∙ ap (λ y. b && y) k ∙ and_false b)

pub has_more : (q : Row → Bool) (k : Key) (under : List PlacedRow) (before rows : List (Key × ℕ)) (place : ℕ) (x : PlacedRow) → IsFirst q place under x → is_persistent x.row.message.mode ≡ true → Has q k under before rows place → Has q k under before (rows ++ (k, x.place) ∷ []) (x.place + 1)
has_more q k under before rows place x i e h key p =
    list_any-append (λ y. is_at y.0 y.1 key p) rows ((k, x.place) ∷ [])
    ∙ ap (λ y. y || ((key_eq k key && (x.place == p)) || false)) (h key p)
    ∙ go (is_one_of before key p) (key_eq k key) (nat_lt p place && passes q (row_at p under)) (x.place == p)
    ∙ ap (λ y. is_one_of before key p || (key_eq k key && y)) (sym (further q place under x i true e p))
  where
    go : (a b n e : Bool) → ((a || (b && n)) || ((b && e) || false)) ≡ (a || (b && (n || e)))
    go true b n e = refl
    go false true true e = refl
    go false true false true = refl
    go false true false false = refl
    go false false n e = refl

pub has_same : (q : Row → Bool) (k : Key) (under : List PlacedRow) (before rows : List (Key × ℕ)) (place : ℕ) (x : PlacedRow) → IsFirst q place under x → is_persistent x.row.message.mode ≡ false → Has q k under before rows place → Has q k under before rows (x.place + 1)
has_same q k under before rows place x i e h key p =
    h key p ∙ ap (λ y. is_one_of before key p || (key_eq k key && y)) (sym (further q place under x i false e p ∙ go (nat_lt p place && passes q (row_at p under))))
  where
    go : (a : Bool) → (a || false) ≡ a
    go true = refl
    go false = refl

-- behind the last row all were met
pub has_all : (q : Row → Bool) (k : Key) (under : List PlacedRow) (before rows : List (Key × ℕ)) (place : ℕ) → first_where q place under ≡ None → Has q k under before rows place → (key : Key) (p : ℕ) → is_one_of rows key p ≡ (is_one_of before key p || (key_eq k key && passes q (row_at p under)))
has_all q k under before rows place n h key p = h key p ∙ ap (λ y. is_one_of before key p || (key_eq k key && y)) (go (nat_lt p place) refl)
  where
    go : (b : Bool) → nat_lt p place ≡ b → (nat_lt p place && passes q (row_at p under)) ≡ passes q (row_at p under)
    go true f = ap (λ y. y && passes q (row_at p under)) f
    go false f = ap (λ y. y && passes q (row_at p under)) f ∙ sym (none_from q place p (grind (arith, nat_tests)) under n)

-- ---- one turn, which meets such a row

pub turn_from : (q : Row → Bool) (place : ℕ) (under : List PlacedRow) (r : Standing) → IsMet q place under r → place ≤ r.place
turn_from q place under r m = subst (λ s. place ≤ s.place) m.same m.first.from

pub turn_more : (q : Row → Bool) (k : Key) (under : List PlacedRow) (before rows : List (Key × ℕ)) (place : ℕ) (r : Standing) → IsMet q place under r → r.is_persistent ≡ true → Has q k under before rows place → Has q k under before (rows ++ (k, r.place) ∷ []) (r.place + 1)
turn_more q k under before rows place r m e h = subst (λ s. Has q k under before (rows ++ (k, s.place) ∷ []) (s.place + 1)) m.same (has_more q k under before rows place m.row m.first (ap (λ s. s.is_persistent) m.same ∙ e) h)

pub turn_same : (q : Row → Bool) (k : Key) (under : List PlacedRow) (before rows : List (Key × ℕ)) (place : ℕ) (r : Standing) → IsMet q place under r → r.is_persistent ≡ false → Has q k under before rows place → Has q k under before rows (r.place + 1)
turn_same q k under before rows place r m e h = subst (λ s. Has q k under before rows (s.place + 1)) m.same (has_same q k under before rows place m.row m.first (ap (λ s. s.is_persistent) m.same ∙ e) h)

-- what was read of the row tells whether its message has a delay
pub turn_read : (q : Row → Bool) (place : ℕ) (state : State) (k : Key) (r : Standing) → IsMet q place (placed_under state k) r → IsRead state k r
turn_read q place state k r m = subst (λ s. IsRead state k s) m.same (subst (λ o. IfSome o (λ x. is_delayed m.row.row.message ≡ is_delayed x.message)) (sym m.first.there) refl)

-- ---- whether a stored row is left

pub none_left : (g : Key → Row → Bool) (state : State) (place : ℕ) (b : Bool) → IsLeft g state place b → b ≡ false → (key : Key) → stays g state key place ≡ false
none_left g state place true i e = cc
none_left g state place false i e = i

pub some_left : (g : Key → Row → Bool) (state : State) (place : ℕ) (b : Bool) → IsLeft g state place b → b ≡ true → (other : Key) × (stays g state other place ≡ true)
some_left g state place true i e = i
some_left g state place false i e = cc
