-- Lists of which no row is out, and what leaves them so.
use Rattle.std.proofs.Common.{◌≡◌, ◌≢◌, ◌+◌, ◌<◌, ◌≤◌, ◌==◌, ◌||◌, ◌&&◌, ◌++◌, ℕ, zero, suc, List, [], ◌∷◌, length, get_or, map, Bool, true, false, not, cond, Option, subst, Some, None, refl, ap, sym, ◌∙◌, arith, inl, inr}
use Rattle.std.specs.Prelude.{is_some, nat_lt, option_map}
use Rattle.std.specs.List.{filter, list_any, remove}
use Rattle.std.proofs.lemmas.Bool.Decides.{eqb_tells, nat_tests}
use Rattle.std.proofs.lemmas.List.{get_or-map, get_or_append_left, get_or_push, length_push, length-map}
use Rattle.std.proofs.lemmas.List.Edits.{get_or-remove_below, get_or-remove_above, length-remove}
use Rattle.jm_dest.specs.declared.session.SessionId.{SessionId}
use Rattle.jm_machine.specs.declared.state.RowState.{RowState}
use Rattle.jm_machine.specs.declared.state.RowState.TheVariants.{Waiting, Out}
use Rattle.jm_machine.specs.Rows.{goes_out}
use Rattle.jm_lane.specs.declared.row.Row.{Row}
use Rattle.jm_lane.specs.Rows.{are_home, back, is_elsewhere, is_out, sent, stays}
use Rattle.jm_pending.specs.Rows.{Held, is_at_limit}
use Rattle.jm_stations.specs.declared.loading.StoredRow.{StoredRow}
use Rattle.jm_stations.specs.Backlogs.{changed_at, is_named}
use Rattle.jm_stations.specs.Kept.{delivered_at, dropped, given_back, left_at, received_at, settled_out, with_row, without_room, HasMoreRoom, IsOffered}
use Rattle.jm_stations.specs.Loading.{stored_at, with_stored, AreOffered}
use Rattle.jm_stations.specs.Outstanding.{AreHomeBut, moved_down}
use Rattle.jm_lane.proofs.Rising.{map_elsewhere}
use Rattle.jm_lanes.proofs.Found.{none_found}
use Rattle.jm_stations.proofs.Indexes.{length-changed}

-- a row is out to somebody
abbrev pub is_away : Row → Bool
is_away r = is_out (λ s c. true) r

-- what leaves lists home that are so
abbrev pub LeavesHome : (Held → Held) → Type 0
LeavesHome f = (h : Held) → are_home h.rows ≡ true → are_home (f h).rows ≡ true

-- rows, one by one
home_head : (r : Row) (rows : List Row) → are_home (r ∷ rows) ≡ true → is_away r ≡ false
home_head r rows h = go (is_away r) refl h
  where
    go : (b : Bool) → is_away r ≡ b → not (b || list_any is_away rows) ≡ true → is_away r ≡ false
    go true e h = absurd (cc)
    go false e h = e

home_tail : (r : Row) (rows : List Row) → are_home (r ∷ rows) ≡ true → are_home rows ≡ true
home_tail r rows h = go (is_away r) h
  where
    go : (b : Bool) → not (b || list_any is_away rows) ≡ true → not (list_any is_away rows) ≡ true
    go true h = absurd (cc)
    go false h = h

home_cons : (r : Row) (rows : List Row) → is_away r ≡ false → are_home rows ≡ true → are_home (r ∷ rows) ≡ true
home_cons r rows e h = rw e h

-- a row that is out to nobody is not out through any
away_none : (p : SessionId → ℕ → Bool) (s : RowState) → goes_out (λ s c. true) s ≡ false → goes_out p s ≡ false
away_none p Waiting e = refl
away_none p (Out s c) e = absurd (cc)

-- rows that stay, and rows that are changed
pub home_filter : (q : Row → Bool) (rows : List Row) → are_home rows ≡ true → are_home (filter q rows) ≡ true
home_filter q [] h = refl
home_filter q (r ∷ rows) h = go (q r) (home_head r rows h) (home_filter q rows (home_tail r rows h))
  where
    go : (b : Bool) → is_away r ≡ false → are_home (filter q rows) ≡ true → are_home (cond b (r ∷ filter q rows) (filter q rows)) ≡ true
    go true e rest = home_cons r (filter q rows) e rest
    go false e rest = rest

pub home_map : (f : Row → Row) → ((r : Row) → is_away r ≡ false → is_away (f r) ≡ false) → (rows : List Row) → are_home rows ≡ true → are_home (map f rows) ≡ true
home_map f step [] h = refl
home_map f step (r ∷ rows) h = home_cons (f r) (map f rows) (step r (home_head r rows h)) (home_map f step rows (home_tail r rows h))

-- rows of which none is out, settled or given back, are the same
none_settled : (p : SessionId → ℕ → Bool) (rows : List Row) → are_home rows ≡ true → filter (λ r. not (is_out p r)) rows ≡ rows
none_settled p [] h = refl
none_settled p (r ∷ rows) h = rw (away_none p r.state (home_head r rows h)) (ap (λ (rs : List Row). r ∷ rs) (none_settled p rows (home_tail r rows h)))

pub settled_idle : (p : SessionId → ℕ → Bool) (h : Held) → are_home h.rows ≡ true → settled_out p h ≡ h
settled_idle p h e = ap (λ (rows : List Row). record h { rows = rows }) (none_settled p h.rows e)

none_back : (p : SessionId → ℕ → Bool) (rows : List Row) → are_home rows ≡ true → map (back (is_out p)) rows ≡ rows
none_back p [] h = refl
none_back p (r ∷ rows) h = rw (away_none p r.state (home_head r rows h)) (ap (λ (rs : List Row). r ∷ rs) (none_back p rows (home_tail r rows h)))

pub returned_idle : (p : SessionId → ℕ → Bool) (h : Held) → are_home h.rows ≡ true → given_back p h ≡ h
returned_idle p h e = ap (λ (rows : List Row). record h { rows = rows }) (none_back p h.rows e)

-- twice is once
filter_twice : (q : Row → Bool) (rows : List Row) → filter q (filter q rows) ≡ filter q rows
filter_twice q [] = refl
filter_twice q (r ∷ rows) = go (q r) refl (filter_twice q rows)
  where
    go : (b : Bool) → q r ≡ b → filter q (filter q rows) ≡ filter q rows → filter q (cond b (r ∷ filter q rows) (filter q rows)) ≡ cond b (r ∷ filter q rows) (filter q rows)
    go true e rest = rw (e, rest) refl
    go false e rest = rest

pub settled_twice : (p : SessionId → ℕ → Bool) (h : Held) → settled_out p (settled_out p h) ≡ settled_out p h
settled_twice p h = ap (λ (rows : List Row). record h { rows = rows }) (filter_twice (λ r. not (is_out p r)) h.rows)

back_twice : (p : SessionId → ℕ → Bool) (r : Row) → back (is_out p) (back (is_out p) r) ≡ back (is_out p) r
back_twice p r = go (goes_out p r.state) refl
  where
    go : (b : Bool) → goes_out p r.state ≡ b → back (is_out p) (cond b (record r { state = Waiting }) r) ≡ cond b (record r { state = Waiting }) r
    go true e = refl
    go false e = rw e refl

rows_twice : (p : SessionId → ℕ → Bool) (rows : List Row) → map (back (is_out p)) (map (back (is_out p)) rows) ≡ map (back (is_out p)) rows
rows_twice p [] = refl
rows_twice p (r ∷ rows) = λ i. back_twice p r i ∷ rows_twice p rows i

pub returned_twice : (p : SessionId → ℕ → Bool) (h : Held) → given_back p (given_back p h) ≡ given_back p h
returned_twice p h = ap (λ (rows : List Row). record h { rows = rows }) (rows_twice p h.rows)

-- what leaves a list home
pub settled_home : (p : SessionId → ℕ → Bool) → LeavesHome (settled_out p)
settled_home p h e = home_filter (λ r. not (is_out p r)) h.rows e

back_home : (p : SessionId → ℕ → Bool) (r : Row) → is_away r ≡ false → is_away (back (is_out p) r) ≡ false
back_home p r e = go (goes_out p r.state)
  where
    go : (b : Bool) → is_away (cond b (record r { state = Waiting }) r) ≡ false
    go true = refl
    go false = e

pub returned_home : (p : SessionId → ℕ → Bool) → LeavesHome (given_back p)
returned_home p h e = home_map (back (is_out p)) (back_home p) h.rows e

-- a row that comes and waits
home_push : (rows : List Row) (row : Row) → are_home rows ≡ true → is_away row ≡ false → are_home (rows ++ row ∷ []) ≡ true
home_push [] row h e = home_cons row [] e refl
home_push (r ∷ rows) row h e = home_cons r (rows ++ row ∷ []) (home_head r rows h) (home_push rows row (home_tail r rows h) e)

joined_home : (row : Row) (h : Held) → is_away row ≡ false → are_home h.rows ≡ true → are_home (with_row row h).rows ≡ true
joined_home row h e home = go (is_at_limit h.limit (length h.rows)) refl
  where
    go : (b : Bool) → is_at_limit h.limit (length h.rows) ≡ b → are_home (with_row row h).rows ≡ true
    go true at = rw at home
    go false at = rw at (home_push h.rows row home e)

-- lists of which some are named

-- more are
pub but_more : (old new : List ℕ) (lists : List Held) → ((k : ℕ) → is_named new k ≡ false → is_named old k ≡ false) → AreHomeBut old lists → AreHomeBut new lists
but_more old new lists more o = λ k d l n. o k d l (more k n)

-- one list is changed
changed_home : (f : Held → Held) → LeavesHome f → (i : ℕ) (lists : List Held) (k : ℕ) (d : Held) → k < length lists → are_home (get_or lists k d).rows ≡ true → are_home (get_or (changed_at i f lists) k d).rows ≡ true
changed_home f step i [] k d l h = absurd (omega (arith, l))
changed_home f step zero (x ∷ xs) zero d l h = step x h
changed_home f step zero (x ∷ xs) (suc k) d l h = h
changed_home f step (suc i) (x ∷ xs) zero d l h = h
changed_home f step (suc i) (x ∷ xs) (suc k) d l h = changed_home f step i xs k d (omega (arith, l)) h

pub but_changed : (f : Held → Held) → LeavesHome f → (indexes : List ℕ) (i : ℕ) (lists : List Held) → AreHomeBut indexes lists → AreHomeBut indexes (changed_at i f lists)
but_changed f step indexes i lists o = λ k d l n.
    let inside : k < length lists = omega (arith, length-changed i f lists, l) in
    changed_home f step i lists k d inside (o k d inside n)

changed_apart : (f : Held → Held) (i : ℕ) (lists : List Held) (k : ℕ) (d : Held) → k ≢ i → get_or (changed_at i f lists) k d ≡ get_or lists k d
changed_apart f i [] k d ne = refl
changed_apart f zero (x ∷ xs) zero d ne = absurd (ne refl)
changed_apart f zero (x ∷ xs) (suc k) d ne = refl
changed_apart f (suc i) (x ∷ xs) zero d ne = refl
changed_apart f (suc i) (x ∷ xs) (suc k) d ne = changed_apart f i xs k d (λ e. ne (ap suc e))

changed_here : (f : Held → Held) (i : ℕ) (lists : List Held) (d : Held) → i < length lists → get_or (changed_at i f lists) i d ≡ f (get_or lists i d)
changed_here f i [] d l = absurd (omega (arith, l))
changed_here f zero (x ∷ xs) d l = refl
changed_here f (suc i) (x ∷ xs) d l = changed_here f i xs d (omega (arith, l))

-- one of which a row goes out, or none does
pub but_sent : (f : Held → Held) (is_out : Bool) (old new : List ℕ) (i : ℕ) (lists : List Held) → ((d : Held) → is_out ≡ false → are_home (get_or lists i d).rows ≡ true → are_home (f (get_or lists i d)).rows ≡ true) → ((k : ℕ) → is_named new k ≡ (is_named old k || (is_out && (i == k)))) → AreHomeBut old lists → AreHomeBut new (changed_at i f lists)
but_sent f is_out old new i lists step named o = λ k d l n.
    let both = neither (is_named old k) (is_out && (i == k)) (sym (named k) ∙ n) in
    let inside : k < length lists = omega (arith, length-changed i f lists, l) in
    let home : are_home (get_or lists k d).rows ≡ true = o k d inside both.0 in
    elim (eqb_tells k i) [
      | inl e ↦
          let within : i < length lists = omega (arith, e.1, inside) in
          rw (e.1, changed_here f i lists d within) (step d (unsent is_out k both.1 e.1) (subst (λ (j : ℕ). are_home (get_or lists j d).rows ≡ true) e.1 home))
      | inr ne ↦ rw (changed_apart f i lists k d ne.1) home
    ]
  where
    neither : (a b : Bool) → (a || b) ≡ false → (a ≡ false) × (b ≡ false)
    neither true b e = absurd (cc)
    neither false b e = (refl, e)

    unsent : (b : Bool) (k : ℕ) → (b && (i == k)) ≡ false → k ≡ i → b ≡ false
    unsent true k e same = let is : (i == k) ≡ true = grind (arith, nat_tests, same) in absurd (cc)
    unsent false k e same = refl

-- nothing is sent where nothing was next
no_next : (s : SessionId) (c : ℕ) (o row : Option Row) (is_out : Bool) → is_out ≡ is_some row → row ≡ option_map (sent s c) o → is_out ≡ false → o ≡ None
no_next s c None row is_out there is e = refl
no_next s c (Some x) row is_out there is e = let some : is_some row ≡ true = ap is_some is in absurd (cc)

pub delivered_home : (place : ℕ) (s : SessionId) (c now : ℕ) (h : Held) (row : Option Row) (is_out : Bool) → is_out ≡ is_some row → row ≡ option_map (sent s c) (left_at place now h) → is_out ≡ false → are_home h.rows ≡ true → are_home (delivered_at place s c now h).rows ≡ true
delivered_home place s c now h row is_out there is e home =
    let none = no_next s c (left_at place now h) row is_out there is e in
    rw (map_elsewhere s c place (filter (stays now) h.rows) (none_found place (filter (stays now) h.rows) none)) (home_filter (stays now) h.rows home)

-- one of which it is known whether a row is out
pub but_known : (old new : List ℕ) (is_home : Bool) (i : ℕ) (lists : List Held) → ((k : ℕ) → is_named new k ≡ (is_named old k && not (is_home && (k == i)))) → ((d : Held) → is_home ≡ true → i < length lists → are_home (get_or lists i d).rows ≡ true) → AreHomeBut old lists → AreHomeBut new lists
but_known old new is_home i lists named home o = λ k d l n. go k d l (is_named old k) is_home (k == i) refl refl refl (sym (named k) ∙ n)
  where
    true_false : {X : Type 0} → true ≡ false → X
    true_false e = absurd (cc)

    go : (k : ℕ) (d : Held) → k < length lists → (a b c : Bool) → is_named old k ≡ a → is_home ≡ b → (k == i) ≡ c → (is_named old k && not (is_home && (k == i))) ≡ false → are_home (get_or lists k d).rows ≡ true
    go k d l false b c ea eb ec n = o k d l ea
    go k d l true true true ea eb ec n =
        let same : k ≡ i = grind (arith, nat_tests, ec) in
        rw same (home d eb (omega (arith, l, same)))
    go k d l true true false ea eb ec n = true_false (rw (ea, eb, ec) at n)
    go k d l true false c ea eb ec n = true_false (rw (ea, eb) at n)

-- a row comes to those that are meant
pub but_offered : (indexes new names : List ℕ) (row : Row) (lists after : List Held) → IsOffered names row lists after → ((k : ℕ) → is_named indexes k ≡ true → is_named new k ≡ true) → (goes_out (λ s c. true) row.state ≡ true → (k : ℕ) → is_named names k ≡ true → is_named new k ≡ true) → AreHomeBut indexes lists → AreHomeBut new after
but_offered indexes new names row lists after offered before out o = λ k d l n.
    let inside : k < length lists = omega (arith, offered.number, l) in
    let home : are_home (get_or lists k d).rows ≡ true = o k d inside (unnamed k (is_named indexes k) refl n) in
    rw (offered.each k d inside) (go k d home (goes_out (λ s c. true) row.state) (is_named names k) refl refl n)
  where
    unnamed : (k : ℕ) (a : Bool) → is_named indexes k ≡ a → is_named new k ≡ false → is_named indexes k ≡ false
    unnamed k true e n = let is : is_named new k ≡ true = before k e in absurd (cc)
    unnamed k false e n = e

    go : (k : ℕ) (d : Held) → are_home (get_or lists k d).rows ≡ true → (a b : Bool) → goes_out (λ s c. true) row.state ≡ a → is_named names k ≡ b → is_named new k ≡ false → are_home (cond b (with_row row (get_or lists k d)) (get_or lists k d)).rows ≡ true
    go k d home a false ea eb n = home
    go k d home true true ea eb n = let is : is_named new k ≡ true = out ea k eb in absurd (cc)
    go k d home false true ea eb n = joined_home row (get_or lists k d) ea home

-- a row that was stored comes, and waits
pub but_loaded : (indexes : List ℕ) (rows : List StoredRow) (row : Row) (lists after : List Held) → AreOffered rows row lists after → is_away row ≡ false → AreHomeBut indexes lists → AreHomeBut indexes after
but_loaded indexes rows row lists after offered waits o = λ k d l n.
    let inside : k < length lists = omega (arith, offered.number, l) in
    rw (offered.each k d inside) (go (stored_at k rows) (get_or lists k d) (o k d inside n))
  where
    go : (stored : Option StoredRow) (h : Held) → are_home h.rows ≡ true → are_home (with_stored row stored h).rows ≡ true
    go None h home = home
    go (Some r) h home = joined_home (record row { count = r.count }) h waits home

-- there is more room
pub but_roomier : (indexes : List ℕ) (lists after : List Held) → HasMoreRoom lists after → AreHomeBut indexes lists → AreHomeBut indexes after
but_roomier indexes lists after m o = λ k d l n.
    let inside : k < length lists = omega (arith, m.number, l) in
    subst (λ (h : Held). are_home h.rows ≡ true) (sym (m.same k d inside)) (o k d inside n)

-- one list more, of which there are no rows
pub but_created : (indexes : List ℕ) (lists : List Held) (h : Held) → h.rows ≡ [] → AreHomeBut indexes lists → AreHomeBut indexes (lists ++ h ∷ [])
but_created indexes lists h none o = λ k d l n. go k d (nat_lt k (length lists)) refl (omega (arith, length_push lists h, l)) n
  where
    go : (k : ℕ) (d : Held) (b : Bool) → nat_lt k (length lists) ≡ b → k ≤ length lists → is_named indexes k ≡ false → are_home (get_or (lists ++ h ∷ []) k d).rows ≡ true
    go k d true e l n =
        let lt : k < length lists = grind (arith, nat_tests, e) in
        rw (get_or_append_left lists (h ∷ []) d k lt) (o k d lt n)
    go k d false e l n =
        let same : length lists ≡ k = grind (arith, nat_tests, e, l) in
        rw (get_or_push lists h d k same, none) refl

-- one list goes
pub but_removed : (old new : List ℕ) (i : ℕ) (lists : List Held) → i < length lists → ((k : ℕ) → is_named new k ≡ is_named old (moved_down i k)) → AreHomeBut old lists → AreHomeBut new (remove lists i)
but_removed old new i lists within named o = λ k d l n. go (nat_lt k i) k d refl (omega (arith, length-remove lists i within, l)) (sym (named k) ∙ n)
  where
    go : (b : Bool) (k : ℕ) (d : Held) → nat_lt k i ≡ b → k + 1 < length lists → is_named old (moved_down i k) ≡ false → are_home (get_or (remove lists i) k d).rows ≡ true
    go true k d e l n =
        let lt : k < i = grind (arith, nat_tests, e) in
        rw (get_or-remove_below lists i d k lt within) (o k d (omega (arith, l)) (rw e at n))
    go false k d e l n =
        let le : i ≤ k = grind (arith, nat_tests, e) in
        rw (get_or-remove_above lists i d k le within) (o (k + 1) d l (rw e at n))

-- the same without room
pub but_copied : (indexes : List ℕ) (lists : List Held) → AreHomeBut indexes lists → AreHomeBut indexes (map without_room lists)
but_copied indexes lists o = λ k d l n.
    let inside : k < length lists = omega (arith, length-map lists without_room, l) in
    rw (get_or-map without_room lists k d d inside) (o k d inside n)

-- rows that are delivered and settled
pub dropped_home : (now : ℕ) → LeavesHome (dropped now)
dropped_home now h e = home_filter (stays now) h.rows e

pub received_home : (place now : ℕ) → LeavesHome (received_at place now)
received_home place now h e = home_filter (is_elsewhere place) (filter (stays now) h.rows) (home_filter (stays now) h.rows e)
