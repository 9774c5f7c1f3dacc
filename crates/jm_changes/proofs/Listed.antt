-- The changes that are listed, by what was met.
use Rattle.std.proofs.Common.{◌≡◌, ℕ, Bool, true, false, cond, List, [], ◌∷◌, ◌++◌, refl, sym, subst, ◌∙◌, ap, Option, Some, None, Result, Ok, Err, append-nil}
use Rattle.std.specs.Prelude.{IfOk, IfSome, MatchBool, option_map, is_some, ◌&&◌, ◌||◌}
use Rattle.jm_base.specs.declared.mode.Mode.{Mode}
use Rattle.jm_dest.specs.declared.key.Key.{Key}
use Rattle.jm_dest.specs.declared.session.SessionId.{SessionId}
use Rattle.jm_dest.specs.Keys.{key_eq}
use Rattle.jm_header.specs.declared.content.Content.{Content}
use Rattle.jm_header.specs.Headers.{is_delayed}
use Rattle.jm_machine.specs.declared.state.Definition.{Definition}
use Rattle.jm_machine.specs.declared.state.PlacedRow.{PlacedRow}
use Rattle.jm_machine.specs.declared.state.Row.{Row}
use Rattle.jm_machine.specs.Rows.{has_lapsed, is_out, raised, settles_at_once}
use Rattle.jm_machine.specs.Machine.{State, definition_of, same_definition, station_of}
use Rattle.jm_machine.specs.Under.{next_under, placed_under}
use Rattle.jm_keep.specs.declared.change.RowChange.{RowChange}
use Rattle.jm_keep.specs.declared.change.RowChange.TheVariants.{DropStation, PutStation, SetCount}
use Rattle.jm_keep.specs.Calls.{AreDelivered, AreDone, AreSubscribed, DropsThen}
use Rattle.jm_keep.specs.Leads.{drops, is_one_of}
use Rattle.jm_keep.specs.Persisted.{is_lasting, row_at}
use Rattle.jm_keep.specs.Steps.{AreGone, StandsInOrder, all_under, counted, is_place_of, lapsed_under, out_under, passes, taken_under}
use Rattle.jm_keep_law.proofs.Published.{under_in_order}
use Rattle.jm_changes.specs.declared.planned.Standing.{Standing}
use Rattle.jm_changes.specs.Planned.{IsDecided}
use Rattle.jm_changes.specs.Standing.{AreMet, AreOf, IsRead, standing, taken_row}
use Rattle.jm_changes.specs.Subscriptions.{ArePut}
use Rattle.jm_changes.proofs.First.{taken_stands}
use Rattle.jm_changes.proofs.Gone.{all_gone, held_gone, lapsed_gone, met_none, next_none, none_of, taken_gone, takes_nothing, takes_stored, takes_unstored}
use Rattle.jm_changes.proofs.Placed.{taken_next}

pub drops_then : (goes : Key → ℕ → Row → Bool) (state : State) (rows : List (Key × ℕ)) (delays gone : List ℕ) (others changes : List RowChange) → AreGone goes state rows delays gone → changes ≡ drops rows delays gone ++ others → DropsThen goes state others changes
drops_then goes state rows delays gone others changes a e = record { rows = rows; delays = delays; places = gone; are_gone = a; changes_are = e }

pub drops_only : (goes : Key → ℕ → Row → Bool) (state : State) (rows : List (Key × ℕ)) (delays gone : List ℕ) (changes : List RowChange) → AreGone goes state rows delays gone → changes ≡ drops rows delays gone → DropsThen goes state [] changes
drops_only goes state rows delays gone changes a e = drops_then goes state rows delays gone [] changes a (e ∙ sym (append-nil (drops rows delays gone)))

-- the same with further changes
pub drops_more : (goes : Key → ℕ → Row → Bool) (state : State) (others more changes : List RowChange) → DropsThen goes state others changes → DropsThen goes state (others ++ more) (changes ++ more)
drops_more goes state others more changes d = record { rows = d.rows; delays = d.delays; places = d.places; are_gone = d.are_gone; changes_are = ap (λ cs. cs ++ more) d.changes_are ∙ assoc (drops d.rows d.delays d.places) others more }
  where
    assoc : (a b c : List RowChange) → (a ++ b) ++ c ≡ a ++ (b ++ c)
    assoc [] b c = refl
    assoc (x ∷ a) b c = ap (λ t. x ∷ t) (assoc a b c)

-- ---- the row that is taken

found : (o : Option PlacedRow) (r : Standing) → option_map standing o ≡ Some r → (x : PlacedRow) × (o ≡ Some x) × (standing x ≡ r)
found None r e = cc
found (Some x) r e = (x, refl, the e)
  where
    the : Some (standing x) ≡ Some r → standing x ≡ r
    the e = cc

none_found : (o : Option PlacedRow) → option_map standing o ≡ None → o ≡ None
none_found None e = refl
none_found (Some x) e = cc

-- it stands at its place
taken_at : (taken : Option ℕ) (k : Key) (state : State) (x : PlacedRow) → StandsInOrder state → taken_row taken (placed_under state k) ≡ Some x → row_at x.place (placed_under state k) ≡ Some x.row
taken_at taken k state x o e = taken_stands taken state.next_place (placed_under state k) x (under_in_order state o k) e

-- what was read of it tells whether its message has a delay
pub taken_read : (taken : Option ℕ) (k : Key) (state : State) (r : Standing) → StandsInOrder state → option_map standing (taken_row taken (placed_under state k)) ≡ Some r → IsRead state k r
taken_read taken k state r o e =
    let x = found (taken_row taken (placed_under state k)) r e in
    subst (λ s. IsRead state k s) x.2 (subst (λ row. IfSome row (λ y. is_delayed x.0.row.message ≡ is_delayed y.message)) (sym (taken_at taken k state x.0 o x.1)) refl)

pub counted_none : (k : Key) (o : Option PlacedRow) → option_map standing o ≡ None → counted k o ≡ []
counted_none k o e = ap (counted k) (none_found o e)

pub counted_stored : (k : Key) (o : Option PlacedRow) (r : Standing) → option_map standing o ≡ Some r → r.is_persistent ≡ true → counted k o ≡ SetCount k r.place (raised r.count) ∷ []
counted_stored k o r e p =
    let f = found o r e in
    ap (counted k) f.1
    ∙ ap (λ b. cond b (SetCount k f.0.place (raised f.0.row.count) ∷ []) []) (ap (λ s. s.is_persistent) f.2 ∙ p)
    ∙ ap (λ s. SetCount k s.place (raised s.count) ∷ []) f.2

pub counted_unstored : (k : Key) (o : Option PlacedRow) (r : Standing) → option_map standing o ≡ Some r → r.is_persistent ≡ false → counted k o ≡ []
counted_unstored k o r e p =
    let f = found o r e in
    ap (counted k) f.1
    ∙ ap (λ b. cond b (SetCount k f.0.place (raised f.0.row.count) ∷ []) []) (ap (λ s. s.is_persistent) f.2 ∙ p)

-- what such a delivery loses: nothing is taken
pub takes_none : (taken : Option ℕ) (now : ℕ) (k : Key) (state : State) (rows : List (Key × ℕ)) (delays gone : List ℕ) → is_lasting k ≡ true → option_map standing (taken_row taken (placed_under state k)) ≡ None → AreOf k (λ place. has_lapsed now) state rows → AreMet (λ key r. key_eq k key) state rows delays gone → AreGone (taken_under k now (taken_row taken (placed_under state k))) state rows delays gone
takes_none taken now k state rows delays gone l e a m = taken_gone k now (taken_row taken (placed_under state k)) state rows delays gone l (takes_nothing now k (taken_row taken (placed_under state k)) state rows (none_found _ e) a) m

-- or one that is not stored
pub takes_other : (taken : Option ℕ) (now : ℕ) (k : Key) (state : State) (r : Standing) (rows : List (Key × ℕ)) (delays gone : List ℕ) → StandsInOrder state → is_lasting k ≡ true → option_map standing (taken_row taken (placed_under state k)) ≡ Some r → r.is_persistent ≡ false → AreOf k (λ place. has_lapsed now) state rows → AreMet (λ key r. key_eq k key) state rows delays gone → AreGone (taken_under k now (taken_row taken (placed_under state k))) state rows delays gone
takes_other taken now k state r rows delays gone o l e f a m =
    let x = found (taken_row taken (placed_under state k)) r e in
    taken_gone k now (taken_row taken (placed_under state k)) state rows delays gone l (takes_unstored now k (taken_row taken (placed_under state k)) state x.0 rows (taken_at taken k state x.0 o x.1) x.1 (ap (λ s. s.is_persistent) x.2 ∙ f) a) m

-- or one that is, and goes too
pub takes_one : (taken : Option ℕ) (now : ℕ) (k : Key) (state : State) (r : Standing) (rows new : List (Key × ℕ)) (delays gone : List ℕ) → StandsInOrder state → is_lasting k ≡ true → option_map standing (taken_row taken (placed_under state k)) ≡ Some r → r.is_persistent ≡ true → AreOf k (λ place. has_lapsed now) state rows → new ≡ rows ++ (k, r.place) ∷ [] → AreMet (λ key r. key_eq k key) state new delays gone → AreGone (taken_under k now (taken_row taken (placed_under state k))) state new delays gone
takes_one taken now k state r rows new delays gone o l e f a n m =
    let x = found (taken_row taken (placed_under state k)) r e in
    let is : new ≡ rows ++ (k, x.0.place) ∷ [] = n ∙ ap (λ s. rows ++ (k, s.place) ∷ []) (sym x.2) in
    taken_gone k now (taken_row taken (placed_under state k)) state new delays gone l
    (subst (λ rows. AreOf k (λ place r. has_lapsed now r || is_place_of (taken_row taken (placed_under state k)) place) state rows) (sym is) (takes_stored now k (taken_row taken (placed_under state k)) state x.0 rows (taken_at taken k state x.0 o x.1) x.1 (ap (λ s. s.is_persistent) x.2 ∙ f) a)) m

-- ---- a delivery

pub delivers_apart : (mode : Option Mode) (p : Content → Bool) (now : ℕ) (k : Key) (state : State) (changes : List RowChange) → is_lasting k ≡ false → changes ≡ [] → AreDelivered mode p now k state changes
delivers_apart mode p now k state changes l e =
    subst (λ b. MatchBool b (MatchBool (settles_at_once mode) (DropsThen (taken_under k now (next_under p now k (placed_under state k))) state [] changes) (DropsThen (lapsed_under k now) state (counted k (next_under p now k (placed_under state k))) changes)) (changes ≡ [])) (sym l) e

lasts : (mode : Option Mode) (p : Content → Bool) (now : ℕ) (k : Key) (state : State) (changes : List RowChange) → is_lasting k ≡ true → MatchBool (settles_at_once mode) (DropsThen (taken_under k now (next_under p now k (placed_under state k))) state [] changes) (DropsThen (lapsed_under k now) state (counted k (next_under p now k (placed_under state k))) changes) → AreDelivered mode p now k state changes
lasts mode p now k state changes l d =
    subst (λ b. MatchBool b (MatchBool (settles_at_once mode) (DropsThen (taken_under k now (next_under p now k (placed_under state k))) state [] changes) (DropsThen (lapsed_under k now) state (counted k (next_under p now k (placed_under state k))) changes)) (changes ≡ [])) (sym l) d

pub delivers_at_once : (mode : Option Mode) (p : Content → Bool) (now : ℕ) (k : Key) (state : State) (changes : List RowChange) → is_lasting k ≡ true → settles_at_once mode ≡ true → DropsThen (taken_under k now (next_under p now k (placed_under state k))) state [] changes → AreDelivered mode p now k state changes
delivers_at_once mode p now k state changes l s d =
    lasts mode p now k state changes l (subst (λ b. MatchBool b (DropsThen (taken_under k now (next_under p now k (placed_under state k))) state [] changes) (DropsThen (lapsed_under k now) state (counted k (next_under p now k (placed_under state k))) changes)) (sym s) d)

pub delivers_later : (mode : Option Mode) (p : Content → Bool) (now : ℕ) (k : Key) (state : State) (changes : List RowChange) → is_lasting k ≡ true → settles_at_once mode ≡ false → DropsThen (lapsed_under k now) state (counted k (next_under p now k (placed_under state k))) changes → AreDelivered mode p now k state changes
delivers_later mode p now k state changes l s d =
    lasts mode p now k state changes l (subst (λ b. MatchBool b (DropsThen (taken_under k now (next_under p now k (placed_under state k))) state [] changes) (DropsThen (lapsed_under k now) state (counted k (next_under p now k (placed_under state k))) changes)) (sym s) d)

-- where no row stands under the key nothing is listed
pub delivers_nothing : (mode : Option Mode) (p : Content → Bool) (now : ℕ) (k : Key) (state : State) (changes : List RowChange) → is_lasting k ≡ true → placed_under state k ≡ [] → changes ≡ [] → AreDelivered mode p now k state changes
delivers_nothing mode p now k state changes l e z = go (settles_at_once mode) refl
  where
    none : next_under p now k (placed_under state k) ≡ None
    none = next_none p now k (placed_under state k) e

    go : (b : Bool) → settles_at_once mode ≡ b → AreDelivered mode p now k state changes
    go true s = delivers_at_once mode p now k state changes l s
        (drops_only (taken_under k now (next_under p now k (placed_under state k))) state [] [] [] changes
        (taken_gone k now (next_under p now k (placed_under state k)) state [] [] [] l (none_of k (λ place r. has_lapsed now r || is_place_of (next_under p now k (placed_under state k)) place) state e) (met_none (λ key r. key_eq k key) state)) z)
    go false s = delivers_later mode p now k state changes l s
        (drops_then (lapsed_under k now) state [] [] [] (counted k (next_under p now k (placed_under state k))) changes
        (lapsed_gone k now state [] [] [] l (none_of k (λ place. has_lapsed now) state e) (met_none (λ key r. key_eq k key) state)) (z ∙ sym (ap (counted k) none)))

-- under a key that was found the row at the planned place is the one that is taken
pub received_there : (mode : Option Mode) (p : Content → Bool) (now : ℕ) (taken : Option ℕ) (k key : Key) (state : State) (changes : List RowChange) → StandsInOrder state → taken ≡ option_map (λ (r : PlacedRow). r.place) (next_under p now key (placed_under state key)) → k ≡ key → is_lasting key ≡ true → settles_at_once mode ≡ true →
    DropsThen (taken_under k now (taken_row taken (placed_under state k))) state [] changes → AreDelivered mode p now key state changes
received_there mode p now taken k key state changes o t e l s d =
    delivers_at_once mode p now key state changes l s
    (subst (λ next. DropsThen (taken_under key now next) state [] changes) (taken_next p now key state taken o t) (subst (λ k. DropsThen (taken_under k now (taken_row taken (placed_under state k))) state [] changes) e d))

pub sent_there : (mode : Option Mode) (p : Content → Bool) (now : ℕ) (taken : Option ℕ) (k key : Key) (state : State) (changes : List RowChange) → StandsInOrder state → taken ≡ option_map (λ (r : PlacedRow). r.place) (next_under p now key (placed_under state key)) → k ≡ key → is_lasting key ≡ true → settles_at_once mode ≡ false →
    DropsThen (lapsed_under k now) state (counted k (taken_row taken (placed_under state k))) changes → AreDelivered mode p now key state changes
sent_there mode p now taken k key state changes o t e l s d =
    delivers_later mode p now key state changes l s
    (subst (λ next. DropsThen (lapsed_under key now) state (counted key next) changes) (taken_next p now key state taken o t) (subst (λ k. DropsThen (lapsed_under k now) state (counted k (taken_row taken (placed_under state k))) changes) e d))

-- ---- a listener that is done

pub done_apart : (p : SessionId → ℕ → Bool) (k : Key) (state : State) (changes : List RowChange) → is_lasting k ≡ false → changes ≡ [] → AreDone p (Some k) state changes
done_apart p k state changes l e = subst (λ b. MatchBool b (DropsThen (out_under k p) state [] changes) (changes ≡ [])) (sym l) e

pub done_there : (p : SessionId → ℕ → Bool) (k : Key) (state : State) (rows : List (Key × ℕ)) (delays gone : List ℕ) (changes : List RowChange) → is_lasting k ≡ true → AreOf k (λ place. is_out p) state rows → AreMet (λ key r. key_eq k key) state rows delays gone → changes ≡ drops rows delays gone → AreDone p (Some k) state changes
done_there p k state rows delays gone changes l a m e =
    subst (λ b. MatchBool b (DropsThen (out_under k p) state [] changes) (changes ≡ [])) (sym l)
    (drops_only (out_under k p) state rows delays gone changes (held_gone k p state rows delays gone l a m) e)

pub done_nothing : (p : SessionId → ℕ → Bool) (k : Key) (state : State) (changes : List RowChange) → is_lasting k ≡ true → placed_under state k ≡ [] → changes ≡ [] → AreDone p (Some k) state changes
done_nothing p k state changes l e z = done_there p k state [] [] [] changes l (none_of k (λ place. is_out p) state e) (met_none (λ key r. key_eq k key) state) z

-- ---- a subscription

pub nothing_under : (k : Key) (state : State) (rows : List (Key × ℕ)) (delays gone : List ℕ) → is_lasting k ≡ true → placed_under state k ≡ [] → rows ≡ [] → delays ≡ [] → gone ≡ [] → AreGone (all_under k) state rows delays gone
nothing_under k state rows delays gone l e r d g =
    subst (λ rows. AreGone (all_under k) state rows delays gone) (sym r)
    (subst (λ delays. AreGone (all_under k) state [] delays gone) (sym d)
    (subst (λ gone. AreGone (all_under k) state [] [] gone) (sym g)
    (all_gone k state [] [] [] l (none_of k (λ place r. true) state e) (met_none (λ key r. key_eq k key) state))))

-- under a key that was found all go
pub all_met : (k key : Key) (state : State) (old rows : List (Key × ℕ)) (delays gone : List ℕ) → k ≡ key → is_lasting key ≡ true → old ≡ [] →
    ((other : Key) (p : ℕ) → is_one_of rows other p ≡ (is_one_of old other p || (key_eq k other && passes (λ r. true) (row_at p (placed_under state k))))) → AreMet (λ other r. key_eq k other) state rows delays gone → AreGone (all_under key) state rows delays gone
all_met k key state old rows delays gone e l o a m =
    subst (λ t. AreGone (all_under t) state rows delays gone) e
    (all_gone k state rows delays gone (subst (λ t. is_lasting t ≡ true) (sym e) l) (λ other p. a other p ∙ ap (λ xs. is_one_of xs other p || (key_eq k other && passes (λ r. true) (row_at p (placed_under state k)))) o) m)

abbrev pair : Key → Definition → Key × Definition
pair k d = (k, d)

-- a pair that there is
abbrev pub some_pair : Key → Definition → Option (Key × Definition)
some_pair k d = Some (k, d)

-- what was decided is what was asked for
decided_is : (k : Key) (d : Definition) (old : Option Definition) (x : Key × Definition) → IsDecided k d old (Some x) → x ≡ pair k d
decided_is k d None x i = same i
  where
    same : Some x ≡ some_pair k d → x ≡ pair k d
    same e = cc
decided_is k d (Some old) x i = go (same_definition old d) i
  where
    same : Some x ≡ some_pair k d → x ≡ pair k d
    same e = cc

    go : (b : Bool) → MatchBool b (Some x ≡ None) (Some x ≡ some_pair k d) → x ≡ pair k d
    go true i = cc
    go false i = same i

puts_here : (k : Key) (d : Definition) (old : Option Definition) (state : State) (x : Key × Definition) (changes : List RowChange) → IsDecided k d old (Some x) → ArePut (is_some old) k d state changes → AreSubscribed k d old state changes
puts_here k d None state x changes i p = p
puts_here k d (Some old) state x changes i p = go (same_definition old d) i
  where
    go : (b : Bool) → MatchBool b (Some x ≡ None) (Some x ≡ some_pair k d) → MatchBool b (changes ≡ []) (DropsThen (all_under k) state (DropStation k ∷ PutStation k (Some d) ∷ []) changes)
    go true i = cc
    go false i = p

pub decided_key : (k : Key) (d : Definition) (old : Option Definition) (x : Key × Definition) → IsDecided k d old (Some x) → x.0 ≡ k
decided_key k d old x i = ap (λ y. y.0) (decided_is k d old x i)

pub decided_puts : (k : Key) (d : Definition) (x : Key × Definition) (state : State) (changes : List RowChange) → IsDecided k d (definition_of (station_of k state.stations)) (Some x) → ArePut (is_some (definition_of (station_of x.0 state.stations))) x.0 x.1 state changes → AreSubscribed k d (definition_of (station_of k state.stations)) state changes
decided_puts k d x state changes i p =
    puts_here k d (definition_of (station_of k state.stations)) state x changes i
    (subst (λ y. ArePut (is_some (definition_of (station_of y.0 state.stations))) y.0 y.1 state changes) (decided_is k d (definition_of (station_of k state.stations)) x i) p)

pub ok_map : {T E : Type 0} (r : Result T E) (p q : T → Type 0) → ((x : T) → p x → q x) → IfOk r p → IfOk r q
ok_map (Ok x) p q f h = f x h
ok_map (Err e) p q f h = h
