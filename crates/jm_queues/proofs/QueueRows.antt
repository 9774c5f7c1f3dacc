-- What queues hold, through each change.
use Rattle.std.proofs.Common.{◌≡◌, ◌<◌, ◌≤◌, ◌==◌, ℕ, Bool, true, false, cond, List, [], ◌∷◌, ◌++◌, map, length, get_or, refl, ap, sym, ◌∙◌, arith, Some, None, zero, suc}
use Rattle.std.specs.Prelude.{◌||◌, position, nat_lt}
use Rattle.std.specs.List.{All, IsDistinct, position_or_len}
use Rattle.std.proofs.lemmas.Bool.Decides.{nat_tests}
use Rattle.std.proofs.lemmas.List.{length-append, length-map}
use Rattle.std.proofs.lemmas.List.Elements.{All-head, All-tail, All-cons, All-nil}
use Rattle.jm_dest.specs.declared.key.Key.{Key}
use Rattle.jm_dest.specs.declared.key.Key.TheVariants.{Queue}
use Rattle.jm_dest.specs.Keys.{key_eq}
use Rattle.jm_dest.specs.Names.{text_eq}
use Rattle.jm_machine.specs.declared.state.PlacedRow.{PlacedRow}
use Rattle.jm_machine.specs.declared.state.Row.{Row}
use Rattle.jm_machine.specs.Machine.{at_queue, at_queues}
use Rattle.jm_stations.specs.Backlogs.{Backlog, HasCome, HasMoreRoom, changed_at, empty, joined, without_room}
use Rattle.jm_stations.specs.Stations.{Stations, index_in}
use Rattle.jm_machine.proofs.Keys.{key_refl, key_same, text_same}
use Rattle.jm_queues.specs.Queues.{IsReserved, HasNoLimit, HaveMoreRoom, rows_at}
use Rattle.jm_queues.proofs.Found.{fails_all, found_at, found_none, length-changed, with}

-- ---- the same rows

-- as many lists, with the same rows each
pub record HaveSameRows (xs ys : List Backlog) : Type 0 where
  pub number : length ys ≡ length xs
  pub each : (k : ℕ) (d : Backlog) → k < length xs → (get_or ys k d).rows ≡ (get_or xs k d).rows

pub same_tail : (x y : Backlog) (xs ys : List Backlog) → HaveSameRows (x ∷ xs) (y ∷ ys) → HaveSameRows xs ys
same_tail x y xs ys h = record { number = omega (arith, h.number); each = λ k d l. h.each (suc k) d (omega (arith, l)) }

rows_same_at : (ks : List Key) (xs ys : List Backlog) → HaveSameRows xs ys → (name : List ℕ) → rows_at ks ys name ≡ rows_at ks xs name
rows_same_at [] xs ys h name = refl
rows_same_at (k ∷ ks) [] [] h name = refl
rows_same_at (k ∷ ks) [] (y ∷ ys) h name = absurd (omega (arith, h.number))
rows_same_at (k ∷ ks) (x ∷ xs) [] h name = absurd (omega (arith, h.number))
rows_same_at (k ∷ ks) (x ∷ xs) (y ∷ ys) h name =
    let here = h.each zero x (omega arith) in
    let rest = rows_same_at ks xs ys (same_tail x y xs ys h) name in
    λ i. cond (key_eq k (Queue name)) (here i) (rest i)

pub rows_same : (ks : List Key) (xs ys : List Backlog) → HaveSameRows xs ys → rows_at ks ys ≡ rows_at ks xs
rows_same ks xs ys h = λ i name. rows_same_at ks xs ys h name i

pub more_same : (xs ys : List Backlog) → HasMoreRoom xs ys → HaveSameRows xs ys
more_same xs ys h = record { number = h.number; each = λ k d l. ap (λ (b : Backlog). b.rows) (h.same k d l) }

without_rows : (xs : List Backlog) (k : ℕ) (d : Backlog) → k < length xs → (get_or (map without_room xs) k d).rows ≡ (get_or xs k d).rows
without_rows [] k d l = absurd (omega arith)
without_rows (x ∷ xs) zero d l = refl
without_rows (x ∷ xs) (suc k) d l = without_rows xs k d (omega arith)

pub copies_same : (xs : List Backlog) → HaveSameRows xs (map without_room xs)
copies_same xs = record { number = length-map xs without_room; each = without_rows xs }

-- ---- a key more

rows_push_at : (ks : List Key) (bs : List Backlog) (k : Key) → length bs ≡ length ks → (name : List ℕ) → rows_at (ks ++ k ∷ []) (bs ++ empty None ∷ []) name ≡ rows_at ks bs name
rows_push_at [] [] k n name = go (key_eq k (Queue name))
  where
    go : (t : Bool) → cond {A = List PlacedRow} t [] [] ≡ []
    go true = refl
    go false = refl
rows_push_at [] (b ∷ bs) k n name = absurd (omega arith)
rows_push_at (x ∷ ks) [] k n name = absurd (omega arith)
rows_push_at (x ∷ ks) (b ∷ bs) k n name = ap (λ r. cond (key_eq x (Queue name)) b.rows r) (rows_push_at ks bs k (omega arith) name)

pub rows_push : (ks : List Key) (bs : List Backlog) (k : Key) → length bs ≡ length ks → rows_at (ks ++ k ∷ []) (bs ++ empty None ∷ []) ≡ rows_at ks bs
rows_push ks bs k n = λ i name. rows_push_at ks bs k n name i

-- a key that stands somewhere stands there when others follow
first_still : {A : Type 0} (p : A → Bool) (xs ys : List A) → position_or_len p xs < length xs → position_or_len p (xs ++ ys) ≡ position_or_len p xs
first_still p [] ys l = absurd (omega arith)
first_still p (x ∷ xs) ys l = go (p x) refl (first_still p xs ys)
  where
    go : (t : Bool) → p x ≡ t → (position_or_len p xs < length xs → position_or_len p (xs ++ ys) ≡ position_or_len p xs) → position_or_len p ((x ∷ xs) ++ ys) ≡ position_or_len p (x ∷ xs)
    go true e r = rw e refl
    go false e r = let rest = r (omega (arith, rw e at l)) in rw e (omega (arith, rest))

pub positioned : {A : Type 0} (p : A → Bool) (xs : List A) (i : ℕ) → position_or_len p xs ≡ i → i < length xs → position p xs ≡ Some i
positioned p xs i e l = go (position_or_len p xs) (length xs) e l (nat_lt (position_or_len p xs) (length xs)) refl
  where
    go : (n m : ℕ) → n ≡ i → i < m → (b : Bool) → nat_lt n m ≡ b → cond b (Some n) None ≡ Some i
    go n m e l true f = ap (λ k. Some k) e
    go n m e l false f = absurd (grind (arith, nat_tests))

pub index_still : (ks : List Key) (k key : Key) (i : ℕ) → index_in ks key ≡ Some i → index_in (ks ++ k ∷ []) key ≡ Some i
index_still ks k key i h =
    let at = found_at (λ x. key_eq x key) ks i h in
    let within : position_or_len (λ x. key_eq x key) ks < length ks = omega (arith, at.0, at.1) in
    positioned (λ x. key_eq x key) (ks ++ k ∷ []) i (first_still (λ x. key_eq x key) ks (k ∷ []) within ∙ at.0) (omega (arith, at.1, length-append ks (k ∷ [])))

first_past : (ks : List Key) (k : Key) → length ks ≤ position_or_len (λ x. key_eq x k) ks → position_or_len (λ x. key_eq x k) (ks ++ k ∷ []) ≡ length ks
first_past [] k l = rw (key_refl k) refl
first_past (x ∷ ks) k l = go (key_eq x k) refl (first_past ks k)
  where
    go : (t : Bool) → key_eq x k ≡ t → (length ks ≤ position_or_len (λ y. key_eq y k) ks → position_or_len (λ y. key_eq y k) (ks ++ k ∷ []) ≡ length ks) → position_or_len (λ y. key_eq y k) ((x ∷ ks) ++ k ∷ []) ≡ suc (length ks)
    go true e r = absurd (omega (arith, rw e at l))
    go false e r = let rest = r (omega (arith, rw e at l)) in rw e (omega (arith, rest))

pub index_last : (ks : List Key) (k : Key) → index_in ks k ≡ None → index_in (ks ++ k ∷ []) k ≡ Some (length ks)
index_last ks k h = positioned (λ x. key_eq x k) (ks ++ k ∷ []) (length ks) (first_past ks k (found_none (λ x. key_eq x k) ks h)) (omega (arith, length-append ks (k ∷ [])))

-- ---- rows that are found, or not

rows_first : (ks : List Key) (bs : List Backlog) (name : List ℕ) (i : ℕ) (d : Backlog) → position_or_len (λ x. key_eq x (Queue name)) ks ≡ i → i < length ks → i < length bs → rows_at ks bs name ≡ (get_or bs i d).rows
rows_first [] bs name i d e h l = absurd (omega arith)
rows_first (k ∷ ks) [] name i d e h l = absurd (omega arith)
rows_first (k ∷ ks) (b ∷ bs) name zero d e h l = go (key_eq k (Queue name)) refl
  where
    go : (t : Bool) → key_eq k (Queue name) ≡ t → cond t b.rows (rows_at ks bs name) ≡ b.rows
    go true t = refl
    go false t = absurd (omega (arith, rw t at e))
rows_first (k ∷ ks) (b ∷ bs) name (suc i) d e h l = go (key_eq k (Queue name)) refl (rows_first ks bs name i d)
  where
    go : (t : Bool) → key_eq k (Queue name) ≡ t → (position_or_len (λ x. key_eq x (Queue name)) ks ≡ i → i < length ks → i < length bs → rows_at ks bs name ≡ (get_or bs i d).rows) → cond t b.rows (rows_at ks bs name) ≡ (get_or bs i d).rows
    go true t r = absurd (omega (arith, rw t at e))
    go false t r = r (omega (arith, rw t at e)) (omega arith) (omega arith)

pub rows_found : (ks : List Key) (bs : List Backlog) (name : List ℕ) (i : ℕ) (d : Backlog) → index_in ks (Queue name) ≡ Some i → i < length bs → rows_at ks bs name ≡ (get_or bs i d).rows
rows_found ks bs name i d h l = let at = found_at (λ x. key_eq x (Queue name)) ks i h in rows_first ks bs name i d at.0 at.1 l

none_here : (ks : List Key) (bs : List Backlog) (name : List ℕ) → All (λ x. key_eq x (Queue name) ≡ false) ks → rows_at ks bs name ≡ []
none_here [] bs name h = refl
none_here (k ∷ ks) [] name h = refl
none_here (k ∷ ks) (b ∷ bs) name h =
    let t : key_eq k (Queue name) ≡ false = All-head (λ x. key_eq x (Queue name) ≡ false) k ks h in
    rw t (none_here ks bs name (All-tail (λ x. key_eq x (Queue name) ≡ false) k ks h))

pub rows_missing : (ks : List Key) (bs : List Backlog) (name : List ℕ) → index_in ks (Queue name) ≡ None → rows_at ks bs name ≡ []
rows_missing ks bs name h = none_here ks bs name (fails_all (λ x. key_eq x (Queue name)) ks (found_none (λ x. key_eq x (Queue name)) ks h))

-- what is no change of nothing changes nothing where nothing is
pub nothing_changed : (name : List ℕ) (g : List PlacedRow → List PlacedRow) (queues : List ℕ → List PlacedRow) → g [] ≡ [] → queues name ≡ [] → at_queue name g queues ≡ queues
nothing_changed name g queues none e = λ i other. at other i
  where
    at : (other : List ℕ) → at_queue name g queues other ≡ queues other
    at other = go (text_eq name other) refl
      where
        go : (t : Bool) → text_eq name other ≡ t → cond t (g (queues other)) (queues other) ≡ queues other
        go true t =
            let same : queues other ≡ [] = ap queues (sym (text_same name other t)) ∙ e in
            ap g same ∙ none ∙ sym same
        go false t = refl

-- ---- a change of one list

rows_changed_at : (ks : List Key) (bs : List Backlog) (name : List ℕ) (g : List PlacedRow → List PlacedRow) (i : ℕ) → position_or_len (λ x. key_eq x (Queue name)) ks ≡ i → i < length ks → i < length bs →
    (other : List ℕ) → rows_at ks (changed_at i (with g) bs) other ≡ at_queue name g (rows_at ks bs) other
rows_changed_at [] bs name g i e h l other = absurd (omega arith)
rows_changed_at (k ∷ ks) [] name g i e h l other = absurd (omega arith)
rows_changed_at (k ∷ ks) (b ∷ bs) name g zero e h l other = go (key_eq k (Queue name)) refl
  where
    by : (t : Bool) → cond t (g b.rows) (rows_at ks bs other) ≡ cond t (g (cond t b.rows (rows_at ks bs other))) (cond t b.rows (rows_at ks bs other))
    by true = refl
    by false = refl

    go : (t : Bool) → key_eq k (Queue name) ≡ t → cond (key_eq k (Queue other)) (g b.rows) (rows_at ks bs other) ≡ cond (text_eq name other) (g (cond (key_eq k (Queue other)) b.rows (rows_at ks bs other))) (cond (key_eq k (Queue other)) b.rows (rows_at ks bs other))
    go true t = rw (key_same k (Queue name) t) (by (text_eq name other))
    go false t = absurd (omega (arith, rw t at e))
rows_changed_at (k ∷ ks) (b ∷ bs) name g (suc i) e h l other = go (key_eq k (Queue name)) refl (rows_changed_at ks bs name g i)
  where
    by : (u t : Bool) → (t ≡ true → u ≡ false) → (r s : List PlacedRow) → r ≡ cond t (g s) s → cond u b.rows r ≡ cond t (g (cond u b.rows s)) (cond u b.rows s)
    by true true f r s q = absurd (let no = f refl in cc)
    by true false f r s q = refl
    by false true f r s q = q
    by false false f r s q = q

    apart : (t : Bool) → key_eq k (Queue name) ≡ t → t ≡ false → text_eq name other ≡ true → key_eq k (Queue other) ≡ false
    apart t e f o = ap (λ n. key_eq k (Queue n)) (sym (text_same name other o)) ∙ e ∙ f

    go : (t : Bool) → key_eq k (Queue name) ≡ t → (position_or_len (λ x. key_eq x (Queue name)) ks ≡ i → i < length ks → i < length bs → (o : List ℕ) → rows_at ks (changed_at i (with g) bs) o ≡ at_queue name g (rows_at ks bs) o) →
        cond (key_eq k (Queue other)) b.rows (rows_at ks (changed_at i (with g) bs) other) ≡ cond (text_eq name other) (g (cond (key_eq k (Queue other)) b.rows (rows_at ks bs other))) (cond (key_eq k (Queue other)) b.rows (rows_at ks bs other))
    go true t r = absurd (omega (arith, rw t at e))
    go false t r =
        by (key_eq k (Queue other)) (text_eq name other) (apart false t refl) (rows_at ks (changed_at i (with g) bs) other) (rows_at ks bs other)
        (r (omega (arith, rw t at e)) (omega arith) (omega arith) other)

pub rows_changed : (ks : List Key) (bs : List Backlog) (name : List ℕ) (g : List PlacedRow → List PlacedRow) (i : ℕ) → index_in ks (Queue name) ≡ Some i → i < length bs → rows_at ks (changed_at i (with g) bs) ≡ at_queue name g (rows_at ks bs)
rows_changed ks bs name g i h l =
    let at = found_at (λ x. key_eq x (Queue name)) ks i h in
    λ j other. rows_changed_at ks bs name g i at.0 at.1 l other j

-- ---- a change of all lists

rows_mapped_at : (ks : List Key) (bs : List Backlog) (g : List PlacedRow → List PlacedRow) → g [] ≡ [] → (name : List ℕ) → rows_at ks (map (with g) bs) name ≡ g (rows_at ks bs name)
rows_mapped_at [] bs g e name = sym e
rows_mapped_at (k ∷ ks) [] g e name = sym e
rows_mapped_at (k ∷ ks) (b ∷ bs) g e name = go (key_eq k (Queue name)) (rows_mapped_at ks bs g e name)
  where
    go : (t : Bool) → rows_at ks (map (with g) bs) name ≡ g (rows_at ks bs name) → cond t (g b.rows) (rows_at ks (map (with g) bs) name) ≡ g (cond t b.rows (rows_at ks bs name))
    go true r = refl
    go false r = r

pub rows_mapped : (ks : List Key) (bs : List Backlog) (g : List PlacedRow → List PlacedRow) → g [] ≡ [] → rows_at ks (map (with g) bs) ≡ at_queues g (rows_at ks bs)
rows_mapped ks bs g e = λ i name. rows_mapped_at ks bs g e name i

-- ---- a message that comes

-- the rows with one more
abbrev pub with_new : ℕ → Row → List PlacedRow → List PlacedRow
with_new place row rows = rows ++ record { place = place; row = row } ∷ []

pub changed_rows : (i k : ℕ) (g : List PlacedRow → List PlacedRow) (bs : List Backlog) (d : Backlog) → k < length bs → (get_or (changed_at i (with g) bs) k d).rows ≡ cond (i == k) (g (get_or bs k d).rows) (get_or bs k d).rows
changed_rows i k g [] d l = absurd (omega arith)
changed_rows zero zero g (b ∷ bs) d l = refl
changed_rows zero (suc k) g (b ∷ bs) d l = let other : (zero == suc k) ≡ false = grind (arith, nat_tests) in rw other refl
changed_rows (suc i) zero g (b ∷ bs) d l = let other : (suc i == zero) ≡ false = grind (arith, nat_tests) in rw other refl
changed_rows (suc i) (suc k) g (b ∷ bs) d l =
    let same : (suc i == suc k) ≡ (i == k) = grind (arith, nat_tests) in
    changed_rows i k g bs d (omega arith) ∙ ap (λ t. cond t (g (get_or bs k d).rows) (get_or bs k d).rows) (sym same)

-- where there is no limit, the row comes to the list that is named
pub published_same : (i place : ℕ) (row : Row) (old new : List Backlog) → All HasNoLimit old → HasCome (i ∷ []) place row old new → HaveSameRows (changed_at i (with (with_new place row)) old) new
published_same i place row old new u h = record {
  number = h.number ∙ sym (length-changed i (with (with_new place row)) old);
  each = λ k d l.
      let within : k < length old = omega (arith, l, length-changed i (with (with_new place row)) old) in
      ap (λ (b : Backlog). b.rows) (h.each k d within) ∙ go (i == k) (get_or old k d) (u k d within) ∙ sym (changed_rows i k (with_new place row) old d within);
}
  where
    go : (t : Bool) (b : Backlog) → b.limit ≡ None → (cond (t || false) (joined place row b) b).rows ≡ cond t (with_new place row b.rows) b.rows
    go true b e = rw e refl
    go false b e = refl

pub rows_published : (ks : List Key) (name : List ℕ) (i place : ℕ) (row : Row) (old new : List Backlog) → All HasNoLimit old → index_in ks (Queue name) ≡ Some i → i < length old → HasCome (i ∷ []) place row old new →
    rows_at ks new ≡ at_queue name (with_new place row) (rows_at ks old)
rows_published ks name i place row old new u at l h =
    rows_same ks (changed_at i (with (with_new place row)) old) new (published_same i place row old new u h) ∙ rows_changed ks old name (with_new place row) i at l

-- what is changed at one index alone has come there
changed_each : (i k : ℕ) (f : Backlog → Backlog) (bs : List Backlog) (d : Backlog) → k < length bs → get_or (changed_at i f bs) k d ≡ cond (i == k) (f (get_or bs k d)) (get_or bs k d)
changed_each i k f [] d l = absurd (omega arith)
changed_each zero zero f (b ∷ bs) d l = refl
changed_each zero (suc k) f (b ∷ bs) d l = let other : (zero == suc k) ≡ false = grind (arith, nat_tests) in rw other refl
changed_each (suc i) zero f (b ∷ bs) d l = let other : (suc i == zero) ≡ false = grind (arith, nat_tests) in rw other refl
changed_each (suc i) (suc k) f (b ∷ bs) d l =
    let same : (suc i == suc k) ≡ (i == k) = grind (arith, nat_tests) in
    changed_each i k f bs d (omega arith) ∙ ap (λ t. cond t (f (get_or bs k d)) (get_or bs k d)) (sym same)

pub come_alone : (i place : ℕ) (row : Row) (old new : List Backlog) → new ≡ changed_at i (joined place row) old → HasCome (i ∷ []) place row old new
come_alone i place row old new e = record {
  number = ap (λ (xs : List Backlog). length xs) e ∙ length-changed i (joined place row) old;
  each = λ k d l. ap (λ (xs : List Backlog). get_or xs k d) e ∙ changed_each i k (joined place row) old d l ∙ go (i == k) (get_or old k d);
}
  where
    go : (t : Bool) (b : Backlog) → cond t (joined place row b) b ≡ cond (t || false) (joined place row b) b
    go true b = refl
    go false b = refl

-- ---- room

get_push : (xs : List Backlog) (y : Backlog) (k : ℕ) (d : Backlog) → k < length xs → get_or (xs ++ y ∷ []) k d ≡ get_or xs k d
get_push [] y k d l = absurd (omega arith)
get_push (x ∷ xs) y zero d l = refl
get_push (x ∷ xs) y (suc k) d l = get_push xs y k d (omega arith)

-- an empty queue more shows nothing
pub queue_made : (old mid new : Stations) (key : Key) (index : ℕ) → None ≡ index_in old.keys key → index ≡ length old.keys → index ≡ length old.list → mid ≡ record old { key_room = mid.key_room } →
    new ≡ record mid { keys = mid.keys ++ key ∷ []; list = mid.list ++ empty None ∷ []; key_room = new.key_room } → HaveMoreRoom old new × (index_in new.keys key ≡ Some index)
queue_made old mid new key index none at size e f =
    let keys : new.keys ≡ old.keys ++ key ∷ [] = ap (λ (x : Stations). x.keys) f ∙ ap (λ (x : Stations). x.keys ++ key ∷ []) e in
    let list : new.list ≡ old.list ++ empty None ∷ [] = ap (λ (x : Stations). x.list) f ∙ ap (λ (x : Stations). x.list ++ empty None ∷ []) e in
    let place : new.next_place ≡ old.next_place = ap (λ (x : Stations). x.next_place) f ∙ ap (λ (x : Stations). x.next_place) e in
    let messages : new.message_room ≡ old.message_room = ap (λ (x : Stations). x.message_room) f ∙ ap (λ (x : Stations). x.message_room) e in (
      record {
        rows = (λ i. rows_at (keys i) (list i)) ∙ rows_push old.keys old.list key (sym size ∙ at);
        found = λ k i h. ap (λ ks. index_in ks k) keys ∙ index_still old.keys key k i h;
        number = omega (arith, ap (λ (xs : List Backlog). length xs) list, length-append old.list (empty None ∷ []));
        room = λ k d l. let same : (get_or new.list k d).room ≡ (get_or old.list k d).room = ap (λ (xs : List Backlog). (get_or xs k d).room) list ∙ ap (λ (b : Backlog). b.room) (get_push old.list (empty None) k d l) in omega (arith, same);
        messages = omega (arith, messages);
        next_place = place;
      },
      ap (λ ks. index_in ks key) keys ∙ index_last old.keys key (sym none) ∙ ap (λ n. Some n) (sym at),
    )

-- room that is made leaves what there is
pub queues_reserved : (old mid new : Stations) → HaveMoreRoom old mid → new.keys ≡ mid.keys → HasMoreRoom mid.list new.list → new.next_place ≡ mid.next_place → mid.message_room ≤ new.message_room → HaveMoreRoom old new
queues_reserved old mid new h keys list place messages = record {
  rows = ap (λ ks. rows_at ks new.list) keys ∙ rows_same mid.keys mid.list new.list (more_same mid.list new.list list) ∙ h.rows;
  found = λ k i e. ap (λ ks. index_in ks k) keys ∙ h.found k i e;
  number = omega (arith, h.number, list.number);
  room = λ k d l. let within : k < length mid.list = omega (arith, l, h.number) in let one = h.room k d l in let two = list.room k d within in omega (arith, one, two);
  messages = omega (arith, h.messages, messages);
  next_place = place ∙ h.next_place;
}

pub one_reserved : (n i : ℕ) (old new : List Backlog) → i < length old → HasMoreRoom old new → All (λ j. (d : Backlog) → n ≤ (get_or new j d).room) (i ∷ []) → IsReserved n new (i ∷ [])
unfolding IsDistinct
one_reserved n i old new l h room = record {
  within = All-cons (λ j. j < length new) i [] (omega (arith, l, h.number)) (All-nil (λ j. j < length new));
  once = (tt, tt);
  room = room;
}

-- the same queues
pub queues_same : (queues : Stations) → HaveMoreRoom queues queues
queues_same queues = record { rows = refl; found = λ k i h. h; number = omega arith; room = λ k d l. omega arith; messages = omega arith; next_place = refl }

pub queues_again : (old mid new : Stations) → HaveMoreRoom old mid → HaveMoreRoom mid new → HaveMoreRoom old new
queues_again old mid new h g = record {
  rows = g.rows ∙ h.rows;
  found = λ k i e. g.found k i (h.found k i e);
  number = omega (arith, h.number, g.number);
  room = λ k d l. let within : k < length mid.list = omega (arith, l, h.number) in let one = h.room k d l in let two = g.room k d within in omega (arith, one, two);
  messages = omega (arith, h.messages, g.messages);
  next_place = g.next_place ∙ h.next_place;
}
