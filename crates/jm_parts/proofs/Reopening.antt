-- A core that is made of what was stored, part by part.
use Rattle.std.proofs.Common.{◌≡◌, ◌<◌, ◌≤◌, ◌+◌, ◌-◌, ℕ, Bool, true, false, cond, List, [], ◌∷◌, ◌++◌, map, length, get_or, refl, ap, sym, subst, ◌∙◌, arith, Option, Some, None}
use Rattle.std.specs.Prelude.{OnOk, option_map}
use Rattle.std.specs.declared.result.Result.{Result}
use Rattle.std.specs.declared.result.Result.TheVariants.{Ok, Err}
use Rattle.std.specs.List.{All, AllByRecursion, IsDistinct}
use Rattle.std.proofs.lemmas.List.{append-nil, get_or-map, length-map, map-append}
use Rattle.std.proofs.lemmas.List.Elements.{All-head, All-tail, All-nil, All-cons, All-map}
use Rattle.jm_dest.specs.declared.destination.Destination.{Destination}
use Rattle.jm_dest.specs.declared.destination.Destination.TheVariants.{Queue, Topic}
use Rattle.jm_dest.specs.declared.key.Key.{Key}
use Rattle.jm_dest.specs.Keys.{key_eq}
use Rattle.jm_dest.specs.Names.{text_eq}
use Rattle.jm_header.specs.declared.content.Content.{Content}
use Rattle.jm_machine.specs.declared.state.PlacedRow.{PlacedRow}
use Rattle.jm_machine.specs.Machine.{at_queue, one_missed}
use Rattle.jm_pending.specs.Rows.{is_at_limit}
use Rattle.jm_stations.specs.declared.loading.StoredRow.{StoredRow}
use Rattle.jm_stations.specs.Backlogs.{Backlog, HasMoreRoom, empty}
use Rattle.jm_stations.specs.Loading.{AreLoaded, loaded, stored_at, stored_row}
use Rattle.jm_stations.specs.Stations.{index_in}
use Rattle.jm_sub.specs.Subscriptions as subs
use Rattle.jm_sub.specs.Subscriptions.{Subscription}
use Rattle.jm_parts.specs.declared.stored.Holders.TheVariants as holders
use Rattle.jm_parts.specs.declared.stored.StoredMessage.{StoredMessage}
use Rattle.jm_parts.specs.declared.stored.StoredSubscription.{StoredSubscription}
use Rattle.jm_queues.specs.Queues.{HasNoLimit, joins}
use Rattle.jm_parts.specs.Reopening.{AreMade, HasTaken, HaveLoaded, subscription_of}
use Rattle.jm_parts.specs.State.{keys_of}
use Rattle.jm_parts.specs.Stored.{ArePlaced, count_at, count_under, place_after, row_stored, rows_stored, rows_under}
use Rattle.jm_parts.proofs.Kept.{found_nowhere}
use Rattle.jm_parts.proofs.Publishing.{list_assoc}
use Rattle.jm_queues.proofs.Found.{fails_all, found_none}

-- ---- subscriptions

without_apart : (k : Key) (ss : List Subscription) → All (λ x. key_eq x k ≡ false) (keys_of ss) → subs.without k ss ≡ ss
without_apart k [] h = refl
without_apart k (s ∷ ss) h =
    let t : key_eq s.key k ≡ false = All-head (λ x. key_eq x k ≡ false) s.key (keys_of ss) h in
    rw t (ap (λ ys. s ∷ ys) (without_apart k ss (All-tail (λ x. key_eq x k ≡ false) s.key (keys_of ss) h)))

-- a key under which nothing stands is that of no subscription
pub without_absent : (k : Key) (ss : List Subscription) (keys : List Key) → keys_of ss ≡ keys → index_in keys k ≡ None → subs.without k ss ≡ ss
without_absent k ss keys same none = without_apart k ss (fails_all (λ x. key_eq x k) (keys_of ss) (found_none (λ x. key_eq x k) (keys_of ss) (rw same none)))

-- the keys of stored subscriptions
abbrev pub stored_keys : List StoredSubscription → List Key
stored_keys subscriptions = map (λ (s : StoredSubscription). s.key) subscriptions

apart_last : (k : Key) (ys : List StoredSubscription) (x : StoredSubscription) (rest : List StoredSubscription) → AllByRecursion (λ z. key_eq k z ≡ false) (stored_keys (ys ++ x ∷ rest)) → key_eq k x.key ≡ false
apart_last k [] x rest h = h.0
apart_last k (y ∷ ys) x rest h = apart_last k ys x rest h.1

apart_next : (ys : List StoredSubscription) (x : StoredSubscription) (rest : List StoredSubscription) → IsDistinct key_eq (stored_keys (ys ++ x ∷ rest)) → All (λ k. key_eq k x.key ≡ false) (stored_keys ys)
unfolding IsDistinct
apart_next [] x rest h = All-nil (λ k. key_eq k x.key ≡ false)
apart_next (y ∷ ys) x rest h = All-cons (λ k. key_eq k x.key ≡ false) y.key (stored_keys ys) (apart_last y.key ys x rest h.0) (apart_next ys x rest h.1)

pub absent_next : (all ys : List StoredSubscription) (x : StoredSubscription) (rest : List StoredSubscription) (keys : List Key) → all ≡ ys ++ x ∷ rest → keys ≡ stored_keys ys → IsDistinct key_eq (stored_keys all) → index_in keys x.key ≡ None
absent_next all ys x rest keys e is h =
    let once = subst (λ (xs : List StoredSubscription). IsDistinct key_eq (stored_keys xs)) e h in
    rw is (found_nowhere (λ k. key_eq k x.key) (stored_keys ys) (apart_next ys x rest once))

pub keys_made : (xs : List StoredSubscription) → keys_of (map subscription_of xs) ≡ stored_keys xs
keys_made [] = refl
keys_made (x ∷ xs) = ap (λ ks. x.key ∷ ks) (keys_made xs)

pub made_none : (known : List Subscription) (keys : List Key) (held : List Backlog) → known ≡ [] → keys ≡ [] → held ≡ [] → AreMade [] known keys held
made_none known keys held a b c = record { known_are = a; keys_are = b; held_are = c }

pub made_more : (ys : List StoredSubscription) (x : StoredSubscription) (known known' : List Subscription) (keys keys' : List Key) (held held' : List Backlog) → AreMade ys known keys held → known' ≡ known ++ subscription_of x ∷ [] → keys' ≡ keys ++ x.key ∷ [] → held' ≡ held ++ empty None ∷ [] → AreMade (ys ++ x ∷ []) known' keys' held'
made_more ys x known known' keys keys' held held' m a b c = record {
  known_are = a ∙ ap (λ zs. zs ++ subscription_of x ∷ []) m.known_are ∙ sym (map-append subscription_of ys (x ∷ []));
  keys_are = b ∙ ap (λ zs. zs ++ x.key ∷ []) m.keys_are ∙ sym (map-append (λ (s : StoredSubscription). s.key) ys (x ∷ []));
  held_are = c ∙ ap (λ zs. zs ++ empty None ∷ []) m.held_are ∙ sym (map-append (λ (s : StoredSubscription). empty None) ys (x ∷ []));
}

pub same_made : (ys : List StoredSubscription) (known : List Subscription) (keys : List Key) (held : List Backlog) → AreMade ys known keys held → keys_of known ≡ keys
same_made ys known keys held m = ap keys_of m.known_are ∙ keys_made ys ∙ sym m.keys_are

-- ---- a message that comes to subscriptions

-- the count of a stored row
abbrev pub count_in : List StoredRow → ℕ → Option ℕ
count_in rows k = option_map (λ (r : StoredRow). r.count) (stored_at k rows)

pub nothing_more : (a c : Backlog) → c ≡ record a { room = c.room } → c ≡ record a { rows = a.rows ++ []; room = c.room }
nothing_more a c e = e ∙ (λ i. record a { rows = sym (append-nil a.rows) i; room = c.room })

taken_one : (place : ℕ) (m : Content) (o : Option StoredRow) (a b c : Backlog) → a.limit ≡ None → b ≡ record a { room = b.room } → c ≡ loaded place m o b → c ≡ record a { rows = a.rows ++ row_stored place m (option_map (λ (r : StoredRow). r.count) o); room = c.room }
taken_one place m None a b c u e f =
    let room : b.room ≡ c.room = ap (λ (x : Backlog). x.room) (sym f) in
    nothing_more a c (f ∙ e ∙ (λ i. record a { room = room i }))
taken_one place m (Some r) a b c u e f =
    let x : PlacedRow = record { place = place; row = stored_row m r.count } in
    let limit : b.limit ≡ None = ap (λ (y : Backlog). y.limit) e ∙ u in
    let g : c ≡ record b { rows = b.rows ++ x ∷ []; room = b.room - 1 } = f ∙ ap (λ (l : Option ℕ). cond (is_at_limit l (length b.rows)) (record b { missed = one_missed b.missed }) (record b { rows = b.rows ++ x ∷ []; room = b.room - 1 })) limit in
    let room : b.room - 1 ≡ c.room = ap (λ (y : Backlog). y.room) (sym g) in
    let rows = ap (λ (y : Backlog). y.rows) e in
    let limits = ap (λ (y : Backlog). y.limit) e in
    let missed = ap (λ (y : Backlog). y.missed) e in
    g ∙ (λ i. record { rows = rows i ++ x ∷ []; limit = limits i; missed = missed i; room = room i })

pub taken : (place : ℕ) (m : Content) (rows : List StoredRow) (old mid new : List Backlog) → All HasNoLimit old → HasMoreRoom old mid → AreLoaded rows place m mid new → HasTaken place m (count_in rows) old new
taken place m rows old mid new u r h = record {
  number = h.number ∙ r.number;
  each = λ k d l.
      let within : k < length mid = omega (arith, r.number, l) in
      taken_one place m (stored_at k rows) (get_or old k d) (get_or mid k d) (get_or new k d) (u k d l) (r.same k d l) (h.each k d within);
}

-- the indexes of the rows are those of lists, with room in each
pub indexes_within : (n : ℕ) (rows : List StoredRow) (indexes : List ℕ) → indexes ≡ map (λ (r : StoredRow). r.index) rows → All (λ (r : StoredRow). r.index < n) rows → All (λ i. i < n) indexes
indexes_within n rows indexes e h = rw e (All-map (λ i. i < n) (λ (r : StoredRow). r.index) rows h)

pub room_each : (rows : List StoredRow) (indexes : List ℕ) (list : List Backlog) → indexes ≡ map (λ (r : StoredRow). r.index) rows → All (λ i. (d : Backlog) → 1 ≤ (get_or list i d).room) indexes → All (λ (r : StoredRow). (d : Backlog) → 0 < (get_or list r.index d).room) rows
room_each rows indexes list e h = λ k d l b.
    let index : StoredRow → ℕ = λ r. r.index in
    let all : All (λ i. (d : Backlog) → 1 ≤ (get_or list i d).room) (map index rows) = rw e at h in
    let within : k < length (map index rows) = omega (arith, length-map rows index, l) in
    let room = subst (λ i. 1 ≤ (get_or list i b).room) (get_or-map index rows k d d.index l) (all k d.index within b) in
    omega (arith, room)

-- to none of them
pub taken_none : (place : ℕ) (m : Content) (list : List Backlog) → HasTaken place m (λ k. None) list list
taken_none place m list = record { number = refl; each = λ k d l. nothing_more (get_or list k d) (get_or list k d) refl }

-- ---- a message that comes to a queue

pub queue_taken : (place : ℕ) (m : Content) (queue : List ℕ) (count : ℕ) (queues : List ℕ → List PlacedRow) (name : List ℕ) →
    at_queue queue (joins place (stored_row m count)) queues name ≡ queues name ++ row_stored place m (cond (text_eq queue name) (Some count) None)
queue_taken place m queue count queues name = go (text_eq queue name)
  where
    go : (b : Bool) → cond b (joins place (stored_row m count) (queues name)) (queues name) ≡ queues name ++ row_stored place m (cond b (Some count) None)
    go true = refl
    go false = sym (append-nil (queues name))

on_ok : {T E : Type 0} (P Q : Type 0) → (P → Q) → (r : Result T E) → OnOk r P → OnOk r Q
on_ok P Q f (Ok x) h = f h
on_ok P Q f (Err e) h = tt

-- a message that is said to be held by its queue comes there, where it was sent to one
pub queue_joins : {T E : Type 0} (place : ℕ) (m : Content) (count : ℕ) (d : Destination) (old new : List ℕ → List PlacedRow) (r : Result T E) (name : List ℕ) → ((queue : List ℕ) → d ≡ Queue queue → OnOk r (new ≡ at_queue queue (joins place (stored_row m count)) old)) → ((topic : List ℕ) → d ≡ Topic topic → OnOk r (new ≡ old)) →
    OnOk r (new name ≡ old name ++ row_stored place m (count_at name d (holders.Queue count)))
queue_joins place m count (Queue queue) old new r name h g = on_ok (new ≡ at_queue queue (joins place (stored_row m count)) old) (new name ≡ old name ++ row_stored place m (count_at name (Queue queue) (holders.Queue count))) (λ e. ap (λ (f : List ℕ → List PlacedRow). f name) e ∙ queue_taken place m queue count old name) r (h queue refl)
queue_joins place m count (Topic topic) old new r name h g = on_ok (new ≡ old) (new name ≡ old name ++ row_stored place m (count_at name (Topic topic) (holders.Queue count))) (λ e. ap (λ (f : List ℕ → List PlacedRow). f name) e ∙ sym (append-nil (old name))) r (g topic refl)

-- ---- messages that come in turn

-- what is left stands above what came
pub placed_left : (low next : ℕ) (m : StoredMessage) (left all : List StoredMessage) → all ≡ m ∷ left → next ≡ m.place + 1 → ArePlaced low all → ArePlaced next left
placed_left low next m left all e f h = let split : ArePlaced low (m ∷ left) = subst (ArePlaced low) e h in subst (λ n. ArePlaced n left) (sym f) split.2

pub place_more : (n : ℕ) (ys : List StoredMessage) (m : StoredMessage) → place_after n (ys ++ m ∷ []) ≡ m.place + 1
place_more n [] m = refl
place_more n (y ∷ ys) m = place_more (y.place + 1) ys m

pub rows_more : (f : StoredMessage → Option ℕ) (ys : List StoredMessage) (m : StoredMessage) → rows_stored f (ys ++ m ∷ []) ≡ rows_stored f ys ++ row_stored m.place m.message (f m)
rows_more f [] m = append-nil (row_stored m.place m.message (f m))
rows_more f (y ∷ ys) m =
    ap (λ rows. row_stored y.place y.message (f y) ++ rows) (rows_more f ys m)
    ∙ list_assoc (row_stored y.place y.message (f y)) (rows_stored f ys) (row_stored m.place m.message (f m))

pub loaded_none : (list : List Backlog) → HaveLoaded [] list list
loaded_none list = record { number = refl; each = λ k d l. nothing_more (get_or list k d) (get_or list k d) refl }

pub loaded_more : (ys : List StoredMessage) (m : StoredMessage) (old mid new : List Backlog) → HaveLoaded ys old mid → HasTaken m.place m.message (λ k. count_under k m.holders) mid new → HaveLoaded (ys ++ m ∷ []) old new
loaded_more ys m old mid new h t = record {
  number = t.number ∙ h.number;
  each = λ k d l.
      let within : k < length mid = omega (arith, h.number, l) in
      one k (get_or old k d) (get_or mid k d) (get_or new k d) (h.each k d l) (t.each k d within);
}
  where
    one : (k : ℕ) (a b c : Backlog) → b ≡ record a { rows = a.rows ++ rows_under ys k; room = b.room } → c ≡ record b { rows = b.rows ++ row_stored m.place m.message (count_under k m.holders); room = c.room } → c ≡ record a { rows = a.rows ++ rows_under (ys ++ m ∷ []) k; room = c.room }
    one k a b c e f =
        let last : List PlacedRow = row_stored m.place m.message (count_under k m.holders) in
        let rows : b.rows ++ last ≡ a.rows ++ rows_under (ys ++ m ∷ []) k = ap (λ (y : Backlog). y.rows ++ last) e ∙ sym (list_assoc a.rows (rows_under ys k) last) ∙ ap (λ (xs : List PlacedRow). a.rows ++ xs) (sym (rows_more (λ x. count_under k x.holders) ys m)) in
        let limits = ap (λ (y : Backlog). y.limit) e in
        let missed = ap (λ (y : Backlog). y.missed) e in
        f ∙ (λ i. record { rows = rows i; limit = limits i; missed = missed i; room = c.room })

pub loaded_unlimited : (ys : List StoredMessage) (old new : List Backlog) → HaveLoaded ys old new → All HasNoLimit old → All HasNoLimit new
loaded_unlimited ys old new h u = λ k d l.
    let within : k < length old = omega (arith, h.number, l) in
    ap (λ (b : Backlog). b.limit) (h.each k d within) ∙ u k d within

pub queues_more : (ys : List StoredMessage) (m : StoredMessage) (name : List ℕ) (old mid new : List PlacedRow) → mid ≡ old ++ rows_stored (λ x. count_at name x.message.destination x.holders) ys → new ≡ mid ++ row_stored m.place m.message (count_at name m.message.destination m.holders) → new ≡ old ++ rows_stored (λ x. count_at name x.message.destination x.holders) (ys ++ m ∷ [])
queues_more ys m name old mid new e f =
    let count : StoredMessage → Option ℕ = λ x. count_at name x.message.destination x.holders in
    let last : List PlacedRow = row_stored m.place m.message (count m) in
    f ∙ ap (λ xs. xs ++ last) e ∙ sym (list_assoc old (rows_stored count ys) last) ∙ ap (λ xs. old ++ xs) (sym (rows_more count ys m))
