-- What was stored is what the provider goes on from, and a core that is made of it keeps what every core keeps.
use Rattle.std.proofs.Common.{◌≡◌, ◌<◌, ◌≤◌, ◌+◌, ◌==◌, ℕ, zero, suc, Bool, true, false, cond, List, [], ◌∷◌, ◌++◌, map, length, get_or, refl, ap, sym, subst, ◌∙◌, arith, Option, Some, None, Result, Ok, Err}
use Rattle.std.specs.Prelude.{◌&&◌, option_map}
use Rattle.std.specs.List.{All, IsDistinct}
use Rattle.std.proofs.lemmas.Bool.{eq-eqb, eqb-true}
use Rattle.std.proofs.lemmas.Bool.Decides.{nat_tests}
use Rattle.std.proofs.lemmas.List.{length-map}
use Rattle.std.proofs.lemmas.List.Elements.{All-head, All-tail, All-nil, All-cons}
use Rattle.jm_dest.specs.declared.destination.Destination.{Destination}
use Rattle.jm_dest.specs.declared.destination.Destination.TheVariants.{Queue, Topic}
use Rattle.jm_dest.specs.declared.key.Key.{Key}
use Rattle.jm_dest.specs.declared.key.Key.TheVariants.{Own, SharedOwn, Durable, Queue as OfQueue}
use Rattle.jm_dest.specs.Keys.{key_eq}
use Rattle.jm_dest.specs.Names.{text_eq}
use Rattle.jm_header.specs.declared.content.Content.{Content}
use Rattle.jm_lexer.specs.declared.fault.SyntaxFault.{SyntaxFault}
use Rattle.jm_tree.specs.declared.tree.Tree.{Tree}
use Rattle.jm_eval.specs.Evaluation.{Selects}
use Rattle.jm_eval.specs.Views.{view}
use Rattle.jm_machine.specs.declared.state.Definition.{Definition}
use Rattle.jm_machine.specs.declared.state.PlacedRow.{PlacedRow}
use Rattle.jm_machine.specs.declared.state.Station.{Station}
use Rattle.jm_machine.specs.Accepted.{AllAccepted, HoldsAccepted, IsAccepted}
use Rattle.jm_machine.specs.Machine.{AllInOrder, is_to, places_end}
use Rattle.jm_machine.specs.Reopened.{AreDurable, AreSentTo, AreStored, AreWaiting, HoldMessages, is_durable}
use Rattle.jm_machine.specs.Rows.{AllAbove, InOrder}
use Rattle.jm_machine.proofs.Keys.{text_same}
use Rattle.jm_selector.specs.Selectors.{read_selects, selector_read}
use Rattle.jm_stations.specs.declared.loading.StoredRow.{StoredRow}
use Rattle.jm_stations.specs.Backlogs.{Backlog, empty}
use Rattle.jm_stations.specs.Loading.{stored_at}
use Rattle.jm_stations.specs.Stations.{Stations}
use Rattle.jm_sub.specs.Subscriptions.{Subscription}
use Rattle.jm_parts.specs.declared.stored.Holders.{Holders}
use Rattle.jm_parts.specs.declared.stored.Holders.TheVariants as holders
use Rattle.jm_parts.specs.declared.stored.StoredMessage.{StoredMessage}
use Rattle.jm_parts.specs.declared.stored.StoredSubscription.{StoredSubscription}
use Rattle.jm_queues.specs.Queues.{HasNoLimit, rows_in, rows_at as queue_rows}
use Rattle.jm_parts.specs.Reopening.{AreMade, HaveLoaded, MayLoad, subscription_of}
use Rattle.jm_machine.specs.Attached.{IsOfSubscription}
use Rattle.jm_machine.specs.Under.{is_persistent}
use Rattle.jm_parts.specs.State.{AreLimited, IsSound, keys_of, limit_of, stations_of}
use Rattle.jm_parts.specs.Stored.{AreHolders, ArePlaced, IsAdmitted, MayReopen, admits, count_at, count_under, place_after, row_stored, rows_at, rows_stored, rows_under, stations_stored}
use Rattle.jm_parts.proofs.Accepted.{selected}
use Rattle.jm_parts.proofs.Reopening.{keys_made, same_made, stored_keys}

-- ---- the rows of one key

waiting : (f : StoredMessage → Option ℕ) (ms : List StoredMessage) → AreWaiting (rows_stored f ms)
waiting f [] = tt
waiting f (m ∷ ms) = go (f m) (waiting f ms)
  where
    go : (o : Option ℕ) → AreWaiting (rows_stored f ms) → AreWaiting (row_stored m.place m.message o ++ rows_stored f ms)
    go None rest = rest
    go (Some n) rest = (refl, rest)

above : (p low : ℕ) (f : StoredMessage → Option ℕ) (ms : List StoredMessage) → p < low → ArePlaced low ms → AllAbove p (rows_stored f ms)
above p low f [] l h = tt
above p low f (m ∷ ms) l h =
    let here : p < m.place = let from = h.0 in omega (arith, l, from) in
    go here (f m) (above p (m.place + 1) f ms (omega (arith, here)) h.2)
  where
    go : p < m.place → (o : Option ℕ) → AllAbove p (rows_stored f ms) → AllAbove p (row_stored m.place m.message o ++ rows_stored f ms)
    go here None rest = rest
    go here (Some n) rest = (here, rest)

last_above : (low : ℕ) (ms : List StoredMessage) → ArePlaced low ms → low ≤ place_after low ms
last_above low [] h = omega arith
last_above low (m ∷ ms) h = let rest = last_above (m.place + 1) ms h.2 in let from = h.0 in omega (arith, rest, from)

pub last_within : (low : ℕ) (ms : List StoredMessage) → low ≤ places_end → ArePlaced low ms → place_after low ms ≤ places_end
last_within low [] l h = l
last_within low (m ∷ ms) l h = last_within (m.place + 1) ms (let below = h.1 in omega (arith, below)) h.2

in_order : (low : ℕ) (f : StoredMessage → Option ℕ) (ms : List StoredMessage) → ArePlaced low ms → InOrder (place_after low ms) (rows_stored f ms)
in_order low f [] h = tt
in_order low f (m ∷ ms) h = go (f m) (in_order (m.place + 1) f ms h.2)
  where
    go : (o : Option ℕ) → InOrder (place_after (m.place + 1) ms) (rows_stored f ms) → InOrder (place_after (m.place + 1) ms) (row_stored m.place m.message o ++ rows_stored f ms)
    go None rest = rest
    go (Some n) rest = (let last = last_above (m.place + 1) ms h.2 in omega (arith, last), above m.place (m.place + 1) f ms (omega arith) h.2, rest)

-- the message at a place
abbrev message_at : List StoredMessage → ℕ → Option Content
message_at [] p = None
message_at (m ∷ messages) p = cond (m.place == p) (Some m.message) (message_at messages p)

still_held : (m : StoredMessage) (ms : List StoredMessage) (rows : List PlacedRow) → AllAbove m.place rows → HoldMessages (message_at ms) rows → HoldMessages (message_at (m ∷ ms)) rows
still_held m ms [] a h = tt
still_held m ms (x ∷ rows) a h =
    let other : (m.place == x.place) ≡ false = let over = a.0 in grind (arith, nat_tests) in
    (ap (λ b. cond b (Some m.message) (message_at ms x.place)) other ∙ h.0, still_held m ms rows a.1 h.1)

holding : (low : ℕ) (f : StoredMessage → Option ℕ) (ms : List StoredMessage) → ArePlaced low ms → HoldMessages (message_at ms) (rows_stored f ms)
holding low f [] h = tt
holding low f (m ∷ ms) h = go (f m) (still_held m ms (rows_stored f ms) (above m.place (m.place + 1) f ms (omega arith) h.2) (holding (m.place + 1) f ms h.2))
  where
    go : (o : Option ℕ) → HoldMessages (message_at (m ∷ ms)) (rows_stored f ms) → HoldMessages (message_at (m ∷ ms)) (row_stored m.place m.message o ++ rows_stored f ms)
    go None rest = rest
    go (Some n) rest = (ap (λ b. cond b (Some m.message) (message_at ms m.place)) (eq-eqb m.place m.place refl), rest)

sent : (name : List ℕ) (ms : List StoredMessage) → AreSentTo name (rows_at ms name)
sent name [] = tt
sent name (m ∷ ms) = go m.message.destination refl m.holders (sent name ms)
  where
    by : (q : List ℕ) (count : ℕ) → m.message.destination ≡ Queue q → (b : Bool) → text_eq q name ≡ b → AreSentTo name (rows_at ms name) → AreSentTo name (row_stored m.place m.message (cond b (Some count) None) ++ rows_at ms name)
    by q count e true t rest = (e ∙ ap Queue (text_same q name t), rest)
    by q count e false t rest = rest

    go : (d : Destination) → m.message.destination ≡ d → (h : Holders) → AreSentTo name (rows_at ms name) → AreSentTo name (row_stored m.place m.message (count_at name d h) ++ rows_at ms name)
    go (Queue q) e (holders.Queue count) rest = by q count e (text_eq q name) refl rest
    go (Queue q) e (holders.Subscriptions rows) rest = rest
    go (Topic t) e h rest = rest

-- ---- the rows are accepted

admitted_is : (d : Definition) (m : Content) → admits d m ≡ true → IsAccepted d m
admitted_is d m h = go (is_persistent m.mode) (is_to d.topic m.destination) (selector_read d.selector) h
  where
    go : (p a : Bool) (r : Result (Option Tree) SyntaxFault) → (p && (a && read_selects r m)) ≡ true → (a ≡ true) × ((tree : Option Tree) × ((r ≡ Ok tree) × Selects (view m) tree))
    go true true (Ok tree) h = (refl, (tree, (refl, selected tree m h)))
    go true true (Err e) h = cc
    go true false r h = cc
    go false a r h = cc

found : (P : StoredRow → Type 0) (i : ℕ) (rows : List StoredRow) (x : StoredRow) → stored_at i rows ≡ Some x → All P rows → P x × (x.index ≡ i)
found P i [] x e a = cc
found P i (r ∷ rows) x e a = go (r.index == i) refl e (λ e. found P i rows x e (All-tail P r rows a))
  where
    go : (b : Bool) → (r.index == i) ≡ b → cond b (Some r) (stored_at i rows) ≡ Some x → (stored_at i rows ≡ Some x → P x × (x.index ≡ i)) → P x × (x.index ≡ i)
    go true t e rest =
        let same : r ≡ x = cc in
        (subst P same (All-head P r rows a), ap (λ (y : StoredRow). y.index) (sym same) ∙ eqb-true r.index i t)
    go false t e rest = rest e

accepted_rows : (ss : List StoredSubscription) (i : ℕ) (d : StoredSubscription) (ms : List StoredMessage) → All (λ (m : StoredMessage). AreHolders ss m.message m.holders) ms → AllAccepted (get_or ss i d).definition (rows_under ms i)
accepted_rows ss i d [] h = tt
accepted_rows ss i d (m ∷ ms) h =
    let first = All-head (λ (x : StoredMessage). AreHolders ss x.message x.holders) m ms h in
    let rest = accepted_rows ss i d ms (All-tail (λ (x : StoredMessage). AreHolders ss x.message x.holders) m ms h) in
    go m.holders first rest
  where
    by : (rows : List StoredRow) → All (IsAdmitted ss m.message) rows → (o : Option StoredRow) → stored_at i rows ≡ o → AllAccepted (get_or ss i d).definition (rows_under ms i) → AllAccepted (get_or ss i d).definition (row_stored m.place m.message (option_map (λ (r : StoredRow). r.count) o) ++ rows_under ms i)
    by rows a None e rest = rest
    by rows a (Some x) e rest =
        let f = found (IsAdmitted ss m.message) i rows x e a in
        let at = f.0.admitted d in
        (admitted_is (get_or ss i d).definition m.message (subst (λ k. admits (get_or ss k d).definition m.message ≡ true) f.1 at), rest)

    go : (h : Holders) → AreHolders ss m.message h → AllAccepted (get_or ss i d).definition (rows_under ms i) → AllAccepted (get_or ss i d).definition (row_stored m.place m.message (count_under i h) ++ rows_under ms i)
    go (holders.Queue count) a rest = rest
    go (holders.Subscriptions rows) a rest = by rows.items a.0 (stored_at i rows.items) refl rest

-- ---- the subscriptions

durable_stations : (f : ℕ → Option Content) (rows : ℕ → List PlacedRow) (ss : List StoredSubscription) → All (λ (s : StoredSubscription). is_durable s.key ≡ true) ss → ((i : ℕ) → AreWaiting (rows i)) → ((i : ℕ) → HoldMessages f (rows i)) → AreDurable f (stations_stored rows ss)
durable_stations f rows [] d w h = tt
durable_stations f rows (s ∷ ss) d w h =
    (All-head (λ (x : StoredSubscription). is_durable x.key ≡ true) s ss d, refl, w zero, h zero, durable_stations f (λ i. rows (suc i)) ss (All-tail (λ (x : StoredSubscription). is_durable x.key ≡ true) s ss d) (λ i. w (suc i)) (λ i. h (suc i)))

keys_stored : (rows : ℕ → List PlacedRow) (ss : List StoredSubscription) → map (λ (x : Station). x.key) (stations_stored rows ss) ≡ stored_keys ss
keys_stored rows [] = refl
keys_stored rows (s ∷ ss) = ap (λ ks. s.key ∷ ks) (keys_stored (λ i. rows (suc i)) ss)

ordered_stations : (next : ℕ) (rows : ℕ → List PlacedRow) (ss : List StoredSubscription) → ((i : ℕ) → InOrder next (rows i)) → AllInOrder next (stations_stored rows ss)
ordered_stations next rows [] h = tt
ordered_stations next rows (s ∷ ss) h = (h zero, ordered_stations next (λ i. rows (suc i)) ss (λ i. h (suc i)))

accepted_stations : (rows : ℕ → List PlacedRow) (ss : List StoredSubscription) → ((i : ℕ) (d : StoredSubscription) → AllAccepted (get_or ss i d).definition (rows i)) → HoldsAccepted (stations_stored rows ss)
accepted_stations rows [] h = tt
accepted_stations rows (s ∷ ss) h = (h zero s, accepted_stations (λ i. rows (suc i)) ss (λ i d. h (suc i) d))

stored_accepted : (ss : List StoredSubscription) (ms : List StoredMessage) → MayReopen ss ms → HoldsAccepted (stations_stored (rows_under ms) ss)
stored_accepted ss ms h = accepted_stations (rows_under ms) ss (λ i d. accepted_rows ss i d ms h.held)

-- the provider goes on from it
pub are_stored : (ss : List StoredSubscription) (ms : List StoredMessage) → MayReopen ss ms → AreStored (stations_stored (rows_under ms) ss) (rows_at ms) (place_after 1 ms)
are_stored ss ms h = record {
  messages = message_at ms;
  durable = durable_stations (message_at ms) (rows_under ms) ss h.durable (λ i. waiting (λ m. count_under i m.holders) ms) (λ i. holding 1 (λ m. count_under i m.holders) ms h.placed);
  distinct = subst (IsDistinct key_eq) (sym (keys_stored (rows_under ms) ss)) h.once;
  ordered = ordered_stations (place_after 1 ms) (rows_under ms) ss (λ i. in_order 1 (λ m. count_under i m.holders) ms h.placed);
  accepted = stored_accepted ss ms h;
  queued = λ name. in_order 1 (λ m. count_at name m.message.destination m.holders) ms h.placed;
  sent = λ name. sent name ms;
  waiting = λ name. waiting (λ m. count_at name m.message.destination m.holders) ms;
  held = λ name. holding 1 (λ m. count_at name m.message.destination m.holders) ms h.placed;
}

-- ---- the core that is made of it

all_empty : (ss : List StoredSubscription) → All (λ (b : Backlog). b ≡ empty None) (map (λ (s : StoredSubscription). empty None) ss)
all_empty [] = All-nil (λ (b : Backlog). b ≡ empty None)
all_empty (s ∷ ss) = All-cons (λ (b : Backlog). b ≡ empty None) (empty None) (map (λ (s : StoredSubscription). empty None) ss) refl (all_empty ss)

pub made_unlimited : (ss : List StoredSubscription) (known : List Subscription) (keys : List Key) (made : List Backlog) → AreMade ss known keys made → All HasNoLimit made
made_unlimited ss known keys made m = subst (All HasNoLimit) (sym m.held_are) (λ k d l. ap (λ (b : Backlog). b.limit) (all_empty ss k d l))

-- what is held under each key, once all messages have come
record AreFilled (ss : List StoredSubscription) (ms : List StoredMessage) (held : List Backlog) : Type 0 where
  number : length held ≡ length ss
  rows : (k : ℕ) (d : Backlog) → k < length held → (get_or held k d).rows ≡ rows_under ms k
  missed : (k : ℕ) (d : Backlog) → k < length held → (get_or held k d).missed ≡ 0
  limit : (k : ℕ) (d : Backlog) → k < length held → (get_or held k d).limit ≡ None

filled : (ss : List StoredSubscription) (ms : List StoredMessage) (held : List Backlog) → HaveLoaded ms (map (λ (s : StoredSubscription). empty None) ss) held → AreFilled ss ms held
filled ss ms held h =
    let made : List Backlog = map (λ (s : StoredSubscription). empty None) ss in
    record {
      number = h.number ∙ length-map ss (λ (s : StoredSubscription). empty None);
      rows = λ k d l. let within : k < length made = omega (arith, h.number, l) in ap (λ (b : Backlog). b.rows) (h.each k d within) ∙ ap (λ (b : Backlog). b.rows ++ rows_under ms k) (all_empty ss k d within);
      missed = λ k d l. let within : k < length made = omega (arith, h.number, l) in ap (λ (b : Backlog). b.missed) (h.each k d within) ∙ ap (λ (b : Backlog). b.missed) (all_empty ss k d within);
      limit = λ k d l. let within : k < length made = omega (arith, h.number, l) in ap (λ (b : Backlog). b.limit) (h.each k d within) ∙ ap (λ (b : Backlog). b.limit) (all_empty ss k d within);
    }

seen : (rows : ℕ → List PlacedRow) (ss : List StoredSubscription) (held : List Backlog) → length held ≡ length ss → ((k : ℕ) (d : Backlog) → k < length held → (get_or held k d).rows ≡ rows k) → ((k : ℕ) (d : Backlog) → k < length held → (get_or held k d).missed ≡ 0) → stations_of (map subscription_of ss) held ≡ stations_stored rows ss
seen rows [] held n r z = refl
seen rows (s ∷ ss) [] n r z = absurd (omega (arith, n))
seen rows (s ∷ ss) (b ∷ held) n r z =
    let here = r zero b (omega arith) in
    let none = z zero b (omega arith) in
    let rest = seen (λ i. rows (suc i)) ss held (omega (arith, n)) (λ k d l. r (suc k) d (omega (arith, l))) (λ k d l. z (suc k) d (omega (arith, l))) in
    λ i. record { key = s.key; definition = s.definition; missed = none i; rows = here i } ∷ rest i

no_limit : (limit : ℕ) (k : Key) → is_durable k ≡ true → limit_of limit k ≡ None
no_limit limit (Durable client name) e = refl
no_limit limit (SharedOwn client name) e = cc
no_limit limit (Own s c) e = cc
no_limit limit (OfQueue name) e = cc

durable_limited : (limit : ℕ) (ss : List StoredSubscription) (held : List Backlog) → All (λ (s : StoredSubscription). is_durable s.key ≡ true) ss → ((k : ℕ) (d : Backlog) → k < length held → (get_or held k d).limit ≡ None) → AreLimited limit (stored_keys ss) held
durable_limited limit [] held d u = tt
durable_limited limit (s ∷ ss) [] d u = tt
durable_limited limit (s ∷ ss) (b ∷ held) d u =
    (u zero b (omega arith) ∙ sym (no_limit limit s.key (All-head (λ (x : StoredSubscription). is_durable x.key ≡ true) s ss d)), durable_limited limit ss held (All-tail (λ (x : StoredSubscription). is_durable x.key ≡ true) s ss d) (λ k d l. u (suc k) d (omega (arith, l))))

durable_made : (ss : List StoredSubscription) → All (λ (s : StoredSubscription). is_durable s.key ≡ true) ss → All (IsOfSubscription []) (stored_keys ss)
durable_made [] d = All-nil (IsOfSubscription [])
durable_made (s ∷ ss) d = All-cons (IsOfSubscription []) s.key (stored_keys ss) (go s.key (All-head (λ (x : StoredSubscription). is_durable x.key ≡ true) s ss d)) (durable_made ss (All-tail (λ (x : StoredSubscription). is_durable x.key ≡ true) s ss d))
  where
    go : (k : Key) → is_durable k ≡ true → IsOfSubscription [] k
    go (Durable client name) e = tt
    go (SharedOwn client name) e = tt
    go (Own t c) e = absurd cc
    go (OfQueue name) e = absurd cc

-- callers see what was stored
pub stored_seen : (ss : List StoredSubscription) (ms : List StoredMessage) (known : List Subscription) (keys : List Key) (made held : List Backlog) → AreMade ss known keys made → HaveLoaded ms made held → stations_of known held ≡ stations_stored (rows_under ms) ss
stored_seen ss ms known keys made held m h =
    let f = filled ss ms held (subst (λ (xs : List Backlog). HaveLoaded ms xs held) m.held_are h) in
    ap (λ xs. stations_of xs held) m.known_are ∙ seen (rows_under ms) ss held f.number f.rows f.missed

-- and it keeps what every core keeps
pub stored_sound : (limit : ℕ) (ss : List StoredSubscription) (ms : List StoredMessage) (known : List Subscription) (keys : List Key) (made held : List Backlog) → MayReopen ss ms → AreMade ss known keys made → HaveLoaded ms made held → IsSound limit [] known keys held (place_after 1 ms)
stored_sound limit ss ms known keys made held may m h =
    let f = filled ss ms held (subst (λ (xs : List Backlog). HaveLoaded ms xs held) m.held_are h) in
    record {
      same = same_made ss known keys made m;
      number = f.number ∙ sym (length-map ss subscription_of) ∙ ap (λ (xs : List Subscription). length xs) (sym m.known_are);
      once = subst (IsDistinct key_eq) (sym m.keys_are) may.once;
      made = subst (All (IsOfSubscription [])) (sym m.keys_are) (durable_made ss may.durable);
      own = tt;
      limited = subst (λ (ks : List Key). AreLimited limit ks held) (sym m.keys_are) (durable_limited limit ss held may.durable f.limit);
      accepted = subst HoldsAccepted (sym (stored_seen ss ms known keys made held m h)) (stored_accepted ss ms may);
      places = last_within 1 ms (omega arith) may.placed;
    }

-- ---- what is asked of each message

within_all : (n : ℕ) (ss : List StoredSubscription) (m : Content) (rows : List StoredRow) → n ≡ length ss → All (IsAdmitted ss m) rows → All (λ (r : StoredRow). r.index < n) rows
within_all n ss m rows e a = λ k d l. let w = (a k d l).within in omega (arith, e, w)

pub may_load : (n : ℕ) (ss : List StoredSubscription) (ms : List StoredMessage) → n ≡ length ss → All (λ (m : StoredMessage). AreHolders ss m.message m.holders) ms → All (λ (m : StoredMessage). MayLoad n m.holders) ms
may_load n ss ms e h = λ k d l. go (get_or ms k d).message (get_or ms k d).holders (h k d l)
  where
    go : (m : Content) (x : Holders) → AreHolders ss m x → MayLoad n x
    go m (holders.Queue count) a = tt
    go m (holders.Subscriptions rows) a = (within_all n ss m rows.items e a.0, a.1)

-- what queues hold: at first nothing, then what was stored
pub stored_queues : (ms : List StoredMessage) (old new : Stations) → old.keys ≡ [] → ((name : List ℕ) → rows_in new name ≡ rows_in old name ++ rows_at ms name) → rows_in new ≡ rows_at ms
stored_queues ms old new none h = λ i name. (h name ∙ ap (λ (ks : List Key). queue_rows ks old.list name ++ rows_at ms name) none) i
