-- Equal feeds, from equal beginnings, are answered alike.
use Rattle.std.proofs.Common.{◌≡◌, ℕ, ◌+◌, Bool, true, false, cond, List, [], ◌∷◌, ◌++◌, refl, ap, sym, ◌∙◌, arith, Option, Some, None}
use Rattle.std.specs.Prelude.{filter, is_some, ◌&&◌, ◌||◌, ◌==◌, Result}
use Rattle.std.specs.List.{list_any}
use Rattle.std.proofs.lemmas.Bool.Decides.{nat_tests}
use Rattle.jm_base.specs.declared.refusal.Refusal.{Refusal}
use Rattle.jm_dest.specs.declared.session.SessionId.{SessionId}
use Rattle.jm_dest.specs.declared.key.Key.{Key}
use Rattle.jm_dest.specs.declared.key.Key.TheVariants.{Own, SharedOwn, Durable, Queue as OfQueue}
use Rattle.jm_dest.specs.Names.{session_eq}
use Rattle.jm_dest.specs.Keys.{key_eq}
use Rattle.jm_header.specs.declared.content.Content.{Content}
use Rattle.jm_machine.specs.declared.call.Who.TheVariants.{Connection, Session}
use Rattle.jm_machine.specs.declared.call.Request.{Request}
use Rattle.jm_machine.specs.declared.answer.Answer.{Answer}
use Rattle.jm_machine.specs.declared.entry.Entry.{Entry}
use Rattle.jm_machine.specs.declared.entry.Entry.TheVariants.{Asked, Sent, Committed}
use Rattle.jm_machine.specs.Owns.{is_own}
use Rattle.jm_machine.specs.Life.{Life}
use Rattle.jm_machine.specs.Machine.{State, consumer_of}
use Rattle.jm_machine.specs.Entries.{entries_of, expand, life_after_entry, committed}
use Rattle.jm_machine.specs.Lone.{Scope, Lone, Item, number_made, is_number, creates, is_made_for, numbers_of, scope_of, lone_of, lone_after, lone_end, lone_told, placed, lone_replies, came, accepted, fed, at_place, feed}
use Rattle.jm_machine.specs.Lone.Item.{Called, Settled, Came}
use Rattle.jm_machine.specs.Isolation.{keeps_number, is_unshared, alone, starts_with, feed_of, in_order, Premises, answered, keeps_numbers, TwoWorlds, TwoWorldsOfEvents}
use Rattle.jm_machine.proofs.Keys.{session_same, session_refl}
use Rattle.jm_law.proofs.Numbers.{made_kept, and_both}
use Rattle.jm_law.proofs.EntrySteps.{EntriesFit}
use Rattle.jm_law.proofs.Unshared.{askers_own, durable_numbers, by_key}
use Rattle.jm_law.proofs.Belonging.{in_order-append, in_order-at, found_among, scope_shown, durable_scope}
use Rattle.jm_law.proofs.Clients.{all_fit}
use Rattle.jm_law.proofs.Events.{events_fit}

-- ---- what is answered goes by the items alone

abbrev bare_told : Option (Result Answer Refusal) → List (Result Answer Refusal)
bare_told None = []
bare_told (Some r) = r ∷ []

abbrev answers_to : Scope → Lone → List Item → List (Result Answer Refusal)
answers_to S l [] = []
answers_to S l (i ∷ items) = bare_told (lone_told S l i) ++ answers_to S (lone_after S l i) items

in_order-placed : (place : ℕ) (o : Option (Result Answer Refusal)) → in_order (placed place o) ≡ bare_told o
in_order-placed place None = refl
in_order-placed place (Some r) = refl

two_ends : {A : Type 0} {a b c d : List A} → a ≡ b → c ≡ d → a ++ c ≡ b ++ d
two_ends p q = cc

answers_bare : (S : Scope) (l : Lone) (items : List (ℕ × Item)) → in_order (lone_replies S l items) ≡ answers_to S l (in_order items)
answers_bare S l [] = refl
answers_bare S l (x ∷ items) =
    in_order-append (placed x.0 (lone_told S l x.1)) (lone_replies S (lone_after S l x.1) items)
    ∙ two_ends (in_order-placed x.0 (lone_told S l x.1)) (answers_bare S (lone_after S l x.1) items)

-- ---- which numbers belong to the key is seen from the feed

-- the item is a creating call of the session that names the number
abbrev item_creates : SessionId → ℕ → Item → Bool
item_creates s c (Called (Session t) request) = session_eq t s && is_number c (number_made request)
item_creates s c (Called (Connection t) request) = false
item_creates s c (Settled t) = false
item_creates s c (Came m) = false

any_append : {A : Type 0} (p : A → Bool) (xs ys : List A) → list_any p (xs ++ ys) ≡ (list_any p xs || list_any p ys)
any_append p [] ys = refl
any_append p (x ∷ xs) ys = grind (arith, nat_tests, any_append p xs ys)

none_came : (s : SessionId) (c : ℕ) (ms : List Content) → list_any (item_creates s c) (came ms) ≡ false
none_came s c [] = refl
none_came s c (m ∷ ms) = none_came s c ms

or_none : (a : Bool) → (a || false) ≡ a
or_none true = refl
or_none false = refl

own_creates : (sessions : List SessionId) (t s : SessionId) (c : ℕ) (o : Option ℕ) (b : Bool) → is_own sessions t ≡ true → is_own sessions s ≡ b → (session_eq s t && is_number c o) ≡ (b && (session_eq s t && is_number c o))
own_creates sessions t s c o true h e = refl
own_creates sessions t s c o false h e = go (session_eq s t) refl
  where
    go : (v : Bool) → session_eq s t ≡ v → (v && is_number c o) ≡ false
    go true i =
        let j : is_own sessions s ≡ true = ap (is_own sessions) (session_same s t i) ∙ h in
        cc
    go false i = refl

one_item : (b : Bool) (t : SessionId) (c : ℕ) (s : SessionId) (request : Request) (ms : List Content) → list_any (item_creates t c) (cond b (Called (Session s) request ∷ []) [] ++ came ms) ≡ (b && (session_eq s t && is_number c (number_made request)))
one_item true t c s request ms = ap (λ v. item_creates t c (Called (Session s) request) || v) (none_came t c ms) ∙ or_none (item_creates t c (Called (Session s) request))
one_item false t c s request ms = none_came t c ms

no_item : (b : Bool) (t : SessionId) (c : ℕ) (i : Item) (ms : List Content) → item_creates t c i ≡ false → list_any (item_creates t c) (cond b (i ∷ []) [] ++ came ms) ≡ false
no_item true t c i ms h = ap (λ v. v || list_any (item_creates t c) (came ms)) h ∙ none_came t c ms
no_item false t c i ms h = none_came t c ms

fed_creates : (S : Scope) (t : SessionId) (c : ℕ) (life : Life) (before : List Entry) (l : Lone) (e : Entry) → is_own S.sessions t ≡ true → list_any (item_creates t c) (fed S life before l e) ≡ creates t c e
fed_creates S t c life before l (Asked (Session s) request told) h =
    one_item (is_own S.sessions s) t c s request (accepted S.key l.definition life (committed life before (Asked (Session s) request told)))
    ∙ sym (own_creates S.sessions t s c (number_made request) (is_own S.sessions s) h refl)
fed_creates S t c life before l (Asked (Connection d) request told) h = no_item _ t c (Called (Connection d) request) (accepted S.key l.definition life (committed life before (Asked (Connection d) request told))) refl
fed_creates S t c life before l (Sent m) h = none_came t c (accepted S.key l.definition life (committed life before (Sent m)))
fed_creates S t c life before l (Committed s) h = no_item (is_own S.sessions s) t c (Settled s) (accepted S.key l.definition life (committed life before (Committed s))) refl

feed_creates : (S : Scope) (t : SessionId) (c : ℕ) → is_own S.sessions t ≡ true → (entries : List Entry) (place : ℕ) (life : Life) (before : List Entry) (l : Lone) →
    list_any (item_creates t c) (in_order (feed S place life before l entries)) ≡ list_any (creates t c) entries
unfolding feed
feed_creates S t c h [] place life before l = refl
feed_creates S t c h (e ∷ entries) place life before l =
    let items : List Item = fed S life before l e in
    let rest : List (ℕ × Item) = feed S (place + 1) (life_after_entry life e) (e ∷ before) (lone_end S l items) entries in
    ap (λ (xs : List Item). list_any (item_creates t c) xs) (in_order-append (at_place place items) rest ∙ ap (λ (xs : List Item). xs ++ in_order rest) (in_order-at place items))
    ∙ any_append (item_creates t c) items (in_order rest)
    ∙ ap (λ v. v || list_any (item_creates t c) (in_order rest)) (fed_creates S t c life before l e h)
    ∙ ap (λ v. creates t c e || v) (feed_creates S t c h entries (place + 1) (life_after_entry life e) (e ∷ before) (lone_end S l items))

-- an own number was made where the key's consumers show it at the start, or the feed has a call that makes it
abbrev is_seen : SessionId → ℕ → Lone → List Item → Bool
is_seen t d l items = is_some (consumer_of l.consumers t d) || list_any (item_creates t d) items

made_seen : (t : SessionId) (d : ℕ) (opening : State) (entries : List Entry) → keeps_number (Own t d) opening entries t d ≡ true →
    is_made_for (Own t d) opening entries t d ≡ is_seen t d (starts_with (Own t d) opening entries) (in_order (feed_of (Own t d) opening entries))
unfolding lone_of
made_seen t d opening entries u =
    made_kept (Own t d) opening entries t d u
    ∙ ap (λ v. v || list_any (creates t d) entries) (sym (found_among (Own t d) t d opening.consumers (and_both _ _ u).0))
    ∙ ap (λ v. is_some (consumer_of (filter (λ x. key_eq x.key (Own t d)) opening.consumers) t d) || v)
    (sym (feed_creates (scope_of (Own t d) opening entries) t d (own_self t) entries 0 opening.life [] (starts_with (Own t d) opening entries)))
  where
    own_self : (t : SessionId) → is_own (t ∷ []) t ≡ true
    own_self t = ap (λ v. v || false) (session_refl t)

-- ---- two worlds

numbers_same : (t : SessionId) (d : ℕ) (one other : State) (calls others : List Entry) → is_made_for (Own t d) one calls t d ≡ is_made_for (Own t d) other others t d →
    (s : SessionId) (c : ℕ) → numbers_of (Own t d) one calls s c ≡ numbers_of (Own t d) other others s c
numbers_same t d one other calls others h s c = go (session_eq s t) refl (c == d) refl
  where
    go : (a : Bool) → session_eq s t ≡ a → (b : Bool) → (c == d) ≡ b → (a && b && is_made_for (Own t d) one calls s c) ≡ (a && b && is_made_for (Own t d) other others s c)
    go true e true f =
        let i : s ≡ t = session_same s t e in
        let j : c ≡ d = grind (arith, nat_tests) in
        (λ l. is_made_for (Own t d) one calls (i l) (j l)) ∙ h ∙ sym (λ l. is_made_for (Own t d) other others (i l) (j l))
    go true e false f = refl
    go false e b f = refl

abbrev scope_by : SessionId → ℕ → (SessionId → ℕ → Bool) → Scope
scope_by t d numbers = record { key = Own t d; sessions = t ∷ []; clients = λ c. None; numbers = numbers }

own_scope : (t : SessionId) (d : ℕ) (one other : State) (calls others : List Entry) → keeps_number (Own t d) one calls t d ≡ true → keeps_number (Own t d) other others t d ≡ true →
    starts_with (Own t d) one calls ≡ starts_with (Own t d) other others →
    in_order (feed_of (Own t d) one calls) ≡ in_order (feed_of (Own t d) other others) →
    scope_of (Own t d) one calls ≡ scope_of (Own t d) other others
own_scope t d one other calls others p q e f =
    let made : is_made_for (Own t d) one calls t d ≡ is_made_for (Own t d) other others t d = made_seen t d one calls p ∙ (λ i. is_seen t d (e i) (f i)) ∙ sym (made_seen t d other others q) in
    λ i. scope_by t d (λ s c. numbers_same t d one other calls others made s c i)

-- equal beginnings and equal feeds show the same
same_shown : (key : Key) (l l' : Lone) (items items' : List Item) → l ≡ l' → items ≡ items' → scope_shown key l items ≡ scope_shown key l' items'
same_shown key l l' items items' e f = λ i. scope_shown key (e i) (f i)

same_scope : (key : Key) (one other : State) (calls others : List Entry) → is_unshared key one calls ≡ true → keeps_numbers key one calls ≡ true → is_unshared key other others ≡ true → keeps_numbers key other others ≡ true →
    starts_with key one calls ≡ starts_with key other others →
    in_order (feed_of key one calls) ≡ in_order (feed_of key other others) →
    scope_of key one calls ≡ scope_of key other others
same_scope (OfQueue name) one other calls others p m q n e f = cc
same_scope (Own t d) one other calls others p m q n e f = own_scope t d one other calls others p q e f
same_scope (SharedOwn client name) one other calls others p m q n e f = cc
same_scope (Durable None name) one other calls others p m q n e f = cc
same_scope (Durable (Some client) name) one other calls others p m q n e f =
    durable_scope (Some client) name one calls (durable_numbers (Some client) name one calls (and_both _ _ p).1 m) (askers_own (Some client) name one calls)
    ∙ same_shown (Durable (Some client) name) _ _ _ _ e f
    ∙ sym (durable_scope (Some client) name other others (durable_numbers (Some client) name other others (and_both _ _ q).1 n) (askers_own (Some client) name other others))

worlds : (key : Key) (one other : State) (calls others : List Entry) → scope_of key one calls ≡ scope_of key other others →
    starts_with key one calls ≡ starts_with key other others →
    in_order (feed_of key one calls) ≡ in_order (feed_of key other others) →
    in_order (alone key one calls) ≡ in_order (alone key other others)
worlds key one other calls others same e f =
    answers_bare (scope_of key one calls) (starts_with key one calls) (feed_of key one calls)
    ∙ (λ i. answers_to (same i) (e i) (f i))
    ∙ sym (answers_bare (scope_of key other others) (starts_with key other others) (feed_of key other others))

-- in two records whose entries fit
worlds_by : (key : Key) (one other : State) (calls others : List Entry) → EntriesFit one [] calls → Premises key one calls → EntriesFit other [] others → Premises key other others →
    starts_with key one calls ≡ starts_with key other others →
    in_order (feed_of key one calls) ≡ in_order (feed_of key other others) →
    in_order (answered key one calls) ≡ in_order (answered key other others)
worlds_by key one other calls others f p g q e h =
    ap (λ (xs : List (ℕ × Result Answer Refusal)). in_order xs) (by_key one calls key p.unshared p.numbers p.reached f)
    ∙ worlds key one other calls others (same_scope key one other calls others p.unshared p.numbers q.unshared q.numbers e h) e h
    ∙ sym (ap (λ (xs : List (ℕ × Result Answer Refusal)). in_order xs) (by_key other others key q.unshared q.numbers q.reached g))

pub two_worlds : TwoWorlds
two_worlds one other calls others replies told end finish key f p g q e h =
    worlds_by key one other (entries_of one.opening calls replies) (entries_of other.opening others told) (all_fit one calls replies end f) p (all_fit other others told finish g) q e h

pub two_worlds_of_events : TwoWorldsOfEvents
two_worlds_of_events one other events others key l p m q e h = worlds_by key one other (expand events) (expand others) (events_fit one events l) p (events_fit other others m) q e h
