-- Which numbers belong to a key: each of its consumers, and each call that creates one of its consumers, says the same.
use Rattle.std.proofs.Common.{◌≡◌, ℕ, Bool, true, false, cond, List, [], ◌∷◌, refl, ap, sym, ◌∙◌, arith, Option, Some}
use Rattle.std.specs.Prelude.{not, ◌&&◌, ◌||◌, ◌==◌, is_some}
use Rattle.std.specs.List.{list_all, list_any}
use Rattle.std.proofs.lemmas.Bool.Decides.{nat_tests}
use Rattle.jm_dest.specs.declared.session.SessionId.{SessionId}
use Rattle.jm_dest.specs.declared.key.Key.{Key}
use Rattle.jm_dest.specs.declared.key.Key.TheVariants.{Own, SharedOwn, Durable, Queue as OfQueue}
use Rattle.jm_dest.specs.Names.{session_eq}
use Rattle.jm_dest.specs.Keys.{key_eq}
use Rattle.jm_machine.specs.declared.entry.Entry.{Entry}
use Rattle.jm_machine.specs.declared.state.Consumer.{Consumer}
use Rattle.jm_machine.specs.Machine.{State, has_number, consumer_of}
use Rattle.jm_machine.specs.Lone.{belongs, clients_in, creates, entry_names, first_named, named_by, is_made_for, scope_of}
use Rattle.jm_machine.specs.Isolation.{names_no_other, keeps_number}
use Rattle.jm_machine.proofs.Keys.{session_same, session_refl}
use Rattle.jm_law.proofs.Consumers.{Unshared, Placed}

-- ---- a number that names nothing but the key

abbrev pub keeps : Key → SessionId → ℕ → List Consumer → Bool
keeps key s c xs = list_all (λ x. not (has_number s c x) || key_eq x.key key) xs

abbrev pub all_name : Key → (ℕ → Option (List ℕ)) → SessionId → ℕ → List Entry → Bool
all_name key clients s c entries = list_all (names_no_other key clients s c) entries

first_any : (key : Key) (clients : ℕ → Option (List ℕ)) (s : SessionId) (c : ℕ) (entries : List Entry) → all_name key clients s c entries ≡ true → first_named key clients entries s c ≡ list_any (creates s c) entries
first_any key clients s c [] h = refl
first_any key clients s c (e ∷ entries) h = grind (arith, nat_tests, first_any key clients s c entries)

made_any : (key : Key) (clients : ℕ → Option (List ℕ)) (s : SessionId) (c : ℕ) (xs : List Consumer) (entries : List Entry) → keeps key s c xs ≡ true → all_name key clients s c entries ≡ true →
    named_by key (consumer_of xs s c) (first_named key clients entries s c) ≡ (is_some (consumer_of xs s c) || list_any (creates s c) entries)
made_any key clients s c [] entries h g = first_any key clients s c entries g
made_any key clients s c (x ∷ xs) entries h g = grind (arith, nat_tests, made_any key clients s c xs entries)

pub and_both : (a b : Bool) → (a && b) ≡ true → (a ≡ true) × (b ≡ true)
and_both true b h = (refl, h)
and_both false b h = cc

-- the number is made for the key where the opening has it, or a call creates it
pub made_kept : (key : Key) (opening : State) (all : List Entry) (s : SessionId) (c : ℕ) → keeps_number key opening all s c ≡ true → is_made_for key opening all s c ≡ (is_some (consumer_of opening.consumers s c) || list_any (creates s c) all)
made_kept key opening all s c h = let b = and_both _ _ h in made_any key (clients_in opening all) s c opening.consumers all b.0 b.1

-- ---- what each consumer and each call says

-- the number names nothing but the key, and where it is made for the key it belongs to it
abbrev pub Kept : Key → State → List Entry → SessionId → ℕ → Type 0
Kept key opening all s c = (keeps_number key opening all s c ≡ true) × (is_made_for key opening all s c ≡ true → belongs (scope_of key opening all) s c ≡ true)

abbrev pub ConsumersKept : Key → State → List Entry → List Consumer → Type 0
ConsumersKept key opening all [] = Unit {0}
ConsumersKept key opening all (x ∷ xs) = (key_eq x.key key ≡ true → Kept key opening all x.session x.id) × ConsumersKept key opening all xs

abbrev pub CallsKept : Key → State → List Entry → List Entry → Type 0
CallsKept key opening all [] = Unit {0}
CallsKept key opening all (e ∷ entries) = ((s : SessionId) (c : ℕ) → creates s c e ≡ true → entry_names key (clients_in opening all) e ≡ true → Kept key opening all s c) × CallsKept key opening all entries

pub record Numbers (key : Key) (opening : State) (all : List Entry) : Type 0 where
  pub consumers : ConsumersKept key opening all opening.consumers
  pub calls : CallsKept key opening all all

pub same_number : (x : Consumer) (s : SessionId) (c : ℕ) → has_number s c x ≡ true → (x.session ≡ s) × (x.id ≡ c)
same_number x s c h = (grind (arith, nat_tests, session_same x.session s), grind (arith, nat_tests))

consumer_kept : (key : Key) (opening : State) (all : List Entry) (s : SessionId) (c : ℕ) (later : Bool) → (later ≡ true → keeps_number key opening all s c ≡ true) → (xs : List Consumer) → ConsumersKept key opening all xs →
    named_by key (consumer_of xs s c) later ≡ true → keeps_number key opening all s c ≡ true
consumer_kept key opening all s c later g [] k h = g h
consumer_kept key opening all s c later g (x ∷ xs) k h = go (has_number s c x) refl h (consumer_kept key opening all s c later g xs k.1)
  where
    go : (b : Bool) → has_number s c x ≡ b → named_by key (cond b (Some x) (consumer_of xs s c)) later ≡ true → (named_by key (consumer_of xs s c) later ≡ true → keeps_number key opening all s c ≡ true) → keeps_number key opening all s c ≡ true
    go true e h r =
        let i = same_number x s c e in
        sym (λ l. keeps_number key opening all (i.0 l) (i.1 l)) ∙ (k.0 h).0
    go false e h r = r h

call_kept : (key : Key) (opening : State) (all : List Entry) (s : SessionId) (c : ℕ) (entries : List Entry) → CallsKept key opening all entries → first_named key (clients_in opening all) entries s c ≡ true → keeps_number key opening all s c ≡ true
call_kept key opening all s c [] k h = cc
call_kept key opening all s c (e ∷ entries) k h = go (creates s c e) refl h (call_kept key opening all s c entries k.1)
  where
    go : (b : Bool) → creates s c e ≡ b → cond b (entry_names key (clients_in opening all) e) (first_named key (clients_in opening all) entries s c) ≡ true →
        (first_named key (clients_in opening all) entries s c ≡ true → keeps_number key opening all s c ≡ true) → keeps_number key opening all s c ≡ true
    go true i h r = (k.0 s c i h).0
    go false i h r = r h

-- a number that is made for the key names nothing else
pub made_keeps : (key : Key) (opening : State) (all : List Entry) → Numbers key opening all → (s : SessionId) (c : ℕ) → is_made_for key opening all s c ≡ true → keeps_number key opening all s c ≡ true
made_keeps key opening all n s c h =
    consumer_kept key opening all s c (first_named key (clients_in opening all) all s c) (call_kept key opening all s c all n.calls) opening.consumers n.consumers h

-- a number that belongs to the key is made for it
belongs_made : (key : Key) (opening : State) (all : List Entry) (s : SessionId) (c : ℕ) → Unshared key → belongs (scope_of key opening all) s c ≡ true → is_made_for key opening all s c ≡ true
belongs_made (OfQueue name) opening all s c u h = absurd u
belongs_made (Own t d) opening all s c u h = grind (arith, nat_tests)
belongs_made (SharedOwn client name) opening all s c u h = absurd u
belongs_made (Durable client name) opening all s c u h = (and_both _ _ (and_both _ _ h).1).1

pub or_first : (x y : Bool) → x ≡ true → (x || y) ≡ true
or_first true y i = refl
or_first false y i = cc

pub or_second : (x y : Bool) → y ≡ true → (x || y) ≡ true
or_second true y i = refl
or_second false y i = i

pub both_ways : (x y : Bool) → (x ≡ true → y ≡ true) → (y ≡ true → x ≡ true) → x ≡ y
both_ways true y p q = sym (p refl)
both_ways false true p q = q refl
both_ways false false p q = refl

pub self : (s : SessionId) (c : ℕ) → (session_eq s s && (c == c)) ≡ true
self s c = grind (arith, nat_tests, session_refl s)

-- ---- the consumers of the opening

-- each consumer is found by its number
abbrev AllFound : List Consumer → List Consumer → Type 0
AllFound whole [] = Unit {0}
AllFound whole (x ∷ xs) = (is_some (consumer_of whole x.session x.id) ≡ true) × AllFound whole xs

found_more : (y : Consumer) (whole xs : List Consumer) → AllFound whole xs → AllFound (y ∷ whole) xs
found_more y whole [] h = tt
found_more y whole (x ∷ xs) h = (go (has_number x.session x.id y) h.0, found_more y whole xs h.1)
  where
    go : (b : Bool) → is_some (consumer_of whole x.session x.id) ≡ true → is_some (cond b (Some y) (consumer_of whole x.session x.id)) ≡ true
    go true h = refl
    go false h = h

all_found : (xs : List Consumer) → AllFound xs xs
all_found [] = tt
all_found (x ∷ xs) = (ap (λ b. is_some (cond b (Some x) (consumer_of xs x.session x.id))) (self x.session x.id), found_more x xs xs (all_found xs))

keeps_first : (key : Key) (x : Consumer) (xs : List Consumer) → keeps key x.session x.id (x ∷ xs) ≡ true → key_eq x.key key ≡ true
keeps_first key x xs h = go (has_number x.session x.id x) (self x.session x.id) h
  where
    go : (b : Bool) → b ≡ true → ((not b || key_eq x.key key) && keeps key x.session x.id xs) ≡ true → key_eq x.key key ≡ true
    go true e h = (and_both _ _ h).0
    go false e h = cc

placed_from : (key : Key) (opening : State) (all : List Entry) → Unshared key → Numbers key opening all → (xs : List Consumer) → ConsumersKept key opening all xs → AllFound opening.consumers xs →
    ((s : SessionId) (c : ℕ) → keeps key s c opening.consumers ≡ true → keeps key s c xs ≡ true) → Placed (scope_of key opening all) xs
placed_from key opening all u n [] k a w = tt
placed_from key opening all u n (x ∷ xs) k a w = (
  both_ways (key_eq x.key key) (belongs (scope_of key opening all) x.session x.id)
      (λ e. let q = k.0 e in q.1 (made_kept key opening all x.session x.id q.0 ∙ or_first _ _ a.0))
      (λ b. keeps_first key x xs (w x.session x.id (and_both _ _ (made_keeps key opening all n x.session x.id (belongs_made key opening all x.session x.id u b))).0)),
  placed_from key opening all u n xs k.1 a.1 (λ s c h. (and_both _ _ (w s c h)).1),
)

pub placed_by : (key : Key) (opening : State) (all : List Entry) → Unshared key → Numbers key opening all → Placed (scope_of key opening all) opening.consumers
placed_by key opening all u n = placed_from key opening all u n opening.consumers n.consumers (all_found opening.consumers) (λ s c h. h)

-- ---- the calls of the list

names_first : (key : Key) (clients : ℕ → Option (List ℕ)) (s : SessionId) (c : ℕ) (e : Entry) (entries : List Entry) → all_name key clients s c (e ∷ entries) ≡ true → creates s c e ≡ true → entry_names key clients e ≡ true
names_first key clients s c e entries h i = grind (arith, nat_tests)

-- what is said of the calls that are left
pub record Calls (key : Key) (opening : State) (all left : List Entry) : Type 0 where
  pub kept : CallsKept key opening all left
  pub any : (s : SessionId) (c : ℕ) → list_any (creates s c) left ≡ true → list_any (creates s c) all ≡ true
  pub names : (s : SessionId) (c : ℕ) → all_name key (clients_in opening all) s c all ≡ true → all_name key (clients_in opening all) s c left ≡ true

pub all_calls : (key : Key) (opening : State) (all : List Entry) → Numbers key opening all → Calls key opening all all
all_calls key opening all n = record { kept = n.calls; any = λ s c h. h; names = λ s c h. h }

pub calls_left : (key : Key) (opening : State) (all : List Entry) (e : Entry) (left : List Entry) → Calls key opening all (e ∷ left) → Calls key opening all left
calls_left key opening all e left q = record {
  kept = q.kept.1;
  any = λ s c h. q.any s c (or_second (creates s c e) (list_any (creates s c) left) h);
  names = λ s c h. (and_both _ _ (q.names s c h)).1;
}

-- a creating call names the key where its number belongs to the key
pub call_number : (key : Key) (opening : State) (all : List Entry) (e : Entry) (left : List Entry) (s : SessionId) (c : ℕ) → Unshared key → Numbers key opening all → Calls key opening all (e ∷ left) → creates s c e ≡ true →
    entry_names key (clients_in opening all) e ≡ belongs (scope_of key opening all) s c
call_number key opening all e left s c u n q i =
    both_ways (entry_names key (clients_in opening all) e) (belongs (scope_of key opening all) s c)
    (λ h. let k = q.kept.0 s c i h in k.1 (made_kept key opening all s c k.0 ∙ or_second _ _ (q.any s c (or_first (creates s c e) (list_any (creates s c) left) i))))
    (λ b. names_first key (clients_in opening all) s c e left (q.names s c (and_both _ _ (made_keeps key opening all n s c (belongs_made key opening all s c u b))).1) i)
