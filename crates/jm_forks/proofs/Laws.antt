-- What the parts of items hold, and which sessions make their calls.
use Rattle.std.proofs.Common.{◌≡◌, ℕ, suc, ◌+◌, ◌<◌, ◌≤◌, ◌⊎◌, inl, inr, Bool, true, false, List, [], ◌∷◌, ◌++◌, length, drop, get_or, Option, Some, None, refl, ap, sym, ◌∙◌, append_assoc, add-one, arith, drop-cons, subst, if◌then◌else◌}
use Rattle.std.specs.Prelude.{◌↔◌, map, unwrap_or, All, Contains, filter_map}
use Rattle.std.specs.List.{cons_option, list_any}
use Rattle.std.proofs.Math.ListN.{drop_of_length-le}
use Rattle.std.proofs.lemmas.List.{map-append}
use Rattle.std.proofs.lemmas.List.Elements.{All-append, All-cons, All-nil, Contains-append_cases, Contains-append_left, Contains-append_right, Contains-push, Contains-push_cases}
use Rattle.indexmap.proofs.CallerLemmas.{Contains-list_any}
use Rattle.jm_dest.specs.Names.{session_eq}
use Rattle.jm_dest.specs.declared.session.SessionId.{SessionId}
use Rattle.jm_machine.specs.declared.call.ClientCall.{ClientCall}
use Rattle.jm_machine.proofs.Keys.{session_same}
use Rattle.jm_scenario.specs.Items.{AreWellForked, calls_of, is_by_session}
use Rattle.jm_scenario.specs.declared.item.Item.{Item}
use Rattle.jm_scenario.specs.declared.item.Item.TheVariants.{Call, Fork, Join}
use Rattle.jm_forks.specs.declared.part.Part.{Part}
use Rattle.jm_forks.specs.declared.part.Part.TheVariants.{Alone, Together}
use Rattle.jm_forks.specs.Forks.{IsBySessions, IsCaller, calls_in, calls_of_parts, parts, parts_behind, session_of, sessions_of, with_session, with_sessions}

-- the sessions of calls, and then those of others, are those of both
pub with_sessions-append : (sessions : List SessionId) (calls others : List ClientCall)
    → with_sessions sessions (calls ++ others) ≡ with_sessions (with_sessions sessions calls) others
with_sessions-append sessions [] others = refl
with_sessions-append sessions (call ∷ calls) others = with_sessions-append (with_session sessions (session_of call)) calls others

-- the sessions of one part more
pub sessions_step : (old new : List SessionId) (parts : List Part) (i : ℕ) (part : Part) (all : List SessionId) → i < length parts → part ≡ get_or parts i part
    → new ≡ with_sessions old (calls_in part) → with_sessions old (calls_of_parts (drop i parts)) ≡ all → with_sessions new (calls_of_parts (drop (i + 1) parts)) ≡ all
sessions_step old new parts i part all less read noted is =
    rw add-one (ap (λ s. with_sessions s (calls_of_parts (drop (suc i) parts))) noted
    ∙ sym (with_sessions-append old (calls_in part) (calls_of_parts (drop (suc i) parts)))
    ∙ ap (λ p. with_sessions old (calls_in p ++ calls_of_parts (drop (suc i) parts))) read
    ∙ ap (λ ps. with_sessions old (calls_of_parts ps)) (sym (drop-cons parts i part less))
    ∙ is)

-- and where no part is left, they are those of all
pub sessions_end : (sessions : List SessionId) (parts : List Part) (i : ℕ) (all : List SessionId) → length parts ≤ i
    → with_sessions sessions (calls_of_parts (drop i parts)) ≡ all → sessions ≡ all
sessions_end sessions parts i all over is = ap (λ ps. with_sessions sessions (calls_of_parts ps)) (sym (drop_of_length-le parts over)) ∙ is

-- the calls of the parts, one part after another, are those behind the fork that is open, and those among the items
calls_of_parts-behind : (forked : Option (List ClientCall)) (items : List Item)
    → calls_of_parts (parts_behind forked items) ≡ unwrap_or forked [] ++ calls_of items
calls_of_parts-behind None [] = refl
calls_of_parts-behind (Some calls) [] = refl
calls_of_parts-behind None (Call call ∷ items) = ap (λ rest. call ∷ rest) (calls_of_parts-behind None items)
calls_of_parts-behind (Some calls) (Call call ∷ items) =
    calls_of_parts-behind (Some (calls ++ call ∷ [])) items ∙ append_assoc calls (call ∷ []) (calls_of items)
calls_of_parts-behind None (Fork ∷ items) = calls_of_parts-behind (Some []) items
calls_of_parts-behind (Some calls) (Fork ∷ items) = ap (λ rest. calls ++ rest) (calls_of_parts-behind (Some []) items)
calls_of_parts-behind None (Join ∷ items) = calls_of_parts-behind None items
calls_of_parts-behind (Some calls) (Join ∷ items) = ap (λ rest. calls ++ rest) (calls_of_parts-behind None items)

-- the calls of the parts, one part after another, are those among the items
pub calls_of_parts-parts : (items : List Item) → calls_of_parts (parts items) ≡ calls_of items
calls_of_parts-parts items = calls_of_parts-behind None items

-- where one fork is open behind items, its calls stand there, and are by sessions alone
abbrev IsOpenBehind : List Item → Option (List ClientCall) → Type 0
IsOpenBehind before None = Unit {0}
IsOpenBehind before (Some calls) = ((start : List Item) × (before ≡ start ++ Fork ∷ map Call calls)) × All (λ call. is_by_session call ≡ true) calls

-- items that are well forked, of which those before are taken
by_sessions : (whole before : List Item) (forked : Option (List ClientCall)) (items : List Item) → AreWellForked whole → whole ≡ before ++ items
    → IsOpenBehind before forked → All IsBySessions (parts_behind forked items)
by_sessions whole before None [] well is known = All-nil IsBySessions
by_sessions whole before (Some calls) [] well is known = All-cons IsBySessions (Together calls) [] known.1 (All-nil IsBySessions)
by_sessions whole before None (Call call ∷ items) well is known =
    All-cons IsBySessions (Alone call) (parts_behind None items) tt
    (by_sessions whole (before ++ Call call ∷ []) None items well (is ∙ sym (append_assoc before (Call call ∷ []) items)) tt)
by_sessions whole before (Some calls) (Call call ∷ items) well is known =
    let one : is_by_session call ≡ true = well before (Call call) items is (known.0.0, calls, known.0.1) in
    let stands : before ++ Call call ∷ [] ≡ known.0.0 ++ Fork ∷ map Call (calls ++ call ∷ []) =
    ap (λ b. b ++ Call call ∷ []) known.0.1 ∙ append_assoc known.0.0 (Fork ∷ map Call calls) (Call call ∷ [])
    ∙ ap (λ m. known.0.0 ++ Fork ∷ m) (sym (map-append Call calls (call ∷ []))) in
    by_sessions whole (before ++ Call call ∷ []) (Some (calls ++ call ∷ [])) items well (is ∙ sym (append_assoc before (Call call ∷ []) items))
    ((known.0.0, stands), All-append (λ c. is_by_session c ≡ true) calls (call ∷ []) known.1 (All-cons (λ c. is_by_session c ≡ true) call [] one (All-nil (λ c. is_by_session c ≡ true))))
by_sessions whole before None (Fork ∷ items) well is known =
    by_sessions whole (before ++ Fork ∷ []) (Some []) items well (is ∙ sym (append_assoc before (Fork ∷ []) items)) ((before, refl), All-nil (λ c. is_by_session c ≡ true))
by_sessions whole before (Some calls) (Fork ∷ items) well is known =
    All-cons IsBySessions (Together calls) (parts_behind (Some []) items) known.1
    (by_sessions whole (before ++ Fork ∷ []) (Some []) items well (is ∙ sym (append_assoc before (Fork ∷ []) items)) ((before, refl), All-nil (λ c. is_by_session c ≡ true)))
by_sessions whole before None (Join ∷ items) well is known =
    by_sessions whole (before ++ Join ∷ []) None items well (is ∙ sym (append_assoc before (Join ∷ []) items)) tt
by_sessions whole before (Some calls) (Join ∷ items) well is known =
    All-cons IsBySessions (Together calls) (parts_behind None items) known.1
    (by_sessions whole (before ++ Join ∷ []) None items well (is ∙ sym (append_assoc before (Join ∷ []) items)) tt)

-- what well forked items hold together is by sessions alone
pub parts-by_sessions : (items : List Item) → AreWellForked items → All IsBySessions (parts items)
parts-by_sessions items well = by_sessions items [] None items well refl tt

-- the empty list has no session
no_session : {X : Type 0} (s : X) → Contains [] s → ⊥
no_session s c = omega (arith, c.1)

-- a session of a list is the first, or one of the others
first_or_other : {X : Type 0} (t : X) (others : List X) (s : X) → Contains (t ∷ others) s → (t ≡ s) ⊎ Contains others s
first_or_other {X} t others s c = go (Contains-append_cases (t ∷ []) others s c)
  where
    first : Contains [] s ⊎ (t ≡ s) → (t ≡ s) ⊎ Contains others s
    first (inl h) = absurd (no_session s h)
    first (inr h) = inl h

    go : Contains (t ∷ []) s ⊎ Contains others s → (t ≡ s) ⊎ Contains others s
    go (inl h) = first (Contains-push_cases [] t s h)
    go (inr h) = inr h

-- where a session is among those so far, or makes a call, it is so behind one call more
noted : (sessions : List SessionId) (o : Option SessionId) (others : List SessionId) (s : SessionId)
    → Contains sessions s ⊎ Contains (cons_option o others) s → Contains (with_session sessions o) s ⊎ Contains others s
noted sessions None others s h = h
noted sessions (Some t) others s h = go (list_any (session_eq t) sessions) refl h
  where
    is_first : (b : Bool) → list_any (session_eq t) sessions ≡ b → (t ≡ s) ⊎ Contains others s
        → Contains (if b then sessions else sessions ++ t ∷ []) s ⊎ Contains others s
    is_first true e (inl same) = inl (subst (λ x. Contains sessions x) same (Contains-list_any session_eq session_same sessions t e))
    is_first false e (inl same) = inl (subst (λ x. Contains (sessions ++ t ∷ []) x) same (Contains-push sessions t))
    is_first b e (inr c) = inr c

    go : (b : Bool) → list_any (session_eq t) sessions ≡ b → Contains sessions s ⊎ Contains (t ∷ others) s
        → Contains (if b then sessions else sessions ++ t ∷ []) s ⊎ Contains others s
    go true e (inl c) = inl c
    go false e (inl c) = inl (Contains-append_left sessions (t ∷ []) s c)
    go b e (inr c) = is_first b e (first_or_other t others s c)

-- and where it is so behind one call more, it is among those so far, or makes a call
was_noted : (sessions : List SessionId) (o : Option SessionId) (others : List SessionId) (s : SessionId)
    → Contains (with_session sessions o) s ⊎ Contains others s → Contains sessions s ⊎ Contains (cons_option o others) s
was_noted sessions None others s h = h
was_noted sessions (Some t) others s h = go (list_any (session_eq t) sessions) h
  where
    here : t ≡ s → Contains (t ∷ others) s
    here same = subst (λ x. Contains (t ∷ others) x) same (Contains-append_left (t ∷ []) others t (Contains-push [] t))

    pushed : Contains sessions s ⊎ (t ≡ s) → Contains sessions s ⊎ Contains (t ∷ others) s
    pushed (inl c) = inl c
    pushed (inr same) = inr (here same)

    go : (b : Bool) → Contains (if b then sessions else sessions ++ t ∷ []) s ⊎ Contains others s → Contains sessions s ⊎ Contains (t ∷ others) s
    go true (inl c) = inl c
    go false (inl c) = pushed (Contains-push_cases sessions t s c)
    go b (inr c) = inr (Contains-append_right (t ∷ []) others s c)

-- the sessions behind calls are those so far, and those that make the calls
with_sessions-callers : (sessions : List SessionId) (calls : List ClientCall) (s : SessionId)
    → Contains sessions s ⊎ Contains (filter_map session_of calls) s → Contains (with_sessions sessions calls) s
with_sessions-callers sessions [] s (inl c) = c
with_sessions-callers sessions [] s (inr c) = absurd (no_session s c)
with_sessions-callers sessions (call ∷ calls) s h =
    with_sessions-callers (with_session sessions (session_of call)) calls s (noted sessions (session_of call) (filter_map session_of calls) s h)

with_sessions-only_callers : (sessions : List SessionId) (calls : List ClientCall) (s : SessionId)
    → Contains (with_sessions sessions calls) s → Contains sessions s ⊎ Contains (filter_map session_of calls) s
with_sessions-only_callers sessions [] s c = inl c
with_sessions-only_callers sessions (call ∷ calls) s c =
    was_noted sessions (session_of call) (filter_map session_of calls) s (with_sessions-only_callers (with_session sessions (session_of call)) calls s c)

-- the sessions of parts are those that make a call in them
pub sessions_of-callers : (parts : List Part) (s : SessionId) → Contains (sessions_of parts) s ↔ IsCaller s parts
sessions_of-callers parts s = (only, λ c. with_sessions-callers [] (calls_of_parts parts) s (inr c))
  where
    go : Contains [] s ⊎ IsCaller s parts → IsCaller s parts
    go (inl c) = absurd (no_session s c)
    go (inr c) = c

    only : Contains (sessions_of parts) s → IsCaller s parts
    only c = go (with_sessions-only_callers [] (calls_of_parts parts) s c)

-- and so those of a list that is theirs
pub listed_callers : (sessions : List SessionId) (parts : List Part) → sessions ≡ sessions_of parts → (s : SessionId) → Contains sessions s ↔ IsCaller s parts
listed_callers sessions parts e s = subst (λ xs. Contains xs s ↔ IsCaller s parts) (sym e) (sessions_of-callers parts s)
