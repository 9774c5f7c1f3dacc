-- Where a fork is open, and where items have their places.
use Rattle.std.proofs.Common.{◌≡◌, ◌∙◌, ◌++◌, ◌⊎◌, ℕ, inl, inr, Bool, true, false, List, [], ◌∷◌, Option, Some, None, option_map, option_and_then, Result, Ok, Err, append_assoc, append-nil, refl, ap, sym, subst, codes}
use Rattle.std.specs.Prelude.{◌&&◌, ◌||◌, ◌≢◌, not, map, MatchResult}
use Rattle.serde_json.specs.Data.{Data, Items, no_items, item}
use Rattle.serde_json.specs.Find.{as_array, get}
use Rattle.serde_json.specs.Read.{read}
use Rattle.jm_machine.specs.declared.call.ClientCall.{ClientCall}
use Rattle.jm_fields.specs.Fields.{is_known}
use Rattle.jm_fields.specs.Values.{limit, optional}
use Rattle.jm_fields.specs.declared.field.Owner.TheVariants.{ForkOrJoin, Scenario as Outer}
use Rattle.jm_scenario.specs.Calls.{AreNoneSpelled, AreSpelled, IsNoneSpelled, IsSpelled, Spells, SpellsNone, call_in_place, call_of, fork_or_join, item_as, item_of, items_of, scenario, scenario_of_text, where_in_place}
use Rattle.jm_scenario.specs.Items.{AreWellForked, IsForked, StandsBehind, is_by_session, is_forked_behind, is_in_place}
use Rattle.jm_fields.specs.Reading.{where_true}
use Rattle.jm_scenario.specs.declared.item.Item.{Item}
use Rattle.jm_scenario.specs.declared.item.Item.TheVariants.{Call, Fork, Join}
use Rattle.jm_scenario.specs.declared.scenario.Scenario.{Scenario}
use Rattle.jm_scenario.specs.declared.scenario.ScenarioFault.{ScenarioFault}
use Rattle.jm_scenario.specs.declared.scenario.ScenarioFault.TheVariants.{Memory}

no : {A : Type 0} → false ≡ true → A
no e = absurd (cc)

-- a fork is open behind items, where one is open before them or none is
abbrev pub forked : Bool → List Item → Bool
forked is_forked [] = is_forked
forked is_forked (one ∷ items) = forked (is_forked_behind is_forked one) items

forked-append : (b : Bool) (xs ys : List Item) → forked b (xs ++ ys) ≡ forked (forked b xs) ys
forked-append b [] ys = refl
forked-append b (one ∷ xs) ys = forked-append (is_forked_behind b one) xs ys

forked-calls : (b : Bool) (calls : List ClientCall) → forked b (map Call calls) ≡ b
forked-calls b [] = refl
forked-calls b (call ∷ calls) = forked-calls b calls

-- behind a fork and calls alone one is open
open_behind : (b : Bool) (items : List Item) → IsForked items → forked b items ≡ true
open_behind b items h = ap (forked b) h.2 ∙ forked-append b h.0 (Fork ∷ map Call h.1) ∙ forked-calls true h.1

-- and so behind one more item before them
more : (one : Item) (items : List Item) → IsForked items → IsForked (one ∷ items)
more one items h = (one ∷ h.0, h.1, ap (λ rest. one ∷ rest) h.2)

-- where a fork is open behind items, they are calls alone behind an open fork, or end with a fork and calls alone
forked_cases : (b : Bool) (items : List Item) → forked b items ≡ true → ((b ≡ true) × (calls : List ClientCall) × (items ≡ map Call calls)) ⊎ IsForked items
forked_cases b [] e = inl (e, [], refl)
forked_cases b (Call call ∷ items) e =
    elim (forked_cases b items e) [ inl w ↦ inl (w.0, call ∷ w.1, ap (λ rest. Call call ∷ rest) w.2) | inr w ↦ inr (more (Call call) items w) ]
forked_cases b (Fork ∷ items) e =
    elim (forked_cases true items e) [ inl w ↦ inr ([], w.1, ap (λ rest. Fork ∷ rest) w.2) | inr w ↦ inr (more Fork items w) ]
forked_cases b (Join ∷ items) e =
    elim (forked_cases false items e) [ inl w ↦ no w.0 | inr w ↦ inr (more Join items w) ]

fork_before : (items : List Item) → forked false items ≡ true → IsForked items
fork_before items e = elim (forked_cases false items e) [ inl w ↦ no w.0 | inr w ↦ w ]

-- an item that has its place by the mark of an open fork has it behind the others
stands_behind : (before : List Item) (one : Item) → is_in_place (forked false before) one ≡ true → StandsBehind before one
stands_behind before (Call call) h = λ o. subst (λ b. (not b || is_by_session call) ≡ true) (open_behind false before o) h
stands_behind before Fork h = λ o. no (subst (λ b. not b ≡ true) (open_behind false before o) h)
stands_behind before Join h = fork_before before h

-- and the other way round
in_place : (before : List Item) (one : Item) → StandsBehind before one → is_in_place (forked false before) one ≡ true
in_place before one stands = go (forked false before) refl one stands
  where
    go : (b : Bool) → forked false before ≡ b → (one : Item) → StandsBehind before one → is_in_place b one ≡ true
    go true e (Call call) stands = stands (fork_before before e)
    go false e (Call call) stands = refl
    go true e Fork stands = absurd (stands (fork_before before e))
    go false e Fork stands = refl
    go true e Join stands = refl
    go false e Join stands = sym e ∙ open_behind false before stands

-- each item has its place, where a fork is open before them or none is
abbrev pub in_order : Bool → List Item → Bool
in_order is_forked [] = true
in_order is_forked (one ∷ items) = is_in_place is_forked one && in_order (is_forked_behind is_forked one) items

left : (a b : Bool) → (a && b) ≡ true → a ≡ true
left true b h = refl
left false b h = h

right : (a b : Bool) → (a && b) ≡ true → b ≡ true
right true b h = h
right false b h = no h

both : (a b : Bool) → a ≡ true → b ≡ true → (a && b) ≡ true
both true b p q = q
both false b p q = p

-- so one item has, behind those before it
in_order-at : (b : Bool) (before : List Item) (one : Item) (others : List Item) → in_order b (before ++ one ∷ others) ≡ true → is_in_place (forked b before) one ≡ true
in_order-at b [] one others h = left (is_in_place b one) (in_order (is_forked_behind b one) others) h
in_order-at b (x ∷ before) one others h =
    in_order-at (is_forked_behind b x) before one others (right (is_in_place b x) (in_order (is_forked_behind b x) (before ++ one ∷ others)) h)

-- one more item in its place
in_order-more : (b : Bool) (items : List Item) (one : Item) → in_order b items ≡ true → is_in_place (forked b items) one ≡ true → in_order b (items ++ one ∷ []) ≡ true
in_order-more b [] one h p = both (is_in_place b one) true p refl
in_order-more b (x ∷ items) one h p =
    both (is_in_place b x) (in_order (is_forked_behind b x) (items ++ one ∷ [])) (left (is_in_place b x) (in_order (is_forked_behind b x) items) h)
    (in_order-more (is_forked_behind b x) items one (right (is_in_place b x) (in_order (is_forked_behind b x) items) h) p)

-- items in order are well forked
well_forked : (items : List Item) → in_order false items ≡ true → AreWellForked items
well_forked items h before one others e = stands_behind before one (in_order-at false before one others (subst (λ xs. in_order false xs ≡ true) e h))

-- what stands before a list of items
abbrev pub after : List Item → Option (List Item) → Option (List Item)
after done rest = option_map (λ items. done ++ items) rest

-- where an item that is spelled has not its place behind others, none that are well forked are spelled
none_behind : (done : List Item) (value : Data) (values : Items) (spelled : Option (List Item)) → after done (items_of (item value values)) ≡ spelled →
    where_in_place (forked false done) (item_of value) ≡ None → AreNoneSpelled spelled
none_behind done value values spelled is misplaced items h = go (item_of value) (items_of values) (is ∙ h.0) misplaced
  where
    placed : (one : Item) (rest : List Item) (test : Bool) → is_in_place (forked false done) one ≡ test → items ≡ done ++ one ∷ rest → where_true test (Some one) ≡ None → ⊥
    placed one rest true e same none = cc
    placed one rest false e same none = no (sym e ∙ in_place done one (h.1 done one rest same))

    go : (first : Option Item) (rest : Option (List Item)) → after done (option_and_then (λ first. option_map (λ rest. first ∷ rest) rest) first) ≡ Some items →
        where_in_place (forked false done) first ≡ None → ⊥
    go None rest e none = cc
    go (Some one) None e none = cc
    go (Some one) (Some rest) e none = placed one rest (is_in_place (forked false done) one) refl (cc) none

-- an item that has its place is one that is spelled
placed_both : (is_forked : Bool) (spelled : Option Item) (one : Item) → where_in_place is_forked spelled ≡ Some one → (spelled ≡ Some one) × (is_in_place is_forked one ≡ true)
placed_both is_forked None one e = cc
placed_both is_forked (Some other) one e = go (is_in_place is_forked other) refl e
  where
    go : (test : Bool) → is_in_place is_forked other ≡ test → where_true test (Some other) ≡ Some one → (Some other ≡ Some one) × (is_in_place is_forked one ≡ true)
    go true is e =
        let same : other ≡ one = cc in
        (e, subst (λ that. is_in_place is_forked that ≡ true) same is)
    go false is e = cc

after-append : (done : List Item) (one : Item) (rest : Option (List Item)) → after done (option_map (λ items. one ∷ items) rest) ≡ after (done ++ one ∷ []) rest
after-append done one None = refl
after-append done one (Some items) = ap Some (sym (append_assoc done (one ∷ []) items))

-- one more item is read
after-item : (done : List Item) (value : Data) (values : Items) (one : Item) → item_of value ≡ Some one → after done (items_of (item value values)) ≡ after (done ++ one ∷ []) (items_of values)
after-item done value values one reads = rw reads (after-append done one (items_of values))

-- what is read so far, and what is known of it
pub record IsRead (spelled : Option (List Item)) (is_forked : Bool) (done : List Item) (values : Items) : Type 0 where
  pub same : after done (items_of values) ≡ spelled
  pub forked : is_forked ≡ forked false done
  pub in_order : in_order false done ≡ true

-- with one more item, which has its place
pub read_more : (spelled : Option (List Item)) (is_forked : Bool) (done : List Item) (value : Data) (values : Items) (one : Item) → IsRead spelled is_forked done (item value values) →
    where_in_place is_forked (item_of value) ≡ Some one → IsRead spelled (is_forked_behind is_forked one) (done ++ one ∷ []) values
read_more spelled is_forked done value values one read placed =
    let parts = placed_both is_forked (item_of value) one placed in
    record {
      same = sym (after-item done value values one parts.0) ∙ read.same;
      forked = ap (λ f. is_forked_behind f one) read.forked ∙ sym (forked-append false done (one ∷ []));
      in_order = in_order-more false done one read.in_order (subst (λ f. is_in_place f one ≡ true) read.forked parts.1);
    }

-- where the next has not its place, none that are well forked are spelled
pub read_none : (spelled : Option (List Item)) (is_forked : Bool) (done : List Item) (value : Data) (values : Items) → IsRead spelled is_forked done (item value values) →
    where_in_place is_forked (item_of value) ≡ None → AreNoneSpelled spelled
read_none spelled is_forked done value values read none =
    none_behind done value values spelled read.same (subst (λ f. where_in_place f (item_of value) ≡ None) read.forked none)

-- at the beginning none is read
pub read_begin : (values : Items) → IsRead (items_of values) false [] values
read_begin values = record { same = unchanged (items_of values); forked = refl; in_order = refl }
  where
    unchanged : (rest : Option (List Item)) → after [] rest ≡ rest
    unchanged None = refl
    unchanged (Some items) = refl

-- where no value is left, they are spelled
pub read_end : (spelled : Option (List Item)) (is_forked : Bool) (done : List Item) → IsRead spelled is_forked done no_items → AreSpelled spelled done
read_end spelled is_forked done read = (sym read.same ∙ ap Some (append-nil done), well_forked done read.in_order)

-- a call that has its place is an item that has
where_in_place-call : (is_forked : Bool) (spelled : Option ClientCall) → where_in_place is_forked (option_map Call spelled) ≡ option_map Call (call_in_place is_forked spelled)
where_in_place-call is_forked None = refl
where_in_place-call is_forked (Some call) = go (is_in_place is_forked (Call call))
  where
    go : (test : Bool) → where_true test (Some (Call call)) ≡ option_map Call (where_true test (Some call))
    go true = refl
    go false = refl

-- so a call is read
pub call_placed : (is_forked : Bool) (value : Data) (call : ClientCall) → fork_or_join value ≡ None → call_in_place is_forked (call_of value) ≡ Some call →
    where_in_place is_forked (item_of value) ≡ Some (Call call)
call_placed is_forked value call none is =
    ap (λ found. where_in_place is_forked (item_as found value)) none ∙ where_in_place-call is_forked (call_of value) ∙ ap (option_map Call) is

pub call_misplaced : (is_forked : Bool) (value : Data) → fork_or_join value ≡ None → call_in_place is_forked (call_of value) ≡ None →
    where_in_place is_forked (item_of value) ≡ None
call_misplaced is_forked value none is =
    ap (λ found. where_in_place is_forked (item_as found value)) none ∙ where_in_place-call is_forked (call_of value) ∙ ap (option_map Call) is

-- a fork or join that has not its place is none, whatever other fields stand
pub mark_misplaced : (is_forked : Bool) (value : Data) (one : Item) → is_in_place is_forked one ≡ false → where_in_place is_forked (item_as (Some one) value) ≡ None
mark_misplaced is_forked value one misplaced = go (is_known ForkOrJoin value)
  where
    go : (test : Bool) → where_in_place is_forked (where_true test (Some one)) ≡ None
    go true = rw misplaced refl
    go false = refl

-- one that has other fields is none, and another is
pub mark_unknown : (is_forked : Bool) (value : Data) (one : Item) → is_known ForkOrJoin value ≡ false → where_in_place is_forked (item_as (Some one) value) ≡ None
mark_unknown is_forked value one unknown = ap (λ test. where_in_place is_forked (where_true test (Some one))) unknown

pub mark_placed : (is_forked : Bool) (value : Data) (one : Item) → is_in_place is_forked one ≡ true → is_known ForkOrJoin value ≡ true → where_in_place is_forked (item_as (Some one) value) ≡ Some one
mark_placed is_forked value one placed known =
    ap (λ test. where_in_place is_forked (where_true test (Some one))) known ∙ ap (λ test. where_true test (Some one)) placed

-- nothing is spelled where there is none
pub none_spelled : (spelled : Option Scenario) → spelled ≡ None → IsNoneSpelled spelled
none_spelled spelled none one h = cc

abbrev with_items : Option ℕ → List Item → Scenario
with_items held items = record { held = held; items = items }

-- the scenario of a value whose fields are read
scenario_read : (value : Data) (values : Items) (held : Option ℕ) → option_and_then as_array (get (codes "calls") value) ≡ Some values → optional limit (codes "held") value ≡ Some held →
    is_known Outer value ≡ true → scenario value ≡ option_map (with_items held) (items_of values)
scenario_read value values held is held_is known = rw (is, held_is, known) refl

-- by items that are spelled it is spelled
pub scenario_spelled : (value : Data) (values : Items) (held : Option ℕ) (items : List Item) → option_and_then as_array (get (codes "calls") value) ≡ Some values →
    optional limit (codes "held") value ≡ Some held → is_known Outer value ≡ true → AreSpelled (items_of values) items → IsSpelled (scenario value) (with_items held items)
scenario_spelled value values held items is held_is known spelled = (scenario_read value values held is held_is known ∙ ap (option_map (with_items held)) spelled.0, spelled.1)

none_of_items : (held : Option ℕ) (spelled : Option (List Item)) → AreNoneSpelled spelled → IsNoneSpelled (option_map (with_items held) spelled)
none_of_items held None none one h = cc
none_of_items held (Some items) none one h =
    let is : with_items held items ≡ one = cc in
    none items (refl, subst AreWellForked (sym (ap (λ (s : Scenario). s.items) is)) h.1)

-- and by none it is not
pub scenario_unspelled : (value : Data) (values : Items) (held : Option ℕ) → option_and_then as_array (get (codes "calls") value) ≡ Some values → optional limit (codes "held") value ≡ Some held →
    is_known Outer value ≡ true → AreNoneSpelled (items_of values) → IsNoneSpelled (scenario value)
scenario_unspelled value values held is held_is known none =
    subst IsNoneSpelled (sym (scenario_read value values held is held_is known)) (none_of_items held (items_of values) none)

-- a text spells what its value spells
text_spells : (text : List ℕ) (value : Data) (one : Scenario) → read text ≡ Some value → IsSpelled (scenario value) one → Spells text one
text_spells text value one is spelled = (ap (option_and_then scenario) is ∙ spelled.0, spelled.1)

text_spells_none : (text : List ℕ) (value : Data) → read text ≡ Some value → IsNoneSpelled (scenario value) → SpellsNone text
text_spells_none text value is none = subst IsNoneSpelled (sym (ap (option_and_then scenario) is)) none

-- and so what is told of it
pub text_told : (text : List ℕ) (value : Data) (told : Result Scenario ScenarioFault) → read text ≡ Some value →
    MatchResult told (IsSpelled (scenario value)) (λ fault. fault ≢ Memory → IsNoneSpelled (scenario value)) → MatchResult told (Spells text) (λ fault. fault ≢ Memory → SpellsNone text)
text_told text value (Ok one) is told = text_spells text value one is told
text_told text value (Err fault) is told = λ other. text_spells_none text value is (told other)

pub text_is_none : (text : List ℕ) → read text ≡ None → SpellsNone text
text_is_none text is = none_spelled (scenario_of_text text) (ap (option_and_then scenario) is)
