use Rattle.std.proofs.Common.{◌≡◌, ◌∙◌, ◌∷◌, [], Some, None, string_bytes, sym, ap, ap₂, arith, rules}
use Rattle.json.specs.Token.{Token}
use Rattle.json.specs.Json.{after_end_array, read_key, value}
use Rattle.json.specs.Reads.{token_of}
use Rattle.json.proofs.Grammar.{value_is}
use Rattle.serde_json.specs.Data.{boolean, item, no_items, null, number, put, string}
use Rattle.serde_json.specs.Read.{converted, of_json}
use Rattle.serde_json.specs.View.{members_view, number_view, view}
use Rattle.serde_json.specs.declared.value.Value.{Bool, Null, Number, String, the_lemmas}
use Rattle.serde_json.proofs.Views.{members_view-insert_entry, view-Array, view-Object}
use Rattle.jm_scenario.proofs.Loops.{array_read, array_refused, before, before_more, before_none, items_begin, items_done, items_next, items_refused, members_begin, members_done, members_next, members_refused, members_unnamed, object_read, object_refused}
use Rattle.jm_scenario.proofs.parsed.+next_value.Goals as goal

pub next_value-returns-in_default-clause-value : goal.next_value-returns-in_default-clause-value
next_value-returns-in_default-clause-value t c never =
    let empty : c.args.reader.now ≡ [] = grind arith in
    ap (converted of_json) (ap (value c.args.depth) empty ∙ value_is c.args.depth [])

pub next_value-returns-in_ok-from_str-in-String-clause-value : goal.next_value-returns-in_ok-from_str-in-String-clause-value
next_value-returns-in_ok-from_str-in-String-clause-value t c =
    let first : c.args.reader.now ≡ token_of c.in-Some.token ∷ c.next.new.self = grind arith in
    let is : c.args.reader.now ≡ Token.string c.in-String.text.now ∷ c.next.new.self = grind (arith, first) in
    let seen : view (String c.in_ok-from_str-in-String.field-0) ≡ string c.in-String.text.now = search (rules, the_lemmas) in
    ap (converted of_json) (ap (value c.args.depth) is ∙ value_is c.args.depth _) ∙ ap (λ d. Some (d, c.next.new.self)) (sym seen)

pub next_value-returns-in-Bool-clause-value : goal.next_value-returns-in-Bool-clause-value
next_value-returns-in-Bool-clause-value t c =
    let first : c.args.reader.now ≡ token_of c.in-Some.token ∷ c.next.new.self = grind arith in
    let is : c.args.reader.now ≡ Token.boolean c.in-Bool.truth ∷ c.next.new.self = grind (arith, first) in
    let seen : view (Bool c.in-Bool.truth) ≡ boolean c.in-Bool.truth = search (rules, the_lemmas) in
    ap (converted of_json) (ap (value c.args.depth) is ∙ value_is c.args.depth _) ∙ ap (λ d. Some (d, c.next.new.self)) (sym seen)

pub next_value-returns-in-Null-clause-value : goal.next_value-returns-in-Null-clause-value
next_value-returns-in-Null-clause-value t c =
    let first : c.args.reader.now ≡ token_of c.in-Some.token ∷ c.next.new.self = grind arith in
    let is : c.args.reader.now ≡ Token.null ∷ c.next.new.self = grind (arith, first) in
    let seen : view (Null) ≡ null = search (rules, the_lemmas) in
    ap (converted of_json) (ap (value c.args.depth) is ∙ value_is c.args.depth _) ∙ ap (λ d. Some (d, c.next.new.self)) (sym seen)

pub next_value-returns-in-Some-number-clause-value : goal.next_value-returns-in-Some-number-clause-value
next_value-returns-in-Some-number-clause-value t c =
    let first : c.args.reader.now ≡ token_of c.in-Some.token ∷ c.next.new.self = grind arith in
    let is : c.args.reader.now ≡ Token.number c.in-Number.text.now ∷ c.next.new.self = grind (arith, first) in
    let seen : view (Number c.in-Some-number.number) ≡ number (number_view c.in-Some-number.number) = search (rules, the_lemmas) in
    ap (converted of_json) (ap (value c.args.depth) is ∙ value_is c.args.depth _) ∙ rw (← c.in-Some-number.ensures, seen)

pub next_value-returns-in-None-clause-value : goal.next_value-returns-in-None-clause-value
next_value-returns-in-None-clause-value t c refused =
    let first : c.args.reader.now ≡ token_of c.in-Some.token ∷ c.next.new.self = grind arith in
    let is : c.args.reader.now ≡ Token.number c.in-Number.text.now ∷ c.next.new.self = grind (arith, first) in
    ap (converted of_json) (ap (value c.args.depth) is ∙ value_is c.args.depth _) ∙ rw (← c.in-None.ensures)

pub next_value-returns-then-depth-eq0-clause-value : goal.next_value-returns-then-depth-eq0-clause-value
unfolding value
next_value-returns-then-depth-eq0-clause-value t c never =
    let first : c.args.reader.now ≡ token_of c.in-Some.token ∷ c.next.new.self = grind arith in
    let none : c.args.depth ≡ 0 = omega arith in
    ap (converted of_json) (ap₂ value none (first ∙ ap (λ k. token_of k ∷ c.next.new.self) c.in-BeginArray.is))

pub next_value-returns-then-depth-eq0-2-clause-value : goal.next_value-returns-then-depth-eq0-2-clause-value
unfolding value
next_value-returns-then-depth-eq0-2-clause-value t c never =
    let first : c.args.reader.now ≡ token_of c.in-Some.token ∷ c.next.new.self = grind arith in
    let none : c.args.depth ≡ 0 = omega arith in
    ap (converted of_json) (ap₂ value none (first ∙ ap (λ k. token_of k ∷ c.next.new.self) c.in-BeginObject.is))

pub next_value-returns-in_err-next_items-in-BeginArray-clause-value : goal.next_value-returns-in_err-next_items-in-BeginArray-clause-value
next_value-returns-in_err-next_items-in-BeginArray-clause-value t c =
    let first : c.args.reader.now ≡ Token.begin_array ∷ c.next.new.self = grind arith in
    let refused = array_refused c.args.depth c.next.new.self (omega arith) in
    rw first (search (rules, refused))

pub next_value-returns-in_err-next_members-in-BeginObject-clause-value : goal.next_value-returns-in_err-next_members-in-BeginObject-clause-value
next_value-returns-in_err-next_members-in-BeginObject-clause-value t c =
    let first : c.args.reader.now ≡ Token.begin_object ∷ c.next.new.self = grind arith in
    let refused = object_refused c.args.depth c.next.new.self (omega arith) in
    rw first (search (rules, refused))

pub next_value-returns-in_ok-next_items-in-BeginArray-clause-value : goal.next_value-returns-in_ok-next_items-in-BeginArray-clause-value
next_value-returns-in_ok-next_items-in-BeginArray-clause-value t c =
    let first : c.args.reader.now ≡ Token.begin_array ∷ c.next.new.self = grind arith in
    let found = c.in_ok-next_items-in-BeginArray in
    ap (λ ts. converted of_json (value c.args.depth ts)) first ∙ array_read c.args.depth c.next.new.self c.next_items.new.reader _ (omega arith) found.ensures.value
    ∙ ap (λ d. Some (d, c.next_items.new.reader)) (sym (view-Array found.field-0))

pub next_value-returns-in_ok-next_members-in-BeginObject-clause-value : goal.next_value-returns-in_ok-next_members-in-BeginObject-clause-value
next_value-returns-in_ok-next_members-in-BeginObject-clause-value t c =
    let first : c.args.reader.now ≡ Token.begin_object ∷ c.next.new.self = grind arith in
    let found = c.in_ok-next_members-in-BeginObject in
    ap (λ ts. converted of_json (value c.args.depth ts)) first ∙ object_read c.args.depth c.next.new.self c.next_members.new.reader _ (omega arith) found.ensures.value
    ∙ ap (λ d. Some (d, c.next_members.new.reader)) (sym (view-Object found.field-0))

pub next_value-returns-in-EndObject-clause-value : goal.next_value-returns-in-EndObject-clause-value
next_value-returns-in-EndObject-clause-value t c never =
    let first : c.args.reader.now ≡ token_of c.in-Some.token ∷ c.next.new.self = grind arith in
    let none : value c.args.depth c.args.reader.now ≡ None = rw (value_is c.args.depth c.args.reader.now, first) (grind arith) in
    ap (converted of_json) none

pub next_items-items-init : goal.next_items-items-init
next_items-items-init t c =
    (λ rest. rest, items_begin (value c.args.depth) c.args.reader.now, λ rest. ap (λ values. before values rest) (sym c.new-found.ensures.items))

pub next_items-returns-in_err-next_value-clause-value : goal.next_items-returns-in_err-next_value-clause-value
next_items-returns-in_err-next_value-clause-value t c =
    let l = c.items in
    let going : (after_end_array l.reader ≡ None) × (c.take_end_array.new.self ≡ l.reader) = grind arith in
    let refused = items_refused (value c.args.depth) c.args.reader.now l.reader l.invariant.0 l.invariant.1 going.0 in
    search (rules, refused, going)

pub next_items-items-preserved : goal.next_items-items-preserved
next_items-items-preserved t c =
    let l = c.items in
    let front = l.invariant.0 in
    let going : (after_end_array l.reader ≡ None) × (c.take_end_array.new.self ≡ l.reader) = grind arith in
    let read = c.in_ok-next_value.ensures in
    let one = c.in_ok-next_value.field-0 in (
      λ rest. front (item (view one) rest),
      items_next (value c.args.depth) c.args.reader.now l.reader c.next_value.new.reader front (view one) l.invariant.1 going.0 (rw (← going.1) read.value) (rw (← going.1) read.shorter),
      λ rest. l.invariant.2 (item (view one) rest) ∙ before_more l.found.items one rest ∙ ap (λ values. before values rest) (sym c.in_ok-push.ensures.items),
    )

pub next_items-returns-clause-value : goal.next_items-returns-clause-value
next_items-returns-clause-value t c =
    let l = c.items in
    let r = c.take_end_array.new.self in
    let over : after_end_array l.reader ≡ Some r = grind arith in
    items_done (value c.args.depth) c.args.reader.now l.reader r l.invariant.0 l.invariant.1 over ∙ ap (λ found. Some (found, r)) (l.invariant.2 no_items ∙ before_none l.found.items)

pub next_members-members-init : goal.next_members-members-init
next_members-members-init t c = rw c.new-found.ensures.empty (members_begin (value c.args.depth) c.args.reader.now)

pub next_members-returns-in_err-name-clause-value : goal.next_members-returns-in_err-name-clause-value
next_members-returns-in_err-name-clause-value t c =
    let l = c.members in
    let none = members_unnamed (value c.args.depth) c.args.reader.now l.reader (members_view l.found.entries) l.invariant c.in_err-name.ensures.value in
    search (rules, none)

pub next_members-returns-in_err-value-clause-value : goal.next_members-returns-in_err-value-clause-value
next_members-returns-in_err-value-clause-value t c =
    let l = c.members in
    let name = c.in-Some.name.now in
    let key : read_key l.reader ≡ Some (Some name, c.next_key.new.self) = grind arith in
    let none = members_refused (value c.args.depth) c.args.reader.now l.reader c.next_key.new.self (members_view l.found.entries) name l.invariant key in
    search (rules, none)

pub next_members-members-preserved : goal.next_members-members-preserved
next_members-members-preserved t c =
    let l = c.members in
    let name = c.in-Some.name.now in
    let key : read_key l.reader ≡ Some (Some name, c.next_key.new.self) = grind arith in
    let read = c.in_ok-value.ensures in
    let one = c.in_ok-value.value in
    let copied : string_bytes c.in_ok-key.key ≡ name = search rules in
    let added : members_view c.insert.new.self.entries ≡ put name (view one) (members_view l.found.entries) =
    ap members_view c.in_ok-insert.ensures.entries ∙ members_view-insert_entry l.found.entries c.in_ok-key.key one ∙ ap (λ k. put k (view one) (members_view l.found.entries)) copied in
    rw added (members_next (value c.args.depth) c.args.reader.now l.reader c.next_key.new.self c.next_value.new.reader (members_view l.found.entries) name (view one) l.invariant key read.value read.shorter)

pub next_members-returns-clause-value : goal.next_members-returns-clause-value
next_members-returns-clause-value t c =
    let l = c.members in
    let key : read_key l.reader ≡ Some (None, c.next_key.new.self) = grind arith in
    members_done (value c.args.depth) c.args.reader.now l.reader c.next_key.new.self (members_view l.found.entries) l.invariant key
