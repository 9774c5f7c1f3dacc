use Rattle.std.proofs.Common.{◌≡◌, None, arith, rules, string_bytes}
use Rattle.std.specs.Prelude.{option_and_then}
use Rattle.serde_json.specs.Find.{as_array}
use Rattle.serde_json.specs.View.{view, members_view}
use Rattle.jm_scenario.proofs.Keys.{key_of_members-one, key_of_members-others}
use Rattle.jm_scenario.specs.Key.{key_of_items, key_of_members}
use Rattle.jm_scenario.proofs.key.key.Goals as goal

pub returns-then-len-ne1 : goal.returns-then-len-ne1
returns-then-len-ne1 c =
    let entries = c.in-Some.members.now.entries in
    let none : key_of_members (members_view entries) ≡ None = key_of_members-others entries (λ e. omega arith) in
    search rules

pub returns-in-Some-as_array : goal.returns-in-Some-as_array
returns-in-Some-as_array c =
    let entries = c.in-Some.members.now.entries in
    let found = c.in-Some-first_key_value in
    let one : key_of_members (members_view entries) ≡ option_and_then (key_of_items (string_bytes found.field.now)) (as_array (view found.value.now)) =
    key_of_members-one entries found.field.now found.value.now (omega arith) (search rules) in
    search rules

pub returns-in-None : goal.returns-in-None
returns-in-None c =
    let entries = c.in-Some.members.now.entries in
    let found = c.in-Some-first_key_value in
    let one : key_of_members (members_view entries) ≡ option_and_then (key_of_items (string_bytes found.field.now)) (as_array (view found.value.now)) =
    key_of_members-one entries found.field.now found.value.now (omega arith) (search rules) in
    search rules
