-- What the items and members of a key spell.
use Rattle.std.proofs.Common.{◌≡◌, List, [], ◌∷◌, length, Some, None, option_and_then, slice_get, string_bytes, String, refl, arith}
use Rattle.std.specs.declared.alloc.Global.{Global}
use Rattle.serde_json.specs.Find.{as_array}
use Rattle.serde_json.specs.View.{view, items_view, members_view}
use Rattle.serde_json.specs.declared.value.Value.{Value}
use Rattle.jm_scenario.specs.Key.{durable_of_items, key_of_items, key_of_members, own_of_items}

-- items of another length than three spell no consumer
pub own_of_items-others : (values : List Value) → (length values ≡ 3 → ⊥) → own_of_items (items_view values) ≡ None
own_of_items-others [] other = refl
own_of_items-others (a ∷ []) other = refl
own_of_items-others (a ∷ b ∷ []) other = refl
own_of_items-others (a ∷ b ∷ c ∷ []) other = absurd (other refl)
own_of_items-others (a ∷ b ∷ c ∷ d ∷ values) other = refl

-- items of another length than two spell no durable subscription
pub durable_of_items-others : (values : List Value) → (length values ≡ 2 → ⊥) → durable_of_items (items_view values) ≡ None
durable_of_items-others [] other = refl
durable_of_items-others (a ∷ []) other = refl
durable_of_items-others (a ∷ b ∷ []) other = absurd (other refl)
durable_of_items-others (a ∷ b ∷ c ∷ values) other = refl

-- other than one member spell no key
pub key_of_members-others : (members : List (String Global × Value)) → (length members ≡ 1 → ⊥) → key_of_members (members_view members) ≡ None
key_of_members-others [] other = refl
key_of_members-others (m ∷ []) other = absurd (other refl)
key_of_members-others (m ∷ n ∷ members) other = refl

-- a member alone spells its own key
pub key_of_members-one : (members : List (String Global × Value)) (field : String Global) (value : Value) → length members ≡ 1 → slice_get members 0 ≡ Some (field, value)
    → key_of_members (members_view members) ≡ option_and_then (key_of_items (string_bytes field)) (as_array (view value))
key_of_members-one [] field value one first = absurd (omega arith)
key_of_members-one (m ∷ []) field value one first =
    let same : m ≡ (field, value) = cc in
    rw same refl
key_of_members-one (m ∷ n ∷ members) field value one first = absurd (omega arith)
