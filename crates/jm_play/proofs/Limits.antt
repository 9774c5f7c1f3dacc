-- The limits of held rows that scenarios say.
use Rattle.std.proofs.Common.{◌≡◌, ℕ, Bool, true, false, Option, Some, None, List, refl, subst, codes}
use Rattle.std.specs.Prelude.{◌&&◌, nat_le, IfSome, option_map, option_and_then}
use Rattle.std.proofs.lemmas.Bool.{leb-true}
use Rattle.clap.proofs.WalkLemmas.{both}
use Rattle.serde_json.specs.Data.{Data}
use Rattle.serde_json.specs.Find.{as_array, as_number, as_u64, get}
use Rattle.serde_json.specs.Read.{read}
use Rattle.jm_scenario.specs.Calls.{Spells, items_of, scenario}
use Rattle.jm_fields.specs.Reading.{where_true}
use Rattle.jm_fields.specs.Values.{absent_or, limit, optional}
use Rattle.jm_scenario.specs.declared.item.Item.{Item}
use Rattle.jm_scenario.specs.declared.scenario.Scenario.{Scenario}
use Rattle.jm_words.specs.Words.{IsLimit}

-- what holds of each value that is made of one for which another statement holds
made : {A B : Type 0} (Q : A → Type 0) (P : B → Type 0) (make : A → Option B) (given : Option A) → IfSome given Q
    → ((a : A) → Q a → IfSome (make a) P) → IfSome (option_and_then make given) P
made Q P make None holds each = tt
made Q P make (Some a) holds each = each a holds

any : {A : Type 0} (given : Option A) → IfSome given (λ _. Unit {0})
any None = tt
any (Some a) = tt

-- a number that is kept where it is within the bounds of a limit
within : (n : ℕ) → IfSome (where_true (nat_le 1 n && nat_le n 1000000) (Some n)) IsLimit
within n = go (nat_le 1 n && nat_le n 1000000) refl
  where
    go : (test : Bool) → (nat_le 1 n && nat_le n 1000000) ≡ test → IfSome (where_true test (Some n)) IsLimit
    go false e = tt
    go true e =
        let parts = both _ _ e in
        (leb-true _ _ parts.0, leb-true _ _ parts.1)

-- a limit that a value spells
limit_within : (value : Data) → IfSome (limit value) IsLimit
limit_within value =
    made (λ _. Unit {0}) IsLimit (λ n. where_true (nat_le 1 n && nat_le n 1000000) (Some n)) (option_and_then as_u64 (as_number value))
    (any (option_and_then as_u64 (as_number value))) (λ n _. within n)

-- the limit of a field, where it stands
absent_or_within : (field : Option Data) → IfSome (absent_or limit field) (λ held. IfSome held IsLimit)
absent_or_within None = tt
absent_or_within (Some value) = go (limit value) (limit_within value)
  where
    go : (spelled : Option ℕ) → IfSome spelled IsLimit → IfSome (option_map Some spelled) (λ held. IfSome held IsLimit)
    go None holds = tt
    go (Some n) holds = holds

abbrev with_items : Option ℕ → List Item → Scenario
with_items held items = record { held = held; items = items }

-- the limit of a scenario that a value spells
scenario_within : (value : Data) → IfSome (scenario value) (λ s. IfSome s.held IsLimit)
scenario_within value =
    made (λ _. Unit {0}) (λ s. IfSome s.held IsLimit) _ (option_and_then as_array (get (codes "calls") value)) (any (option_and_then as_array (get (codes "calls") value)))
    (λ values _. made (λ held. IfSome held IsLimit) (λ s. IfSome s.held IsLimit) _ (optional limit (codes "held") value) (absent_or_within (get (codes "held") value))
    (λ held holds. kept _ held (items_of values) holds))
  where
    kept : (known : Bool) (held : Option ℕ) (items : Option (List Item)) → IfSome held IsLimit
        → IfSome (where_true known (option_map (with_items held) items)) (λ s. IfSome s.held IsLimit)
    kept false held items holds = tt
    kept true held None holds = tt
    kept true held (Some items) holds = holds

-- and of one that a text spells
pub scenario_limit : (text : List ℕ) (s : Scenario) → Spells text s → IfSome s.held IsLimit
scenario_limit text s is =
    subst (λ spelled. IfSome spelled (λ s. IfSome s.held IsLimit)) is.0
    (made (λ _. Unit {0}) (λ s. IfSome s.held IsLimit) scenario (read text) (any (read text)) (λ value _. scenario_within value))
