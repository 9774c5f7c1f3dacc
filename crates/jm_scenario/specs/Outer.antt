-- What is read of the outer object of a scenario.
use Rattle.std.specs.Prelude.{◌≡◌, ◌++◌, [], ◌∷◌, Option, Some, None, option_map, option_and_then, is_none, MatchOption, MatchResult, Result, Ok, Err, Vec, false, codes}
use Rattle.std.specs.Global.{Global}
use Rattle.serde_json.specs.Data.{Data, Items, Members}
use Rattle.serde_json.specs.Find.{as_array, get_member}
use Rattle.serde_json.specs.View.{view}
use Rattle.jm_scenario.specs.Calls.{AreNoneSpelled, AreSpelled, item_of, items_of, where_in_place}
use Rattle.jm_fields.specs.Fields.{has_each}
use Rattle.jm_scenario.specs.Items.{is_forked_behind}
use Rattle.jm_fields.specs.declared.field.Owner.TheVariants.{Scenario as OfScenario}
use Rattle.jm_scenario.specs.declared.item.Item.{Item}
use Rattle.jm_scenario.specs.declared.outer.Outer.{Outer}
use Rattle.jm_scenario.specs.declared.records.Records.{Records}
use Rattle.jm_scenario.specs.declared.scenario.ScenarioFault.{ScenarioFault}

-- the items that the values of an array spell, which have their places; or a fault where none such are spelled
abbrev pub IsTold : Items → Result (Vec Item Global) ScenarioFault → Type 0
IsTold values told = MatchResult told (λ items. AreSpelled (items_of values) items.items) (λ fault. AreNoneSpelled (items_of values))

-- the same of an array, where it is one
abbrev pub AreCalls : Option Items → Option (Result (Vec Item Global) ScenarioFault) → Type 0
AreCalls found calls = MatchOption calls (found ≡ None) (λ told. (values : Items) × (found ≡ Some values) × IsTold values told)

-- one more record is read: behind items that have their places it spells one more that has, or there is a fault from then on
abbrev pub AddsRecord : Data → Records → Records → Type 0
AddsRecord value old new =
    MatchOption old.fault
    (MatchOption new.fault
    ((one : Item) × (where_in_place old.is_forked (item_of value) ≡ Some one) × (new.items.items ≡ old.items.items ++ one ∷ []) × (new.is_forked ≡ is_forked_behind old.is_forked one))
    (λ fault. where_in_place old.is_forked (item_of value) ≡ None))
    (λ fault. is_none new.fault ≡ false)

-- the items, or the fault where there is one
abbrev pub Tells : Records → Result (Vec Item Global) ScenarioFault → Type 0
Tells records told = MatchOption records.fault (told ≡ Ok records.items) (λ fault. told ≡ Err fault)

-- what is read of an object that has those members
pub record Describes (found : Members) (outer : Outer) : Type 0 where
  pub held : get_member (codes "held") found ≡ option_map view outer.held
  pub known : has_each OfScenario found ≡ is_none outer.unknown
  pub calls : AreCalls (option_and_then as_array (get_member (codes "calls") found)) outer.calls

-- a field that is not known stands now, and all else is as before
pub record KeepsUnknown (old new : Outer) : Type 0 where
  pub held : new.held ≡ old.held
  pub unknown : is_none new.unknown ≡ false
  pub calls : new.calls ≡ old.calls
