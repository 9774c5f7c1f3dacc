-- What the records of an array spell, one after another.
use Rattle.std.proofs.Common.{◌≡◌, ◌++◌, List, [], ◌∷◌, Bool, false, Option, Some, None, Result, Ok, Err, Vec, sym, subst}
use Rattle.std.specs.Prelude.{MatchOption, is_none}
use Rattle.std.specs.Global.{Global}
use Rattle.serde_json.specs.Data.{Data, Items, no_items, item}
use Rattle.jm_scenario.proofs.Places.{IsRead, read_begin, read_end, read_more, read_none}
use Rattle.jm_scenario.specs.Calls.{AreNoneSpelled, item_of, items_of, where_in_place}
use Rattle.jm_scenario.specs.Items.{is_forked_behind}
use Rattle.jm_scenario.specs.Outer.{AddsRecord, IsTold, Tells}
use Rattle.jm_scenario.specs.declared.item.Item.{Item}
use Rattle.jm_scenario.specs.declared.records.Records.{Records}
use Rattle.jm_scenario.specs.declared.scenario.ScenarioFault.{ScenarioFault}

-- whatever values follow those before them: the items so far are spelled, or none are
abbrev State : (Items → Items) → Option ScenarioFault → Bool → List Item → Type 0
State front None is_forked done = (rest : Items) → IsRead (items_of (front rest)) is_forked done rest
State front (Some fault) is_forked done = (rest : Items) → AreNoneSpelled (items_of (front rest))

abbrev pub AreRecorded : (Items → Items) → Records → Type 0
AreRecorded front records = State front records.fault records.is_forked records.items.items

pub recorded_begin : (records : Records) → records.items.items ≡ [] → records.fault ≡ None → records.is_forked ≡ false → AreRecorded (λ rest. rest) records
recorded_begin records empty whole closed =
    subst (λ fault. State (λ rest. rest) fault records.is_forked records.items.items) (sym whole)
    (subst (λ is_forked. State (λ rest. rest) None is_forked records.items.items) (sym closed) (subst (State (λ rest. rest) None false) (sym empty) read_begin))

next : (front : Items → Items) (value : Data) (before after : Option ScenarioFault) (is_forked behind : Bool) (done more : List Item) → State front before is_forked done →
    MatchOption before (MatchOption after ((one : Item) × (where_in_place is_forked (item_of value) ≡ Some one) × (more ≡ done ++ one ∷ []) × (behind ≡ is_forked_behind is_forked one))
    (λ fault. where_in_place is_forked (item_of value) ≡ None)) (λ fault. is_none after ≡ false) → State (λ rest. front (item value rest)) after behind more
next front value None None is_forked behind done more state added =
    λ rest. subst (λ items. IsRead (items_of (front (item value rest))) behind items rest) (sym added.2)
    (subst (λ f. IsRead (items_of (front (item value rest))) f (done ++ added.0 ∷ []) rest) (sym added.3)
    (read_more (items_of (front (item value rest))) is_forked done value rest added.0 (state (item value rest)) added.1))
next front value None (Some fault) is_forked behind done more state added =
    λ rest. read_none (items_of (front (item value rest))) is_forked done value rest (state (item value rest)) added
next front value (Some fault) None is_forked behind done more state added = absurd (cc)
next front value (Some fault) (Some same) is_forked behind done more state added = λ rest. state (item value rest)

pub recorded_next : (front : Items → Items) (value : Data) (old new : Records) → AreRecorded front old → AddsRecord value old new → AreRecorded (λ rest. front (item value rest)) new
recorded_next front value old new = next front value old.fault new.fault old.is_forked new.is_forked old.items.items new.items.items

told : (front : Items → Items) (fault : Option ScenarioFault) (is_forked : Bool) (items : Vec Item Global) (result : Result (Vec Item Global) ScenarioFault) → State front fault is_forked items.items →
    MatchOption fault (result ≡ Ok items) (λ one. result ≡ Err one) → IsTold (front no_items) result
told front None is_forked items result state tells =
    subst (IsTold (front no_items)) (sym tells) (read_end (items_of (front no_items)) is_forked items.items (state no_items))
told front (Some fault) is_forked items result state tells = subst (IsTold (front no_items)) (sym tells) (state no_items)

pub recorded_told : (front : Items → Items) (records : Records) (result : Result (Vec Item Global) ScenarioFault) → AreRecorded front records → Tells records result → IsTold (front no_items) result
recorded_told front records result = told front records.fault records.is_forked records.items result
