-- What the items of an array spell.
use Rattle.std.proofs.Common.{◌≡◌, List, [], ◌∷◌, length, Bool, true, false, if◌then◌else◌, Option, None, refl}
use Rattle.serde_json.specs.View.{items_view}
use Rattle.serde_json.specs.declared.value.Value.{Value}
use Rattle.jm_base.specs.declared.refusal.MessageFault.TheVariants.{BadName, Memory}
use Rattle.jm_header.specs.declared.content.Settings.{Settings}
use Rattle.jm_fields.specs.Reading.{where_true}
use Rattle.jm_fields.specs.Drafts.{with_three}
use Rattle.jm_fields.specs.Misfits.{misfit_of_items}
use Rattle.jm_fields.specs.Values.{session_of_items}
use Rattle.jm_fields.specs.declared.field.Field.TheVariants.{Session}
use Rattle.jm_fields.specs.declared.misfit.Misfit.TheVariants.{Shape}

-- items of another length than two spell no session
pub session_of_items-others : (values : List Value) → (length values ≡ 2 → ⊥) → session_of_items (items_view values) ≡ None
session_of_items-others [] other = refl
session_of_items-others (a ∷ []) other = refl
session_of_items-others (a ∷ b ∷ []) other = absurd (other refl)
session_of_items-others (a ∷ b ∷ c ∷ values) other = refl

-- nor is it one of the two that is told
pub misfit_of_items-others : (values : List Value) → (length values ≡ 2 → ⊥) → misfit_of_items (items_view values) ≡ Shape Session
misfit_of_items-others [] other = refl
misfit_of_items-others (a ∷ []) other = refl
misfit_of_items-others (a ∷ b ∷ []) other = absurd (other refl)
misfit_of_items-others (a ∷ b ∷ c ∷ values) other = refl

-- items of another length than three spell no property
pub with_three-others : (values : List Value) (draft : Settings) → (length values ≡ 3 → ⊥) → with_three (items_view values) draft ≡ None
with_three-others [] draft other = refl
with_three-others (a ∷ []) draft other = refl
with_three-others (a ∷ b ∷ []) draft other = refl
with_three-others (a ∷ b ∷ c ∷ []) draft other = absurd (other refl)
with_three-others (a ∷ b ∷ c ∷ d ∷ values) draft other = refl

-- a name that may not have that value
pub where_true-bad_name : (test : Bool) (value : Option Settings) → BadName ≡ (if test then Memory else BadName) → where_true test value ≡ None
where_true-bad_name true value e = cc
where_true-bad_name false value e = refl
