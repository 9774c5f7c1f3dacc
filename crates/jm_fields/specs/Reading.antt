-- When a reading is what a value spells.
use Rattle.std.specs.Prelude.{◌≡◌, ◌≢◌, Option, Some, None, Result, MatchResult, Bool, if◌then◌else◌}
use Rattle.jm_fields.specs.declared.misfit.Misfit.{Misfit}
use Rattle.jm_fields.specs.declared.misfit.Misfit.TheVariants.{Memory}

-- what is read of a field is what it spells, exactly where it spells something
abbrev pub ReadsExactly : {T : Type 0} → Result T Misfit → Option T → Type 0
ReadsExactly result spelled = MatchResult result (λ read. spelled ≡ Some read) (λ misfit. (misfit ≢ Memory) × (spelled ≡ None))

-- the same, or memory was refused
abbrev pub Reads : {T : Type 0} → Result T Misfit → Option T → Type 0
Reads result spelled = MatchResult result (λ read. spelled ≡ Some read) (λ misfit. misfit ≢ Memory → spelled ≡ None)

-- a value that was changed is what is spelled, exactly where that is something; else it is as before
abbrev pub LeavesExactly : {T V : Type 0} → Result T Misfit → V → V → Option V → Type 0
LeavesExactly result before after spelled = MatchResult result (λ _. spelled ≡ Some after) (λ misfit. (after ≡ before) × (misfit ≢ Memory) × (spelled ≡ None))

-- the same, or memory was refused
abbrev pub Leaves : {T V : Type 0} → Result T Misfit → V → V → Option V → Type 0
Leaves result before after spelled = MatchResult result (λ _. spelled ≡ Some after) (λ misfit. (after ≡ before) × (misfit ≢ Memory → spelled ≡ None))

-- the same of a value that is changed in several steps: those before the one that was refused may be done
abbrev pub Makes : {T V : Type 0} → Result T Misfit → V → Option V → Type 0
Makes result after spelled = MatchResult result (λ _. spelled ≡ Some after) (λ misfit. misfit ≢ Memory → spelled ≡ None)

-- the value, where the test holds
abbrev pub where_true : {T : Type 0} → Bool → Option T → Option T
where_true test value = if test then value else None
