-- What it means that a rule reads exactly the values of some fields.
use Rattle.std.specs.Prelude.{◌≡◌, ℕ, ◌≤◌, List, ◌++◌, length, take, Ok, Err}
use Rattle.std.specs.List.{concat}
use Rattle.jm_format.specs.Messages.{AreBytes}
use Rattle.jm_format.specs.Reading.{Outcome, Rule}

-- what a rule leaves: the bytes after the value, or those from the bad field on
abbrev pub left_of : {A : Type 0} → Outcome A → List ℕ
left_of (Ok read) = read.1
left_of (Err left) = left

-- The rule reads exactly the values that are valid, by their fields:
-- what is read is valid, and its fields stand in front (takes); what is spelled so is read (again); there is a
-- value (some); where the rule stops, whole fields of some value stand in front (stops); and no more fields of
-- any value do than the rule passes (longest).
pub record IsRead {A : Type 0} (Valid : A → Type 0) (fields : A → List (List ℕ)) (rule : Rule A) : Type 0 where
  pub takes : (bytes : List ℕ) (value : A) (rest : List ℕ) → AreBytes bytes → rule bytes ≡ Ok (value, rest) → Valid value × (bytes ≡ concat (fields value) ++ rest)
  pub again : (value : A) (rest : List ℕ) → Valid value → rule (concat (fields value) ++ rest) ≡ Ok (value, rest)
  pub some : (value : A) × Valid value
  pub stops : (bytes left : List ℕ) → AreBytes bytes → rule bytes ≡ Err left → (value : A) × (count : ℕ) × Valid value × (bytes ≡ concat (take count (fields value)) ++ left)
  pub longest : (bytes : List ℕ) (value : A) (count : ℕ) (rest : List ℕ) → AreBytes bytes → Valid value → bytes ≡ concat (take count (fields value)) ++ rest → length (left_of (rule bytes)) ≤ length rest
