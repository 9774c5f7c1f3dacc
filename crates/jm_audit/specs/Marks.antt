-- What an audit under way has marked.
use Rattle.std.specs.Prelude.{◌≡◌, ℕ, ◌+◌, ◌-◌, ◌<◌, ◌≤◌, ◌⊎◌, List, length, Bool, true, false, Some, slice_get, slice_index_or}
use Rattle.jm_audit.specs.declared.pass.PassEntry.{PassEntry}
use Rattle.jm_audit.specs.declared.audit.Judged.{Judged}
use Rattle.jm_audit.specs.declared.audit.Judged.TheVariants.{Over, Good, Bad}
use Rattle.jm_audit.specs.Passes.{Calls}
use Rattle.jm_audit.specs.Audit.{Segment, IsCounted, Stands, Before}

abbrev pub mark : List Bool → ℕ → Bool
mark marks p = slice_index_or marks p false

-- an entry before place j of pass i has this position
pub record Seen (passes : List Calls) (i j m : ℕ) : Type 0 where
  pub h : ℕ
  pub k : ℕ
  pub entry : PassEntry
  pub before : Before i j h k
  pub stands : Stands passes h k entry
  pub at : entry.position ≡ m

-- the marks are the positions of the entries before place j of pass i
pub record MarksFor (s : Segment) (passes : List Calls) (i j : ℕ) (marks : List Bool) : Type 0 where
  pub len : length marks ≡ length s.events
  pub sound : (p : ℕ) → mark marks p ≡ true → Seen passes i j (s.first + p)
  pub complete : (h k : ℕ) (e : PassEntry) → Before i j h k → Stands passes h k e → IsCounted s e → mark marks (e.position - s.first) ≡ true

-- an entry to be marked: it fits what was seen
pub record IsGood (s : Segment) (marks : List Bool) (floor at : ℕ) (e : PassEntry) : Type 0 where
  pub counted : IsCounted s e
  pub at_is : e.position ≡ s.first + at
  pub within : at < length s.events
  pub stands : slice_get s.events at ≡ Some e.event
  pub above : floor ≤ e.position
  pub free : mark marks at ≡ false

-- one that does not fit
pub record IsBad (s : Segment) (marks : List Bool) (floor : ℕ) (e : PassEntry) : Type 0 where
  pub counted : IsCounted s e
  pub why : (slice_get s.events (e.position - s.first) ≡ Some e.event → ⊥) ⊎ ((e.position < floor) ⊎ (mark marks (e.position - s.first) ≡ true))

-- how the entry is to be judged, where the pass's entries before it were below the floor
abbrev pub Judges : Segment → List Bool → ℕ → PassEntry → Judged → Type 0
Judges s marks floor e Over = IsCounted s e → ⊥
Judges s marks floor e (Good at) = IsGood s marks floor at e
Judges s marks floor e Bad = IsBad s marks floor e
