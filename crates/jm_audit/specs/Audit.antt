-- When a segment of a trace and the passes of its callers agree, and which fault comes first where they do not.
use Rattle.std.specs.Prelude.{◌≡◌, ◌≢◌, ℕ, ◌+◌, ◌-◌, ◌<◌, ◌≤◌, ◌⊎◌, List, length, Bool, false, Some, slice_get, slice_index_or}
use Rattle.jm_machine.specs.declared.entry.Event.{Event}
use Rattle.jm_audit.specs.declared.pass.PassEntry.{PassEntry}
use Rattle.jm_audit.specs.declared.audit.FinishFault.{FinishFault}
use Rattle.jm_audit.specs.declared.audit.FinishFault.TheVariants.{Mismatch, Memory}
use Rattle.jm_audit.specs.Passes.{Calls, no_calls}

-- the entries of the pass of that number, from 0; none where there are not so many passes
abbrev pub pass_at : List Calls → ℕ → List PassEntry
pass_at passes i = (slice_index_or passes i no_calls).entries

-- the entry stands at place j of pass i
abbrev pub Stands : List Calls → ℕ → ℕ → PassEntry → Type 0
Stands passes i j e = slice_get (pass_at passes i) j ≡ Some e

-- place k of pass h comes before place j of pass i
abbrev pub Before : ℕ → ℕ → ℕ → ℕ → Type 0
Before i j h k = (h < i) ⊎ ((h ≡ i) × (k < j))

-- a segment of a trace: the position of its first event, its events, and whether it is the last
pub record Segment : Type 0 where
  pub first : ℕ
  pub events : List Event
  pub is_last : Bool

abbrev pub segment : ℕ → List Event → Bool → Segment
segment first events is_last = record { first = first; events = events; is_last = is_last }

-- the entry is not passed over: its position is not below the segment, and past its end only where it is the last
pub record IsCounted (s : Segment) (e : PassEntry) : Type 0 where
  pub from_first : s.first ≤ e.position
  pub to_end : s.is_last ≡ false → e.position < s.first + length s.events

-- the entry e at place j of pass i has its event in the segment, is above those before it in its pass, and no earlier pass
-- has its position
pub record Fits (s : Segment) (passes : List Calls) (i j : ℕ) (e : PassEntry) : Type 0 where
  pub stands : slice_get s.events (e.position - s.first) ≡ Some e.event
  pub rises : (k : ℕ) (d : PassEntry) → k < j → Stands passes i k d → IsCounted s d → d.position < e.position
  pub alone : (h k : ℕ) (d : PassEntry) → h < i → Stands passes h k d → d.position ≢ e.position

-- all entries before place j of pass i that are not passed over fit
abbrev pub FitsBefore : Segment → List Calls → ℕ → ℕ → Type 0
FitsBefore s passes i j = (h k : ℕ) (e : PassEntry) → Before i j h k → Stands passes h k e → IsCounted s e → Fits s passes h k e

-- some entry has this position
pub record SomeHas (passes : List Calls) (m : ℕ) : Type 0 where
  pub i : ℕ
  pub j : ℕ
  pub entry : PassEntry
  pub stands : Stands passes i j entry
  pub at : entry.position ≡ m

-- place j of pass i has the first entry that does not fit
pub record IsFirstFault (s : Segment) (passes : List Calls) (i j : ℕ) : Type 0 where
  pub entry : PassEntry
  pub stands : Stands passes i j entry
  pub counted : IsCounted s entry
  pub bad : Fits s passes i j entry → ⊥
  pub before : FitsBefore s passes i j

-- all entries fit, and m is the first position of the segment that no pass has; i is the number of passes
pub record IsFirstGap (s : Segment) (passes : List Calls) (i m : ℕ) : Type 0 where
  pub after_all : i ≡ length passes
  pub fit : FitsBefore s passes (length passes) 0
  pub from_first : s.first ≤ m
  pub to_end : m < s.first + length s.events
  pub missing : SomeHas passes m → ⊥
  pub others : (n : ℕ) → s.first ≤ n → n < m → SomeHas passes n

-- what an audit answers where it finds a fault: the first entry that does not fit, in the order of passes and entries; where
-- all fit, the first position that no pass has; or that memory was wanted
abbrev pub IsFault : Segment → List Calls → FinishFault → Type 0
IsFault s passes Memory = Unit {0}
IsFault s passes (Mismatch i m) = IsFirstFault s passes i m ⊎ IsFirstGap s passes i m

-- the segment and the passes agree: each entry fits, and each position is some entry's
pub record Agree (s : Segment) (passes : List Calls) : Type 0 where
  pub fit : FitsBefore s passes (length passes) 0
  pub all : (m : ℕ) → s.first ≤ m → m < s.first + length s.events → SomeHas passes m

-- just one entry of all passes has this position, and it has the event that stands there
pub record IsOnce (s : Segment) (passes : List Calls) (m : ℕ) : Type 0 where
  pub some : SomeHas passes m
  pub event_is : slice_get s.events (m - s.first) ≡ Some some.entry.event
  pub only : (h k : ℕ) (d : PassEntry) → Stands passes h k d → d.position ≡ m → (h ≡ some.i) × (k ≡ some.j)

-- each position of the segment stands in just one entry of all passes
abbrev pub EachOnce : Segment → List Calls → Type 0
EachOnce s passes = (m : ℕ) → s.first ≤ m → m < s.first + length s.events → IsOnce s passes m

-- in each pass the positions rise from entry to entry, of those that are not passed over
abbrev pub Rise : Segment → List Calls → Type 0
Rise s passes =
    (i j k : ℕ) (d e : PassEntry) → k < j → Stands passes i k d → Stands passes i j e → IsCounted s d → IsCounted s e → d.position < e.position
