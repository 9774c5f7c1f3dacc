-- What is printed to a sink, and when a write of it failed (ours).
use Rattle.std.specs.Prelude.{◌≡◌, ◌⊎◌, ℕ, Bool, true, false, List, Option}
use Rattle.std.specs.Io.{StartsWith}
use Rattle.std.specs.Io.KnownBytes.{Appends}
use Rattle.jm_play.specs.declared.sink.Sink.{Sink}

-- the bytes that a sink's writer holds, where they are known
abbrev pub sink_contents : {W : Type 0} → (W → Option (List ℕ)) → Sink W → Option (List ℕ)
sink_contents contents sink = contents sink.writer

-- a write or a flush of the sink has failed
abbrev pub has_failed : {W : Type 0} → Sink W → Bool
has_failed sink = sink.has_failed

-- all that was written to the sink was flushed
abbrev pub is_flushed : {W : Type 0} → Sink W → Bool
is_flushed sink = sink.is_flushed

-- all of a text is written and flushed, and no write failed
abbrev pub IsPrinted : {W : Type 0} → (W → Option (List ℕ)) → Sink W → Sink W → List ℕ → Type 0
IsPrinted contents old new text =
    Appends (sink_contents contents old) (sink_contents contents new) text × (has_failed new ≡ false) × (is_flushed new ≡ true)

-- a write or the flush failed, and what is written is the beginning of a text
abbrev pub IsCut : {W : Type 0} → (W → Option (List ℕ)) → Sink W → Sink W → List ℕ → Type 0
IsCut contents old new text =
    (front : List ℕ) × StartsWith text front × Appends (sink_contents contents old) (sink_contents contents new) front × (has_failed new ≡ true)

-- a text is printed, and the exit status is that one; or it is cut, and the exit status is 1
abbrev pub Prints : {W : Type 0} → (W → Option (List ℕ)) → Sink W → Sink W → List ℕ → ℕ → ℕ → Type 0
Prints contents old new text wanted status =
    (IsPrinted contents old new text × (status ≡ wanted)) ⊎ (IsCut contents old new text × (status ≡ 1))
