-- What is stored, and what a change makes of it.
use Rattle.std.specs.Prelude.{ℕ, Bool, ◌&&◌, ◌==◌, List, fold, Option, Some, None, option_map, if◌then◌else◌, ◌<◌, ◌⊎◌, ◌≡◌, ◌^◌, ◌-◌}
use Rattle.jm_dest.specs.declared.key.Key.{Key}
use Rattle.jm_dest.specs.Keys.{key_eq}
use Rattle.jm_machine.specs.declared.state.Definition.{Definition}
use Rattle.jm_keep.specs.declared.change.RowChange.{RowChange}
use Rattle.jm_keep.specs.declared.change.RowChange.TheVariants.{DropHeld, DropMessage, DropStation, PutStation, PutMessage, PutHeld, SetCount, DropDelay, PutDelay}

-- what is stored: what the durable subscription of a key asks for, how often the message at a place was delivered under a
-- key that holds it, the record of the message at a place, and its delivery time, where it has a delay. In which order it
-- was put there does not show
pub record Stored : Type 0 where
  pub definition : Key → Option Definition
  pub count : Key → ℕ → Option ℕ
  pub message : ℕ → Option (List ℕ)
  pub due : ℕ → Option ℕ

-- nothing is stored
abbrev pub nothing : Stored
nothing = record { definition = λ key. None; count = λ key place. None; message = λ place. None; due = λ place. None }

-- the row of the key at the place is meant
abbrev pub is_at : Key → ℕ → Key → ℕ → Bool
is_at key place k p = key_eq key k && (place == p)

-- what the subscription of the key asks for after a change; a queue's station shows nowhere
abbrev pub definition_after : Key → Option Definition → RowChange → Option Definition
definition_after k d (DropStation key) = if key_eq key k then None else d
definition_after k d (PutStation key None) = d
definition_after k d (PutStation key (Some new)) = if key_eq key k then Some new else d
definition_after k d _ = d

-- the count under the key at the place after it
abbrev pub count_after : Key → ℕ → Option ℕ → RowChange → Option ℕ
count_after k p n (DropHeld key place) = if is_at key place k p then None else n
count_after k p n (PutHeld key place) = if is_at key place k p then Some 0 else n
count_after k p n (SetCount key place count) = if is_at key place k p then option_map (λ _. count) n else n
count_after k p n _ = n

-- the record of the message at the place after it
abbrev pub message_after : ℕ → Option (List ℕ) → RowChange → Option (List ℕ)
message_after p b (DropMessage place) = if place == p then None else b
message_after p b (PutMessage place bytes) = if place == p then Some bytes else b
message_after p b _ = b

-- the delivery time of the message at the place after it
abbrev pub due_after : ℕ → Option ℕ → RowChange → Option ℕ
due_after p d (DropDelay place) = if place == p then None else d
due_after p d (PutDelay place due) = if place == p then Some due else d
due_after p d _ = d

-- what is stored after a change
abbrev pub changed : Stored → RowChange → Stored
changed s change = record {
  definition = λ k. definition_after k (s.definition k) change;
  count = λ k p. count_after k p (s.count k p) change;
  message = λ p. message_after p (s.message p) change;
  due = λ p. due_after p (s.due p) change;
}

-- after all changes, in turn
abbrev pub changed_all : Stored → List RowChange → Stored
changed_all = fold changed

-- the count of faults rose, or is at its last value
abbrev pub HasRisen : ℕ → ℕ → Type 0
HasRisen old new = (old < new) ⊎ (new ≡ 2 ^ 64 - 1)
