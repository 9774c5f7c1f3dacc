-- What a statement in a transaction keeps.
use Rattle.std.proofs.Common.{◌≡◌, inl, inr, ℕ, List, Ok, Err, Result, IfOk, refl}
use Rattle.sqlite_value.specs.Order.{Row}
use Rattle.sqlite.specs.State.{State, ExecutesInside, KeepsCommit}
use Rattle.sqlite.specs.declared.error.Error.{Error}

pub itself_keeps : (s : State) → KeepsCommit s s
itself_keeps s = record { was_open = λ h. h; committed = λ _. refl }

pub inside_keeps : (held : ℕ) (sql : List ℕ) (params : Row) (old new : State) (r : Result ℕ Error) → ExecutesInside held sql params old new r → KeepsCommit old new
inside_keeps held sql params old new (Ok count) h = record { was_open = λ _. h.1.was_open; committed = λ _. h.1.committed_is }
inside_keeps held sql params old new (Err e) (inl h) = elim h.1 [
  | inl same ↦ record { was_open = λ _. same.0.was_open; committed = λ _. same.0.committed_is }
  | inr back ↦ record { was_open = back.was_open; committed = λ k. (back.undone k).1 }
]
inside_keeps held sql params old new (Err e) (inr h) = record { was_open = λ _. h.2.0.was_open; committed = λ _. h.2.0.committed_is }

pub inside_ok : (sql : List ℕ) (params : Row) (old new : State) (r : Result ℕ Error) → ExecutesInside 0 sql params old new r → IfOk r (λ count. ExecutesInside 0 sql params old new (Ok count))
inside_ok sql params old new (Ok count) h = h
inside_ok sql params old new (Err e) h = tt

pub ended_ok : (P : ℕ → Type 0) (r : Result ℕ Error) (e : Error) → r ≡ Err e → IfOk r P
ended_ok P (Ok count) e h = absurd (cc)
ended_ok P (Err f) e h = tt
