-- A query that is rolled back commits nothing.
use Rattle.std.proofs.Common.{◌≡◌, ◌⊎◌, inl, inr, ℕ, IsTrue, List, [], Option, None, Some, Result, Ok, Err, IfOk, IfErr, OnOk, IsOkAnd, refl, ◌∙◌}
use Rattle.sqlite_value.specs.declared.value.Value.TheVariants.{Null}
use Rattle.sqlite_value.specs.Order.{Row}
use Rattle.sqlite.specs.State.{State, Shown, ShowsRows, FailsToQuery, FailsToShow, IsNotRun, IsTooLate, KeepsCommit, IsUnchanged, IsRolledBack}
use Rattle.sqlite.specs.Clock.{timed}
use Rattle.sqlite.specs.Listing.{understood}
use Rattle.sqlite.specs.Command.{Command}
use Rattle.sqlite.specs.Command.TheVariants.{Select}
use Rattle.sqlite.specs.declared.error.Error.{Error}
use Rattle.sqlite.proofs.Callers.{command_of, reads_as}
use Rattle.sqlite_schema.specs.declared.command.Returning.{Returning}
use Rattle.sqlite_resolve.specs.declared.compiled.Compiled.{Compiled}
use Rattle.sqlite_resolve.specs.declared.error.CompileError.{CompileError}
use Rattle.jm_queries.specs.Asked.{Answers, IsUndone}

command_is : (r : Result Compiled CompileError) (command : Command) → IsOkAnd r (λ c. c.command ≡ command) → command_of r ≡ command
command_is (Ok c) command h = h
command_is (Err e) command h = absurd h

-- the rows that are shown answer the query
pub answers : (text : List ℕ) (old new : State) (rows : List Row) → Shown text [] old new rows → Answers old.now text rows
answers text old new rows h q m =
    let command = Select (record { lets = []; body = q }) m.names in
    (reads_as text [] old new old.now.schema refl command (command_is (understood old.now.schema text) command m.command) m.plain m.unlisted rows h).answer Null

unchanged_keeps : (old new : State) → IsUnchanged old new → KeepsCommit old new
unchanged_keeps old new h = record { was_open = λ _. h.0.was_open; committed = λ _. h.0.committed_is }

back_keeps : (old new : State) → IsRolledBack old new → KeepsCommit old new
back_keeps old new h = record { was_open = h.was_open; committed = λ k. (h.undone k).1 }

-- the connection was open, and stays so
pub shown_open : (sql : List ℕ) (params : Row) (old new : State) (rows : List Row) → Shown sql params old new rows → IsTrue old.is_open
unfolding Shown
shown_open sql params old new rows h = go h.0.returning h.2
  where
    go : (what : Option Returning) → ShowsRows old new sql h.0 (timed params h.0.formats h.1.now) rows what → IsTrue old.is_open
    go None k = k.3.0.was_open
    go (Some what) k = k.1.shown.was_open

shown_keeps : (sql : List ℕ) (params : Row) (old new : State) (rows : List Row) → IsTrue old.in_transaction → Shown sql params old new rows → KeepsCommit old new
unfolding Shown
shown_keeps sql params old new rows within h = go h.0.returning h.2
  where
    go : (what : Option Returning) → ShowsRows old new sql h.0 (timed params h.0.formats h.1.now) rows what → KeepsCommit old new
    go None k = unchanged_keeps old new k.3
    go (Some what) k = record { was_open = λ _. k.1.shown.was_open; committed = λ _. rw within at k.1.shown.committed_is }

fails_keeps : (sql : List ℕ) (params : Row) (old new : State) (e : Error) → FailsToQuery sql params old new e → KeepsCommit old new
unfolding FailsToQuery IsNotRun
fails_keeps sql params old new e (inl (inl h)) = unchanged_keeps old new h.1
fails_keeps sql params old new e (inl (inr h)) = back_keeps old new h.3
fails_keeps sql params old new e (inr h) = go h.0.returning h.2
  where
    go : (what : Option Returning) → FailsToShow old new sql h.0 (timed params h.0.formats h.1.now) e what → KeepsCommit old new
    go None k = unchanged_keeps old new k.3
    go (Some what) (inl k) = unchanged_keeps old new k.1
    go (Some what) (inr k) = back_keeps old new k.3

pub asks_keeps : {X : Type 0} (shows : X → List Row) (sql : List ℕ) (params : Row) (old new : State) (r : Result X Error) → IsTrue old.in_transaction → IfOk r (λ rows. Shown sql params old new (shows rows))
    → IfErr r (λ e. FailsToQuery sql params old new e ⊎ IsTooLate sql params old new e) → KeepsCommit old new
asks_keeps shows sql params old new (Ok x) within h k = shown_keeps sql params old new (shows x) within h
asks_keeps shows sql params old new (Err e) within h (inl k) = fails_keeps sql params old new e k
asks_keeps shows sql params old new (Err e) within h (inr k) = absurd (let in_one = within in let out = k.3 in cc)

pub if_ok_then : {X E : Type 0} (r : Result X E) (P Q : X → Type 0) → IfOk r P → ((x : X) → P x → Q x) → IfOk r Q
if_ok_then (Ok x) P Q p f = f x p
if_ok_then (Err e) P Q p f = tt

pub on_ok_then : {X E : Type 0} (r : Result X E) (P : X → Type 0) (Q : Type 0) → IfOk r P → ((x : X) → P x → Q) → OnOk r Q
on_ok_then (Ok x) P Q p f = f x p
on_ok_then (Err e) P Q p f = tt

pub undone_to : (begun mid new : State) → KeepsCommit begun mid → IsRolledBack mid new → IsTrue new.is_open → IsUndone begun new
undone_to begun mid new kept back live =
    let open_then = back.was_open live in
    record { was_open = kept.was_open open_then; now_is = (back.undone live).0 ∙ kept.committed open_then; committed_is = (back.undone live).1 ∙ kept.committed open_then }

pub if_err_then : {X E : Type 0} (r : Result X E) (P Q : E → Type 0) → IfErr r P → ((e : E) → P e → Q e) → IfErr r Q
if_err_then (Ok x) P Q p f = tt
if_err_then (Err e) P Q p f = f e p
