-- What a query of a database answers, and why it fails.
use Rattle.std.specs.Prelude.{◌≡◌, ◌⊎◌, ◌≤◌, ℕ, true, false, List, [], length, None, IsOkAnd, IsSome, IsTrue}
use Rattle.sqlite_value.specs.Order.{Row}
use Rattle.sqlite_trees.specs.declared.error.StoreError.{StoreError}
use Rattle.sqlite.specs.Query.{Query, IsAnswer, inner, end}
use Rattle.sqlite.specs.Program.{overlay}
use Rattle.sqlite.specs.Command.TheVariants.{Select}
use Rattle.sqlite.specs.Effect.{Database}
use Rattle.sqlite.specs.Given.{IsPlain}
use Rattle.sqlite.specs.Listing.{understood, reads_listing}
use Rattle.sqlite.specs.Schema.{Schema}
use Rattle.sqlite.specs.State.{State, HasCause, store_error}
use Rattle.sqlite.specs.declared.error.Error.{Error}
use Rattle.sqlite.specs.declared.error.Error.TheVariants.{SqliteFailure}
use Rattle.sqlite.specs.declared.error.ErrorCode.TheVariants.{OperationInterrupted}
use Rattle.sqlite_typing.specs.Types.{accepts_program}

-- the schema gives the text the meaning of that query, of one table: it is one statement, without parameters and sums
pub record Means (schema : Schema) (text : List ℕ) (q : Query) : Type 0 where
  pub names : List (List ℕ)
  pub command : IsOkAnd (understood schema text) (λ c. c.command ≡ Select (record { lets = []; body = q }) names)
  pub plain : IsPlain (understood schema text)
  pub alone : IsOkAnd (understood schema text) (λ c. (c.names ≡ []) × (length text ≤ c.tail))
  pub unlisted : reads_listing schema text ≡ false
  pub accepted : accepts_program schema [] q [] ≡ true
  pub of_table : (tree : ℕ) × (q.from ≡ inner tree end)
  pub ungrouped : q.group ≡ None

-- where the text means a query, the rows are an answer of it
abbrev pub Answers : Database → List ℕ → List Row → Type 0
Answers db text rows = (q : Query) → Means db.schema text q → IsAnswer q (overlay db.trees []) [] rows

-- memory was refused, the disk failed, the database was shut before, or a limit on steps was reached
abbrev pub IsQueryFault : State → State → Error → Type 0
IsQueryFault old new e = ((cause : StoreError) × (e ≡ store_error cause) × HasCause old new ⊥ cause) ⊎ ((e ≡ SqliteFailure OperationInterrupted) × IsSome old.step_limit)

-- the database was open, and is as it was committed before
pub record IsUndone (old new : State) : Type 0 where
  pub was_open : IsTrue old.is_open
  pub now_is : new.now ≡ old.committed
  pub committed_is : new.committed ≡ old.committed
