-- Why a query fails.
use Rattle.std.proofs.Common.{◌≡◌, ◌⊎◌, inl, inr, ◌≤◌, ℕ, arith, List, [], ◌∷◌, length, Option, None, IsSome, IsTrue, IsOkAnd, Result, Ok, Err, refl, sym, ap, subst, ◌∙◌}
use Rattle.sqlite_value.specs.Order.{Row}
use Rattle.sqlite_trees.specs.declared.error.StoreError.{StoreError}
use Rattle.sqlite_trees.specs.declared.error.StoreError.TheVariants.{OutOfMemory, Io, Corrupt, Full, Broken, Unstorable}
use Rattle.sqlite_trees.specs.Tree.{Trees}
use Rattle.sqlite.specs.Query.{Query, Join, inner, end, FoldOverflows}
use Rattle.sqlite.specs.Program.{overlay, ProgramOverflows}
use Rattle.sqlite.specs.Command.{Command}
use Rattle.sqlite.specs.Command.TheVariants.{Select}
use Rattle.sqlite.specs.Clock.{timed}
use Rattle.sqlite.specs.Effect.{Database, RefusesToRead}
use Rattle.sqlite.specs.Given.{IsPlain}
use Rattle.sqlite.specs.Listing.{understood, IsSourceOf}
use Rattle.sqlite.specs.State.{State, FailsToQuery, FailsToShow, HasCause, IsNoStatement, IsNotRun, IsTooLate}
use Rattle.sqlite.specs.declared.error.Error.{Error}
use Rattle.sqlite.specs.declared.error.Error.TheVariants.{SqliteFailure}
use Rattle.sqlite.specs.declared.error.ErrorCode.TheVariants.{OperationInterrupted}
use Rattle.sqlite_resolve.specs.declared.compiled.Compiled.{Compiled}
use Rattle.sqlite_resolve.specs.declared.error.CompileError.{CompileError}
use Rattle.jm_queries.specs.Asked.{IsQueryFault, Means}

-- a cause stays one where more faults come
later : (old mid new : State) (cause : StoreError) → mid.faults ≤ new.faults → HasCause old mid ⊥ cause → HasCause old new ⊥ cause
later old mid new OutOfMemory more h = h
later old mid new Io more h = omega (arith, more, h)
later old mid new Corrupt more h = omega (arith, more, h)
later old mid new Full more h = omega (arith, more, h)
later old mid new Broken more h = h
later old mid new Unstorable more h = h

-- nothing is summed over one table
no_fold : (db : Trees) (from : Join) (tree : ℕ) → from ≡ inner tree end → ¬ FoldOverflows db from ([] ∷ [])
no_fold db from tree is h = (subst (λ j. FoldOverflows db j ([] ∷ [])) is h).4

module _ (text : List ℕ) (q : Query) (old : State) (m : Means old.now.schema text q) where
  no_overflow : (db : Trees) → ¬ ProgramOverflows db [] [] [] q
  no_overflow db (inl h) = absurd (rw m.ungrouped at h)
  no_overflow db (inr h) = no_fold (overlay db []) q.from m.of_table.0 m.of_table.1 h

  -- the text is a statement
  stands : (r : Result Compiled CompileError) → understood old.now.schema text ≡ r → IsPlain r → IsOkAnd r (λ c. (c.names ≡ []) × (length text ≤ c.tail)) → (e : Error) → ¬ IsNoStatement old text [] e
  stands (Err fault) is plain alone e h = plain
  stands (Ok c) is plain alone e (inl h) = absurd (let one = sym is ∙ h.1 in cc)
  stands (Ok c) is plain alone e (inr h) =
      let same : c ≡ h.0 = let one = sym is ∙ h.1 in cc in
      elim h.2 [
        | inl longer ↦ longer.0 (subst (λ (x : Compiled). length text ≤ x.tail) same alone.1)
        | inr (inl given) ↦ given.0 (sym (ap length (subst (λ (x : Compiled). x.names ≡ []) same alone.0)))
        | inr (inr timely) ↦ timely.0 (subst (λ (x : Compiled). x.formats ≡ []) same plain.1)
      ]

  -- only a limit on steps stops what is read
  refused : (limit : Option ℕ) (db : Database) (command : Command) (params : Row) (e : Error) → db ≡ old.now → params ≡ [] → command ≡ Select (record { lets = []; body = q }) m.names → RefusesToRead limit command db params e
      → (e ≡ SqliteFailure OperationInterrupted) × IsSome limit
  refused limit db command params e is none asks h = elim (rw (is, none, asks) at h) [
    | inl typed ↦ absurd (let t = typed.1 in let a = m.accepted in cc)
    | inr (inl sums) ↦ absurd (no_overflow old.now.trees sums.1)
    | inr (inr stopped) ↦ stopped
  ]

  fails : (mid new : State) (e : Error) → mid.faults ≤ new.faults → FailsToQuery text [] old mid e → IsQueryFault old new e
  unfolding FailsToQuery IsNotRun
  fails mid new e more (inl (inl h)) = absurd (stands (understood old.now.schema text) refl m.plain m.alone e h.0)
  fails mid new e more (inl (inr h)) = inl (h.0, h.1, later old mid new h.0 more h.2)
  fails mid new e more (inr h) =
      let plain = subst IsPlain h.1.is m.plain in
      let shown : FailsToShow old mid text h.0 (timed [] h.0.formats h.1.now) e None = subst (FailsToShow old mid text h.0 (timed [] h.0.formats h.1.now) e) plain.0 h.2 in
      let db : shown.0 ≡ old.now = subst (λ b. IsSourceOf b old.now shown.0) m.unlisted shown.1 in
      let asks = subst (λ r. IsOkAnd r (λ c. c.command ≡ Select (record { lets = []; body = q }) m.names)) h.1.is m.command in
      inr (refused old.step_limit shown.0 h.0.command (timed [] h.0.formats h.1.now) e db (ap (λ f. timed [] f h.1.now) plain.1) asks shown.2)

  pub cause : (mid new : State) (e : Error) → IsTrue old.in_transaction → mid.faults ≤ new.faults → FailsToQuery text [] old mid e ⊎ IsTooLate text [] old mid e → IsQueryFault old new e
  cause mid new e within more (inl h) = fails mid new e more h
  cause mid new e within more (inr h) = absurd (let in_one = within in let out = h.3 in cc)
