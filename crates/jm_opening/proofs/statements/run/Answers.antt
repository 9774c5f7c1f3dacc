use Rattle.std.proofs.Common.{ℕ, inl, inr, subst, sym, IsTrue, OnOk, Result, Ok, Err}
use Rattle.std.proofs.lemmas.Bool.{cases_Bool}
use Rattle.sqlite.specs.declared.error.Error.{Error}
use Rattle.sqlite.specs.State.{ExecutesInside, KeepsCommit}
use Rattle.sqlite.specs.Values.{bound}
use Rattle.sqlite.specs.Held.{state}
use Rattle.jm_opening.proofs.Effects.{inside_keeps, itself_keeps}
use Rattle.jm_opening.proofs.statements.run.Goals as goal

pub returns-clause-kept : goal.returns-clause-kept
returns-clause-kept g c clean = elim (cases_Bool c.args.tx.now.conn.now.in_transaction) [
  | inl within ↦ inside_keeps _ _ _ _ _ _ (c.execute.ensures.runs clean within)
  | inr outside ↦ subst (λ h. KeepsCommit (state g.S.Store c.args.tx.now.conn.now) (state g.S.Store h)) (sym (c.execute.ensures.ended outside).1) (itself_keeps (state g.S.Store c.args.tx.now.conn.now))
]

pub returns-clause-was_open : goal.returns-clause-was_open
returns-clause-was_open g c clean = elim (cases_Bool c.args.tx.now.conn.now.in_transaction) [
  | inl within ↦ ran c.execute.result (c.execute.ensures.runs clean within)
  | inr outside ↦ subst (λ (r : Result ℕ Error). OnOk r (IsTrue (state g.S.Store c.args.tx.now.conn.now).is_open)) (sym (c.execute.ensures.ended outside).0) tt
]
  where
    ran : (r : Result ℕ Error) → ExecutesInside 0 c.args.sql.now (bound c.args.params.now) (state g.S.Store c.args.tx.now.conn.now) (state g.S.Store c.execute.new.self.conn.now) r → OnOk r (IsTrue (state g.S.Store c.args.tx.now.conn.now).is_open)
    ran (Ok count) h = h.1.was_open
    ran (Err e) h = tt
