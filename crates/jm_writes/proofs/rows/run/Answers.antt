use Rattle.std.proofs.Common.{inl, inr, subst, sym}
use Rattle.std.proofs.lemmas.Bool.{cases_Bool}
use Rattle.sqlite.specs.State.{KeepsCommit}
use Rattle.sqlite.specs.Held.{state}
use Rattle.jm_writes.proofs.Kept.{inside_keeps, itself_keeps, inside_ok, ended_ok}
use Rattle.jm_writes.proofs.rows.run.Goals as goal

pub returns-clause-kept : goal.returns-clause-kept
returns-clause-kept g c clean = elim (cases_Bool c.args.tx.now.conn.now.in_transaction) [
  | inl within ↦ inside_keeps _ _ _ _ _ _ (c.execute.ensures.runs clean within)
  | inr outside ↦ subst (λ h. KeepsCommit (state g.S.Store c.args.tx.now.conn.now) (state g.S.Store h)) (sym (c.execute.ensures.ended outside).1) (itself_keeps (state g.S.Store c.args.tx.now.conn.now))
]

pub returns-clause-runs : goal.returns-clause-runs
returns-clause-runs g c clean = elim (cases_Bool c.args.tx.now.conn.now.in_transaction) [
  | inl within ↦ inside_ok _ _ _ _ _ (c.execute.ensures.runs clean within)
  | inr outside ↦ ended_ok _ _ _ (c.execute.ensures.ended outside).0
]
