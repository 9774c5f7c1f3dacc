use Rattle.std.proofs.Common.{◌≡◌, true, refl, subst, rules, arith, IsTrue}
use Rattle.sqlite.specs.State.{HasCleanDisk}
use Rattle.sqlite.specs.Held.{state}
use Rattle.jm_queries.specs.Asked.{IsQueryFault, IsUndone}
use Rattle.jm_queries.proofs.Faults.{cause}
use Rattle.jm_queries.proofs.Undone.{answers, asks_keeps, if_ok_then, if_err_then, on_ok_then, shown_open, undone_to}
use Rattle.jm_queries.proofs.asked.ask.Goals as goal

pub returns-clause-rows : goal.returns-clause-rows
returns-clause-rows g c clean =
    let begun = c.transaction-tx.ensures.begun in
    let mid = c.query_all-rows.new.self.conn.now in
    let end = c.rollback.new.self.0 in
    let late : HasCleanDisk (state g.S.Store end) = search rules in
    let early : HasCleanDisk (state g.S.Store mid) = omega (arith, c.rollback.ensures.survives.clean, late) in
    if_ok_then c.query_all-rows.result _ _ (rw begun at (c.query_all-rows.ensures.ok early)) (λ rows h. answers c.args.text.now (state g.S.Store (record c.args.conn.now { in_transaction = true })) (state g.S.Store mid) rows.items h)

pub returns-clause-was_open : goal.returns-clause-was_open
returns-clause-was_open g c clean =
    let begun = c.transaction-tx.ensures.begun in
    let mid = c.query_all-rows.new.self.conn.now in
    let end = c.rollback.new.self.0 in
    let late : HasCleanDisk (state g.S.Store end) = search rules in
    let early : HasCleanDisk (state g.S.Store mid) = omega (arith, c.rollback.ensures.survives.clean, late) in
    on_ok_then c.query_all-rows.result _ _ (rw begun at (c.query_all-rows.ensures.ok early)) (λ rows h. shown_open c.args.text.now _ (state g.S.Store (record c.args.conn.now { in_transaction = true })) (state g.S.Store mid) rows.items h)

pub returns-clause-same : goal.returns-clause-same
returns-clause-same g c clean live =
    let begun = c.transaction-tx.ensures.begun in
    let mid = c.query_all-rows.new.self.conn.now in
    let end = c.rollback.new.self.0 in
    let is : end ≡ c.conn-1.given.0 = search rules in
    let late : HasCleanDisk (state g.S.Store end) = search rules in
    let lively : IsTrue (state g.S.Store end).is_open = search rules in
    let early : HasCleanDisk (state g.S.Store mid) = omega (arith, c.rollback.ensures.survives.clean, late) in
    let kept = asks_keeps (λ rows. rows.items) _ _ _ (state g.S.Store mid) c.query_all-rows.result refl (rw begun at (c.query_all-rows.ensures.ok early)) (rw begun at (c.query_all-rows.ensures.err early)) in
    let undone = undone_to (state g.S.Store (record c.args.conn.now { in_transaction = true })) (state g.S.Store mid) (state g.S.Store end) kept (c.rollback.ensures.undone late) lively in
    subst (λ h. IsUndone (state g.S.Store c.args.conn.now) (state g.S.Store h)) is (record { was_open = undone.was_open; now_is = undone.now_is; committed_is = undone.committed_is })

pub returns-clause-fault : goal.returns-clause-fault
returns-clause-fault g c clean =
    let begun = c.transaction-tx.ensures.begun in
    let mid = c.query_all-rows.new.self.conn.now in
    let end = c.rollback.new.self.0 in
    let is : end ≡ c.conn-1.given.0 = search rules in
    let late : HasCleanDisk (state g.S.Store end) = search rules in
    let early : HasCleanDisk (state g.S.Store mid) = omega (arith, c.rollback.ensures.survives.clean, late) in
    let old = state g.S.Store (record c.args.conn.now { in_transaction = true }) in
    if_err_then c.query_all-rows.result _ _ (rw begun at (c.query_all-rows.ensures.err early)) (λ e h q m.
    subst (λ x. IsQueryFault (state g.S.Store c.args.conn.now) (state g.S.Store x) e) is (cause c.args.text.now q old m (state g.S.Store mid) (state g.S.Store end) e refl c.rollback.ensures.survives.counts h))
