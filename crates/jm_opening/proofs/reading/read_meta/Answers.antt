use Rattle.std.proofs.Common.{◌≡◌, true, refl, subst, rules, arith, IsTrue}
use Rattle.sqlite.specs.State.{HasCleanDisk}
use Rattle.sqlite.specs.Held.{state}
use Rattle.jm_opening.proofs.MetaRows.{shown_meta, asks_keeps, if_ok_then, undone_to}
use Rattle.jm_opening.proofs.reading.read_meta.Goals as goal

pub returns-clause-rows : goal.returns-clause-rows
returns-clause-rows g c clean ours =
    let begun = c.transaction-tx.ensures.begun in
    let mid = c.query_all-rows.new.self.conn.now in
    let end = c.rollback.new.self.0 in
    let late : HasCleanDisk (state g.S.Store end) = search rules in
    let early : HasCleanDisk (state g.S.Store mid) = omega (arith, c.rollback.ensures.survives.clean, late) in
    if_ok_then c.query_all-rows.result _ _ (rw begun at (c.query_all-rows.ensures.ok early)) (λ rows h. shown_meta (state g.S.Store (record c.args.conn.now { in_transaction = true })) (state g.S.Store mid) rows.items ours h)

pub returns-clause-same : goal.returns-clause-same
returns-clause-same g c clean live =
    let begun = c.transaction-tx.ensures.begun in
    let mid = c.query_all-rows.new.self.conn.now in
    let end = c.rollback.new.self.0 in
    let is : end ≡ c.conn-1.given.0 = search rules in
    let late : HasCleanDisk (state g.S.Store end) = search rules in
    let lively : IsTrue (state g.S.Store end).is_open = search rules in
    let early : HasCleanDisk (state g.S.Store mid) = omega (arith, c.rollback.ensures.survives.clean, late) in
    let kept = asks_keeps (λ rows. rows.items) _ _ _ (state g.S.Store mid) c.query_all-rows.result refl (rw begun at (c.query_all-rows.ensures.ok early)) (rw begun at (c.query_all-rows.ensures.err early)) in
    subst (λ h. ((state g.S.Store h).now ≡ (state g.S.Store c.args.conn.now).committed) × ((state g.S.Store h).committed ≡ (state g.S.Store c.args.conn.now).committed)) is
    (undone_to _ (state g.S.Store mid) (state g.S.Store end) kept (c.rollback.ensures.undone late) lively)
