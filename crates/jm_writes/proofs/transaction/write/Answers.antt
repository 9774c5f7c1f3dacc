use Rattle.std.proofs.Common.{◌≡◌, subst, rules, arith, OnErr, OnOk, IsTrue, refl}
use Rattle.sqlite.specs.State.{HasCleanDisk, Survives}
use Rattle.sqlite.specs.Held.{state}
use Rattle.sqlite_trees.specs.Tree.{Trees}
use Rattle.jm_tables.specs.Sound.{Serves}
use Rattle.jm_writes.specs.Steps.{HasChanges}
use Rattle.jm_writes.proofs.Refused.{commit_refused}
use Rattle.jm_writes.proofs.Walked.{begun, commit_leaves, survives_commit}
use Rattle.jm_writes.proofs.transaction.write.Goals as goal

pub returns-clause-refused : goal.returns-clause-refused
returns-clause-refused g c clean was serves live =
    let begun = c.transaction-tx.ensures.begun in
    let mid = c.walk.new.tx.conn.now in
    let end = c.commit.new.self.0 in
    let same : end ≡ c.conn-2-1.given.0 = search rules in
    let late : HasCleanDisk (state g.S.Store end) = search rules in
    let lively : IsTrue (state g.S.Store end).is_open = search rules in
    let early : HasCleanDisk (state g.S.Store mid) = omega (arith, c.commit.ensures.survives.clean) in
    let walked = (rw begun at (c.in_ok-walk.ensures.done early)) refl was serves in
    let kept = rw begun at (c.walk.ensures.kept early) in
    subst (λ h. OnErr c.commit.result (((state g.S.Store h).now ≡ (state g.S.Store c.args.conn.now).committed) × ((state g.S.Store h).committed ≡ (state g.S.Store c.args.conn.now).committed))) same
    (commit_refused _ (state g.S.Store mid) (state g.S.Store end) c.commit.result kept walked.shown.mode (c.commit.ensures.err late) lively)

pub returns-clause-survives : goal.returns-clause-survives
returns-clause-survives g c =
    let begins = c.transaction-tx.ensures.begun in
    let old = state g.S.Store c.args.conn.now in
    let mid = state g.S.Store c.walk.new.tx.conn.now in
    let end = c.commit.new.self.0 in
    let same : end ≡ c.conn-2-1.given.0 = search rules in
    let before : Survives (begun old) mid (λ _. ⊥) = rw begins at c.walk.ensures.survives in
    subst (λ h. Survives old (state g.S.Store h) (λ db. IsTrue old.is_open → Serves old.now → HasChanges c.args.changes.now old.now.trees db)) same
    (survives_commit old mid (state g.S.Store end) c.args.changes.now before (λ early was serves. (rw begins at (c.in_ok-walk.ensures.done early)) refl was serves) c.commit.ensures.survives)

pub returns-clause-durable : goal.returns-clause-durable
returns-clause-durable g c clean was serves =
    let begins = c.transaction-tx.ensures.begun in
    let old = state g.S.Store c.args.conn.now in
    let mid = state g.S.Store c.walk.new.tx.conn.now in
    let end = c.commit.new.self.0 in
    let same : end ≡ c.conn-2-1.given.0 = search rules in
    let late : HasCleanDisk (state g.S.Store end) = search rules in
    let early : HasCleanDisk mid = omega (arith, c.commit.ensures.survives.clean, late) in
    let walked = (rw begins at (c.in_ok-walk.ensures.done early)) refl was serves in
    subst (λ h. OnOk c.commit.result ((db : Trees) → (state g.S.Store h).may_leave db → HasChanges c.args.changes.now old.now.trees db)) same
    (commit_leaves old mid (state g.S.Store end) c.args.changes.now c.commit.result walked (g.met.S.Store.settled end.store) (c.commit.ensures.ok late))
