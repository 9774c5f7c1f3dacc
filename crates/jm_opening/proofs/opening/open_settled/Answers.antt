use Rattle.std.proofs.Common.{◌≡◌, rules, arith, subst, IsTrue}
use Rattle.sqlite.specs.Effect.{Database}
use Rattle.sqlite.specs.State.{HasCleanDisk}
use Rattle.sqlite.specs.Held.{state}
use Rattle.jm_opening.specs.Opened.{IsFound, IsOpened}
use Rattle.jm_opening.proofs.Leaving.{found_leaves}
use Rattle.jm_opening.proofs.Serving.{serves}
use Rattle.jm_opening.proofs.opening.open_settled.Goals as goal

pub returns-clause-opened : goal.returns-clause-opened
returns-clause-opened g c clean settled =
    let old = state g.S.Store c.args.conn.now in
    let mid = state g.S.Store c.find.new.conn in
    let new = state g.S.Store c.write.new.conn in
    let early : HasCleanDisk mid = omega (arith, c.write.ensures.survives.clean, clean) in
    let lives : IsTrue mid.is_open = c.write.ensures.was_open clean (c.in_ok-write.ensures.lives clean) in
    let same : mid.now ≡ old.now = (c.find.ensures.same early lives settled).0 in
    let is = c.in_ok-found.ensures.found early lives settled in
    let it = c.in_ok-write.ensures.opened clean lives is in
    record {
      found = c.in_ok-found.found;
      is_found = subst (IsFound c.in_ok-found.found) same is;
      number = c.opening.ensures;
      opened = subst (λ (d : Database). IsOpened c.in_ok-found.found d new.now) same it.0;
      is_open = it.1;
      committed = it.2;
    }

pub returns-clause-serves : goal.returns-clause-serves
returns-clause-serves g c clean settled tables =
    let it = returns-clause-opened g c clean settled in
    serves it.found _ _ tables it.is_found it.opened

pub returns-in_err-found-clause-fault : goal.returns-in_err-found-clause-fault
returns-in_err-found-clause-fault g c clean =
    let fault = c.in_err-found.ensures.fault clean in
    let is = c.from_residual.ensures in
    search rules

pub returns-clause-survives : goal.returns-clause-survives
returns-clause-survives g c =
    let it = c.in_ok-found.ensures in
    found_leaves (state g.S.Store c.args.conn.now) (state g.S.Store c.find.new.conn) (state g.S.Store c.write.new.conn) c.in_ok-found.found c.find.ensures.survives c.write.ensures.survives it.found c.find.ensures.same it.number

pub returns-in_err-write-clause-survives : goal.returns-in_err-write-clause-survives
returns-in_err-write-clause-survives g c =
    let it = c.in_ok-found.ensures in
    found_leaves (state g.S.Store c.args.conn.now) (state g.S.Store c.find.new.conn) (state g.S.Store c.write.new.conn) c.in_ok-found.found c.find.ensures.survives c.write.ensures.survives it.found c.find.ensures.same it.number
