use Rattle.std.proofs.lemmas.Result.{err_from_is_err_and}
use Rattle.sqlite.specs.Held.{state}
use Rattle.jm_load.specs.Causes.{IsStoreCause}
use Rattle.jm_load.proofs.Caused.{store_cause}
use Rattle.jm_load.proofs.Asked.{holds_ok}
use Rattle.jm_load.proofs.Loaded.{loaded_ok, read_ok, unmade_cause_err, unmade_err}
use Rattle.jm_load.proofs.Told.{never_damaged, never_damaged_err, undecoded}
use Rattle.jm_load.proofs.Unmade.{undecoded_cause}
use Rattle.jm_load.proofs.loading.load.Goals as goal

pub returns-clause-loaded : goal.returns-clause-loaded
returns-clause-loaded g c clean settled serves =
    loaded_ok (state g.S.Store c.args.conn.now).now.trees c.in_ok-rows.rows c.in_ok-decoded.decoded c.make.result (c.in_ok-rows.ensures.rows clean settled serves) c.in_ok-decoded.ensures.ok c.make.ensures.whole c.make.ensures.stored

pub returns-clause-holds : goal.returns-clause-holds
returns-clause-holds g c clean settled serves = holds_ok c.in_ok-rows.rows c.in_ok-decoded.decoded c.make.result c.in_ok-decoded.ensures.ok c.make.ensures.holds

pub returns-clause-read : goal.returns-clause-read
returns-clause-read g c clean settled serves =
    read_ok (state g.S.Store c.args.conn.now).now c.in_ok-rows.rows c.in_ok-decoded.decoded c.make.result serves (c.in_ok-rows.ensures.rows clean settled serves) c.in_ok-decoded.ensures.ok c.make.ensures.whole

pub returns-clause-fault : goal.returns-clause-fault
returns-clause-fault g c clean settled serves =
    unmade_err (state g.S.Store c.args.conn.now).now c.in_ok-rows.rows c.in_ok-decoded.decoded c.make.result serves (c.in_ok-rows.ensures.rows clean settled serves) c.in_ok-decoded.ensures.ok c.make.ensures.err

pub returns-clause-whole : goal.returns-clause-whole
returns-clause-whole g c clean settled serves whole =
    never_damaged_err (state g.S.Store c.args.conn.now).now.trees c.make.result whole
    (unmade_err (state g.S.Store c.args.conn.now).now c.in_ok-rows.rows c.in_ok-decoded.decoded c.make.result serves (c.in_ok-rows.ensures.rows clean settled serves) c.in_ok-decoded.ensures.ok c.make.ensures.err)

pub returns-in_err-decoded-clause-fault : goal.returns-in_err-decoded-clause-fault
returns-in_err-decoded-clause-fault g c clean settled serves =
    let passed = err_from_is_err_and c.from_residual-in_err-decoded.result c.from_residual-in_err-decoded.ensures.1 in
    rw (passed.1, passed.2)
    (undecoded (state g.S.Store c.args.conn.now).now serves c.in_ok-rows.rows (c.in_ok-rows.ensures.rows clean settled serves) c.in_err-decoded.field-0.0 c.in_err-decoded.ensures.err)

pub returns-in_err-decoded-clause-whole : goal.returns-in_err-decoded-clause-whole
returns-in_err-decoded-clause-whole g c clean settled serves whole =
    let passed = err_from_is_err_and c.from_residual-in_err-decoded.result c.from_residual-in_err-decoded.ensures.1 in
    rw (passed.1, passed.2)
    (never_damaged (state g.S.Store c.args.conn.now).now.trees c.in_err-decoded.field-0.0 whole
    (undecoded (state g.S.Store c.args.conn.now).now serves c.in_ok-rows.rows (c.in_ok-rows.ensures.rows clean settled serves) c.in_err-decoded.field-0.0 c.in_err-decoded.ensures.err))

pub returns-in_err-rows-clause-cause : goal.returns-in_err-rows-clause-cause
returns-in_err-rows-clause-cause g c clean settled serves =
    let passed = err_from_is_err_and c.from_residual.result c.from_residual.ensures.1 in
    rw (passed.1, passed.2)
    (store_cause (state g.S.Store c.args.conn.now) (state g.S.Store c.read.new.conn) c.in_err-rows.field-0.0 (c.in_err-rows.ensures.cause clean settled serves))

pub returns-in_err-decoded-clause-cause : goal.returns-in_err-decoded-clause-cause
returns-in_err-decoded-clause-cause g c clean settled serves =
    let passed = err_from_is_err_and c.from_residual-in_err-decoded.result c.from_residual-in_err-decoded.ensures.1 in
    rw (passed.1, passed.2)
    (undecoded_cause c.in_ok-rows.rows c.in_err-decoded.field-0.0 (IsStoreCause (state g.S.Store c.args.conn.now) (state g.S.Store c.read.new.conn)) c.in_err-decoded.ensures.err)

pub returns-clause-cause : goal.returns-clause-cause
returns-clause-cause g c clean settled serves =
    unmade_cause_err c.in_ok-rows.rows c.in_ok-decoded.decoded (IsStoreCause (state g.S.Store c.args.conn.now) (state g.S.Store c.read.new.conn)) c.make.result c.in_ok-decoded.ensures.ok c.make.ensures.err
