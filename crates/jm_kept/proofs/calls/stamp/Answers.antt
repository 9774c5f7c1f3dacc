use Rattle.std.proofs.Common.{sym, ◌∙◌}
use Rattle.jm_plans.specs.Provider.{state_of}
use Rattle.jm_kept.proofs.Owed.{closed_kept, stamp_kept, stamp_store}
use Rattle.jm_kept.proofs.calls.stamp.Goals as goal

pub returns-in-None-clause-owed : goal.returns-in-None-clause-owed
returns-in-None-clause-owed c =
    closed_kept (state_of c.args.core.now) c.args.halves.now c.args.halves.now c.args.session.now c.args.draft c.args.destination c.args.now (sym c.mode_of.ensures ∙ c.in-None.is)

pub returns-in-Some-clause-owed : goal.returns-in-Some-clause-owed
returns-in-Some-clause-owed c =
    stamp_kept (state_of c.args.core.now) c.args.halves.now c.send.new.self c.args.session.now c.args.draft c.args.destination c.args.now
    c.in-Some.mode (sym c.mode_of.ensures ∙ c.in-Some.is) c.send.result c.requires (rw c.opening.ensures at c.send.ensures.fits)

pub returns-in-Some-clause-store : goal.returns-in-Some-clause-store
returns-in-Some-clause-store c =
    stamp_store (state_of c.args.core.now) c.args.halves.now c.send.new.self c.args.session.now c.args.draft c.args.destination c.args.now
    c.in-Some.mode (sym c.mode_of.ensures ∙ c.in-Some.is) c.send.result (rw c.opening.ensures at c.send.ensures.fits)
