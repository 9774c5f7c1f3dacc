use Rattle.std.proofs.Common.{string_bytes}
use Rattle.jm_plans.specs.Provider.{state_of}
use Rattle.jm_runner.proofs.Told.{told_ok}
use Rattle.jm_runner.proofs.subscription.lines_alone.Goals as goal

pub returns-clause-ok : goal.returns-clause-ok
returns-clause-ok c =
    told_ok (λ lines. string_bytes lines) c.args.limit c.args.key.now c.args.items.items c.args.replies.now (state_of c.new_core-opening.result) c.new_core-opening.ensures c.requires.isolated
    c.lines_from.result c.lines_from.ensures.ok
