use Rattle.std.proofs.Common.{sym, subst}
use Rattle.jm_play.specs.Source.{GivesAll}
use Rattle.jm_play.proofs.Faults.{gives_or_refuses}
use Rattle.jm_play.proofs.reading.scenario_of.Goals as goal

pub returns-clause-scenario : goal.returns-clause-scenario
returns-clause-scenario g c =
    let gave = subst (GivesAll g.R.Read.remaining c.args.source.now c.read_all.new.source) (sym c.deref.ensures.value) c.in_ok-bytes.ensures.bytes in
    gives_or_refuses g.R.Read.remaining c.args.source.now c.read_all.new.source c.deref.result.now c.scenario_in.result gave c.scenario_in.ensures.scenario
