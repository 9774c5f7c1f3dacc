use Rattle.std.proofs.Common.{◌∙◌, ap}
use Rattle.jm_parts.specs.Named.{home_at}
use Rattle.jm_parts.specs.Takings.{backlog_at}
use Rattle.jm_parts.proofs.Naming.{home_there}
use Rattle.jm_parts.proofs.named.is_home.Goals as goal

pub returns-in-None : goal.returns-in-None
returns-in-None c = ap (λ o. home_at (backlog_at c.args.stations.now.list o)) c.in-None.ensures.index

pub returns-in-Some : goal.returns-in-Some
returns-in-Some c =
    home_there c.args.stations.now.list c.in-Some.index c.is_home.result c.in-Some.ensures.within c.is_home.ensures
    ∙ ap (λ o. home_at (backlog_at c.args.stations.now.list o)) c.in-Some.ensures.index
