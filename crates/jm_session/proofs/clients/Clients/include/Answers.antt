use Rattle.std.proofs.Common.{◌∙◌}
use Rattle.jm_session.specs.Clients.{is_indexed}
use Rattle.jm_session.proofs.clients.Clients.include.Goals as goal

pub returns-then-self : goal.returns-then-self
unfolding is_indexed
returns-then-self c = c.contains_key.ensures ∙ c.requires c.if-self.true c.args.client.now
