use Rattle.jm_client.proofs.shared.Shared.tell_overview.Goals as goal

pub returns : goal.returns
returns g c =
    let o = c.overview.ensures in
    record {
      core = c.args.self.now.core;
      reached = c.law_reached.ensures;
      connections = o.connections;
      sessions = o.sessions;
      consumers = o.consumers;
      subscriptions = o.subscriptions;
      held = o.held;
      queued = o.queued;
    }
