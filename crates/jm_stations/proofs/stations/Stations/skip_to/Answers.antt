use Rattle.jm_stations.proofs.Publishing.{skipped_kept}
use Rattle.jm_stations.proofs.stations.Stations.skip_to.Goals as goal

pub invariant_of-self : goal.invariant_of-self
invariant_of-self c = (
  skipped_kept c.self.inside.table c.self.inside.next_place c.args.place c.self.inside.lists.items (rw (← c.self.view_is) at c.requires.from) c.requires.places c.self.invariant.0,
  c.self.invariant.1,
  c.self.invariant.2,
  c.self.invariant.3,
  c.self.invariant.4,
  c.self.invariant.5,
)
