use Rattle.jm_stations.proofs.Receiving.{shown_count}
use Rattle.jm_stations.proofs.stations.Stations.kept.Goals as goal

pub returns : goal.returns
returns c =
    let t = c.self.inside.table in
    let lists = c.self.inside.lists.items in
    rw (← c.self.view_is) (record {
      places = c.len.ensures.places;
      once = c.len.ensures.once;
      each = λ p. rw (shown_count t p lists, ← c.self.invariant.0.counted.each p) (c.len.ensures.each p);
      number = c.len.ensures.number;
    })
