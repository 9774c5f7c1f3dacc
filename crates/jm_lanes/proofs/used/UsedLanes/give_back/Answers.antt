use Rattle.std.proofs.Common.{map, refl}
use Rattle.jm_lane.specs.Rows.{back, is_among}
use Rattle.jm_lanes.proofs.Within.{spread}
use Rattle.jm_lanes.proofs.used.UsedLanes.give_back.Goals as goal

pub invariant_of-self : goal.invariant_of-self
invariant_of-self c = (spread (map (back (is_among c.args.outs.now))) refl c.self.inside.span c.self.inside.lanes.len c.first.result c.end.result c.self.inside.lanes.items c.deref_mut.result.now c.give_back.new.lanes c.deref_mut.ensures.value c.deref_mut.ensures.len c.first.ensures c.end.ensures c.self.invariant c.give_back.ensures).within

pub returns : goal.returns
returns c = rw (← c.self.view_is) (spread (map (back (is_among c.args.outs.now))) refl c.self.inside.span c.self.inside.lanes.len c.first.result c.end.result c.self.inside.lanes.items c.deref_mut.result.now c.give_back.new.lanes c.deref_mut.ensures.value c.deref_mut.ensures.len c.first.ensures c.end.ensures c.self.invariant c.give_back.ensures).each
