use Rattle.std.proofs.Common.{refl}
use Rattle.std.specs.List.{filter}
use Rattle.jm_lane.specs.Rows.{is_elsewhere}
use Rattle.jm_lanes.proofs.Within.{span_rows, spread}
use Rattle.jm_lanes.proofs.used.UsedLanes.remove_at.Goals as goal

pub remove_at-requires : goal.remove_at-requires
remove_at-requires c =
    rw (span_rows c.self.inside.span c.first.result c.end.result c.self.inside.lanes.items c.deref_mut.result.now c.deref_mut.ensures.value c.first.ensures c.end.ensures c.self.invariant, c.self.view_is) c.requires

pub invariant_of-self : goal.invariant_of-self
invariant_of-self c = (spread (filter (is_elsewhere c.args.place)) refl c.self.inside.span c.self.inside.lanes.len c.first.result c.end.result c.self.inside.lanes.items c.deref_mut.result.now c.remove_at.new.lanes c.deref_mut.ensures.value c.deref_mut.ensures.len c.first.ensures c.end.ensures c.self.invariant c.remove_at.ensures.rows).within

pub returns-clause-result : goal.returns-clause-result
returns-clause-result c =
    rw (← c.self.view_is, ← span_rows c.self.inside.span c.first.result c.end.result c.self.inside.lanes.items c.deref_mut.result.now c.deref_mut.ensures.value c.first.ensures c.end.ensures c.self.invariant) c.remove_at.ensures.result

pub returns-clause-rows : goal.returns-clause-rows
returns-clause-rows c =
    rw (← c.self.view_is) (spread (filter (is_elsewhere c.args.place)) refl c.self.inside.span c.self.inside.lanes.len c.first.result c.end.result c.self.inside.lanes.items c.deref_mut.result.now c.remove_at.new.lanes c.deref_mut.ensures.value c.deref_mut.ensures.len c.first.ensures c.end.ensures c.self.invariant c.remove_at.ensures.rows).each
