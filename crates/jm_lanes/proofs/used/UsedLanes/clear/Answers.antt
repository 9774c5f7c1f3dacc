use Rattle.std.proofs.Common.{false, refl, ◌∙◌}
use Rattle.std.specs.List.{filter}
use Rattle.jm_lanes.proofs.Within.{span_rows, spread}
use Rattle.jm_lanes.proofs.used.UsedLanes.clear.Goals as goal

pub clear-requires : goal.clear-requires
clear-requires c =
    rw (span_rows c.self.inside.span c.first.result c.end.result c.self.inside.lanes.items c.deref_mut.result.now c.deref_mut.ensures.value c.first.ensures c.end.ensures c.self.invariant, c.self.view_is) c.requires

pub invariant_of-self : goal.invariant_of-self
invariant_of-self c = (spread (filter (λ r. false)) refl c.self.inside.span c.self.inside.lanes.len c.first.result c.end.result c.self.inside.lanes.items c.deref_mut.result.now c.clear.new.lanes c.deref_mut.ensures.value c.deref_mut.ensures.len c.first.ensures c.end.ensures c.self.invariant c.clear.ensures.rows).within

pub returns-clause-rows : goal.returns-clause-rows
returns-clause-rows c = rw (← c.self.view_is) (spread (filter (λ r. false)) refl c.self.inside.span c.self.inside.lanes.len c.first.result c.end.result c.self.inside.lanes.items c.deref_mut.result.now c.clear.new.lanes c.deref_mut.ensures.value c.deref_mut.ensures.len c.first.ensures c.end.ensures c.self.invariant c.clear.ensures.rows).each

pub returns-clause-gone : goal.returns-clause-gone
returns-clause-gone c = (spread (filter (λ r. false)) refl c.self.inside.span c.self.inside.lanes.len c.first.result c.end.result c.self.inside.lanes.items c.deref_mut.result.now c.clear.new.lanes c.deref_mut.ensures.value c.deref_mut.ensures.len c.first.ensures c.end.ensures c.self.invariant c.clear.ensures.rows).rows ∙ c.clear.ensures.gone

pub returns-clause-table : goal.returns-clause-table
returns-clause-table c =
    let out = spread (filter (λ r. false)) refl c.self.inside.span c.self.inside.lanes.len c.first.result c.end.result c.self.inside.lanes.items c.deref_mut.result.now c.clear.new.lanes c.deref_mut.ensures.value c.deref_mut.ensures.len c.first.ensures c.end.ensures c.self.invariant c.clear.ensures.rows in
    rw (out.rows, ← c.self.view_is, ← span_rows c.self.inside.span c.first.result c.end.result c.self.inside.lanes.items c.deref_mut.result.now c.deref_mut.ensures.value c.first.ensures c.end.ensures c.self.invariant) c.clear.ensures.table
