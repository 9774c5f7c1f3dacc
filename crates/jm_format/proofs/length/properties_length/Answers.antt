use Rattle.std.proofs.Common.{◌≡◌, ◌<◌, length, slice_get, arith, List, ℕ, Some}
use Rattle.jm_property.specs.declared.property.Property.{Property}
use Rattle.jm_format.proofs.Written.{length-more, not_past}
use Rattle.jm_format.proofs.length.properties_length.Goals as goal
use Rattle.jm_format.proofs.length.properties_length.Goals.{in-Some, in_default}

pub loop-index-preserved : goal.loop-index-preserved
loop-index-preserved c =
    elim c.match-entry_at.branch [
      | in-Some w ↦
          let p : List ℕ × Property = (w.in-Some.name.now, w.in-Some.value.now) in
          let here : Some p ≡ slice_get c.args.properties.now c.loop-index.index = w.in-Some.ensures in
          omega (arith, length-more c.args.properties.now c.loop-index.index p here, c.loop-index.invariant, w.total-is, w.saturating_add-total.ensures, w.saturating_add.ensures, w.saturating_add-property.ensures, w.block_length.ensures, w.value_length.ensures)
      | in_default w ↦
          let within : c.loop-index.index < length c.args.properties.now = omega (arith, c.loop-index-test.true, c.len-index-end.ensures.count) in
          absurd (not_past c.args.properties.now c.loop-index.index w.in_default.ensures within)
    ]
