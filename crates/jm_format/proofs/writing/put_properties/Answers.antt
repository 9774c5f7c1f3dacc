use Rattle.std.proofs.Common.{◌≡◌, ◌∙◌, ◌<◌, ap, length, slice_get, arith, List, ℕ, Some}
use Rattle.std.specs.Int.{w64, to_be_bytes}
use Rattle.jm_property.specs.declared.property.Property.{Property}
use Rattle.jm_format.proofs.Written.{one_more, each_more, not_past}
use Rattle.jm_format.proofs.writing.put_properties.Goals as goal
use Rattle.jm_format.proofs.writing.put_properties.Goals.{in-Some+in_ok-put_text+in_ok-put_value, in_default}

pub loop-index-preserved : goal.loop-index-preserved
loop-index-preserved c =
    elim c.match-entry_at.branch [
      | in-Some+in_ok-put_text+in_ok-put_value w ↦
          let p : List ℕ × Property = (w.in-Some.name.now, w.in-Some.value.now) in
          let here : Some p ≡ slice_get c.args.properties.now c.loop-index.index = w.in-Some.ensures in (
            ap (λ v. v.items) w.out-is
                ∙ one_more c.args.properties.now c.loop-index.index p c.args.out.now.items (to_be_bytes w64 (length c.args.properties.now))
                c.loop-index.out.items w.put_text.new.out.items w.put_value.new.out.items here c.loop-index.invariant.0
                w.in_ok-put_text.ensures.written w.in_ok-put_value.ensures.written,
            each_more c.args.properties.now c.loop-index.index p here c.loop-index.invariant.1
                (record { name = w.put_text.ensures.valid; value = w.in_ok-put_value.ensures.valid }),
          )
      | in_default w ↦
          let within : c.loop-index.index < length c.args.properties.now = omega (arith, c.loop-index-test.true, c.len-count.ensures.count) in
          absurd (not_past c.args.properties.now c.loop-index.index w.in_default.ensures within)
    ]
