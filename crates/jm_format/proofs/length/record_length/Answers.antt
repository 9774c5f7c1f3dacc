use Rattle.std.proofs.Common.{ap, length, arith, List, ℕ, Option}
use Rattle.std.specs.List.{concat, flat_map}
use Rattle.jm_dest.specs.declared.destination.Destination.{Destination}
use Rattle.jm_header.specs.declared.body.Body.{Body}
use Rattle.jm_property.specs.Properties.{Table}
use Rattle.jm_format.specs.Format as format
use Rattle.jm_format.proofs.Written.{length-record}
use Rattle.jm_format.proofs.length.record_length.Goals as goal

pub returns : goal.returns
returns c =
    omega (
      arith,
      length-record c.args.message.now,
      c.saturating_add.ensures,
      c.saturating_add-2.ensures,
      c.saturating_add-3.ensures,
      c.saturating_add-4.ensures,
      c.saturating_add-5.ensures,
      c.saturating_add-6.ensures,
      c.delivery_time_length.ensures,
      c.name_length.ensures,
      c.optional_length.ensures,
      c.optional_length-2.ensures,
      c.body_length.ensures,
      c.properties_length.ensures,
      ap (λ (d : Destination). length (format.block (format.name_of d))) c.destination.ensures,
      ap (λ (t : Option (List ℕ)). length (concat (format.optional t))) c.correlation.ensures,
      ap (λ (t : Option (List ℕ)). length (concat (format.optional t))) c.message_type.ensures,
      ap (λ (b : Body). length (concat (format.body_fields b))) c.body.ensures,
      ap (λ (t : Table). length (concat (flat_map format.property_fields t))) c.properties.ensures,
    )
