-- The steps of the loop over the properties.
use Rattle.std.proofs.Common.{◌≡◌, ℕ, suc, ◌+◌, ◌-◌, ◌<◌, ◌≤◌, List, Ok, Err, refl, sym, ◌∙◌, arith}
use Rattle.jm_property.specs.Properties.{Table}
use Rattle.jm_record.specs.declared.fault.Fault.{Fault}
use Rattle.jm_record.specs.declared.fault.Fault.TheVariants as faults
use Rattle.jm_record.specs.Faults.{Reads}
use Rattle.jm_format.specs.Reading.{Outcome, one_more, properties_after}

pub goes_on : (count i : ℕ) (before after : Table) (bytes rest : List ℕ) (total : Outcome Table) → i < count → one_more before bytes ≡ Ok (after, rest) → properties_after (count - i) before bytes ≡ total → properties_after (count - (i + 1)) after rest ≡ total
unfolding properties_after
goes_on count i before after bytes rest total lt one so_far =
    let k : count - i ≡ suc (count - (i + 1)) = omega arith in
    let step : properties_after (count - i) before bytes ≡ properties_after (count - (i + 1)) after rest = rw (k, one) refl in
    sym step ∙ so_far

pub fails : {A : Type 0} (fault : Fault) (view : A → Table) (count i : ℕ) (before : Table) (bytes left : List ℕ) (total : Outcome Table) → i < count → Reads view (one_more before bytes) (Err fault) left → properties_after (count - i) before bytes ≡ total → Reads {A = Table} (λ t. t) total (Err fault) left
unfolding properties_after
fails faults.Damaged view count i before bytes left total lt one so_far =
    let k : count - i ≡ suc (count - (i + 1)) = omega arith in
    let step : properties_after (count - i) before bytes ≡ Err left = rw (k, one) refl in
    sym so_far ∙ step
fails faults.Memory view count i before bytes left total lt one so_far = tt

pub is_done : (count i : ℕ) (before : Table) (bytes : List ℕ) (total : Outcome Table) → count ≤ i → properties_after (count - i) before bytes ≡ total → total ≡ Ok (before, bytes)
unfolding properties_after
is_done count i before bytes total le so_far =
    let k : count - i ≡ 0 = omega arith in
    let step : properties_after (count - i) before bytes ≡ Ok (before, bytes) = rw k refl in
    sym so_far ∙ step
