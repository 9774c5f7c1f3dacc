-- The fault of one table is the first of all.
use Rattle.std.proofs.Common.{ℕ, List, sym, subst, inl, inr}
use Rattle.jm_decoding.specs.declared.station.StationRow.{StationRow}
use Rattle.jm_decoding.specs.declared.message.MessageRow.{MessageRow}
use Rattle.jm_decoding.specs.declared.held.HeldRow.{HeldRow}
use Rattle.jm_decoding.specs.declared.delay.DelayRow.{DelayRow}
use Rattle.jm_opening.specs.declared.judged.OpenFault.{OpenFault}
use Rattle.jm_opening.specs.declared.judged.OpenFault.TheVariants.{Damaged, WrongVersion, Exhausted, Memory, Store}
use Rattle.jm_opening.specs.declared.judged.TableName.{TableName}
use Rattle.jm_opening.specs.declared.judged.TableName.TheVariants.{Station, Message, Held, Delayed}
use Rattle.jm_loading.specs.Faults.{IsFaultAt}
use Rattle.jm_loading.specs.Fitting.{AreAllFit, FitHeld, FitMessages, FitStations, IsDelayed, IsFirstFault, IsHeld, IsKept, IsPlaced, delay_cmp, held_cmp, message_cmp, station_cmp}
use Rattle.jm_loading.specs.Stations.{IsKnown}
use Rattle.jm_loading.specs.Unfit.{IsFirstUnfit, IsFirstWithout}

module _ (stations : List StationRow) (messages : List MessageRow) (held : List HeldRow) (delays : List DelayRow) where
  told : (table : TableName) (IsFirst : ℕ → Type 0) → ((at : ℕ) → IsFirst at → IsFirstFault stations messages held delays (Damaged table at)) → (fault : OpenFault) → IsFaultAt table IsFirst fault → IsFirstFault stations messages held delays fault
  told table IsFirst rule (Damaged of at) h = subst (λ (t : TableName). IsFirstFault stations messages held delays (Damaged t at)) (sym h.0) (rule at h.1)
  told table IsFirst rule (WrongVersion n) h = absurd h
  told table IsFirst rule Exhausted h = absurd h
  told table IsFirst rule Memory h = tt
  told table IsFirst rule Store h = absurd h

  pub told_station : (fault : OpenFault) → IsFaultAt Station (IsFirstUnfit station_cmp IsKnown stations) fault → IsFirstFault stations messages held delays fault
  told_station = told Station (IsFirstUnfit station_cmp IsKnown stations) (λ at h. h)

  pub told_message : (fault : OpenFault) → FitStations stations → IsFaultAt Message (IsFirstUnfit message_cmp IsPlaced messages) fault → IsFirstFault stations messages held delays fault
  told_message fault s = told Message (IsFirstUnfit message_cmp IsPlaced messages) (λ at h. inl (s, h)) fault

  pub told_held : (fault : OpenFault) → FitStations stations → FitMessages messages → IsFaultAt Held (IsFirstUnfit held_cmp (IsHeld stations messages) held) fault → IsFirstFault stations messages held delays fault
  told_held fault s m = told Held (IsFirstUnfit held_cmp (IsHeld stations messages) held) (λ at h. (s, m, h)) fault

  pub told_delayed : (fault : OpenFault) → FitStations stations → FitMessages messages → FitHeld stations messages held → IsFaultAt Delayed (IsFirstUnfit delay_cmp (IsDelayed messages) delays) fault → IsFirstFault stations messages held delays fault
  told_delayed fault s m h = told Delayed (IsFirstUnfit delay_cmp (IsDelayed messages) delays) (λ at d. (s, m, h, d)) fault

  pub told_kept : (fault : OpenFault) → AreAllFit stations messages held delays → IsFaultAt Message (IsFirstWithout (IsKept held delays) messages) fault → IsFirstFault stations messages held delays fault
  told_kept fault all = told Message (IsFirstWithout (IsKept held delays) messages) (λ at h. inr (record { fit = all; first = h })) fault

-- a fault by one measure is one by another that is the same
pub fault_as : (table : TableName) (First Other : ℕ → Type 0) → ((at : ℕ) → First at → Other at) → (fault : OpenFault) → IsFaultAt table First fault → IsFaultAt table Other fault
fault_as table First Other rule (Damaged of at) h = (h.0, rule at h.1)
fault_as table First Other rule (WrongVersion n) h = absurd h
fault_as table First Other rule Exhausted h = absurd h
fault_as table First Other rule Memory h = tt
fault_as table First Other rule Store h = absurd h
