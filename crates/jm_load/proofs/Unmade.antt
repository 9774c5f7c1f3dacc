-- Why no core is made.
use Rattle.std.proofs.Common.{◌+◌, inl, inr, arith, Option, None, Some, Result, Ok, Err, IfErr, OnOk, refl, subst, sym, ◌∙◌}
use Rattle.jm_decoding.specs.declared.station.StationRow.{StationRow}
use Rattle.jm_decoding.specs.declared.message.MessageRow.{MessageRow}
use Rattle.jm_decoding.specs.declared.held.HeldRow.{HeldRow}
use Rattle.jm_decoding.specs.declared.delay.DelayRow.{DelayRow}
use Rattle.std.specs.Prelude.{◌≡◌, List, length}
use Rattle.std.specs.List.{AllByRecursion}
use Rattle.sqlite_value.specs.Order.{Row}
use Rattle.jm_decoding.specs.declared.fault.TableFault.{TableFault}
use Rattle.jm_decoding.specs.declared.fault.TableFault.TheVariants as table
use Rattle.jm_decoding.specs.Decoded.{IsStationOf}
use Rattle.jm_decoding.specs.Readable.{IsReadableMessage, IsReadableStation}
use Rattle.jm_decoding.specs.Tables.{IsFaultOfTable, StandFor}
use Rattle.jm_opening.specs.declared.judged.OpenFault.{OpenFault}
use Rattle.jm_opening.specs.declared.judged.OpenFault.TheVariants.{Damaged, WrongVersion, Exhausted, Memory, Store}
use Rattle.jm_opening.specs.declared.judged.TableName.TheVariants.{Meta, Station, Message, Held, Delayed}
use Rattle.jm_loading.specs.declared.assembled.Assembled.{Assembled}
use Rattle.jm_loading.specs.Fitting.{AreAllFit, IsFirstFault, IsPlaced, message_cmp, station_cmp}
use Rattle.jm_loading.specs.Stations.{IsKnown}
use Rattle.jm_loading.proofs.Unfit.{fewer}
use Rattle.jm_load.specs.declared.reading.TableRows.{TableRows}
use Rattle.jm_load.specs.Loaded.{AreDecodedTo, IsFirstLater, IsUndecoded, IsUnmade, fault_told, first_told}
use Rattle.jm_load.proofs.Listed.{all_stand}

-- what the rows before a damaged one say together, or that this one is damaged
pub first_unmade : (ss : List StationRow) (ms : List MessageRow) (hs : List HeldRow) (ds : List DelayRow) (r : Result Assembled OpenFault) (damaged : OpenFault)
    → OnOk r (AreAllFit ss ms hs ds) → IfErr r (IsFirstFault ss ms hs ds) → IsUnmade ss ms hs ds (Some damaged) (first_told r damaged)
first_unmade ss ms hs ds (Ok a) damaged fit first = inl (refl, λ stations messages. (fit.fit_held, fit.fit_delays))
first_unmade ss ms hs ds (Err Memory) damaged fit first = inr tt
first_unmade ss ms hs ds (Err (Damaged Held at)) damaged fit first = inr first
first_unmade ss ms hs ds (Err (Damaged Delayed at)) damaged fit first = inr first
first_unmade ss ms hs ds (Err (Damaged Station at)) damaged fit first =
    inl (refl, λ stations messages. absurd (first.unfit (fewer station_cmp IsKnown ss (length ss) (at + 1) (omega (arith, first.within)) stations)))
first_unmade ss ms hs ds (Err (Damaged Message at)) damaged fit (inl first) =
    inl (refl, λ stations messages. absurd (first.1.unfit (fewer message_cmp IsPlaced ms (length ms) (at + 1) (omega (arith, first.1.within)) messages)))
first_unmade ss ms hs ds (Err (Damaged Message at)) damaged fit (inr unkept) = inl (refl, λ stations messages. (unkept.fit.fit_held, unkept.fit.fit_delays))
first_unmade ss ms hs ds (Err (Damaged Meta at)) damaged fit first = absurd first
first_unmade ss ms hs ds (Err (WrongVersion version)) damaged fit first = absurd first
first_unmade ss ms hs ds (Err Exhausted) damaged fit first = absurd first
first_unmade ss ms hs ds (Err Store) damaged fit first = absurd first

-- so it is of rows that are handed in
pub first_unmade_of : (ss : List StationRow) (ms : List MessageRow) (hs given_hs : List HeldRow) (ds given_ds : List DelayRow) (r : Result Assembled OpenFault) (damaged fault : OpenFault) (o : Option OpenFault) → o ≡ Some damaged → fault ≡ first_told r damaged
    → OnOk r (AreAllFit ss ms given_hs given_ds) → IfErr r (IsFirstFault ss ms given_hs given_ds) → given_hs ≡ hs → given_ds ≡ ds → IsUnmade ss ms hs ds o fault
first_unmade_of ss ms hs given_hs ds given_ds r damaged fault o is told fit first held_is delays_are =
    subst (λ (x : Option OpenFault). IsUnmade ss ms hs ds x fault) (sym is)
    (subst (λ (x : OpenFault). IsUnmade ss ms hs ds (Some damaged) x) (sym told)
    (subst (λ (xs : List HeldRow). IsUnmade ss ms xs ds (Some damaged) (first_told r damaged)) held_is
    (subst (λ (ys : List DelayRow). IsUnmade ss ms given_hs ys (Some damaged) (first_told r damaged)) delays_are (first_unmade ss ms given_hs given_ds r damaged fit first))))

-- where no row is damaged, the first fault of all rows
pub whole_unmade : {A : Type 0} (ss : List StationRow) (ms : List MessageRow) (hs given_hs : List HeldRow) (ds given_ds : List DelayRow) (r : Result A OpenFault) (o : Option OpenFault) → o ≡ None → IfErr r (IsFirstFault ss ms given_hs given_ds)
    → given_hs ≡ hs → given_ds ≡ ds → IfErr r (IsUnmade ss ms hs ds o)
whole_unmade ss ms hs given_hs ds given_ds (Ok value) o none first held_is delays_are = tt
whole_unmade ss ms hs given_hs ds given_ds (Err fault) o none first held_is delays_are =
    subst (λ (x : Option OpenFault). IsUnmade ss ms hs ds x fault) (sym none)
    (subst (λ (xs : List HeldRow). IsFirstFault ss ms xs ds fault) held_is (subst (λ (ys : List DelayRow). IsFirstFault ss ms given_hs ys fault) delays_are first))

-- ---- why no row is decoded

undecoded_message : (rows : TableRows) (fault : TableFault) → AllByRecursion IsReadableStation rows.stations.items → IsFaultOfTable IsReadableMessage rows.messages.items fault → IsUndecoded rows (fault_told Message fault)
undecoded_message rows (table.Damaged at) all h = (all, h)
undecoded_message rows table.Memory all h = tt

-- the first row of message may not be read, and all of station may
pub message_told : (rows : TableRows) (given_ss given_ms : List Row) (ss : List StationRow) (fault : TableFault) (told : OpenFault) → told ≡ fault_told Message fault → StandFor IsStationOf given_ss ss → IsFaultOfTable IsReadableMessage given_ms fault
    → given_ss ≡ rows.stations.items → given_ms ≡ rows.messages.items → IsUndecoded rows told
message_told rows given_ss given_ms ss fault told is stand h stations_are messages_are =
    let all = all_stand IsStationOf IsReadableStation (λ r x s. s.readable) given_ss ss stand in
    subst (IsUndecoded rows) (sym is)
    (undecoded_message rows fault (subst (λ (xs : List Row). AllByRecursion IsReadableStation xs) stations_are all) (subst (λ (xs : List Row). IsFaultOfTable IsReadableMessage xs fault) messages_are h))

-- ---- neither is told as Store

pub undecoded_cause : (rows : TableRows) (fault : OpenFault) (Cause : Type 0) → IsUndecoded rows fault → fault ≡ Store → Cause
undecoded_cause rows fault Cause h is = absurd (subst (IsUndecoded rows) is h)

pub unmade_cause : (rows : TableRows) (ss : List StationRow) (ms : List MessageRow) (hs : List HeldRow) (ds : List DelayRow) (o : Option OpenFault) (fault : OpenFault) (Cause : Type 0) → AreDecodedTo rows hs ds o → IsUnmade ss ms hs ds o fault
    → fault ≡ Store → Cause
unmade_cause rows ss ms hs ds None fault Cause stand h is = absurd (subst (IsFirstFault ss ms hs ds) is h)
unmade_cause rows ss ms hs ds (Some damaged) fault Cause stand (inl told) is = absurd (subst (λ (x : OpenFault). AreDecodedTo rows hs ds (Some x)) (sym told.0 ∙ is) stand)
unmade_cause rows ss ms hs ds (Some damaged) fault Cause stand (inr later) is = absurd (subst (IsFirstLater ss ms hs ds) is later)
