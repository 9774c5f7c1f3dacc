-- What is said of messages and of delays, told of rows.
use Rattle.std.proofs.Common.{◌≡◌, ◌<◌, ◌==◌, ◌∙◌, ℕ, true, List, ap, sym, subst, length, get_or, arith}
use Rattle.std.specs.Cmp.{IsTotalOrder}
use Rattle.std.specs.List.{list_any}
use Rattle.std.proofs.lemmas.Cmp.{nat_cmp_total, on_total}
use Rattle.std.proofs.lemmas.List.{get_or_default}
use Rattle.jm_header.specs.declared.content.Content.{Content}
use Rattle.jm_header.specs.Headers.{is_delayed}
use Rattle.jm_parts.specs.declared.stored.StoredMessage.{StoredMessage}
use Rattle.jm_parts.specs.declared.stored.StoredSubscription.{StoredSubscription}
use Rattle.jm_parts.specs.Stored.{ArePlaced}
use Rattle.jm_decoding.specs.declared.delay.DelayRow.{DelayRow}
use Rattle.jm_decoding.specs.declared.held.HeldRow.{HeldRow}
use Rattle.jm_decoding.specs.declared.message.MessageRow.{MessageRow}
use Rattle.jm_decoding.specs.declared.station.StationRow.{StationRow}
use Rattle.jm_opening.specs.declared.judged.OpenFault.{OpenFault}
use Rattle.jm_opening.specs.declared.judged.TableName.TheVariants.{Message, Delayed}
use Rattle.jm_loading.specs.Delays.{IsDelay, IsHeldInTime}
use Rattle.jm_loading.specs.Faults.{IsFaultAt}
use Rattle.jm_loading.specs.Fitting.{FitDelays, IsDelayed, IsKept, delay_cmp}
use Rattle.jm_loading.specs.Holding.{AreHeldAs}
use Rattle.jm_loading.specs.Messages.{content_at, content_said}
use Rattle.jm_loading.specs.Stations.{AreSearchable, AreStationsOf, AreSubscriptions}
use Rattle.jm_loading.specs.Unfit.{AreFit, IsFirstUnfit, IsFirstWithout}
use Rattle.jm_loading.proofs.Fitting.{delay_fits, delay_listed, fits_delay, listed_delay, some_from, somebody}
use Rattle.jm_loading.proofs.Holding.{some_of}
use Rattle.jm_loading.proofs.Paired.{pair_at, pair_length}
use Rattle.jm_loading.proofs.Told.{fault_as}
use Rattle.jm_loading.proofs.Unfit.{fit_as, unfit_as}

pub delay_order : IsTotalOrder delay_cmp
delay_order = on_total (λ (d : DelayRow). d.place) nat_cmp_total

module _ (rows : List MessageRow) (ms : List StoredMessage) (placed : ArePlaced 1 ms) (same : (p : ℕ) → content_at p ms ≡ content_said p rows) (delays : List DelayRow) where
  pub delays_fit : AreFit delay_cmp (IsDelay ms) delays (length delays) → FitDelays rows delays
  delays_fit h = fit_as delay_cmp (IsDelay ms) (IsDelayed rows) delays (length delays) (λ k d l is. delay_fits rows ms placed same (get_or delays k d) is) h

  pub delays_told : (fault : OpenFault) → IsFaultAt Delayed (IsFirstUnfit delay_cmp (IsDelay ms) delays) fault → IsFaultAt Delayed (IsFirstUnfit delay_cmp (IsDelayed rows) delays) fault
  delays_told = fault_as Delayed (IsFirstUnfit delay_cmp (IsDelay ms) delays) (IsFirstUnfit delay_cmp (IsDelayed rows) delays)
      (λ at h. unfit_as delay_cmp (IsDelay ms) (IsDelayed rows) delays at (λ k d l is. delay_fits rows ms placed same (get_or delays k d) is) (λ k d l is. fits_delay rows ms placed same (get_or delays k d) is) h)

module _ (known : List StationRow) (rows : List MessageRow) (queues : List (List ℕ)) (ss : List StoredSubscription) (of : AreStationsOf known queues ss) (are : AreSubscriptions ss) (sorted : AreSearchable queues ss)
    (held : List HeldRow) (ms : List StoredMessage) (stand : AreHeldAs rows ss held ms) (delays : List DelayRow) where
  within : (k : ℕ) → k < length ms → k < length rows
  within k l = subst (λ (n : ℕ). k < n) (pair_length rows ms stand.pairs) l

  kept_row : (k : ℕ) (d : MessageRow) (e : StoredMessage) → k < length ms → IsHeldInTime delays (get_or ms k e) → IsKept held delays (get_or rows k d)
  kept_row k d e l h =
      let pair = pair_at rows ms stand.pairs k d e (within k l) in
      record {
        by_somebody = subst (λ (p : ℕ). list_any (λ (x : HeldRow). x.place == p) held ≡ true) pair.0 (somebody known rows queues ss of are sorted held ms stand k (get_or ms k e) l (λ x. get_or_default ms k x e l) h.held);
        delayed = λ t. subst (λ (p : ℕ). list_any (λ (x : DelayRow). x.place == p) delays ≡ true) pair.0 (delay_listed delays (get_or ms k e).place (h.delayed (ap (λ (m : Content). is_delayed m) pair.1 ∙ t)));
      }

  row_kept : (k : ℕ) (d : MessageRow) (e : StoredMessage) → k < length ms → IsKept held delays (get_or rows k d) → IsHeldInTime delays (get_or ms k e)
  row_kept k d e l h =
      let pair = pair_at rows ms stand.pairs k d e (within k l) in
      record {
        held = some_from known rows queues ss of are sorted held ms stand k (get_or ms k e) l (λ x. get_or_default ms k x e l) (subst (λ (p : ℕ). list_any (λ (x : HeldRow). x.place == p) held ≡ true) (sym pair.0) h.by_somebody);
        delayed = λ t. listed_delay delays (get_or ms k e).place (subst (λ (p : ℕ). list_any (λ (x : DelayRow). x.place == p) delays ≡ true) (sym pair.0) (h.delayed (ap (λ (m : Content). is_delayed m) (sym pair.1) ∙ t)));
      }

  pub kept_told : (fault : OpenFault) → IsFaultAt Message (IsFirstWithout (IsHeldInTime delays) ms) fault → IsFaultAt Message (IsFirstWithout (IsKept held delays) rows) fault
  kept_told = fault_as Message (IsFirstWithout (IsHeldInTime delays) ms) (IsFirstWithout (IsKept held delays) rows) (λ at h. record {
    within = within at h.within;
    before = λ k d l. (let inside : k < length ms = omega (arith, l, h.within) in let e = some_of ms k inside in kept_row k d e inside (h.before k e l));
    without = λ d has. (let e = some_of ms at h.within in h.without e (row_kept at d e h.within has));
  })
