-- One holder less of a message, which goes with the last of them.
use Rattle.std.proofs.Common.{◌≡◌, ◌≢◌, ℕ, ◌+◌, ◌<◌, ◌≤◌, nat_eq, cond, List, None, Option, Some, ap, refl, sym, subst, ◌∙◌, arith, inl, inr, option_map}
use Rattle.std.specs.List.{IsDistinct, slice_get}
use Rattle.std.specs.Map.{keys_of, lookup, lookup_key, values_of}
use Rattle.std.proofs.lemmas.Bool.{eq-eqb, eqb-true, ne_eqb}
use Rattle.std.proofs.lemmas.Bool.Decides.{eqb_tells}
use Rattle.std.proofs.lemmas.Map.Made.{lookup_key_passes}
use Rattle.std.proofs.lemmas.Option.{slice_get-map}
use Rattle.jm_lane.specs.declared.table.Stored.{Stored}
use Rattle.jm_lane.specs.Holders.{GainsHolder, IsTable, KeepsMessages, LosesHolder, Messages, holders_in, holders_of, message_in, message_of}

-- at a place stands that, and at each other what stood there
abbrev pub StandsAt : List (ℕ × Stored) → List (ℕ × Stored) → ℕ → Option Stored → Type 0
StandsAt old new place o = (p : ℕ) → lookup (nat_eq p) new ≡ cond (nat_eq place p) o (lookup (nat_eq p) old)

at_place : (old new : List (ℕ × Stored)) (place : ℕ) (o : Option Stored) → StandsAt old new place o → lookup (nat_eq place) new ≡ o
at_place old new place o h = h place ∙ ap (λ b. cond b o (lookup (nat_eq place) old)) (eq-eqb place place refl)

elsewhere : (old new : List (ℕ × Stored)) (place p : ℕ) (o : Option Stored) → StandsAt old new place o → p ≢ place → lookup (nat_eq p) new ≡ lookup (nat_eq p) old
elsewhere old new place p o h ne = h p ∙ ap (λ b. cond b o (lookup (nat_eq p) old)) (ne_eqb place p (λ e. ne (sym e)))

-- that has one holder more than what stood there
pub gains : (old new : Messages) (place : ℕ) (o : Option Stored) → StandsAt old.entries new.entries place o → holders_in o ≡ holders_of old place + 1 → GainsHolder old new place
gains old new place o h more = record {
  holders = λ p. elim (eqb_tells p place) [
    | inl e ↦ rw (e.1, eq-eqb place place refl, at_place old.entries new.entries place o h) more
    | inr n ↦ rw (ne_eqb p place n.1, elsewhere old.entries new.entries place p o h n.1) (omega arith)
  ];
}

-- that has one holder less than what stood there
pub loses : (old new : Messages) (place : ℕ) (o : Option Stored) → StandsAt old.entries new.entries place o → holders_in o + 1 ≡ holders_of old place → LosesHolder old new place
loses old new place o h less = record {
  holders = λ p. elim (eqb_tells p place) [
    | inl e ↦ rw (e.1, eq-eqb place place refl, at_place old.entries new.entries place o h) less
    | inr n ↦ rw (ne_eqb p place n.1, elsewhere old.entries new.entries place p o h n.1) (omega arith)
  ];
}

-- and the same message, where it has a holder
pub keeps_messages : (old new : Messages) (place : ℕ) (o : Option Stored) → StandsAt old.entries new.entries place o → (0 < holders_in o → message_in o ≡ message_of old place) → old.spare ≤ new.spare → KeepsMessages old new
keeps_messages old new place o h same room = record {
  same = λ p. elim (eqb_tells p place) [
    | inl e ↦ rw (e.1, at_place old.entries new.entries place o h) same
    | inr n ↦ rw (elsewhere old.entries new.entries place p o h n.1) (λ some. refl)
  ];
  room = room;
}

-- so it is a table, where each key still stands once
pub still_table : (old new : List (ℕ × Stored)) (place : ℕ) (s : Stored) → IsTable old → StandsAt old new place (Some s) → IsDistinct nat_eq (keys_of new) → 0 < s.holders → IsTable new
still_table old new place s h at once some = record {
  once = once;
  held = λ p t is. elim (eqb_tells p place) [
    | inl e ↦
        let same : Some s ≡ Some t = sym (at_place old new place (Some s) at) ∙ subst (λ q. lookup (nat_eq q) new ≡ Some t) e.1 is in
        let is_s : s ≡ t = cc in
        subst (λ (x : Stored). 0 < x.holders) is_s some
    | inr n ↦ h.held p t (sym (elsewhere old new place p (Some s) at n.1) ∙ is)
  ];
}

-- what stands at an index, by the map's look-up and by the index
pub key_there : (place : ℕ) (es : List (ℕ × Stored)) (k : ℕ) → Some k ≡ lookup_key (nat_eq place) es → k ≡ place
key_there place es k is = sym (eqb-true place k (lookup_key_passes (nat_eq place) es k (sym is)))

pub value_there : (es : List (ℕ × Stored)) (i k : ℕ) (s t : Stored) → slice_get es i ≡ Some (k, s) → Some t ≡ slice_get (values_of es) i → t ≡ s
value_there es i k s t here is =
    let both : Some t ≡ Some s = is ∙ slice_get-map (λ (e : ℕ × Stored). e.1) es i ∙ ap (option_map (λ (e : ℕ × Stored). e.1)) here in
    cc

pub same_key : (place : ℕ) (k q : ℕ) (s t : Stored) (o : Option (ℕ × Stored)) → o ≡ Some (k, s) → Some (q, t) ≡ o → k ≡ place → q ≡ place
same_key place k q s t o here is there =
    let both : Some (q, t) ≡ Some (k, s) = is ∙ here in
    let same : (q, t) ≡ (k, s) = cc in
    ap (λ (e : ℕ × Stored). e.0) same ∙ there

pub no_value : {P : Type 0} (es : List (ℕ × Stored)) (i k : ℕ) (s : Stored) → slice_get es i ≡ Some (k, s) → None ≡ slice_get (values_of es) i → P
no_value es i k s here is =
    let both : None ≡ Some s = is ∙ slice_get-map (λ (e : ℕ × Stored). e.1) es i ∙ ap (option_map (λ (e : ℕ × Stored). e.1)) here in
    absurd (cc)
