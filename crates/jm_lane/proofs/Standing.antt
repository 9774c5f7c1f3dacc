-- How many messages stand in a table.
use Rattle.std.proofs.Common.{◌≡◌, ◌<◌, ℕ, List, length, Option, Some, None, arith, nat_eq, refl, sym, ◌∙◌}
use Rattle.std.specs.Cmp.{nat_eq_equiv}
use Rattle.std.proofs.lemmas.Bool.{eqb-true}
use Rattle.std.proofs.lemmas.List.{length-map}
use Rattle.std.specs.Map.{keys_of, lookup}
use Rattle.std.specs.Option.{IsSome}
use Rattle.std.proofs.lemmas.Map.Views.{Contains-keys_from_lookup, IsSome-lookup_from_Contains}
use Rattle.jm_lane.specs.declared.table.Stored.{Stored}
use Rattle.jm_lane.specs.Holders.{IsNumberOfPlaces, IsTable, Messages, holders_in}

-- what stands has a holder, and what has a holder stands
stands : (o : Option Stored) → 0 < holders_in o → IsSome o
stands None h = absurd (omega (arith, h))
stands (Some s) h = refl

held : (es : List (ℕ × Stored)) (p : ℕ) → IsTable es → IsSome (lookup (nat_eq p) es) → 0 < holders_in (lookup (nat_eq p) es)
held es p t some = go (lookup (nat_eq p) es) refl some
  where
    go : (o : Option Stored) → lookup (nat_eq p) es ≡ o → IsSome o → 0 < holders_in o
    go None e h = absurd (cc)
    go (Some s) e h = t.held p s e

-- as many places have a message as entries stand
pub number_of_places : (t : Messages) (n : ℕ) → IsTable t.entries → n ≡ length t.entries → IsNumberOfPlaces n t
number_of_places t n table is = record {
  places = keys_of t.entries;
  once = table.once;
  each = λ p. (λ h. held t.entries p table (IsSome-lookup_from_Contains nat_eq_equiv p t.entries h), λ h. Contains-keys_from_lookup {eq = nat_eq} (λ x y e. eqb-true x y e) p t.entries (stands (lookup (nat_eq p) t.entries) h));
  number = length-map t.entries (λ e. e.0) ∙ sym is;
}
