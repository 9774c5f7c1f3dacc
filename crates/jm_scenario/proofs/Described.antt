-- What is read of the outer object of a scenario, after one more member.
use Rattle.std.proofs.Common.{◌≡◌, ◌∙◌, List, ℕ, Bool, true, false, true≢false, Some, option_map, option_and_then, Ordering, Less, Equal, Greater, bytes_eq, is_eq, nat_cmp, refl, ap, sym, subst, codes}
use Rattle.std.proofs.lemmas.Map.Text.{is_eq-slice_cmp}
use Rattle.std.proofs.lemmas.Slice.Eq.{bytes_eq-Decides}
use Rattle.std.specs.Cmp.Lexicographic.{slice_cmp}
use Rattle.std.specs.Ordering.{match_ordering}
use Rattle.std.specs.Prelude.{◌&&◌, is_none}
use Rattle.serde_json.specs.Data.{Data, Members, no_members, member, put}
use Rattle.serde_json.specs.Find.{as_array, get_member}
use Rattle.serde_json.specs.View.{view}
use Rattle.serde_json.specs.declared.value.Value.{Value}
use Rattle.serde_json.proofs.Views.{get_member-put, get_member-put_other}
use Rattle.jm_fields.specs.Fields.{has, has_each}
use Rattle.jm_scenario.specs.Outer.{AreCalls, Describes, KeepsUnknown}
use Rattle.jm_fields.specs.declared.field.Owner.{Owner}
use Rattle.jm_fields.specs.declared.field.Owner.TheVariants.{Scenario as OfScenario}
use Rattle.jm_scenario.specs.declared.outer.Outer.{Outer}

twice : (a b : Bool) → (a && b) ≡ (a && (a && b))
twice true b = refl
twice false b = refl

swapped : (a b c : Bool) → (a && (b && c)) ≡ (b && (a && c))
swapped true b c = refl
swapped false true c = refl
swapped false false c = refl

-- after one more member, each has a name that its owner has, where that one has
has_each-put : (owner : Owner) (k : List ℕ) (one : Data) (found : Members) → has_each owner (put k one found) ≡ (has owner k && has_each owner found)
has_each-put owner k one no_members = refl
has_each-put owner k one (member l e ms) = go (slice_cmp nat_cmp k l) refl (has_each-put owner k one ms)
  where
    go : (o : Ordering) → slice_cmp nat_cmp k l ≡ o → has_each owner (put k one ms) ≡ (has owner k && has_each owner ms)
        → has_each owner (match_ordering o (member k one (member l e ms)) (member l one ms) (member l e (put k one ms))) ≡ (has owner k && (has owner l && has_each owner ms))
    go Less is rest = refl
    go Equal is rest =
        let same : k ≡ l = (bytes_eq-Decides k l).0 (sym (is_eq-slice_cmp k l) ∙ ap is_eq is) in
        twice (has owner l) (has_each owner ms) ∙ ap (λ b. b && (has owner l && has_each owner ms)) (ap (has owner) (sym same))
    go Greater is rest = ap (λ b. has owner l && b) rest ∙ swapped (has owner l) (has owner k) (has_each owner ms)

other_name : (k : List ℕ) (name : List ℕ) → bytes_eq k name ≡ false → name ≡ k → ⊥
other_name k name differ same = absurd (true≢false (sym ((bytes_eq-Decides k name).1 (sym same)) ∙ differ))

pub described_calls : (found : Members) (old new : Outer) (one : Data) → new.held ≡ old.held → new.unknown ≡ old.unknown → AreCalls (as_array one) new.calls → Describes found old
    → Describes (put (codes "calls") one found) new
described_calls found old new one held unknown calls so_far = record {
  held = get_member-put_other (codes "held") (codes "calls") one found (other_name (codes "calls") (codes "held") refl) ∙ so_far.held ∙ ap (option_map view) (sym held);
  known = has_each-put OfScenario (codes "calls") one found ∙ so_far.known ∙ ap is_none (sym unknown);
  calls = subst (λ o. AreCalls (option_and_then as_array o) new.calls) (sym (get_member-put (codes "calls") one found)) calls;
}

pub described_held : (found : Members) (old new : Outer) (one : Value) → new.held ≡ Some one → new.unknown ≡ old.unknown → new.calls ≡ old.calls → Describes found old
    → Describes (put (codes "held") (view one) found) new
described_held found old new one held unknown calls so_far = record {
  held = get_member-put (codes "held") (view one) found ∙ ap (option_map view) (sym held);
  known = has_each-put OfScenario (codes "held") (view one) found ∙ so_far.known ∙ ap is_none (sym unknown);
  calls = subst (λ o. AreCalls (option_and_then as_array o) new.calls) (sym (get_member-put_other (codes "calls") (codes "held") (view one) found (other_name (codes "held") (codes "calls") refl)))
      (subst (AreCalls (option_and_then as_array (get_member (codes "calls") found))) (sym calls) so_far.calls);
}

pub described_unknown : (found : Members) (old new : Outer) (name : List ℕ) (one : Data) → bytes_eq name (codes "calls") ≡ false → bytes_eq name (codes "held") ≡ false → KeepsUnknown old new → Describes found old
    → Describes (put name one found) new
described_unknown found old new name one not_calls not_held kept so_far = record {
  held = get_member-put_other (codes "held") name one found (other_name name (codes "held") not_held) ∙ so_far.held ∙ ap (option_map view) (sym kept.held);
  known = has_each-put OfScenario name one found ∙ ap (λ b. b && has_each OfScenario found) (unknown not_calls not_held) ∙ sym kept.unknown;
  calls = subst (λ o. AreCalls (option_and_then as_array o) new.calls) (sym (get_member-put_other (codes "calls") name one found (other_name name (codes "calls") not_calls)))
      (subst (AreCalls (option_and_then as_array (get_member (codes "calls") found))) (sym kept.calls) so_far.calls);
}
  where
    unknown : bytes_eq name (codes "calls") ≡ false → bytes_eq name (codes "held") ≡ false → has OfScenario name ≡ false
    unknown p q = rw (p, q) refl
