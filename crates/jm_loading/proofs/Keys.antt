-- Keys that rise stand once.
use Rattle.std.proofs.Common.{◌≡◌, ◌∙◌, false, List, [], ◌∷◌, ap, sym, inl, inr}
use Rattle.std.specs.List.{IsDistinct, AllByRecursion}
use Rattle.std.specs.List.Sorted.{IsStrictlySortedBy}
use Rattle.std.specs.Cmp.{IsTotalOrder}
use Rattle.std.specs.declared.cmp.Ordering.TheVariants.{Less}
use Rattle.std.proofs.lemmas.Bool.{cases_Bool}
use Rattle.std.proofs.lemmas.Cmp.{nat_cmp_total, nat_list_cmp_total, then_total, on_total, tied_itself}
use Rattle.std.proofs.lemmas.Map.Keys.{sorted_head, sorted_tail, IsDistinct-cons}
use Rattle.jm_dest.specs.declared.key.Key.{Key}
use Rattle.jm_dest.specs.Keys.{key_eq}
use Rattle.jm_machine.proofs.Keys.{key_same}
use Rattle.jm_loading.specs.Order.{client, family, key_cmp, name}

pub key_order : IsTotalOrder key_cmp
key_order = then_total (then_total (on_total family nat_cmp_total) (on_total client nat_list_cmp_total)) (on_total name nat_list_cmp_total)

-- a key that is before another is not the same
pub apart : (a b : Key) → key_cmp a b ≡ Less → key_eq a b ≡ false
apart a b below = elim (cases_Bool (key_eq a b)) [
  | inl same ↦ absurd (let tied = ap (key_cmp a) (sym (key_same a b same)) ∙ tied_itself key_order a in cc)
  | inr other ↦ other
]

all_apart : (a : Key) (keys : List Key) → AllByRecursion (λ b. key_cmp a b ≡ Less) keys → AllByRecursion (λ b. key_eq a b ≡ false) keys
all_apart a [] h = tt
all_apart a (b ∷ keys) h = (apart a b h.0, all_apart a keys h.1)

pub once : (keys : List Key) → IsStrictlySortedBy key_cmp keys → IsDistinct key_eq keys
unfolding IsDistinct
once [] h = tt
once (key ∷ keys) h = IsDistinct-cons key_eq key keys (all_apart key keys (sorted_head key_cmp key keys h)) (once keys (sorted_tail key_cmp key keys h))
