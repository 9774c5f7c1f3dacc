-- The test on literals decides equality.
use Rattle.std.proofs.Common.{◌≡◌, ◌∙◌, Bool, true, false, List, refl, ap, arith}
use Rattle.std.specs.Cmp.{IsEquivalence}
use Rattle.std.specs.List.{Contains}
use Rattle.std.specs.Set.{is_member}
use Rattle.std.proofs.lemmas.Map.Views.{list_any-from_Contains}
use Rattle.std.proofs.lemmas.Bool.Decides.{nat_tests}
use Rattle.std.proofs.lemmas.Cmp.{nat_list_eq_equiv}
use Rattle.jm_machine.proofs.Keys.{text_same}
use Rattle.jm_selector.specs.declared.literal.Literal.{Literal}
use Rattle.jm_selector.specs.declared.literal.Literal.TheVariants.{Number, Text}
use Rattle.jm_sub.specs.Channels.{literal_eq}

literal_refl : (a : Literal) → literal_eq a a ≡ true
literal_refl (Number n) = grind (arith, nat_tests)
literal_refl (Text t) = nat_list_eq_equiv.refl t

literal_same : (a b : Literal) → literal_eq a b ≡ true → a ≡ b
literal_same (Number n) (Number m) h = grind (arith, nat_tests)
literal_same (Text s) (Text t) h = ap (λ x. Text x) (text_same s t h)
literal_same (Number n) (Text t) h = cc
literal_same (Text s) (Number n) h = cc

literal_sym : (a b : Literal) → literal_eq a b ≡ literal_eq b a
literal_sym a b = go (literal_eq a b) (literal_eq b a) refl refl
  where
    go : (x y : Bool) → literal_eq a b ≡ x → literal_eq b a ≡ y → x ≡ y
    go true true e f = refl
    go false false e f = refl
    go true false e f = absurd (let same : a ≡ b = literal_same a b e in let own : literal_eq b a ≡ true = ap (λ k. literal_eq b k) same ∙ literal_refl b in cc)
    go false true e f = absurd (let same : b ≡ a = literal_same b a f in let own : literal_eq a b ≡ true = ap (λ k. literal_eq a k) same ∙ literal_refl a in cc)

literal_equiv : IsEquivalence literal_eq
literal_equiv = record {
  refl = literal_refl;
  symm = literal_sym;
  congr = λ x y z h. ap (λ c. literal_eq c z) (literal_same x y h);
}

-- a literal of the list is found in it
pub member_from : (l : Literal) (ls : List Literal) → Contains ls l → is_member literal_eq ls l ≡ true
member_from l ls there = list_any-from_Contains literal_equiv l ls there
