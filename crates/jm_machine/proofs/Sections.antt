-- The keys in the section of consumers are their own ones.
use Rattle.std.proofs.Common.{◌≡◌, ◌∙◌, ◌==◌, ℕ, refl, arith}
use Rattle.std.specs.Prelude.{◌&&◌}
use Rattle.std.specs.Ordering.{is_eq, nat_cmp, ordering_then}
use Rattle.std.specs.declared.cmp.Ordering.{Ordering}
use Rattle.std.specs.declared.cmp.Ordering.TheVariants.{Less, Equal, Greater}
use Rattle.std.proofs.lemmas.Bool.Decides.{nat_tests}
use Rattle.jm_dest.specs.declared.session.SessionId.{SessionId}
use Rattle.jm_dest.specs.declared.key.Key.{Key}
use Rattle.jm_dest.specs.declared.key.Key.TheVariants.{Own, SharedOwn, Durable, Queue as OfQueue}
use Rattle.jm_dest.specs.Names.{session_eq}
use Rattle.jm_machine.specs.declared.consumers.Consumers.{Consumers}
use Rattle.jm_machine.specs.declared.consumers.Consumers.TheVariants.{OfConnection, OfSession, One}
use Rattle.jm_machine.specs.Machine.{are_meant}
use Rattle.jm_machine.specs.Sections.{is_own_of, key_place, own_place, session_cmp}

-- numbers are the same where neither comes before the other
nat_is : (a b : ℕ) → is_eq (nat_cmp a b) ≡ (a == b)
nat_is a b = grind (arith, nat_tests)

-- two answers, of which the second counts where the first ties
both : (r s : Ordering) → is_eq (ordering_then r s) ≡ (is_eq r && is_eq s)
both Less s = refl
both Equal s = refl
both Greater s = refl

pub session_is : (s t : SessionId) → is_eq (session_cmp s t) ≡ session_eq s t
session_is s t = both (nat_cmp s.connection t.connection) (nat_cmp s.number t.number) ∙ (λ i. nat_is s.connection t.connection i && nat_is s.number t.number i)

pub own_is : (which : Consumers) (s : SessionId) (c : ℕ) → is_eq (own_place which s c) ≡ are_meant which s c
own_is (OfConnection connection) s c = nat_is s.connection connection
own_is (OfSession t) s c = session_is s t
own_is (One t d) s c = both (session_cmp s t) (nat_cmp c d) ∙ (λ i. session_is s t i && nat_is c d i)

-- the keys in the section are the own ones of these consumers
pub place_is : (which : Consumers) (key : Key) → is_eq (key_place which key) ≡ is_own_of which key
place_is which (OfQueue name) = refl
place_is which (Own s c) = own_is which s c
place_is which (SharedOwn client name) = refl
place_is which (Durable client name) = refl
