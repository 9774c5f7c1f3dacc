-- Keys that come later in their order never stand earlier to the own subscriptions of consumers.
use Rattle.std.specs.Prelude.{◌≡◌, ℕ, ◌≤◌}
use Rattle.std.specs.Cmp.{IsTotalOrder}
use Rattle.std.specs.Ordering.{nat_cmp, on, ordering_index, ordering_then, then_cmp}
use Rattle.std.specs.declared.cmp.Ordering.{Ordering}
use Rattle.std.specs.declared.cmp.Ordering.TheVariants.{Less, Equal, Greater}
use Rattle.std.proofs.Common.{◌∙◌, refl, sym, arith}
use Rattle.std.proofs.lemmas.Cmp.{nat_cmp_total, on_total, then_total}
use Rattle.jm_dest.specs.declared.session.SessionId.{SessionId}
use Rattle.jm_dest.specs.declared.key.Key.TheVariants.{Own, SharedOwn, Durable, Queue as OfQueue}
use Rattle.jm_dest.specs.contracts.key.KeyOrd.TheImpl.{cmp-value}
use Rattle.jm_indexed.specs.Section.{IsMonotone}
use Rattle.jm_indexed.proofs.Sections.{monotone_first}
use Rattle.jm_machine.specs.declared.consumers.Consumers.{Consumers}
use Rattle.jm_machine.specs.declared.consumers.Consumers.TheVariants.{OfConnection, OfSession, One}
use Rattle.jm_machine.specs.Sections.{key_place, own_place, session_cmp}

-- a first answer that does not tie settles it, whichever of the others are taken together
regrouped : (p q r : Ordering) → ordering_then (ordering_then p q) r ≡ ordering_then p (ordering_then q r)
regrouped Less q r = refl
regrouped Equal q r = refl
regrouped Greater q r = refl

session_total : IsTotalOrder session_cmp
session_total = then_total (on_total (λ (s : SessionId). s.connection) nat_cmp_total) (on_total (λ (s : SessionId). s.number) nat_cmp_total)

-- a session's consumer, by both
abbrev consumer_cmp : SessionId × ℕ → SessionId × ℕ → Ordering
consumer_cmp = then_cmp (on (λ (x : SessionId × ℕ). x.0) session_cmp) (on (λ (x : SessionId × ℕ). x.1) nat_cmp)

consumer_total : IsTotalOrder consumer_cmp
consumer_total = then_total (on_total (λ (x : SessionId × ℕ). x.0) session_total) (on_total (λ (x : SessionId × ℕ). x.1) nat_cmp_total)

pub own_rises : (which : Consumers) (s : SessionId) (c : ℕ) (t : SessionId) (d : ℕ) →
    ordering_then (session_cmp s t) (nat_cmp c d) ≡ Less → ordering_index (own_place which s c) ≤ ordering_index (own_place which t d)
own_rises (OfConnection connection) s c t d h =
    let connections = nat_cmp s.connection t.connection in
    let numbers = nat_cmp s.number t.number in
    monotone_first nat_cmp_total s.connection t.connection connection (ordering_then numbers (nat_cmp c d))
    (sym (regrouped connections numbers (nat_cmp c d)) ∙ h)
own_rises (OfSession of) s c t d h = monotone_first session_total s t of (nat_cmp c d) h
own_rises (One of number) s c t d h = monotone_first consumer_total (s, c) (t, d) (of, number) Equal (rw h refl)

lowest : (r : Ordering) → 0 ≤ ordering_index r
lowest r = omega arith

highest : (r : Ordering) → ordering_index r ≤ 2
highest Less = omega arith
highest Equal = omega arith
highest Greater = omega arith

pub place_rises : (which : Consumers) → IsMonotone cmp-value.it (key_place which)
place_rises which (OfQueue a) b h = lowest (key_place which b)
place_rises which (Own s c) (OfQueue b) h = cc
place_rises which (Own s c) (Own t d) h = own_rises which s c t d h
place_rises which (Own s c) (SharedOwn client name) h = highest (own_place which s c)
place_rises which (Own s c) (Durable client name) h = highest (own_place which s c)
place_rises which (SharedOwn client name) (OfQueue b) h = cc
place_rises which (SharedOwn client name) (Own t d) h = cc
place_rises which (SharedOwn client name) (SharedOwn other text) h = omega arith
place_rises which (SharedOwn client name) (Durable other text) h = omega arith
place_rises which (Durable client name) (OfQueue b) h = cc
place_rises which (Durable client name) (Own t d) h = cc
place_rises which (Durable client name) (SharedOwn other text) h = omega arith
place_rises which (Durable client name) (Durable other text) h = omega arith
