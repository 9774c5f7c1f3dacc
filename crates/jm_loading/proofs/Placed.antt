-- Messages by place.
use Rattle.std.proofs.Common.{◌≡◌, ◌+◌, ◌<◌, ◌≤◌, ◌==◌, ◌∙◌, ℕ, zero, suc, Bool, true, false, cond, List, [], ◌∷◌, ap, sym, subst, refl, length, get_or, set, arith, Option, Some}
use Rattle.std.specs.Prelude.{IfSome, option_map}
use Rattle.std.specs.List.{All}
use Rattle.std.proofs.lemmas.Bool.{eq-eqb, eqb-true}
use Rattle.std.proofs.lemmas.Bool.Decides.{nat_tests}
use Rattle.std.proofs.lemmas.List.Elements.{All-head, All-tail}
use Rattle.jm_parts.specs.declared.stored.StoredMessage.{StoredMessage}
use Rattle.jm_parts.specs.Stored.{ArePlaced}
use Rattle.jm_reopened.specs.Given.{given_at}
use Rattle.jm_loading.specs.Messages.{content_at}

-- what holds of each message holds of the one at a place
pub of_given : (P : StoredMessage → Type 0) (p : ℕ) (ms : List StoredMessage) → All P ms → IfSome (given_at p ms) P
of_given P p [] h = tt
of_given P p (m ∷ ms) h = go (m.place == p) (All-head P m ms h) (of_given P p ms (All-tail P m ms h))
  where
    go : (b : Bool) → P m → IfSome (given_at p ms) P → IfSome (cond b (Some m) (given_at p ms)) P
    go true here rest = here
    go false here rest = rest

-- the places of those behind are above
above : (from at : ℕ) (ms : List StoredMessage) (d : StoredMessage) → ArePlaced from ms → at < length ms → from ≤ (get_or ms at d).place
above from at [] d h l = absurd (omega (arith, l))
above from zero (m ∷ ms) d h l = h.0
above from (suc i) (m ∷ ms) d h l =
    let here = h.0 in
    let rest = above (m.place + 1) i ms d h.2 (omega (arith, l)) in
    omega (arith, here, rest)

-- the message with that index is the one at its place
pub given_here : (from at : ℕ) (ms : List StoredMessage) (d : StoredMessage) → ArePlaced from ms → at < length ms → given_at (get_or ms at d).place ms ≡ Some (get_or ms at d)
given_here from at [] d h l = absurd (omega (arith, l))
given_here from zero (m ∷ ms) d h l = ap (λ b. cond b (Some m) (given_at m.place ms)) (eq-eqb m.place m.place refl)
given_here from (suc i) (m ∷ ms) d h l =
    let up = above (m.place + 1) i ms d h.2 (omega (arith, l)) in
    let other : (m.place == (get_or ms i d).place) ≡ false = grind (arith, nat_tests) in
    ap (λ b. cond b (Some m) (given_at (get_or ms i d).place ms)) other ∙ given_here (m.place + 1) i ms d h.2 (omega (arith, l))

-- two messages of which one stands before the other
apart : (m n : StoredMessage) (p : ℕ) (o : Option StoredMessage) → m.place < n.place → cond (m.place == p) (Some m) (cond (n.place == p) (Some n) o) ≡ cond (n.place == p) (Some n) (cond (m.place == p) (Some m) o)
apart m n p o lt = go (m.place == p) refl (n.place == p) refl
  where
    go : (a : Bool) → (m.place == p) ≡ a → (b : Bool) → (n.place == p) ≡ b → cond a (Some m) (cond b (Some n) o) ≡ cond b (Some n) (cond a (Some m) o)
    go true ea true eb = absurd (let x : m.place ≡ p = eqb-true m.place p ea in let y : n.place ≡ p = eqb-true n.place p eb in omega (arith, x, y, lt))
    go true ea false eb = refl
    go false ea true eb = refl
    go false ea false eb = refl

-- the messages after one of them was changed, which stays at its place
pub given_set : (from p at : ℕ) (ms : List StoredMessage) (n d : StoredMessage) → ArePlaced from ms → at < length ms → n.place ≡ (get_or ms at d).place → given_at p (set ms at n) ≡ cond (n.place == p) (Some n) (given_at p ms)
given_set from p at [] n d h l e = absurd (omega (arith, l))
given_set from p zero (m ∷ ms) n d h l e = go (n.place == p) (ap (λ x. x == p) e)
  where
    go : (b : Bool) → b ≡ (m.place == p) → cond b (Some n) (given_at p ms) ≡ cond b (Some n) (cond (m.place == p) (Some m) (given_at p ms))
    go true t = refl
    go false t = ap (λ b. cond b (Some m) (given_at p ms)) t
given_set from p (suc i) (m ∷ ms) n d h l e =
    let up = above (m.place + 1) i ms d h.2 (omega (arith, l)) in
    ap (λ o. cond (m.place == p) (Some m) o) (given_set (m.place + 1) p i ms n d h.2 (omega (arith, l)) e) ∙ apart m n p (given_at p ms) (omega (arith, up, e))

pub placed_set : (from at : ℕ) (ms : List StoredMessage) (n d : StoredMessage) → ArePlaced from ms → at < length ms → n.place ≡ (get_or ms at d).place → ArePlaced from (set ms at n)
placed_set from at [] n d h l e = absurd (omega (arith, l))
placed_set from zero (m ∷ ms) n d h l e =
    let low = h.0 in
    let high = h.1 in
    (omega (arith, low, e), omega (arith, high, e), subst (λ x. ArePlaced (x + 1) ms) (sym e) h.2)
placed_set from (suc i) (m ∷ ms) n d h l e = (h.0, h.1, placed_set (m.place + 1) i ms n d h.2 (omega (arith, l)) e)

-- the message that was changed is the one at its place
pub given_old : (from p at : ℕ) (ms : List StoredMessage) (n d : StoredMessage) → ArePlaced from ms → at < length ms → n.place ≡ (get_or ms at d).place → (n.place == p) ≡ true → given_at p ms ≡ Some (get_or ms at d)
given_old from p at ms n d h l e t = subst (λ q. given_at q ms ≡ Some (get_or ms at d)) (sym e ∙ eqb-true n.place p t) (given_here from at ms d h l)

pub content_set : (from p at : ℕ) (ms : List StoredMessage) (n d : StoredMessage) → ArePlaced from ms → at < length ms → n.place ≡ (get_or ms at d).place → n.message ≡ (get_or ms at d).message → content_at p (set ms at n) ≡ content_at p ms
content_set from p at ms n d h l e same = ap (option_map (λ (m : StoredMessage). m.message)) (given_set from p at ms n d h l e) ∙ go (n.place == p) refl
  where
    go : (b : Bool) → (n.place == p) ≡ b → option_map (λ (m : StoredMessage). m.message) (cond b (Some n) (given_at p ms)) ≡ content_at p ms
    go true t = ap Some same ∙ sym (ap (option_map (λ (m : StoredMessage). m.message)) (given_old from p at ms n d h l e t))
    go false t = refl
