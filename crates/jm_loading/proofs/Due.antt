-- The delays of messages, and the rows of delayed.
use Rattle.std.proofs.Common.{◌≡◌, ◌<◌, ◌==◌, ◌∙◌, ℕ, zero, suc, Bool, true, false, cond, List, [], ◌∷◌, ap, subst, refl, length, get_or, arith, Option, Some, None}
use Rattle.std.specs.Prelude.{IfSome, find, option_map}
use Rattle.std.specs.List.{All}
use Rattle.std.proofs.lemmas.Bool.{eq-eqb, eqb-true}
use Rattle.std.proofs.lemmas.List.Elements.{All-head, All-tail}
use Rattle.jm_header.specs.Headers.{is_delayed}
use Rattle.jm_parts.specs.declared.stored.StoredMessage.{StoredMessage}
use Rattle.jm_parts.specs.Stored.{ArePlaced}
use Rattle.jm_reopened.specs.Given.{due_given, given_at}
use Rattle.jm_decoding.specs.declared.delay.DelayRow.{DelayRow}
use Rattle.jm_loading.specs.Delays.{HasItsDelay, IsDelay}
use Rattle.jm_loading.specs.Said.{due_said}
use Rattle.jm_loading.proofs.Placed.{given_here}

abbrev is_of : ℕ → DelayRow → Bool
is_of place d = d.place == place

-- the row of a place is one of the rows
found : (P : DelayRow → Type 0) (place : ℕ) (delays : List DelayRow) → All P delays → IfSome (find (is_of place) delays) (λ d. P d × (d.place ≡ place))
found P place [] h = tt
found P place (d ∷ delays) h = go (d.place == place) refl (All-head P d delays h) (found P place delays (All-tail P d delays h))
  where
    go : (b : Bool) → (d.place == place) ≡ b → P d → IfSome (find (is_of place) delays) (λ d. P d × (d.place ≡ place)) → IfSome (cond b (Some d) (find (is_of place) delays)) (λ d. P d × (d.place ≡ place))
    go true t here rest = (here, eqb-true d.place place t)
    go false t here rest = rest

-- where no row is of a place, none with an index is
none_there : (place at : ℕ) (delays : List DelayRow) (e : DelayRow) → find (is_of place) delays ≡ None → at < length delays → (get_or delays at e).place ≡ place → ⊥
none_there place at [] e h l t = omega (arith, l)
none_there place zero (d ∷ delays) e h l t = go (d.place == place) (eq-eqb d.place place t) h
  where
    go : (b : Bool) → b ≡ true → cond b (Some d) (find (is_of place) delays) ≡ None → ⊥
    go true t h = cc
    go false t h = cc
none_there place (suc i) (d ∷ delays) e h l t = go (d.place == place) h (λ rest. none_there place i delays e rest (omega (arith, l)) t)
  where
    go : (b : Bool) → cond b (Some d) (find (is_of place) delays) ≡ None → (find (is_of place) delays ≡ None → ⊥) → ⊥
    go true h rest = cc
    go false h rest = rest h

pub dues : (ms : List StoredMessage) (delays : List DelayRow) (place : ℕ) → ArePlaced 1 ms → All (IsDelay ms) delays → All (HasItsDelay delays) ms → due_given (given_at place ms) ≡ due_said place delays
dues ms delays place placed are have = go (find (is_of place) delays) refl (found (IsDelay ms) place delays are)
  where
    due : (d : DelayRow) → IsDelay ms d → d.place ≡ place → due_given (given_at place ms) ≡ Some d.due
    due d h t =
        let is = h.message_is h.message in
        let here : given_at (get_or ms h.at h.message).place ms ≡ Some (get_or ms h.at h.message) = given_here 1 h.at ms h.message placed h.within in
        let there : given_at place ms ≡ Some h.message = subst (λ p. given_at p ms ≡ Some h.message) (ap (λ (m : StoredMessage). m.place) is ∙ h.there ∙ t) (here ∙ ap Some is) in
        ap due_given there ∙ ap (λ b. cond b (Some h.message.message.delivery_time) None) h.due.delayed ∙ ap Some h.due.due_is

    none : find (is_of place) delays ≡ None → (o : Option StoredMessage) → IfSome o (λ (m : StoredMessage). HasItsDelay delays m × (m.place ≡ place)) → due_given o ≡ None
    none h None x = refl
    none h (Some m) x = by (is_delayed m.message) refl
      where
        by : (b : Bool) → is_delayed m.message ≡ b → cond b (Some m.message.delivery_time) None ≡ None
        by true t = absurd (let it = x.0 t in none_there place it.0 delays it.1.row h it.1.within (ap (λ (d : DelayRow). d.place) (it.1.row_is it.1.row) ∙ it.1.there ∙ x.1))
        by false t = refl

    here_of : (xs : List StoredMessage) → All (HasItsDelay delays) xs → IfSome (given_at place xs) (λ (m : StoredMessage). HasItsDelay delays m × (m.place ≡ place))
    here_of [] h = tt
    here_of (m ∷ xs) h = at (m.place == place) refl (All-head (HasItsDelay delays) m xs h) (here_of xs (All-tail (HasItsDelay delays) m xs h))
      where
        at : (b : Bool) → (m.place == place) ≡ b → HasItsDelay delays m → IfSome (given_at place xs) (λ (m : StoredMessage). HasItsDelay delays m × (m.place ≡ place)) → IfSome (cond b (Some m) (given_at place xs)) (λ (m : StoredMessage). HasItsDelay delays m × (m.place ≡ place))
        at true t here rest = (here, eqb-true m.place place t)
        at false t here rest = rest

    go : (o : Option DelayRow) → find (is_of place) delays ≡ o → IfSome o (λ d. IsDelay ms d × (d.place ≡ place)) → due_given (given_at place ms) ≡ option_map (λ (d : DelayRow). d.due) o
    go None e x = none e (given_at place ms) (here_of ms have)
    go (Some d) e x = due d x.0 x.1
