-- Messages that come in turn.
use Rattle.std.proofs.Common.{◌≡◌, ℕ, zero, suc, ◌<◌, ◌+◌, true, List, [], ◌∷◌, ◌++◌, length, take, get_or, refl, sym, subst, ◌∙◌, ap, Some, arith, add-one, append-nil}
use Rattle.std.specs.Prelude.{slice_get}
use Rattle.std.proofs.Math.Seq.{take-suc}
use Rattle.std.proofs.lemmas.List.{length-take-le}
use Rattle.jm_dest.specs.declared.key.Key.{Key}
use Rattle.jm_header.specs.declared.content.Content.{Content}
use Rattle.jm_machine.specs.Machine.{State}
use Rattle.jm_machine.specs.Under.{is_persistent}
use Rattle.jm_keep.specs.declared.change.RowChange.{RowChange}
use Rattle.jm_keep.specs.Calls.{AreTakers, ArePublished, brought}

assoc : {A : Type 0} (a b c : List A) → (a ++ b) ++ c ≡ a ++ (b ++ c)
assoc [] b c = refl
assoc (x ∷ a) b c = ap (λ t. x ∷ t) (assoc a b c)

-- one message more comes after those
last_comes : (state : State) (place : ℕ) (ms : List Content) (m : Content) (keys : List Key) (changes : List RowChange) → ArePublished state place ms changes → (is_persistent m.mode ≡ true → AreTakers state m keys) → ArePublished state place (ms ++ m ∷ []) (changes ++ brought m (place + length ms) keys)
last_comes state place [] m keys changes h t = (keys, [], t, refl, ap (λ cs. cs ++ brought m (place + 0) keys) h ∙ ap (λ n. brought m n keys) (omega arith) ∙ sym (append-nil (brought m place keys)))
last_comes state place (x ∷ ms) m keys changes h t =
    let rest = last_comes state (place + 1) ms m keys h.1 h.3 t in (
      h.0,
      h.1 ++ brought m (place + 1 + length ms) keys,
      h.2,
      rest,
      ap (λ cs. cs ++ brought m (place + length (x ∷ ms)) keys) h.4 ∙ assoc (brought x place h.0) h.1 (brought m (place + length (x ∷ ms)) keys) ∙ ap (λ n. brought x place h.0 ++ (h.1 ++ brought m n keys)) further,
    )
  where
    further : place + length (x ∷ ms) ≡ place + 1 + length ms
    further = omega arith

pub none_come : (state : State) (place : ℕ) (ms : List Content) → ArePublished state place (take 0 ms) []
none_come state place [] = refl
none_come state place (m ∷ ms) = refl

-- of the messages one more came
pub more_come : (state : State) (place : ℕ) (ms : List Content) (i : ℕ) (m : Content) (keys : List Key) (changes : List RowChange) → i < length ms → m ≡ get_or ms i m → ArePublished state place (take i ms) changes → (is_persistent m.mode ≡ true → AreTakers state m keys) → ArePublished state place (take (i + 1) ms) (changes ++ brought m (place + i) keys)
more_come state place ms i m keys changes l e h t =
    subst (λ xs. ArePublished state place xs (changes ++ brought m (place + i) keys)) front
    (subst (λ n. ArePublished state place (take i ms ++ m ∷ []) (changes ++ brought m (place + n) keys)) (length-take-le i ms (omega (arith, l))) (last_comes state place (take i ms) m keys changes h t))
  where
    front : take i ms ++ m ∷ [] ≡ take (i + 1) ms
    front = ap (λ y. take i ms ++ y ∷ []) e ∙ sym (rw add-one (take-suc ms i m l))

-- an item of a list
pub item_is : (ms : List Content) (i : ℕ) (m : Content) → i < length ms → m ≡ get_or ms i m → slice_get ms i ≡ Some m
item_is [] i m l e = absurd (omega (arith, l))
item_is (x ∷ ms) zero m l e = ap (λ y. Some y) (sym e)
item_is (x ∷ ms) (suc i) m l e = item_is ms i m (omega (arith, l)) e
