-- The record of a run, after as many calls as have replies.
use Rattle.std.proofs.Common.{◌≡◌, ℕ, ◌≤◌, ◌⊎◌, inl, inr, min, List, [], ◌∷◌, length, drop, refl, ap, ◌∙◌, arith}
use Rattle.std.specs.Prelude.{Result}
use Rattle.std.proofs.Math.ListN.{drop_of_length-le}
use Rattle.jm_base.specs.declared.refusal.Refusal.{Refusal}
use Rattle.jm_machine.specs.declared.call.ClientCall.{ClientCall}
use Rattle.jm_machine.specs.declared.answer.Answer.{Answer}
use Rattle.jm_machine.specs.Entries.{entries_of}

no_replies : (opening : ℕ) (calls : List ClientCall) → entries_of opening calls [] ≡ []
no_replies opening [] = refl
no_replies opening (call ∷ calls) = refl

-- past the end of either list nothing is left
pub entries_end : (opening : ℕ) (calls : List ClientCall) (replies : List (Result Answer Refusal)) (n : ℕ) → (length calls ≤ n) ⊎ (length replies ≤ n) → entries_of opening (drop n calls) (drop n replies) ≡ []
entries_end opening calls replies n (inl h) = ap (λ (xs : List ClientCall). entries_of opening xs (drop n replies)) (drop_of_length-le calls h)
entries_end opening calls replies n (inr h) = ap (entries_of opening (drop n calls)) (drop_of_length-le replies h) ∙ no_replies opening (drop n calls)

pub either_end : (a b n : ℕ) → n ≡ min a b → (a ≤ n) ⊎ (b ≤ n)
either_end a b n h = grind arith
