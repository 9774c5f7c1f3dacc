-- Parts that are made one after another.
use Rattle.std.proofs.Common.{◌≡◌, List, [], ◌∷◌, ◌++◌, length, refl, ap, subst, sym, ◌∙◌, append_assoc, arith}
use Rattle.std.proofs.lemmas.List.{append-nil, length-append}
use Rattle.std.specs.Prelude.{Result}
use Rattle.jm_base.specs.declared.refusal.Refusal.{Refusal}
use Rattle.jm_machine.specs.declared.answer.Answer.{Answer}
use Rattle.jm_forks.specs.declared.part.Part.{Part}
use Rattle.jm_forks.specs.declared.part.Part.TheVariants.{Alone, Together}
use Rattle.jm_forks.specs.Forks.{calls_in, calls_of_parts}
use Rattle.jm_seats.specs.Seats.{Seating}
use Rattle.jm_threaded.specs.Runs.{PartFits, PartsFit}

-- one part more
pub made_on : (old mid new : Seating) (parts : List Part) (replies told all : List (Result Answer Refusal)) (part : Part)
    → PartsFit old parts replies mid → PartFits mid part told new → all ≡ replies ++ told → PartsFit old (parts ++ part ∷ []) all new
made_on old mid new [] replies told all part made fits is =
    let all_is : all ≡ told ++ [] = is ∙ ap (λ r. r ++ told) made.0 ∙ sym (append-nil told) in
    (new, told, [], all_is, subst (λ s. PartFits s part told new) made.1 fits, (refl, refl))
made_on old mid new (p ∷ parts) replies told all part made fits is =
    let all_is : all ≡ made.1 ++ (made.2 ++ told) = is ∙ ap (λ r. r ++ told) made.3 ∙ append_assoc made.1 made.2 told in
    (made.0, made.1, made.2 ++ told, all_is, made.4, made_on made.0 mid new parts made.2 told (made.2 ++ told) part made.5 fits refl)

-- each call of a part is told something
told_each : (old : Seating) (part : Part) (told : List (Result Answer Refusal)) (new : Seating) → PartFits old part told new → length told ≡ length (calls_in part)
told_each old (Alone call) told new fits = ap length fits.1
told_each old (Together calls) told new fits = fits.replied

-- so is each call of all parts
pub told_all : (old : Seating) (parts : List Part) (replies : List (Result Answer Refusal)) (new : Seating)
    → PartsFit old parts replies new → length replies ≡ length (calls_of_parts parts)
told_all old [] replies new made = ap length made.0
told_all old (part ∷ parts) replies new made =
    let one = told_each old part made.1 made.0 made.4 in
    let others = told_all made.0 parts made.2 new made.5 in
    let both = ap length made.3 in
    let told = length-append made.1 made.2 in
    let calls = length-append (calls_in part) (calls_of_parts parts) in
    omega (arith, one, others, both, told, calls)
