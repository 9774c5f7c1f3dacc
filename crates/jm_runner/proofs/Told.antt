-- What is told of a key's subscription alone is what a run told its sessions, where the run is isolated.
use Rattle.std.proofs.Common.{◌≡◌, ◌+◌, ◌++◌, ◌∙◌, ℕ, suc, Bool, true, false, List, [], ◌∷◌, Some, None, Result, Ok, Err, refl, ap, sym, subst, length}
use Rattle.std.proofs.lemmas.List.{append_assoc, length-append}
use Rattle.std.specs.Prelude.{◌==◌, not, if◌then◌else◌, IfOk}
use Rattle.jm_base.specs.declared.refusal.Refusal.{Refusal}
use Rattle.jm_dest.specs.declared.key.Key.{Key}
use Rattle.jm_header.specs.declared.content.Content.{Content}
use Rattle.jm_header.specs.Headers.{stamped}
use Rattle.jm_machine.specs.declared.answer.Answer.{Answer}
use Rattle.jm_machine.specs.declared.answer.Answer.TheVariants as answer
use Rattle.jm_machine.specs.declared.call.ClientCall.TheVariants.{Ask, Send, CommitSession}
use Rattle.jm_machine.specs.declared.call.Request.{Request}
use Rattle.jm_machine.specs.declared.call.Who.{Who}
use Rattle.jm_machine.specs.declared.entry.Entry.TheVariants.{Asked}
use Rattle.jm_machine.specs.Entries.{entries_of, is_not_made, sent_entry}
use Rattle.jm_machine.specs.Isolation.{AreIsolated}
use Rattle.jm_machine.specs.Lone.{Scope, is_answered, placed, replies_in, scope_of}
use Rattle.jm_machine.specs.Machine.{State, new_core}
use Rattle.jm_runner.specs.Lone.{IsOfRun, is_unshared_in, lines_alone, lines_at, lines_told, number_at, numbers_from}
use Rattle.jm_scenario.specs.Items.{calls_of}
use Rattle.jm_scenario.specs.Lines.{line}
use Rattle.jm_scenario.specs.declared.item.Item.{Item}
use Rattle.jm_scenario.specs.declared.item.Item.TheVariants.{Call, Fork, Join}

-- the number that stands directly behind others
at_seam : (before rest : List ℕ) (n : ℕ) → number_at (before ++ n ∷ rest) (length before) ≡ n
at_seam [] rest n = refl
at_seam (x ∷ before) rest n = at_seam before rest n

-- behind the entries of one more call stands what stood behind them
abbrev Behind : Scope → List ℕ → ℕ → List Item → List (Result Answer Refusal) → Type 0
Behind scope before number items replies =
    lines_at (before ++ numbers_from 1 number items replies) (replies_in scope (length before) (entries_of 1 (calls_of items) replies)) ≡ lines_told scope number items replies

-- an entry of a call that is no call of the key's
passed : (scope : Scope) (before : List ℕ) (number : ℕ) (items : List Item) (replies : List (Result Answer Refusal)) →
    Behind scope (before ++ number ∷ []) (suc number) items replies →
    lines_at (before ++ number ∷ numbers_from 1 (suc number) items replies) (replies_in scope (length before + 1) (entries_of 1 (calls_of items) replies)) ≡ lines_told scope (suc number) items replies
passed scope before number items replies behind =
    subst (λ place. lines_at (before ++ number ∷ numbers_from 1 (suc number) items replies) (replies_in scope place (entries_of 1 (calls_of items) replies)) ≡ lines_told scope (suc number) items replies)
    (length-append before (number ∷ []))
    (subst (λ numbers. lines_at numbers (replies_in scope (length (before ++ number ∷ [])) (entries_of 1 (calls_of items) replies)) ≡ lines_told scope (suc number) items replies)
    (append_assoc before (number ∷ []) (numbers_from 1 (suc number) items replies)) behind)

-- a request, as it counts as made and as the key's subscription answers it
asked : (scope : Scope) (before : List ℕ) (number : ℕ) (items : List Item) (replies : List (Result Answer Refusal)) (who : Who) (request : Request) (r : Result Answer Refusal) →
    ((numbers : List ℕ) → Behind scope numbers (suc number) items replies) → Behind scope before number (Call (Ask who request) ∷ items) (r ∷ replies)
asked scope before number items replies who request r behind = go (is_not_made r)
  where
    rest : List ℕ
    rest = numbers_from 1 (suc number) items replies

    go : (unmade : Bool) →
        lines_at (before ++ (if not (length (if unmade then [] else Asked who request r ∷ []) == 0) then number ∷ rest else rest))
        (replies_in scope (length before) ((if unmade then [] else Asked who request r ∷ []) ++ entries_of 1 (calls_of items) replies))
        ≡ (if unmade then [] else (if is_answered scope who request then line number r else [])) ++ lines_told scope (suc number) items replies
    go true = behind before
    go false = heard_or (is_answered scope who request)
      where
        heard_or : (b : Bool) →
            lines_at (before ++ number ∷ rest) (placed (length before) (if b then Some r else None) ++ replies_in scope (length before + 1) (entries_of 1 (calls_of items) replies))
            ≡ (if b then line number r else []) ++ lines_told scope (suc number) items replies
        heard_or true =
            ap (λ n. line n r ++ lines_at (before ++ number ∷ rest) (replies_in scope (length before + 1) (entries_of 1 (calls_of items) replies))) (at_seam before rest number)
            ∙ ap (λ lines. line number r ++ lines) (passed scope before number items replies (behind (before ++ number ∷ [])))
        heard_or false = passed scope before number items replies (behind (before ++ number ∷ []))

-- a message that was sent, where it was stamped
sent : (scope : Scope) (before : List ℕ) (number : ℕ) (items : List Item) (replies : List (Result Answer Refusal)) (m : Result Content Refusal) →
    ((numbers : List ℕ) → Behind scope numbers (suc number) items replies) →
    lines_at (before ++ (if not (length (sent_entry m) == 0) then number ∷ numbers_from 1 (suc number) items replies else numbers_from 1 (suc number) items replies))
    (replies_in scope (length before) (sent_entry m ++ entries_of 1 (calls_of items) replies)) ≡ lines_told scope (suc number) items replies
sent scope before number items replies (Ok m) behind = passed scope before number items replies (behind (before ++ number ∷ []))
sent scope before number items replies (Err r) behind = behind before

-- the lines of the replies to the key's calls in a record are those of a run
told_from : (scope : Scope) (before : List ℕ) (number : ℕ) (items : List Item) (replies : List (Result Answer Refusal)) → Behind scope before number items replies
told_from scope before number [] replies = refl
told_from scope before number (Fork ∷ items) replies = told_from scope before (suc number) items replies
told_from scope before number (Join ∷ items) replies = told_from scope before (suc number) items replies
told_from scope before number (Call call ∷ items) [] = refl
told_from scope before number (Call (Ask who request) ∷ items) (r ∷ replies) =
    asked scope before number items replies who request r (λ numbers. told_from scope numbers (suc number) items replies)
told_from scope before number (Call (Send s draft destination now) ∷ items) (Ok (answer.Sent n) ∷ replies) =
    sent scope before number items replies (stamped draft destination (record { opening = 1; session = s }) n now) (λ numbers. told_from scope numbers (suc number) items replies)
told_from scope before number (Call (Send s draft destination now) ∷ items) (Ok answer.Done ∷ replies) = told_from scope before (suc number) items replies
told_from scope before number (Call (Send s draft destination now) ∷ items) (Ok (answer.Delivered d) ∷ replies) = told_from scope before (suc number) items replies
told_from scope before number (Call (Send s draft destination now) ∷ items) (Ok answer.Nothing ∷ replies) = told_from scope before (suc number) items replies
told_from scope before number (Call (Send s draft destination now) ∷ items) (Ok (answer.Missed n) ∷ replies) = told_from scope before (suc number) items replies
told_from scope before number (Call (Send s draft destination now) ∷ items) (Err r ∷ replies) = told_from scope before (suc number) items replies
told_from scope before number (Call (CommitSession s) ∷ items) (Ok a ∷ replies) = passed scope before number items replies (told_from scope (before ++ number ∷ []) (suc number) items replies)
told_from scope before number (Call (CommitSession s) ∷ items) (Err r ∷ replies) = told_from scope before (suc number) items replies

-- where a run is isolated, what is told of an unshared key alone is what the run told its sessions
pub told_by_run : (limit : ℕ) (key : Key) (items : List Item) (replies : List (Result Answer Refusal)) → AreIsolated (new_core 1 limit) (calls_of items) replies →
    is_unshared_in limit key (calls_of items) replies ≡ true → IsOfRun limit key items replies (lines_alone limit key items replies)
told_by_run limit key items replies isolated unshared keeps =
    sym (ap (lines_at (numbers_from 1 1 items replies)) (isolated key unshared keeps)) ∙ told_from (scope_of key (new_core 1 limit) (entries_of 1 (calls_of items) replies)) [] 1 items replies

-- so are the lines that a run's opening gives, where it gives any
pub told_ok : {L E : Type 0} (bytes : L → List ℕ) (limit : ℕ) (key : Key) (items : List Item) (replies : List (Result Answer Refusal)) (opening : State) → opening ≡ new_core 1 limit →
    AreIsolated (new_core 1 limit) (calls_of items) replies → (told : Result L E) →
    IfOk told (λ lines. (bytes lines ≡ lines_alone opening.limit key items replies) × (is_unshared_in opening.limit key (calls_of items) replies ≡ true)) →
    IfOk told (λ lines. (bytes lines ≡ lines_alone limit key items replies) × (is_unshared_in limit key (calls_of items) replies ≡ true) × IsOfRun limit key items replies (bytes lines))
told_ok bytes limit key items replies opening is isolated (Err e) h = tt
told_ok bytes limit key items replies opening is isolated (Ok lines) h =
    let same : opening.limit ≡ limit = ap (λ (s : State). s.limit) is in
    let alone_is : bytes lines ≡ lines_alone limit key items replies = h.0 ∙ ap (λ n. lines_alone n key items replies) same in
    let unshared : is_unshared_in limit key (calls_of items) replies ≡ true = sym (ap (λ n. is_unshared_in n key (calls_of items) replies) same) ∙ h.1 in
    (alone_is, unshared, λ keeps. alone_is ∙ told_by_run limit key items replies isolated unshared keeps)
