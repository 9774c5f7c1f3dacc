-- The command line as clap sees it.
use Rattle.std.proofs.Common.{◌≡◌, ◌∙◌, ap, sym, codes, ◌<◌, ◌≤◌, ◌^◌, List, ℕ, Bool, true, false, Option, Some, None, refl, arith}
use Rattle.std.specs.Prelude.{Result, Ok, Err, unwrap_or, option_map, option_and_then, if◌then◌else◌}
use Rattle.std.proofs.lemmas.Result.{OkIff-at_ok, OkIff-at_err}
use Rattle.clap.proofs.WalkLemmas.{first_value-rows}
use Rattle.clap.specs.declared.parser.matches.Found.{Found}
use Rattle.std.specs.Str.Parse.{ParsesUnsigned, IsNumeral, digits_value, without_leading_plus}
use Rattle.std.specs.Borrow.{Bor}
use Rattle.std.specs.Option.{option_map_or}
use Rattle.std.specs.Str.{bytes_eq}
use Rattle.clap.specs.Words.{first_value, is_simple_and_free, rows_of}
use Rattle.clap.specs.ValueTests.{is_unsigned_in}
use Rattle.clap.specs.declared.builder.value_parser.ValueParser.TheVariants.{Unsigned}
use Rattle.clap.proofs.OnLiterals.{clap_on_literals}
use Rattle.clap.proofs.ValueTestLemmas.{Accepts-accepts, accepts-Accepts}
use Rattle.jm_words.specs.Words.{db, held, limit_of, program, threads}

-- clap says exactly which words this command line takes, and with which matches
pub program_is_simple : is_simple_and_free program ≡ true
unfolding clap_on_literals
program_is_simple = refl

-- the text behind a reference, or behind another where there is none
pub unwrap_or-now : (found : Option (Bor (List ℕ))) (other : Bor (List ℕ)) → (unwrap_or found other).now ≡ unwrap_or (option_map (λ text. text.now) found) other.now
unwrap_or-now None other = refl
unwrap_or-now (Some text) other = refl

-- the file of the store that is found
pub db_some : (found : Found) (given : Option (Bor (List ℕ))) (text : Bor (List ℕ)) → option_map (λ text. text.now) given ≡ first_value found (codes "db")
    → given ≡ Some text → Some text.now ≡ db (rows_of found)
db_some found given text is some =
    sym (ap (option_map (λ text. text.now)) some) ∙ is ∙ first_value-rows found (codes "db")

-- none where no text is found
pub db_none : (found : Found) (given : Option (Bor (List ℕ))) → option_map (λ text. text.now) given ≡ first_value found (codes "db")
    → given ≡ None → None ≡ db (rows_of found)
db_none found given is none =
    sym (ap (option_map (λ text. text.now)) none) ∙ is ∙ first_value-rows found (codes "db")

-- the flag is given where the text that is found is `true`
pub threads_some : (found : Found) (given : Option (Bor (List ℕ))) (text : Bor (List ℕ)) → option_map (λ text. text.now) given ≡ first_value found (codes "threads")
    → given ≡ Some text → bytes_eq text.now (codes "true") ≡ threads (rows_of found)
threads_some found given text is some =
    ap (λ text. option_map_or (λ text. bytes_eq text (codes "true")) text false) (sym (ap (option_map (λ text. text.now)) some) ∙ is ∙ first_value-rows found (codes "threads"))

-- it is not given where no text is found
pub threads_none : (found : Found) (given : Option (Bor (List ℕ))) → option_map (λ text. text.now) given ≡ first_value found (codes "threads")
    → given ≡ None → false ≡ threads (rows_of found)
threads_none found given is none =
    ap (λ text. option_map_or (λ text. bytes_eq text (codes "true")) text false) (sym (ap (option_map (λ text. text.now)) none) ∙ is ∙ first_value-rows found (codes "threads"))

-- a text that is read as a number within a limit's bounds spells that limit
pub limit_of_number : {E : Type 0} (text : List ℕ) (parsed : Result ℕ E) (number : ℕ) → ParsesUnsigned 32 10 text parsed → parsed ≡ Ok number
    → 1 ≤ number → number ≤ 1000000 → Some number ≡ limit_of text
limit_of_number text parsed number parses is low high =
    let digits = without_leading_plus text in
    let read = OkIff-at_ok parsed (IsNumeral 10 digits × (digits_value 10 digits < 2 ^ 32)) (digits_value 10 digits) number parses is in
    let accepted : is_unsigned_in 1 1000000 text ≡ true =
    Accepts-accepts false (Unsigned 1 1000000) text (read.0.0, omega (arith, read.1, high), omega (arith, read.1, low), omega (arith, read.1, high)) in
    rw (accepted, read.1) refl

-- a text that is read as no number of 32 bits spells no limit
pub limit_of_none : {E : Type 0} (text : List ℕ) (parsed : Result ℕ E) (error : E) → ParsesUnsigned 32 10 text parsed → parsed ≡ Err error → None ≡ limit_of text
limit_of_none text parsed error parses is = go (is_unsigned_in 1 1000000 text) refl
  where
    go : (accepted : Bool) → is_unsigned_in 1 1000000 text ≡ accepted → None ≡ (if accepted then Some (digits_value 10 (without_leading_plus text)) else None)
    go false e = refl
    go true e =
        let digits = without_leading_plus text in
        let accepts = accepts-Accepts false (Unsigned 1 1000000) text e in
        absurd (OkIff-at_err parsed (IsNumeral 10 digits × (digits_value 10 digits < 2 ^ 32)) (digits_value 10 digits) error parses is (accepts.0, omega (arith, accepts.3)))

-- the limit of the text that is found
pub held_some : (found : Found) (given : Option (Bor (List ℕ))) (text : Bor (List ℕ)) → option_map (λ text. text.now) given ≡ first_value found (codes "held")
    → given ≡ Some text → limit_of text.now ≡ held (rows_of found)
held_some found given text is some =
    ap (option_and_then limit_of) (sym (ap (option_map (λ text. text.now)) some) ∙ is ∙ first_value-rows found (codes "held"))

-- no limit where no text is found
pub held_none : (found : Found) (given : Option (Bor (List ℕ))) → option_map (λ text. text.now) given ≡ first_value found (codes "held")
    → given ≡ None → None ≡ held (rows_of found)
held_none found given is none =
    ap (option_and_then limit_of) (sym (ap (option_map (λ text. text.now)) none) ∙ is ∙ first_value-rows found (codes "held"))
