-- The longest word at the front of a text.
use Rattle.std.proofs.Common.{◌≡◌, ℕ, suc, ◌+◌, ◌≤◌, ◌==◌, Bool, true, false, if◌then◌else◌, List, [], ◌∷◌, ◌++◌, length, take, drop, slice_index, Option, Some, None, is_some, Result, Ok, Err, refl, ap, ap₂, subst, sym, ◌∙◌, arith, append_assoc, append-nil, length-append, length-take-le, take-append-drop}
use Rattle.std.specs.Char.{is_ascii_digit}
use Rattle.std.specs.List.{prefix_len, list_all}
use Rattle.std.proofs.lemmas.Bool.Decides.{nat_tests}
use Rattle.std.proofs.lemmas.Bool.{and_parts}
use Rattle.std.proofs.lemmas.List.Sums.{prefix_len-le-length}
use Rattle.jm_base.specs.declared.refusal.Cause.{Cause}
use Rattle.jm_base.specs.declared.refusal.Cause.TheVariants as causes
use Rattle.jm_lexer.specs.declared.token.Kind.{Kind}
use Rattle.jm_lexer.specs.declared.token.Kind.TheVariants as kinds
use Rattle.jm_lexer.specs.declared.token.Mark.{Mark}
use Rattle.jm_lexer.specs.Faults.{fault_at}
use Rattle.jm_lexer.specs.Words.{is_letter, is_word, is_number, is_blank, begins_number, word_kind, number_of, one_sign, two_sign}
use Rattle.jm_lexer.specs.Lex.{Front, content, content_from, text_by, word_front, number_by, number_front, one_by, two_by, sign_front, front}
use Rattle.jm_lexer.specs.Lexes.{doubled, number_kind, is_stray, Word, name, number, quoted, unclosed, one, two, stray, Longest}
use Rattle.jm_lexer.proofs.Quotes.{scan_closed, scan_unclosed, scan_grows, content_doubled, content_quoted}

-- ---- runs

all_parts : (p : ℕ → Bool) (b : ℕ) (z : List ℕ) → list_all p (b ∷ z) ≡ true → (p b ≡ true) × (list_all p z ≡ true)
all_parts p b z h = and_parts (p b) (list_all p z) h

all_run : (p : ℕ → Bool) (v rest : List ℕ) → list_all p v ≡ true → length v ≤ prefix_len p (v ++ rest)
all_run p [] rest h = omega arith
all_run p (b ∷ v) rest h =
    let parts = all_parts p b v h in
    let more = all_run p v rest parts.1 in
    rw parts.0 (omega arith)

all_whole : (p : ℕ → Bool) (v : List ℕ) → list_all p v ≡ true → prefix_len p v ≡ length v
all_whole p [] h = refl
all_whole p (b ∷ v) h =
    let parts = all_parts p b v h in
    let more = all_whole p v parts.1 in
    rw parts.0 (omega arith)

run_some : (p : ℕ → Bool) (b : ℕ) (z : List ℕ) → p b ≡ true → 1 ≤ prefix_len p (b ∷ z)
run_some p b z h = rw h (omega arith)

run_all : (p : ℕ → Bool) (z : List ℕ) → list_all p (take (prefix_len p z) z) ≡ true
run_all p [] = refl
run_all p (b ∷ z) = by_test (run_all p z) (p b) refl
  where
    by_test : list_all p (take (prefix_len p z) z) ≡ true → (q : Bool) → p b ≡ q → list_all p (take (if q then 1 + prefix_len p z else 0) (b ∷ z)) ≡ true
    by_test rest true is = let e : 1 + prefix_len p z ≡ suc (prefix_len p z) = omega arith in rw e (rw is rest)
    by_test rest false is = refl

take_length : (z : List ℕ) → take (length z) z ≡ z
take_length [] = refl
take_length (b ∷ z) = ap (λ l. b ∷ l) (take_length z)

take_front : (v rest : List ℕ) → take (length v) (v ++ rest) ≡ v
take_front [] rest = refl
take_front (b ∷ v) rest = ap (λ l. b ∷ l) (take_front v rest)

-- ---- the longest word here, by its first bytes

abbrev pub Found : Type 0
Found = ℕ × Result Kind Cause

abbrev pub text_best : ℕ → Option (List ℕ × ℕ) → Found
text_best n None = (n + 1, Err causes.Token)
text_best n (Some f) = (f.1 + 1, Ok (kinds.Text f.0))

abbrev pub run_best : (ℕ → Bool) → (List ℕ → Result Kind Cause) → List ℕ → Found
run_best p kind z = (prefix_len p z, kind (take (prefix_len p z) z))

abbrev pub one_best : Option Mark → Found
one_best None = (1, Err causes.Token)
one_best (Some mark) = (1, Ok (kinds.Mark mark))

abbrev pub two_best : Found → Option Mark → Found
two_best found None = found
two_best found (Some mark) = (2, Ok (kinds.Mark mark))

abbrev pub sign_best : ℕ → List ℕ → Found
sign_best b [] = one_best (one_sign b)
sign_best b (c ∷ z) = two_best (one_best (one_sign b)) (two_sign b c)

abbrev word_found : List ℕ → Result Kind Cause
word_found w = Ok (word_kind w)

abbrev number_found : List ℕ → Result Kind Cause
number_found w = number_kind (number_of w)

abbrev pub best : List ℕ → Found
best [] = (0, Err causes.Token)
best (b ∷ z) =
    if b == 39 then text_best (length z) (content z)
    else (if is_letter b then run_best is_word word_found (b ∷ z)
    else (if begins_number (b ∷ z) then run_best is_number number_found (b ∷ z)
    else sign_best b z))

-- which word begins here
data First (b : ℕ) (z : List ℕ) : Type 0 where
  at_quote : b ≡ 39 → First b z
  at_letter : (b == 39) ≡ false → is_letter b ≡ true → First b z
  at_digit : (b == 39) ≡ false → is_letter b ≡ false → begins_number (b ∷ z) ≡ true → First b z
  at_other : (b == 39) ≡ false → is_letter b ≡ false → begins_number (b ∷ z) ≡ false → First b z

first_of_word : (b : ℕ) (z : List ℕ) → First b z
first_of_word b z = by_quote (b == 39) refl
  where
    by_number : (b == 39) ≡ false → is_letter b ≡ false → (q : Bool) → begins_number (b ∷ z) ≡ q → First b z
    by_number q l true is = at_digit q l is
    by_number q l false is = at_other q l is

    by_letter : (b == 39) ≡ false → (q : Bool) → is_letter b ≡ q → First b z
    by_letter q true is = at_letter q is
    by_letter q false is = by_number q is (begins_number (b ∷ z)) refl

    by_quote : (q : Bool) → (b == 39) ≡ q → First b z
    by_quote true is = let e : b ≡ 39 = grind (arith, nat_tests) in at_quote e
    by_quote false is = by_letter is (is_letter b) refl

best_letter : (b : ℕ) (z : List ℕ) → (b == 39) ≡ false → is_letter b ≡ true → best (b ∷ z) ≡ run_best is_word word_found (b ∷ z)
best_letter b z q l = rw (q, l) refl

best_digit : (b : ℕ) (z : List ℕ) → (b == 39) ≡ false → is_letter b ≡ false → begins_number (b ∷ z) ≡ true → best (b ∷ z) ≡ run_best is_number number_found (b ∷ z)
best_digit b z q l n = rw (q, l, n) refl

best_other : (b : ℕ) (z : List ℕ) → (b == 39) ≡ false → is_letter b ≡ false → begins_number (b ∷ z) ≡ false → best (b ∷ z) ≡ sign_best b z
best_other b z q l n = rw (q, l, n) refl

-- ---- what the scan takes is the longest word

abbrev pub outcome : ℕ → Found → Front
outcome at (n, Ok kind) = Ok (kind, n)
outcome at (n, Err cause) = Err (fault_at at cause)

front_digit : (at b : ℕ) (z : List ℕ) → (b == 39) ≡ false → is_letter b ≡ false → begins_number (b ∷ z) ≡ true → front at (b ∷ z) ≡ number_front at (b ∷ z)
unfolding front
front_digit at b z q l n = rw (q, l, n) refl

pub front_best : (at : ℕ) (z : List ℕ) → front at z ≡ outcome at (best z)
unfolding front word_front number_front
front_best at [] = refl
front_best at (b ∷ z) = by_first (first_of_word b z)
  where
    by_content : (c : Option (List ℕ × ℕ)) → text_by at c ≡ outcome at (text_best (length z) c)
    by_content None = refl
    by_content (Some f) = refl

    by_number : (n : ℕ) (r : Result ℕ Cause) → number_by at n r ≡ outcome at (n, number_kind r)
    by_number n (Ok v) = refl
    by_number n (Err c) = refl

    by_one : (mark : Option Mark) → one_by at mark ≡ outcome at (one_best mark)
    by_one None = refl
    by_one (Some mark) = refl

    by_two : (o : Front) (f : Found) (mark : Option Mark) → o ≡ outcome at f → two_by o mark ≡ outcome at (two_best f mark)
    by_two o f None h = h
    by_two o f (Some mark) h = refl

    by_sign : (z : List ℕ) → sign_front at (b ∷ z) ≡ outcome at (sign_best b z)
    by_sign [] = by_one (one_sign b)
    by_sign (c ∷ z) = by_two _ _ (two_sign b c) (by_one (one_sign b))

    by_first : First b z → front at (b ∷ z) ≡ outcome at (best (b ∷ z))
    by_first (at_quote e) = rw e (by_content (content z))
    by_first (at_letter q l) = rw (q, l) refl
    by_first (at_digit q l n) =
        front_digit at b z q l n ∙ by_number (prefix_len is_number (b ∷ z)) (number_of (take (prefix_len is_number (b ∷ z)) (b ∷ z))) ∙ ap (outcome at) (sym (best_digit b z q l n))
    by_first (at_other q l n) = rw (q, l, n) (by_sign z)

-- ---- it is a word

begins_digit : (b : ℕ) (z : List ℕ) → is_ascii_digit b ≡ true → begins_number (b ∷ z) ≡ true
begins_digit b z h = rw h refl

begins_run : (b : ℕ) (z : List ℕ) → begins_number (b ∷ z) ≡ true → begins_number (b ∷ take (prefix_len is_number z) z) ≡ true
begins_run b [] h = h
begins_run b (c ∷ z) h = by_digit (is_ascii_digit c) refl
  where
    by_digit : (q : Bool) → is_ascii_digit c ≡ q → begins_number (b ∷ take (prefix_len is_number (c ∷ z)) (c ∷ z)) ≡ true
    by_digit true is =
        let run : is_number c ≡ true = grind (arith, nat_tests) in
        let size : prefix_len is_number (c ∷ z) ≡ suc (prefix_len is_number z) = rw run (omega arith) in
        rw size h
    by_digit false is = let digit : is_ascii_digit b ≡ true = grind (arith, nat_tests) in begins_digit b (take (prefix_len is_number (c ∷ z)) (c ∷ z)) digit

begins_taken : (b : ℕ) (z : List ℕ) → begins_number (b ∷ z) ≡ true → begins_number (take (prefix_len is_number (b ∷ z)) (b ∷ z)) ≡ true
begins_taken b z h =
    let run : is_number b ≡ true = grind (arith, nat_tests) in
    let size : prefix_len is_number (b ∷ z) ≡ suc (prefix_len is_number z) = rw run (omega arith) in
    rw size (begins_run b z h)

begins_more : (b : ℕ) (v rest : List ℕ) → begins_number (b ∷ v) ≡ true → begins_number (b ∷ (v ++ rest)) ≡ true
begins_more b (c ∷ v) rest h = h
begins_more b [] rest h = let digit : is_ascii_digit b ≡ true = grind (arith, nat_tests) in begins_digit b rest digit

-- a word of this length at the front
abbrev AtFront : List ℕ → Found → Type 0
AtFront z f = (f.0 ≤ length z) × Word (take f.0 z) f.1

one_spelled : (b : ℕ) (z : List ℕ) → is_blank b ≡ false → (b == 39) ≡ false → is_letter b ≡ false → begins_number (b ∷ z) ≡ false → AtFront (b ∷ z) (one_best (one_sign b))
one_spelled b z solid q l n = by_mark (one_sign b) refl
  where
    by_mark : (mark : Option Mark) → one_sign b ≡ mark → AtFront (b ∷ z) (one_best mark)
    by_mark (Some mark) is = (omega arith, one b mark is)
    by_mark None is =
        let digit : is_ascii_digit b ≡ false = grind (arith, nat_tests) in
        let loose : is_stray b ≡ true = rw (solid, l, digit, q, is) refl in
        (omega arith, stray b loose)

sign_spelled : (b : ℕ) (z : List ℕ) → AtFront (b ∷ z) (one_best (one_sign b)) → AtFront (b ∷ z) (sign_best b z)
sign_spelled b [] h = h
sign_spelled b (c ∷ z) h = by_two (two_sign b c) refl
  where
    by_two : (mark : Option Mark) → two_sign b c ≡ mark → AtFront (b ∷ c ∷ z) (two_best (one_best (one_sign b)) mark)
    by_two None is = h
    by_two (Some mark) is = (omega arith, two b c mark is)

text_spelled : (z : List ℕ) → AtFront (39 ∷ z) (text_best (length z) (content z))
unfolding content
text_spelled z = by_content (content z) refl
  where
    by_content : (c : Option (List ℕ × ℕ)) → content z ≡ c → AtFront (39 ∷ z) (text_best (length z) c)
    by_content None is =
        let s = scan_unclosed z false [] 0 is in
        let e : length z + 1 ≡ suc (length z) = omega arith in
        (omega arith, rw e (subst (λ l. Word (39 ∷ l) (Err causes.Token)) (sym (take_length z ∙ s.1)) (unclosed s.0)))
    by_content (Some f) is =
        let s = scan_closed z false [] 0 f is in
        let ends = s.ends in
        let split : z ≡ (doubled s.content ++ 39 ∷ []) ++ s.rest = s.spelled ∙ sym (append_assoc (doubled s.content) (39 ∷ []) s.rest) in
        let size : length (doubled s.content ++ 39 ∷ []) ≡ f.1 = omega (arith, length-append (doubled s.content) (39 ∷ [])) in
        let whole : length z ≡ length (doubled s.content ++ 39 ∷ []) + length s.rest = ap length split ∙ length-append (doubled s.content ++ 39 ∷ []) s.rest in
        let taken : take f.1 z ≡ doubled s.content ++ 39 ∷ [] = subst (λ k. take k z ≡ doubled s.content ++ 39 ∷ []) size
        (ap (take (length (doubled s.content ++ 39 ∷ []))) split ∙ take_front (doubled s.content ++ 39 ∷ []) s.rest) in
        let e : f.1 + 1 ≡ suc f.1 = omega arith in
        let content_is : s.content ≡ f.0 = sym s.holds in (
          omega arith,
          rw e (subst (λ l. Word (39 ∷ l) (Ok (kinds.Text f.0))) (sym taken)
              (subst (λ c. Word (39 ∷ (doubled s.content ++ 39 ∷ [])) (Ok (kinds.Text c))) content_is (quoted s.content))),
        )

pub best_spelled : (b : ℕ) (z : List ℕ) → is_blank b ≡ false → AtFront (b ∷ z) (best (b ∷ z))
best_spelled b z solid = by_first (first_of_word b z)
  where
    by_first : First b z → AtFront (b ∷ z) (best (b ∷ z))
    by_first (at_quote e) = rw e (text_spelled z)
    by_first (at_letter q l) =
        let run : is_word b ≡ true = rw l refl in
        let size : prefix_len is_word (b ∷ z) ≡ suc (prefix_len is_word z) = rw run (omega arith) in
        let word : Word (b ∷ take (prefix_len is_word z) z) (word_found (b ∷ take (prefix_len is_word z) z)) = name b (take (prefix_len is_word z) z) l (run_all is_word z) in
        let P : ℕ → Type 0 = λ n. Word (take n (b ∷ z)) (word_found (take n (b ∷ z))) in
        subst (AtFront (b ∷ z)) (sym (best_letter b z q l)) (prefix_len-le-length is_word (b ∷ z), subst P (sym size) word)
    by_first (at_digit q l n) =
        let digits = run_all is_number (b ∷ z) in
        subst (AtFront (b ∷ z)) (sym (best_digit b z q l n)) (prefix_len-le-length is_number (b ∷ z), number (take (prefix_len is_number (b ∷ z)) (b ∷ z)) (begins_taken b z n) digits)
    by_first (at_other q l n) = subst (AtFront (b ∷ z)) (sym (best_other b z q l n)) (sign_spelled b z (one_spelled b z solid q l n))

-- ---- no longer word begins here

letter_other : (b : ℕ) → is_letter b ≡ true → (b == 39) ≡ false
letter_other b h = grind (arith, nat_tests)

number_other : (b : ℕ) (z : List ℕ) → begins_number (b ∷ z) ≡ true → ((b == 39) ≡ false) × (is_letter b ≡ false)
number_other b z h = (grind (arith, nat_tests), grind (arith, nat_tests))

text_longer : (n m : ℕ) (z : List ℕ) (closed : Bool) (found : List ℕ) (k : ℕ) (rest : List ℕ) → content z ≡ content_from closed found k rest → m ≤ k → m ≤ n → m + 1 ≤ (text_best n (content z)).0
text_longer n m z closed found k rest e below within = rw e (by_content (content_from closed found k rest) refl)
  where
    by_content : (c : Option (List ℕ × ℕ)) → content_from closed found k rest ≡ c → m + 1 ≤ (text_best n c).0
    by_content None is = omega arith
    by_content (Some f) is = let grown = scan_grows rest closed found k f is in omega arith

sign_some : (b : ℕ) (z : List ℕ) → 1 ≤ (sign_best b z).0
sign_some b z = by_rest z
  where
    by_one : (mark : Option Mark) → 1 ≤ (one_best mark).0
    by_one None = omega arith
    by_one (Some mark) = omega arith

    by_two : (f : Found) (mark : Option Mark) → 1 ≤ f.0 → 1 ≤ (two_best f mark).0
    by_two f None h = h
    by_two f (Some mark) h = omega arith

    by_rest : (z : List ℕ) → 1 ≤ (sign_best b z).0
    by_rest [] = by_one (one_sign b)
    by_rest (c ∷ z) = by_two (one_best (one_sign b)) (two_sign b c) (by_one (one_sign b))

best_some : (b : ℕ) (z : List ℕ) → 1 ≤ (best (b ∷ z)).0
best_some b z = by_first (first_of_word b z)
  where
    by_content : (c : Option (List ℕ × ℕ)) → 1 ≤ (text_best (length z) c).0
    by_content None = omega arith
    by_content (Some f) = omega arith

    by_first : First b z → 1 ≤ (best (b ∷ z)).0
    by_first (at_quote e) = rw e (by_content (content z))
    by_first (at_letter q l) = rw (q, l) (omega arith)
    by_first (at_digit q l n) =
        let run : is_number b ≡ true = grind (arith, nat_tests) in
        subst (λ (f : Found). 1 ≤ f.0) (sym (best_digit b z q l n)) (run_some is_number b z run)
    by_first (at_other q l n) = rw (q, l, n) (sign_some b z)

two_other : (b c : ℕ) (mark : Mark) → two_sign b c ≡ Some mark → ((b == 39) ≡ false) × (is_letter b ≡ false) × ((z : List ℕ) → begins_number (b ∷ z) ≡ false)
two_other b c mark h = (grind (arith, nat_tests), grind (arith, nat_tests), λ z. grind (arith, nat_tests))

one_other : (b : ℕ) (mark : Mark) → one_sign b ≡ Some mark → ((b == 39) ≡ false) × (is_letter b ≡ false) × (begins_number (b ∷ []) ≡ false)
one_other b mark h = (grind (arith, nat_tests), grind (arith, nat_tests), grind (arith, nat_tests))

stray_other : (b : ℕ) → is_stray b ≡ true → ((b == 39) ≡ false) × (is_letter b ≡ false) × (begins_number (b ∷ []) ≡ false) × (is_some (one_sign b) ≡ false)
stray_other b h = (grind (arith, nat_tests), grind (arith, nat_tests), grind (arith, nat_tests), grind (arith, nat_tests))

pub no_longer : {w : List ℕ} {found : Result Kind Cause} → Word w found → (rest : List ℕ) → length w ≤ (best (w ++ rest)).0
no_longer (name b z l run) rest =
    let first : is_word b ≡ true = rw l refl in
    let all : list_all is_word (b ∷ z) ≡ true = rw first run in
    subst (λ (f : Found). length (b ∷ z) ≤ f.0) (sym (best_letter b (z ++ rest) (letter_other b l) l)) (all_run is_word (b ∷ z) rest all)
no_longer (number [] begins run) rest = absurd (cc)
no_longer (number (b ∷ z) begins run) rest =
    let o = number_other b z begins in
    subst (λ (f : Found). length (b ∷ z) ≤ f.0) (sym (best_digit b (z ++ rest) o.0 o.1 (begins_more b z rest begins))) (all_run is_number (b ∷ z) rest run)
no_longer (quoted c) rest =
    let size = length-append (doubled c) (39 ∷ []) in
    let more = length-append (doubled c ++ 39 ∷ []) rest in
    let h = text_longer (length ((doubled c ++ 39 ∷ []) ++ rest)) (length (doubled c) + 1) ((doubled c ++ 39 ∷ []) ++ rest) true c (length (doubled c) + 1) rest (content_quoted c rest)
    (omega arith) (omega arith) in
    omega arith
no_longer (unclosed c) rest =
    let more = length-append (doubled c) rest in
    let h = text_longer (length (doubled c ++ rest)) (length (doubled c)) (doubled c ++ rest) false c (length (doubled c)) rest (content_doubled c rest) (omega arith) (omega arith) in
    omega arith
no_longer (one b mark is) rest = best_some b rest
no_longer (two b c mark is) rest =
    let o = two_other b c mark is in
    let two_is : sign_best b (c ∷ rest) ≡ (2, Ok (kinds.Mark mark)) = rw is refl in
    subst (λ (f : Found). 2 ≤ f.0) (sym (best_other b (c ∷ rest) o.0 o.1 (o.2 (c ∷ rest)) ∙ two_is)) (omega arith)
no_longer (stray b is) rest = best_some b rest

-- ---- a word alone spells one thing

pub word_best : {w : List ℕ} {found : Result Kind Cause} → Word w found → (best w).1 ≡ found
word_best (name b z l run) =
    let first : is_word b ≡ true = rw l refl in
    let all : list_all is_word (b ∷ z) ≡ true = rw first run in
    ap (λ (f : Found). f.1) (best_letter b z (letter_other b l) l)
    ∙ ap word_found (ap (λ n. take n (b ∷ z)) (all_whole is_word (b ∷ z) all) ∙ take_length (b ∷ z))
word_best (number [] begins run) = absurd (cc)
word_best (number (b ∷ z) begins run) =
    let o = number_other b z begins in
    ap (λ (f : Found). f.1) (best_digit b z o.0 o.1 begins)
    ∙ ap number_found (ap (λ n. take n (b ∷ z)) (all_whole is_number (b ∷ z) run) ∙ take_length (b ∷ z))
word_best (quoted c) =
    let h : content (doubled c ++ 39 ∷ []) ≡ Some (c, length (doubled c) + 1) = content_doubled c (39 ∷ []) in
    ap (λ o. (text_best (length (doubled c ++ 39 ∷ [])) o).1) h
word_best (unclosed c) =
    let h : content (doubled c) ≡ None = ap content (sym (append-nil (doubled c))) ∙ content_doubled c [] in
    ap (λ o. (text_best (length (doubled c)) o).1) h
word_best (one b mark is) =
    let o = one_other b mark is in
    ap (λ (f : Found). f.1) (best_other b [] o.0 o.1 o.2) ∙ ap (λ m. (one_best m).1) is
word_best (two b c mark is) =
    let o = two_other b c mark is in
    ap (λ (f : Found). f.1) (best_other b (c ∷ []) o.0 o.1 (o.2 (c ∷ []))) ∙ ap (λ m. (two_best (one_best (one_sign b)) m).1) is
word_best (stray b is) =
    let o = stray_other b is in
    ap (λ (f : Found). f.1) (best_other b [] o.0 o.1 o.2) ∙ by_mark (one_sign b) o.3
  where
    by_mark : (mark : Option Mark) → is_some mark ≡ false → (one_best mark).1 ≡ Err causes.Token
    by_mark None h = refl
    by_mark (Some mark) h = absurd (cc)

-- ---- the longest word

pub word_some : {w : List ℕ} {found : Result Kind Cause} → Word w found → (1 ≤ length w) × (is_blank (slice_index w 0) ≡ false)
word_some (name b z l run) = (omega arith, grind (arith, nat_tests))
word_some (number [] begins run) = absurd (cc)
word_some (number (b ∷ z) begins run) = (omega arith, grind (arith, nat_tests))
word_some (quoted c) = (omega arith, refl)
word_some (unclosed c) = (omega arith, refl)
word_some (one b mark is) = (omega arith, grind (arith, nat_tests))
word_some (two b c mark is) = (omega arith, grind (arith, nat_tests))
word_some (stray b is) = (omega arith, grind (arith, nat_tests))

none_longer : (z : List ℕ) (m : ℕ) (found : Result Kind Cause) → m ≤ length z → Word (take m z) found → m ≤ (best z).0
none_longer z m found within word =
    let h = no_longer word (drop m z) in
    let size = length-take-le m z within in
    let split = take-append-drop m z in
    let grown : length (take m z) ≤ (best z).0 = subst (λ l. length (take m z) ≤ (best l).0) split h in
    omega arith

pub best_longest : (b : ℕ) (z : List ℕ) → is_blank b ≡ false → Longest (b ∷ z) (best (b ∷ z)).0 (best (b ∷ z)).1
best_longest b z solid =
    let s = best_spelled b z solid in
    record { within = s.0; spelled = s.1; most = none_longer (b ∷ z) }

both_are : (f : Found) (n : ℕ) (found : Result Kind Cause) → f.0 ≡ n → f.1 ≡ found → f ≡ (n, found)
both_are f n found size same = let pair : ℕ → Result Kind Cause → Found = λ k r. (k, r) in ap₂ pair size same

pub longest_best : (b : ℕ) (z : List ℕ) (n : ℕ) (found : Result Kind Cause) → is_blank b ≡ false → Longest (b ∷ z) n found → best (b ∷ z) ≡ (n, found)
longest_best b z n found solid l =
    let s = best_spelled b z solid in
    let up = l.most (best (b ∷ z)).0 (best (b ∷ z)).1 s.0 s.1 in
    let down = none_longer (b ∷ z) n found l.within l.spelled in
    let size : (best (b ∷ z)).0 ≡ n = omega arith in
    let same : (best (b ∷ z)).1 ≡ found =
    sym (word_best s.1) ∙ ap (λ k. (best (take k (b ∷ z))).1) size ∙ word_best l.spelled in
    both_are (best (b ∷ z)) n found size same
