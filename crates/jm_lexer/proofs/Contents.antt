-- Where a token ends, the text may be cut, and what it holds is a text.
use Rattle.std.proofs.Common.{◌≡◌, ℕ, zero, suc, ◌+◌, ◌-◌, ◌<◌, ◌≤◌, ◌==◌, Bool, true, false, if◌then◌else◌, List, [], ◌∷◌, ◌++◌, length, take, drop, get_or, Option, Some, None, Result, Ok, Err, refl, ap, subst, sym, ◌∙◌, arith, append_assoc, append-nil, length-append, length-drop}
use Rattle.std.specs.List.{prefix_len}
use Rattle.std.specs.Str.{IsUtf8, IsAscii}
use Rattle.std.proofs.Math.Seq.{take-append_seam, drop-append-add, get_or-append_seam}
use Rattle.std.proofs.lemmas.Bool.Decides.{nat_tests}
use Rattle.std.proofs.lemmas.List.Sums.{prefix_len-le-length, prefix_len_passes}
use Rattle.std.proofs.lemmas.Str.{IsUtf8-nil, IsUtf8-from_ascii, IsUtf8-append, IsUtf8-take, IsUtf8-drop, IsCharBoundary-before_ascii, IsCharBoundary-after_ascii}
use Rattle.std.proofs.lemmas.List.{get_or-drop}
use Rattle.std.proofs.lemmas.Str.Ascii.{IsAscii-cons}
use Rattle.jm_base.specs.declared.refusal.Cause.{Cause}
use Rattle.jm_lexer.specs.declared.token.Kind.{Kind}
use Rattle.jm_lexer.specs.declared.token.Kind.TheVariants as kinds
use Rattle.jm_lexer.specs.declared.token.Mark.{Mark}
use Rattle.jm_lexer.specs.Words.{is_letter, is_word, is_number, is_blank, begins_number, one_sign, two_sign}
use Rattle.jm_lexer.specs.Lex.{Front, content, content_from, text_by, word_front, number_by, number_front, one_by, two_by, sign_front, front}

cut : (p z : List ℕ) → IsUtf8 (p ++ 39 ∷ z) → IsUtf8 p × IsUtf8 z
cut p z h =
    let here : get_or (p ++ 39 ∷ z) (length p) 0 ≡ 39 = get_or-append_seam p 39 z 0 in
    let small : get_or (p ++ 39 ∷ z) (length p) 0 < 128 = omega arith in
    let within : length p < length (p ++ 39 ∷ z) = omega (arith, length-append p (39 ∷ z)) in
    let before = IsUtf8-take (p ++ 39 ∷ z) (length p) h (IsCharBoundary-before_ascii (p ++ 39 ∷ z) (length p) within small) in
    let after = IsUtf8-drop (p ++ 39 ∷ z) (length p + 1) h (IsCharBoundary-after_ascii (p ++ 39 ∷ z) (length p) h within small) in
    (subst IsUtf8 (take-append_seam p (39 ∷ z)) before, subst IsUtf8 (drop-append-add p (39 ∷ z) 1) after)

quote_utf8 : IsUtf8 (39 ∷ [])
quote_utf8 = IsUtf8-from_ascii (39 ∷ []) (IsAscii-cons 39 [] (omega arith) (λ i. omega arith))

-- what a closed text holds, and where it ends
pub record Closed (n : ℕ) (z : List ℕ) (f : List ℕ × ℕ) : Type 0 where
  pub from : n ≤ f.1
  pub within : f.1 ≤ n + length z
  pub content : IsUtf8 f.0
  pub rest : IsUtf8 (drop (f.1 - n) z)

closed_here : (n : ℕ) (z : List ℕ) (found : List ℕ) (f : List ℕ × ℕ) → ◌≡◌ {A = Option (List ℕ × ℕ)} (Some (found, n)) (Some f) → IsUtf8 found → IsUtf8 z → Closed n z f
closed_here n z found f h good rest =
    let pairs : ◌≡◌ {A = List ℕ × ℕ} (found, n) f = cc in
    let none : n - n ≡ 0 = omega arith in
    let P : List ℕ × ℕ → Type 0 = λ p. Closed n z p in
    subst P pairs (record { from = omega arith; within = omega arith; content = good; rest = rw none rest })

closed_later : (n b : ℕ) (z : List ℕ) (f : List ℕ × ℕ) → Closed (n + 1) z f → Closed n (b ∷ z) f
closed_later n b z f c =
    let later : f.1 - n ≡ suc (f.1 - (n + 1)) = let h = c.from in omega arith in
    let from = c.from in
    let within = c.within in
    record { from = omega arith; within = omega arith; content = c.content; rest = rw later c.rest }

closed_from : (z : List ℕ) (closed : Bool) (good piece : List ℕ) (n : ℕ) (f : List ℕ × ℕ) → IsUtf8 good → IsUtf8 (piece ++ z) → (closed ≡ true → piece ≡ [])
    → content_from closed (good ++ piece) n z ≡ Some f → Closed n z f
closed_from [] true good piece n f g p none h = closed_here n [] (good ++ piece) f h (subst IsUtf8 (sym (ap (λ q. good ++ q) (none refl) ∙ append-nil good)) g) IsUtf8-nil
closed_from [] false good piece n f g p none h = absurd (cc)
closed_from (b ∷ z) true good piece n f g p none h = by_quote (closed_from z) (b == 39) refl h
  where
    left : IsUtf8 (b ∷ z)
    left = subst IsUtf8 (ap (λ q. q ++ b ∷ z) (none refl)) p

    whole : IsUtf8 (good ++ piece)
    whole = subst IsUtf8 (sym (ap (λ q. good ++ q) (none refl) ∙ append-nil good)) g

    by_quote : ((closed : Bool) (good piece : List ℕ) (n : ℕ) (f : List ℕ × ℕ) → IsUtf8 good → IsUtf8 (piece ++ z) → (closed ≡ true → piece ≡ []) → content_from closed (good ++ piece) n z ≡ Some f → Closed n z f) → (q : Bool) → (b == 39) ≡ q → (if q then content_from false ((good ++ piece) ++ 39 ∷ []) (n + 1) z else Some (good ++ piece, n)) ≡ Some f → Closed n (b ∷ z) f
    by_quote again true is h =
        let quote : b ≡ 39 = grind (arith, nat_tests) in
        let after = (cut [] z (subst (λ c. IsUtf8 (c ∷ z)) quote left)).1 in
        closed_later n b z f (again false ((good ++ piece) ++ 39 ∷ []) [] (n + 1) f (IsUtf8-append (good ++ piece) (39 ∷ []) whole quote_utf8) after (λ e. refl)
        (subst (λ l. content_from false l (n + 1) z ≡ Some f) (sym (append-nil ((good ++ piece) ++ 39 ∷ []))) h))
    by_quote again false is h = closed_here n (b ∷ z) (good ++ piece) f h whole left
closed_from (b ∷ z) false good piece n f g p none h = by_quote (closed_from z) (b == 39) refl h
  where
    by_quote : ((closed : Bool) (good piece : List ℕ) (n : ℕ) (f : List ℕ × ℕ) → IsUtf8 good → IsUtf8 (piece ++ z) → (closed ≡ true → piece ≡ []) → content_from closed (good ++ piece) n z ≡ Some f → Closed n z f) → (q : Bool) → (b == 39) ≡ q → (if q then content_from true (good ++ piece) (n + 1) z else content_from false ((good ++ piece) ++ b ∷ []) (n + 1) z) ≡ Some f → Closed n (b ∷ z) f
    by_quote again true is h =
        let quote : b ≡ 39 = grind (arith, nat_tests) in
        let parts = cut piece z (subst (λ c. IsUtf8 (piece ++ c ∷ z)) quote p) in
        closed_later n b z f (again true (good ++ piece) [] (n + 1) f (IsUtf8-append good piece g parts.0) parts.1 (λ e. refl)
        (subst (λ l. content_from true l (n + 1) z ≡ Some f) (sym (append-nil (good ++ piece))) h))
    by_quote again false is h =
        closed_later n b z f (again false good (piece ++ b ∷ []) (n + 1) f g (subst IsUtf8 (sym (append_assoc piece (b ∷ []) z)) p) (λ e. absurd (cc))
        (subst (λ l. content_from false l (n + 1) z ≡ Some f) (append_assoc good piece (b ∷ [])) h))

pub content_closed : (z : List ℕ) (f : List ℕ × ℕ) → IsUtf8 z → content z ≡ Some f → Closed 0 z f
unfolding content
content_closed z f utf8 h = closed_from z false [] [] 0 f IsUtf8-nil utf8 (λ e. refl) h

pub content_utf8 : (z : List ℕ) (f : List ℕ × ℕ) → IsUtf8 z → content z ≡ Some f → IsUtf8 f.0
content_utf8 z f utf8 h = (content_closed z f utf8 h).content

pub after_quote : (z : List ℕ) → IsUtf8 z → 0 < length z → get_or z 0 0 ≡ 39 → IsUtf8 (drop 1 z)
after_quote [] utf8 some first = absurd (omega arith)
after_quote (b ∷ z) utf8 some first = (cut [] z (subst (λ c. IsUtf8 (c ∷ z)) first utf8)).1

take_whole : (z : List ℕ) → take (length z) z ≡ z
take_whole [] = refl
take_whole (b ∷ z) = ap (λ l. b ∷ l) (take_whole z)

pub after_quote_taken : (z : List ℕ) → IsUtf8 z → 0 < length z → get_or z 0 0 ≡ 39 → IsUtf8 (take (length z - 1) (drop 1 z))
after_quote_taken [] utf8 some first = absurd (omega arith)
after_quote_taken (b ∷ z) utf8 some first =
    let e : length (b ∷ z) - 1 ≡ length z = omega arith in
    let rest = (cut [] z (subst (λ c. IsUtf8 (c ∷ z)) first utf8)).1 in
    rw e (subst IsUtf8 (sym (take_whole z)) rest)

-- ---- runs

word_small : (b : ℕ) → is_word b ≡ true → b < 128
word_small b h = grind (arith, nat_tests)

number_small : (b : ℕ) → is_number b ≡ true → b < 128
number_small b h = grind (arith, nat_tests)

run_ascii : (p : ℕ → Bool) → ((b : ℕ) → p b ≡ true → b < 128) → (z : List ℕ) → IsAscii (take (prefix_len p z) z)
run_ascii p small [] = λ i. omega arith
run_ascii p small (b ∷ z) = by_test (run_ascii p small z) (p b) refl
  where
    by_test : IsAscii (take (prefix_len p z) z) → (q : Bool) → p b ≡ q → IsAscii (take (if q then 1 + prefix_len p z else 0) (b ∷ z))
    by_test rest true is = let e : 1 + prefix_len p z ≡ suc (prefix_len p z) = omega arith in rw e (IsAscii-cons b (take (prefix_len p z) z) (small b is) rest)
    by_test rest false is = λ i. omega arith

pub word_utf8 : (z : List ℕ) → IsUtf8 (take (prefix_len is_word z) z)
word_utf8 z = IsUtf8-from_ascii (take (prefix_len is_word z) z) (run_ascii is_word word_small z)

-- a text may be cut after an ASCII byte
after_ascii : (z : List ℕ) (n : ℕ) → IsUtf8 z → 1 ≤ n → n ≤ length z → get_or z (n - 1) 0 < 128 → IsUtf8 (drop n z)
after_ascii z n utf8 some within small =
    let e : (n - 1) + 1 ≡ n = omega arith in
    let at : n - 1 < length z = omega arith in
    subst (λ k. IsUtf8 (drop k z)) e (IsUtf8-drop z ((n - 1) + 1) utf8 (IsCharBoundary-after_ascii z (n - 1) utf8 at small))

-- where a token ends
pub record Ends (z : List ℕ) (n : ℕ) : Type 0 where
  pub some : 1 ≤ n
  pub within : n ≤ length z
  pub rest : IsUtf8 (drop n z)

run_ends : (p : ℕ → Bool) → ((b : ℕ) → p b ≡ true → b < 128) → (z : List ℕ) → IsUtf8 z → 1 ≤ prefix_len p z → Ends z (prefix_len p z)
run_ends p small z utf8 some =
    let within = prefix_len-le-length p z in
    let last : prefix_len p z - 1 < prefix_len p z = omega arith in
    record { some = some; within = within; rest = after_ascii z (prefix_len p z) utf8 some within (small _ (prefix_len_passes p z (prefix_len p z - 1) 0 last)) }

first_runs : (p : ℕ → Bool) (b : ℕ) (z : List ℕ) → p b ≡ true → 1 ≤ prefix_len p (b ∷ z)
first_runs p b z h = rw h (omega arith)

pub front_ends : (at : ℕ) (z : List ℕ) (k : Kind) (n : ℕ) → IsUtf8 z → front at z ≡ Ok (k, n) → Ends z n
unfolding front word_front number_front
front_ends at [] k n utf8 h = absurd (cc)
front_ends at (b ∷ z) k n utf8 h = by_quote (b == 39) refl h
  where
    length_of : (i : Kind) (l : ℕ) → ◌≡◌ {A = Front} (Ok (i, l)) (Ok (k, n)) → l ≡ n
    length_of i l h = let pairs : ◌≡◌ {A = Kind × ℕ} (i, l) (k, n) = cc in ap (λ (p : Kind × ℕ). p.1) pairs

    by_content : (c : Option (List ℕ × ℕ)) → IsUtf8 z → content z ≡ c → text_by at c ≡ Ok (k, n) → Ends (b ∷ z) n
    by_content None after is h = absurd (cc)
    by_content (Some f) after is h =
        let c = content_closed z f after is in
        let e : f.1 + 1 ≡ suc f.1 = omega arith in
        let less : f.1 - 0 ≡ f.1 = omega arith in
        let within = c.within in
        subst (λ l. Ends (b ∷ z) l) (length_of (kinds.Text f.0) (f.1 + 1) h)
        (record { some = omega arith; within = omega arith; rest = rw e (rw less at c.rest) })

    by_number : (r : Result ℕ Cause) → number_by at (prefix_len is_number (b ∷ z)) r ≡ Ok (k, n) → prefix_len is_number (b ∷ z) ≡ n
    by_number (Ok v) h = length_of (kinds.Number v) _ h
    by_number (Err c) h = absurd (cc)

    one_small : (mark : Option Mark) → one_sign b ≡ mark → one_by at mark ≡ Ok (k, n) → (b < 128) × (1 ≡ n)
    one_small None is h = absurd (cc)
    one_small (Some mark) is h = (grind (arith, nat_tests), length_of (kinds.Mark mark) 1 h)

    after_one : (z : List ℕ) → IsUtf8 (b ∷ z) → (b < 128) × (1 ≡ n) → Ends (b ∷ z) n
    after_one z utf8 one = subst (λ l. Ends (b ∷ z) l) one.1 (record { some = omega arith; within = omega arith; rest = after_ascii (b ∷ z) 1 utf8 (omega arith) (omega arith) one.0 })

    by_sign : (z : List ℕ) → IsUtf8 (b ∷ z) → sign_front at (b ∷ z) ≡ Ok (k, n) → Ends (b ∷ z) n
    by_sign [] utf8 h = after_one [] utf8 (one_small (one_sign b) refl h)
    by_sign (c ∷ z) utf8 h = by_two (two_sign b c) refl h
      where
        by_two : (mark : Option Mark) → two_sign b c ≡ mark → two_by (one_by at (one_sign b)) mark ≡ Ok (k, n) → Ends (b ∷ c ∷ z) n
        by_two None is h = after_one (c ∷ z) utf8 (one_small (one_sign b) refl h)
        by_two (Some mark) is h =
            let small : c < 128 = grind (arith, nat_tests) in
            subst (λ l. Ends (b ∷ c ∷ z) l) (length_of (kinds.Mark mark) 2 h)
            (record { some = omega arith; within = omega arith; rest = after_ascii (b ∷ c ∷ z) 2 utf8 (omega arith) (omega arith) small })

    by_begins : (q : Bool) → begins_number (b ∷ z) ≡ q → (if q then number_front at (b ∷ z) else sign_front at (b ∷ z)) ≡ Ok (k, n) → Ends (b ∷ z) n
    by_begins true is h =
        let first : is_number b ≡ true = grind (arith, nat_tests) in
        subst (λ l. Ends (b ∷ z) l) (by_number _ h) (run_ends is_number number_small (b ∷ z) utf8 (first_runs is_number b z first))
    by_begins false is h = by_sign z utf8 h

    by_letter : (q : Bool) → is_letter b ≡ q → (if q then word_front (b ∷ z) else (if begins_number (b ∷ z) then number_front at (b ∷ z) else sign_front at (b ∷ z))) ≡ Ok (k, n) → Ends (b ∷ z) n
    by_letter true is h =
        let first : is_word b ≡ true = grind (arith, nat_tests) in
        subst (λ l. Ends (b ∷ z) l) (length_of _ _ h) (run_ends is_word word_small (b ∷ z) utf8 (first_runs is_word b z first))
    by_letter false is h = by_begins (begins_number (b ∷ z)) refl h

    by_quote : (q : Bool) → (b == 39) ≡ q
        → (if q then text_by at (content z) else (if is_letter b then word_front (b ∷ z) else (if begins_number (b ∷ z) then number_front at (b ∷ z) else sign_front at (b ∷ z)))) ≡ Ok (k, n)
        → Ends (b ∷ z) n
    by_quote true is h =
        let quote : b ≡ 39 = grind (arith, nat_tests) in
        by_content (content z) (cut [] z (subst (λ c. IsUtf8 (c ∷ z)) quote utf8)).1 refl h
    by_quote false is h = by_letter (is_letter b) refl h

drop_none : (k : ℕ) → drop {A = ℕ} k [] ≡ []
drop_none zero = refl
drop_none (suc k) = refl

pub drop_at : (text : List ℕ) (at n : ℕ) → drop n (drop at text) ≡ drop (at + n) text
drop_at [] at n = ap (λ l. drop n l) (drop_none at) ∙ drop_none n ∙ sym (drop_none (at + n))
drop_at (b ∷ text) zero n = let e : 0 + n ≡ n = omega arith in ap (λ k. drop k (b ∷ text)) (sym e)
drop_at (b ∷ text) (suc at) n = let e : suc at + n ≡ suc (at + n) = omega arith in rw e (drop_at text at n)

-- a slice to the end is what is left
pub sliced : (text : List ℕ) (at : ℕ) → take (length text - at) (drop at text) ≡ drop at text
sliced text at = let e : length text - at ≡ length (drop at text) = omega (arith, length-drop at text) in rw e (take_whole (drop at text))

pub lex_next : (text : List ℕ) (at : ℕ) (k : Kind) (n : ℕ) → at ≤ length text → IsUtf8 (drop at text) → front at (drop at text) ≡ Ok (k, n)
    → (1 ≤ n) × (at + n ≤ length text) × IsUtf8 (drop (at + n) text)
lex_next text at k n before utf8 h =
    let e = front_ends at (drop at text) k n utf8 h in
    let some = e.some in
    let within = e.within in
    (e.some, omega (arith, length-drop at text), subst IsUtf8 (drop_at text at n) e.rest)

pub lex_blank : (text : List ℕ) (at : ℕ) → at < length text → IsUtf8 (drop at text) → is_blank (get_or text at 0) ≡ true → IsUtf8 (drop (at + 1) text)
lex_blank text at before utf8 h =
    let small : get_or text at 0 < 128 = grind (arith, nat_tests) in
    let same : at + 0 ≡ at = omega arith in
    let first : get_or (drop at text) 0 0 ≡ get_or text at 0 = get_or-drop at text 0 0 ∙ ap (λ k. get_or text k 0) same in
    let low : get_or (drop at text) 0 0 < 128 = omega arith in
    let within : 1 ≤ length (drop at text) = omega (arith, length-drop at text) in
    subst IsUtf8 (drop_at text at 1) (after_ascii (drop at text) 1 utf8 (omega arith) within low)
