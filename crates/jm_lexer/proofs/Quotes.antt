-- What stands between quotes, beside the scan for the closing one.
use Rattle.std.proofs.Common.{◌≡◌, ℕ, suc, ◌+◌, ◌≤◌, ◌==◌, Bool, true, false, if◌then◌else◌, List, [], ◌∷◌, ◌++◌, length, Option, Some, None, refl, ap, subst, sym, ◌∙◌, arith, append_assoc, append-nil}
use Rattle.std.proofs.lemmas.Bool.Decides.{nat_tests}
use Rattle.jm_lexer.specs.Lex.{content, content_from}
use Rattle.jm_lexer.specs.Lexes.{doubled}

-- the quote that was read last, where it may be the first of two
abbrev owed : Bool → List ℕ
owed true = 39 ∷ []
owed false = []

-- what a scan found
pub record Scanned (closed : Bool) (found : List ℕ) (n : ℕ) (z : List ℕ) (f : List ℕ × ℕ) : Type 0 where
  pub content : List ℕ
  pub rest : List ℕ
  pub holds : f.0 ≡ found ++ content
  pub spelled : owed closed ++ z ≡ doubled content ++ 39 ∷ rest
  pub ends : f.1 + length (owed closed) ≡ n + length (doubled content) + 1

scanned_here : (z found : List ℕ) (n : ℕ) (f : List ℕ × ℕ) → ◌≡◌ {A = Option (List ℕ × ℕ)} (Some (found, n)) (Some f) → Scanned true found n z f
scanned_here z found n f h =
    let pairs : ◌≡◌ {A = List ℕ × ℕ} (found, n) f = cc in
    let P : List ℕ × ℕ → Type 0 = λ p. Scanned true found n z p in
    subst P pairs (record { content = []; rest = z; holds = sym (append-nil found); spelled = refl; ends = omega arith })

doubled_quote : (b : ℕ) (z : List ℕ) → (b == 39) ≡ true → doubled (b ∷ z) ≡ 39 ∷ 39 ∷ doubled z
doubled_quote b z is = rw is refl

doubled_other : (b : ℕ) (z : List ℕ) → (b == 39) ≡ false → doubled (b ∷ z) ≡ b ∷ doubled z
doubled_other b z is = rw is refl

pub scan_closed : (z : List ℕ) (closed : Bool) (found : List ℕ) (n : ℕ) (f : List ℕ × ℕ) → content_from closed found n z ≡ Some f → Scanned closed found n z f
scan_closed [] true found n f h = scanned_here [] found n f h
scan_closed [] false found n f h = absurd (cc)
scan_closed (b ∷ z) true found n f h = by_quote (scan_closed z) (b == 39) refl h
  where
    by_quote : ((closed : Bool) (found : List ℕ) (n : ℕ) (f : List ℕ × ℕ) → content_from closed found n z ≡ Some f → Scanned closed found n z f)
        → (q : Bool) → (b == 39) ≡ q → (if q then content_from false (found ++ 39 ∷ []) (n + 1) z else Some (found, n)) ≡ Some f → Scanned true found n (b ∷ z) f
    by_quote again true is h =
        let quote : b ≡ 39 = grind (arith, nat_tests) in
        let s = again false (found ++ 39 ∷ []) (n + 1) f h in
        let e = s.ends in
        let spelled : 39 ∷ b ∷ z ≡ 39 ∷ 39 ∷ (doubled s.content ++ 39 ∷ s.rest) = rw quote (ap (λ l. 39 ∷ 39 ∷ l) s.spelled) in
        record { content = 39 ∷ s.content; rest = s.rest; holds = s.holds ∙ append_assoc found (39 ∷ []) s.content; spelled = spelled; ends = omega arith }
    by_quote again false is h = scanned_here (b ∷ z) found n f h
scan_closed (b ∷ z) false found n f h = by_quote (scan_closed z) (b == 39) refl h
  where
    by_quote : ((closed : Bool) (found : List ℕ) (n : ℕ) (f : List ℕ × ℕ) → content_from closed found n z ≡ Some f → Scanned closed found n z f)
        → (q : Bool) → (b == 39) ≡ q → (if q then content_from true found (n + 1) z else content_from false (found ++ b ∷ []) (n + 1) z) ≡ Some f → Scanned false found n (b ∷ z) f
    by_quote again true is h =
        let quote : b ≡ 39 = grind (arith, nat_tests) in
        let s = again true found (n + 1) f h in
        let e = s.ends in
        record { content = s.content; rest = s.rest; holds = s.holds; spelled = rw quote s.spelled; ends = omega arith }
    by_quote again false is h =
        let s = again false (found ++ b ∷ []) (n + 1) f h in
        let e = s.ends in
        let d = doubled_other b s.content is in
        let same : length (doubled (b ∷ s.content)) ≡ suc (length (doubled s.content)) = ap length d in
        let spelled : b ∷ z ≡ doubled (b ∷ s.content) ++ 39 ∷ s.rest = rw d (ap (λ l. b ∷ l) s.spelled) in
        record { content = b ∷ s.content; rest = s.rest; holds = s.holds ∙ append_assoc found (b ∷ []) s.content; spelled = spelled; ends = omega arith }

pub scan_unclosed : (z : List ℕ) (closed : Bool) (found : List ℕ) (n : ℕ) → content_from closed found n z ≡ None → (c : List ℕ) × (owed closed ++ z ≡ doubled c)
scan_unclosed [] true found n h = absurd (cc)
scan_unclosed [] false found n h = ([], refl)
scan_unclosed (b ∷ z) true found n h = by_quote (scan_unclosed z) (b == 39) refl h
  where
    by_quote : ((closed : Bool) (found : List ℕ) (n : ℕ) → content_from closed found n z ≡ None → (c : List ℕ) × (owed closed ++ z ≡ doubled c))
        → (q : Bool) → (b == 39) ≡ q → (if q then content_from false (found ++ 39 ∷ []) (n + 1) z else Some (found, n)) ≡ None → (c : List ℕ) × (39 ∷ b ∷ z ≡ doubled c)
    by_quote again true is h =
        let quote : b ≡ 39 = grind (arith, nat_tests) in
        let s = again false (found ++ 39 ∷ []) (n + 1) h in
        let spelled : 39 ∷ b ∷ z ≡ 39 ∷ 39 ∷ doubled s.0 = rw quote (ap (λ l. 39 ∷ 39 ∷ l) s.1) in
        (39 ∷ s.0, spelled)
    by_quote again false is h = absurd (cc)
scan_unclosed (b ∷ z) false found n h = by_quote (scan_unclosed z) (b == 39) refl h
  where
    by_quote : ((closed : Bool) (found : List ℕ) (n : ℕ) → content_from closed found n z ≡ None → (c : List ℕ) × (owed closed ++ z ≡ doubled c))
        → (q : Bool) → (b == 39) ≡ q → (if q then content_from true found (n + 1) z else content_from false (found ++ b ∷ []) (n + 1) z) ≡ None → (c : List ℕ) × (b ∷ z ≡ doubled c)
    by_quote again true is h =
        let quote : b ≡ 39 = grind (arith, nat_tests) in
        let s = again true found (n + 1) h in
        (s.0, rw quote s.1)
    by_quote again false is h =
        let s = again false (found ++ b ∷ []) (n + 1) h in
        let spelled : b ∷ z ≡ doubled (b ∷ s.0) = ap (λ l. b ∷ l) s.1 ∙ sym (doubled_other b s.0 is) in
        (b ∷ s.0, spelled)

-- a scan goes through a content with its quotes doubled
pub scan_doubled : (c rest found : List ℕ) (n : ℕ) → content_from false found n (doubled c ++ rest) ≡ content_from false (found ++ c) (n + length (doubled c)) rest
scan_doubled [] rest found n = let e : n + 0 ≡ n = omega arith in rw (append-nil found, e) refl
scan_doubled (b ∷ c) rest found n = by_quote (scan_doubled c rest) (b == 39) refl
  where
    by_quote : ((found : List ℕ) (n : ℕ) → content_from false found n (doubled c ++ rest) ≡ content_from false (found ++ c) (n + length (doubled c)) rest)
        → (q : Bool) → (b == 39) ≡ q
        → content_from false found n ((if q then 39 ∷ 39 ∷ doubled c else b ∷ doubled c) ++ rest)
        ≡ content_from false (found ++ b ∷ c) (n + length (if q then 39 ∷ 39 ∷ doubled c else b ∷ doubled c)) rest
    by_quote again true is =
        let quote : b ≡ 39 = grind (arith, nat_tests) in
        let e : n + 1 + 1 + length (doubled c) ≡ n + suc (suc (length (doubled c))) = omega arith in
        let h = again (found ++ 39 ∷ []) (n + 1 + 1) in
        rw quote (h ∙ ap (λ l. content_from false l (n + 1 + 1 + length (doubled c)) rest) (append_assoc found (39 ∷ []) c)
        ∙ ap (λ k. content_from false (found ++ 39 ∷ c) k rest) e)
    by_quote again false is =
        let e : n + 1 + length (doubled c) ≡ n + suc (length (doubled c)) = omega arith in
        let h = again (found ++ b ∷ []) (n + 1) in
        let step : content_from false found n (b ∷ (doubled c ++ rest)) ≡ content_from false (found ++ b ∷ []) (n + 1) (doubled c ++ rest) = rw is refl in
        step ∙ h ∙ ap (λ l. content_from false l (n + 1 + length (doubled c)) rest) (append_assoc found (b ∷ []) c)
        ∙ ap (λ k. content_from false (found ++ b ∷ c) k rest) e

-- after a content
pub content_doubled : (c rest : List ℕ) → content (doubled c ++ rest) ≡ content_from false c (length (doubled c)) rest
unfolding content
content_doubled c rest = let e : 0 + length (doubled c) ≡ length (doubled c) = omega arith in scan_doubled c rest [] 0 ∙ ap (λ k. content_from false c k rest) e

-- after a content and a quote
pub content_quoted : (c rest : List ℕ) → content ((doubled c ++ 39 ∷ []) ++ rest) ≡ content_from true c (length (doubled c) + 1) rest
content_quoted c rest = ap content (append_assoc (doubled c) (39 ∷ []) rest) ∙ content_doubled c (39 ∷ rest)

pub scan_grows : (z : List ℕ) (closed : Bool) (found : List ℕ) (n : ℕ) (f : List ℕ × ℕ) → content_from closed found n z ≡ Some f → n ≤ f.1
scan_grows z true found n f h = let e = (scan_closed z true found n f h).ends in omega arith
scan_grows z false found n f h = let e = (scan_closed z false found n f h).ends in omega arith
