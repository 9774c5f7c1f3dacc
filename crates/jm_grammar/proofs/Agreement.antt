-- Reading and spelling are one.
use Rattle.std.proofs.Common.{◌≡◌, ℕ, Bool, true, false, List, [], ◌∷◌, Option, Some, None, Result, Ok, Err, IfOk, ◌≢◌, ◌≤◌, nat_lt, if◌then◌else◌, length, refl, ap, subst, sym, ◌∙◌, append-nil, arith}
use Rattle.std.proofs.lemmas.Bool.Decides.{nat_tests}
use Rattle.jm_base.specs.declared.refusal.Cause.TheVariants as causes
use Rattle.jm_lexer.specs.Lex.{tokens}
use Rattle.jm_lexer.specs.Lexes.{Lexes}
use Rattle.jm_lexer.proofs.Lexed.{tokens_lexed, lexed_tokens}
use Rattle.jm_tree.specs.Parse.{length_max, parsed, read, some_tree, fault, fault_of, Finds, Refuses, IsFaulty, long, lexical, unspelled}
use Rattle.jm_lexer.specs.declared.token.Token.{Token}
use Rattle.jm_lexer.specs.declared.fault.SyntaxFault.{SyntaxFault}
use Rattle.jm_tree.specs.declared.tree.Tree.{Tree}
use Rattle.jm_lexer.specs.Faults.{fault_at}
use Rattle.jm_tree.specs.Input.{Input, Outcome, and_then, start, start_of, unless, or_else, noted, is_end, sees, kind}
use Rattle.jm_tree.specs.Sorts.{fits_truth}
use Rattle.jm_tree.specs.FaultOrder.{either, both, condition, tested, sum, product, unary, primary, chain, below}
use Rattle.jm_tree.specs.Spells.{Spells}
use Rattle.jm_lexer.specs.Faults.{Gives}
use Rattle.jm_tree.specs.Answer.{answer, whole, finished, checked, settled, tree_of}
use Rattle.jm_grammar.proofs.Steps.{fits_unless}
use Rattle.jm_grammar.proofs.Sound.{reads_spelled}
use Rattle.jm_grammar.proofs.Complete.{spelled_reads}

pub answer_spelled : (toks : List Token) (end : ℕ) (t : Tree) → answer toks end ≡ Ok t → Spells t toks
unfolding answer whole finished settled noted is_end
answer_spelled toks end t h = by_outcome (either 64 (below 64) (start_of toks end)) refl h
  where
    place : ℕ
    place = start (start_of toks end)

    by_check : (x : Tree) (w late : Option ℕ) (i : Input) → tree_of (checked (or_else w late) (Ok (x, i))) ≡ Ok t → (w ≡ None) × (late ≡ None) × (x ≡ t)
    by_check x None None i h = (refl, refl, cc)
    by_check x None (Some a) i h = absurd (cc)
    by_check x (Some a) late i h = absurd (cc)

    by_rest : (x : Tree) (rest : List Token) (end' : ℕ) (w : Option ℕ) → either 64 (below 64) (start_of toks end) ≡ Ok (x, record { tokens = rest; end = end'; wrong = w })
        → tree_of (finished x place (record { tokens = rest; end = end'; wrong = w })) ≡ Ok t → Spells t toks
    by_rest x [] end' w is h =
        let c = by_check x w (unless (fits_truth x) place) _ h in
        let r = reads_spelled 64 (start_of toks end) (record { tokens = []; end = end'; wrong = w }) x is in
        let whole : toks ≡ r.front = r.took.tokens ∙ append-nil r.front in
        rw (← c.2) (record { line = rw whole (r.spells c.0); whole = fits_unless (fits_truth x) place c.1 })
    by_rest x (next ∷ more) end' w is h = absurd (cc)

    by_outcome : (o : Outcome Tree) → either 64 (below 64) (start_of toks end) ≡ o → tree_of (and_then o (λ x. finished x place)) ≡ Ok t → Spells t toks
    by_outcome (Ok p) is h = by_rest p.0 p.1.tokens p.1.end p.1.wrong is h
    by_outcome (Err e) is h = absurd (cc)

pub spelled_answer : (toks : List Token) (end : ℕ) (t : Tree) → Spells t toks → answer toks end ≡ Ok t
unfolding answer whole finished settled noted is_end
spelled_answer toks end t s = rw (spelled_reads 64 t toks s.line end) (rw s.whole refl)

pub gives_found : (toks : List Token) (end : ℕ) (r : Result Tree SyntaxFault) → Gives r (answer toks end) → IfOk r (λ t. Spells t toks)
gives_found toks end (Ok t) h = answer_spelled toks end t h
gives_found toks end (Err e) h = tt

pub gives_only : (toks : List Token) (end : ℕ) (r : Result Tree SyntaxFault) → Gives r (answer toks end) → (t : Tree) → Spells t toks → Gives r (Ok t)
gives_only toks end (Ok x) h t s = sym (spelled_answer toks end t s) ∙ h
gives_only toks end (Err e) h t s = λ no_want. sym (spelled_answer toks end t s) ∙ h no_want

pub one_tree : (toks : List Token) (s t : Tree) → Spells s toks → Spells t toks → s ≡ t
one_tree toks s t a b = let e = sym (spelled_answer toks 0 s a) ∙ spelled_answer toks 0 t b in cc

pub no_spelling_answer : (toks : List Token) (end : ℕ) (e : SyntaxFault) → answer toks end ≡ Err e → (t : Tree) → Spells t toks → ⊥
no_spelling_answer toks end e h t s = let a = spelled_answer toks end t s in cc

-- the scan's answer is one that the text has
lexed : (text : List ℕ) (r : Result (List Token) SyntaxFault) → tokens text ≡ r → Lexes text r
lexed text r is = subst (Lexes text) is (tokens_lexed text)

-- what is read of a text
finds_by : (text : List ℕ) (found : Option Tree) (r : Result (List Token) SyntaxFault) → tokens text ≡ r → read (length text) r ≡ Ok found → Finds text found
finds_by text found (Err e) is h = absurd (cc)
finds_by text None (Ok []) is h = lexed text (Ok []) is
finds_by text (Some t) (Ok []) is h = absurd (cc)
finds_by text found (Ok (t ∷ ts)) is h = by_answer (answer (t ∷ ts) (length text)) refl h
  where
    by_answer : (a : Result Tree SyntaxFault) → answer (t ∷ ts) (length text) ≡ a → some_tree a ≡ Ok found → Finds text found
    by_answer (Err e) same h = absurd (cc)
    by_answer (Ok tree) same h =
        let e : Some tree ≡ found = cc in
        subst (λ f. Finds text f) e (t ∷ ts, lexed text (Ok (t ∷ ts)) is, answer_spelled (t ∷ ts) (length text) tree same)

pub finds : (text : List ℕ) (found : Option Tree) → parsed text ≡ Ok found → Finds text found
unfolding parsed
finds text found h = by_length (nat_lt length_max (length text)) refl h
  where
    by_length : (b : Bool) → nat_lt length_max (length text) ≡ b → (if b then Err (fault_at length_max causes.TooLong) else read (length text) (tokens text)) ≡ Ok found → Finds text found
    by_length true is h = absurd (cc)
    by_length false is h = finds_by text found (tokens text) refl h

pub gives_finds : (text : List ℕ) (r : Result (Option Tree) SyntaxFault) → Gives r (parsed text) → IfOk r (Finds text)
gives_finds text (Ok found) h = finds text found h
gives_finds text (Err e) h = tt

no_tokens : (tree : Tree) → Spells tree [] → ⊥
unfolding answer whole either both condition tested sum product unary primary chain sees kind
no_tokens tree s = let a = spelled_answer [] 0 tree s in cc

pub spelled_parsed : (text : List ℕ) (toks : List Token) (tree : Tree) → length text ≤ length_max → Lexes text (Ok toks) → Spells tree toks → parsed text ≡ Ok (Some tree)
unfolding parsed
spelled_parsed text [] tree short is s = absurd (no_tokens tree s)
spelled_parsed text (t ∷ ts) tree short is s =
    let within : nat_lt length_max (length text) ≡ false = grind (arith, nat_tests) in
    let same = lexed_tokens text (Ok (t ∷ ts)) is in
    rw (within, same) (ap some_tree (spelled_answer (t ∷ ts) (length text) tree s))

pub gives_spelled : (text : List ℕ) (r : Result (Option Tree) SyntaxFault) → Gives r (parsed text) → (toks : List Token) (tree : Tree) → length text ≤ length_max → Lexes text (Ok toks) → Spells tree toks
    → Gives r (Ok (Some tree))
gives_spelled text (Ok found) h toks tree short is s = sym (spelled_parsed text toks tree short is s) ∙ h
gives_spelled text (Err e) h toks tree short is s = λ no_want. sym (spelled_parsed text toks tree short is s) ∙ h no_want

pub fault_some : (text : List ℕ) (e : SyntaxFault) → fault text ≡ Some e → IsFaulty text
unfolding parsed
fault_some text e h = by_length (nat_lt length_max (length text)) refl h
  where
    by_tokens : (r : Result (List Token) SyntaxFault) → tokens text ≡ r → fault_of (read (length text) r) ≡ Some e → IsFaulty text
    by_tokens (Err f) is h = lexical (lexed text (Err f) is)
    by_tokens (Ok []) is h = absurd (cc)
    by_tokens (Ok (t ∷ ts)) is h = by_answer (answer (t ∷ ts) (length text)) refl h
      where
        not_none : t ∷ ts ≢ []
        not_none h = cc

        by_answer : (a : Result Tree SyntaxFault) → answer (t ∷ ts) (length text) ≡ a → fault_of (some_tree a) ≡ Some e → IsFaulty text
        by_answer (Ok tree) same h = absurd (cc)
        by_answer (Err f) same h = unspelled (lexed text (Ok (t ∷ ts)) is) not_none (no_spelling_answer (t ∷ ts) (length text) f same)

    by_length : (b : Bool) → nat_lt length_max (length text) ≡ b → fault_of (if b then Err (fault_at length_max causes.TooLong) else read (length text) (tokens text)) ≡ Some e → IsFaulty text
    by_length true is h = long (grind (arith, nat_tests))
    by_length false is h = by_tokens (tokens text) refl h

pub fault_none : (text : List ℕ) → fault text ≡ None → IsFaulty text → ⊥
unfolding parsed
fault_none text h (long above) = let test : nat_lt length_max (length text) ≡ true = grind (arith, nat_tests) in let f = rw test at h in absurd (cc)
fault_none text h (lexical {e = e} l) = by_length (nat_lt length_max (length text)) h
  where
    is : tokens text ≡ Err e
    is = lexed_tokens text (Err e) l

    by_length : (b : Bool) → fault_of (if b then Err (fault_at length_max causes.TooLong) else read (length text) (tokens text)) ≡ None → ⊥
    by_length true h = cc
    by_length false h = let f = rw is at h in cc
fault_none text h (unspelled {toks = []} l some none) = absurd (some refl)
fault_none text h (unspelled {toks = t ∷ ts} l some none) = by_length (nat_lt length_max (length text)) h
  where
    is : tokens text ≡ Ok (t ∷ ts)
    is = lexed_tokens text (Ok (t ∷ ts)) l

    by_answer : (a : Result Tree SyntaxFault) → answer (t ∷ ts) (length text) ≡ a → fault_of (some_tree a) ≡ None → ⊥
    by_answer (Ok tree) same h = none tree (answer_spelled (t ∷ ts) (length text) tree same)
    by_answer (Err e) same h = cc

    by_length : (b : Bool) → fault_of (if b then Err (fault_at length_max causes.TooLong) else read (length text) (tokens text)) ≡ None → ⊥
    by_length true h = cc
    by_length false h = by_answer (answer (t ∷ ts) (length text)) refl (rw is at h)

pub gives_faulty : (text : List ℕ) (r : Result (Option Tree) SyntaxFault) → Gives r (parsed text) → Refuses text r
gives_faulty text (Ok found) h = tt
gives_faulty text (Err e) h = λ no_want. fault_some text e (ap fault_of (h no_want))

lexical_parsed : (text : List ℕ) (e : SyntaxFault) → length text ≤ length_max → Lexes text (Err e) → parsed text ≡ Err e
unfolding parsed
lexical_parsed text e short l =
    let within : nat_lt length_max (length text) ≡ false = grind (arith, nat_tests) in
    let same = lexed_tokens text (Err e) l in
    rw (within, same) refl

pub gives_lexical : (text : List ℕ) (r : Result (Option Tree) SyntaxFault) → Gives r (parsed text) → (e : SyntaxFault) → length text ≤ length_max → Lexes text (Err e) → Gives r (Err e)
gives_lexical text (Ok found) h e short l = sym (lexical_parsed text e short l) ∙ h
gives_lexical text (Err f) h e short l = λ no_want. sym (lexical_parsed text e short l) ∙ h no_want
