use Rattle.std.proofs.Common.{◌≡◌, ◌<◌, ◌+◌, ◌-◌, length, drop, get_or, Ok, false, true, ap, subst, sym, ◌∙◌, arith}
use Rattle.std.proofs.lemmas.Grind.{common_steps}
use Rattle.jm_lexer.specs.Words.{is_blank}
use Rattle.jm_lexer.specs.Lex.{front, lex_from}
use Rattle.jm_lexer.proofs.Contents.{lex_next, lex_blank, sliced}
use Rattle.jm_lexer.proofs.Lexing.{lex_end, lex_skip, lex_fail, lex_take}
use Rattle.jm_lexer.proofs.lexer.tokens_of.Goals as goal

pub returns-then-at-bytes : goal.returns-then-at-bytes
returns-then-at-bytes c =
    let h = lex_end c.as_bytes-bytes.result.now _ _ c.loop-turn._turn c.loop-turn.at c.loop-turn.found c.loop-turn-test.true c.loop-turn.invariant.0 c.if-at-bytes.true in
    first_of (cc, grind (arith, common_steps))

pub loop-turn-preserved-then-is_blank : goal.loop-turn-preserved-then-is_blank
loop-turn-preserved-then-is_blank c =
    let before : c.loop-turn.at < length c.as_bytes-bytes.result.now = let w = c.loop-turn.invariant.1 in let o = c.if-at-bytes.false in omega arith in
    let blank : is_blank (get_or c.as_bytes-bytes.result.now c.loop-turn.at 0) ≡ true = sym c.is_blank.ensures ∙ c.if-is_blank.true in (
      lex_skip c.as_bytes-bytes.result.now _ _ c.loop-turn._turn c.loop-turn.at c.loop-turn.found c.loop-turn-test.true c.loop-turn.invariant.0 before blank,
      omega arith,
      lex_blank c.as_bytes-bytes.result.now c.loop-turn.at before c.loop-turn.invariant.2 blank,
    )

pub returns-in_err-kind : goal.returns-in_err-kind
returns-in_err-kind c =
    let before : c.loop-turn.at < length c.as_bytes-bytes.result.now = let w = c.loop-turn.invariant.1 in let o = c.if-at-bytes.false in omega arith in
    let solid : is_blank (get_or c.as_bytes-bytes.result.now c.loop-turn.at 0) ≡ false = sym c.is_blank.ensures ∙ c.if-is_blank.false in
    let h = lex_fail c.as_bytes-bytes.result.now _ _ c.loop-turn._turn c.loop-turn.at c.loop-turn.found c.loop-turn-test.true c.loop-turn.invariant.0 c.in_err-kind.field-0.0 before solid in
    grind (arith, common_steps)

pub overflow_add-end : goal.overflow_add-end
overflow_add-end c =
    let before = c.loop-turn.invariant.1 in
    let f : front c.loop-turn.at (drop c.loop-turn.at c.as_bytes-bytes.result.now) ≡ Ok (c.in_ok-kind.kind, c.in_ok-kind.len) =
    subst (λ z. front c.loop-turn.at z ≡ Ok (c.in_ok-kind.kind, c.in_ok-kind.len)) (sliced c.as_bytes-bytes.result.now c.loop-turn.at) c.in_ok-kind.ensures in
    let e = lex_next c.as_bytes-bytes.result.now c.loop-turn.at c.in_ok-kind.kind c.in_ok-kind.len c.loop-turn.invariant.1 c.loop-turn.invariant.2 f in
    omega arith

pub loop-turn-preserved : goal.loop-turn-preserved
loop-turn-preserved c =
    let before : c.loop-turn.at < length c.as_bytes-bytes.result.now = let w = c.loop-turn.invariant.1 in let o = c.if-at-bytes.false in omega arith in
    let solid : is_blank (get_or c.as_bytes-bytes.result.now c.loop-turn.at 0) ≡ false = sym c.is_blank.ensures ∙ c.if-is_blank.false in
    let f : front c.loop-turn.at (drop c.loop-turn.at c.as_bytes-bytes.result.now) ≡ Ok (c.in_ok-kind.kind, c.in_ok-kind.len) =
    subst (λ z. front c.loop-turn.at z ≡ Ok (c.in_ok-kind.kind, c.in_ok-kind.len)) (sliced c.as_bytes-bytes.result.now c.loop-turn.at) c.in_ok-kind.ensures in
    let e = lex_next c.as_bytes-bytes.result.now c.loop-turn.at c.in_ok-kind.kind c.in_ok-kind.len c.loop-turn.invariant.1 c.loop-turn.invariant.2 f in
    let h = lex_take c.as_bytes-bytes.result.now _ _ c.loop-turn._turn c.loop-turn.at c.loop-turn.found c.loop-turn-test.true c.loop-turn.invariant.0 c.in_ok-kind.kind c.in_ok-kind.len before solid f in
    (h ∙ ap (λ l. lex_from c.as_bytes-bytes.result.now (length c.as_bytes-bytes.result.now - (c.loop-turn._turn + 1)) (c.loop-turn.at + c.in_ok-kind.len) l) (sym c.in_ok-push.ensures.ok), e.1, e.2)
