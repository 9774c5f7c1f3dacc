use Rattle.std.proofs.Common.{◌≡◌, ◌∙◌, ap, ap₂, map, sym, subst, inl, inr}
use Rattle.clap.specs.Words.{IsAmong, fault_of, is_simple_and_free, kind_of}
use Rattle.jm_words.specs.Words.{marked}
use Rattle.jm_words.proofs.CommandLine.{program_is_simple}
use Rattle.jm_words.proofs.words.read_words.Goals as goal

pub returns-in-Ok-clause-faults : goal.returns-in-Ok-clause-faults
returns-in-Ok-clause-faults c =
    let words_are : map (λ word. word.now) c.as_slice.result.now ≡ marked (map (λ word. word.now) c.args.words.now) =
    ap (map (λ word. word.now)) c.as_slice.ensures.value ∙ c.in_ok-words.ensures in
    sym (ap₂ fault_of c.in_ok-program.ensures words_are) ∙ c.in-Ok.ensures.kinds (ap is_simple_and_free c.in_ok-program.ensures ∙ program_is_simple)

pub returns-clause-faults : goal.returns-clause-faults
returns-clause-faults c =
    let words_are : map (λ word. word.now) c.as_slice.result.now ≡ marked (map (λ word. word.now) c.args.words.now) =
    ap (map (λ word. word.now)) c.as_slice.ensures.value ∙ c.in_ok-words.ensures in
    elim (c.in-Err.ensures.kinds (ap is_simple_and_free c.in_ok-program.ensures ∙ program_is_simple)) [
      | inl memory ↦ absurd (c.in_default.not-OutOfMemory (c.kind.ensures ∙ memory))
      | inr among ↦ subst (IsAmong (kind_of c.in-Err.error)) (ap₂ fault_of c.in_ok-program.ensures words_are) among
    ]
