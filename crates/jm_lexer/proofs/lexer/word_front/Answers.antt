use Rattle.std.proofs.Common.{take, subst, sym}
use Rattle.std.specs.Str.{IsUtf8}
use Rattle.jm_lexer.proofs.Contents.{word_utf8}
use Rattle.jm_lexer.proofs.lexer.word_front.Goals as goal

pub text_of-requires : goal.text_of-requires
text_of-requires c = subst (λ k. IsUtf8 (take k c.args.z.now)) (sym c.word_len-len.ensures.value) (word_utf8 c.args.z.now)
