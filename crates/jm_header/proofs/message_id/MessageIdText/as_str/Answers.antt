use Rattle.std.proofs.Common.{◌-◌, drop}
use Rattle.std.proofs.lemmas.Str.{IsUtf8-from_ascii, IsAscii-take}
use Rattle.jm_header.proofs.message_id.MessageIdText.as_str.Goals as goal

pub returns-in-Err : goal.returns-in-Err
returns-in-Err c =
    absurd (c.in-Err.ensures.cases.0 (IsUtf8-from_ascii _ (IsAscii-take (drop c.self.inside.start c.self.inside.bytes) (56 - c.self.inside.start) c.self.invariant.1)))
