use Rattle.jm_format.specs.Reading.{text_at}
use Rattle.jm_format.proofs.Texts.{utf8_passes, utf8_fails}
use Rattle.jm_format.proofs.fields.text_at.Goals as goal

pub returns-in-Ok : goal.returns-in-Ok
unfolding text_at
returns-in-Ok c = utf8_passes _ _ _ _ c.in_ok-bytes.ensures c.in-Ok.ensures.cases.0 c.in-Ok.ensures.cases.1

pub returns-in-Err : goal.returns-in-Err
unfolding text_at
returns-in-Err c = utf8_fails _ _ _ c.in_ok-bytes.ensures c.in-Err.ensures.cases.0
