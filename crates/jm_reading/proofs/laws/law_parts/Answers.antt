use Rattle.jm_reading.proofs.PartLaws.{reads_sender, reads_destination, reads_optional_text, reads_body}
use Rattle.jm_reading.proofs.PropertyLaws.{reads_properties}
use Rattle.jm_reading.proofs.laws.law_parts.Goals as goal

pub returns-clause-sender : goal.returns-clause-sender
returns-clause-sender c = reads_sender

pub returns-clause-destination : goal.returns-clause-destination
returns-clause-destination c = reads_destination

pub returns-clause-text : goal.returns-clause-text
returns-clause-text c = reads_optional_text

pub returns-clause-body : goal.returns-clause-body
returns-clause-body c = reads_body

pub returns-clause-properties : goal.returns-clause-properties
returns-clause-properties c = reads_properties
