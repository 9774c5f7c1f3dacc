-- The text of a JMSMessageID (ours; Jakarta Messaging 3.1, section 3.4.3 asks for the prefix).
use Rattle.std.specs.Prelude.{ℕ, List, ◌++◌, codes, decimal}
use Rattle.jm_header.specs.declared.content.Content.{Content}

-- `ID:<opening>-<connection>.<session>.<number>`, each number in decimal digits
unfoldable pub message_id : Content → List ℕ
message_id message =
    let session = message.sender.session in
    codes "ID:" ++ decimal message.sender.opening ++ codes "-" ++ decimal session.connection
    ++ codes "." ++ decimal session.number ++ codes "." ++ decimal message.number
