use Rattle.std.proofs.Common.{◌∙◌, ◌++◌, ◌∷◌, [], ap, take, List, ℕ, Option}
use Rattle.std.specs.Int.{w64, to_be_bytes}
use Rattle.std.specs.List.{concat}
use Rattle.jm_dest.specs.declared.destination.Destination.{Destination}
use Rattle.jm_header.specs.declared.body.Body.{Body}
use Rattle.jm_header.specs.declared.content.Sender.{Sender}
use Rattle.jm_property.specs.Properties.{Table}
use Rattle.jm_format.specs.Format as format
use Rattle.jm_format.proofs.Written.{IsWritten, then_field, then_fields, then_two, up_to_delivery_time, up_to_destination, is_record}
use Rattle.jm_format.proofs.writing.write_record.Goals as goal
use Rattle.jm_format.proofs.writing.write_record.Goals.{In_ok-put_properties}

moments : (c : In_ok-put_properties) → IsWritten c.put_delivery_time.new.out.items (up_to_delivery_time c.args.message.now)
moments c =
    let o1 : IsWritten c.push.new.self.items (take 1 (format.fields c.args.message.now)) =
    then_field c.push.new.self.items c.in_ok-out.out.items (format.version c.args.message.now) [] c.in_ok-out.ensures.items
    (c.in_ok-push.ensures.items ∙ ap (λ (n : ℕ). c.in_ok-out.out.items ++ n ∷ []) c.version.ensures) in
    let o2 : IsWritten c.put_sender.new.out.items (take 4 (format.fields c.args.message.now)) =
    then_fields c.put_sender.new.out.items c.push.new.self.items (take 1 (format.fields c.args.message.now)) (format.sender_fields c.args.message.now.sender) o1
    (c.in_ok-put_sender.ensures.written ∙ ap (λ (s : Sender). c.push.new.self.items ++ concat (format.sender_fields s)) c.sender.ensures) in
    let o3 : IsWritten c.extend_from_slice.new.self.items (take 5 (format.fields c.args.message.now)) =
    then_field c.extend_from_slice.new.self.items c.put_sender.new.out.items (format.number c.args.message.now) (take 4 (format.fields c.args.message.now)) o2
    (c.in_ok-extend_from_slice.ensures.items ∙ ap (λ (xs : List ℕ). c.put_sender.new.out.items ++ xs) (c.to_be_bytes.ensures ∙ ap (to_be_bytes w64) c.number.ensures)) in
    let o4 : IsWritten c.put_moment.new.out.items (take 6 (format.fields c.args.message.now)) =
    then_field c.put_moment.new.out.items c.extend_from_slice.new.self.items (format.timestamp c.args.message.now) (take 5 (format.fields c.args.message.now)) o3
    (c.in_ok-put_moment.ensures.written ∙ ap (λ (n : ℕ). c.extend_from_slice.new.self.items ++ to_be_bytes w64 n) c.timestamp.ensures) in
    let o5 : IsWritten c.put_moment-2.new.out.items (take 7 (format.fields c.args.message.now)) =
    then_field c.put_moment-2.new.out.items c.put_moment.new.out.items (format.expiration c.args.message.now) (take 6 (format.fields c.args.message.now)) o4
    (c.in_ok-put_moment-2.ensures.written ∙ ap (λ (n : ℕ). c.put_moment.new.out.items ++ to_be_bytes w64 n) c.expiration.ensures) in
    then_fields c.put_delivery_time.new.out.items c.put_moment-2.new.out.items (take 7 (format.fields c.args.message.now)) (format.delivery_time c.args.message.now) o5
    c.in_ok-put_delivery_time.ensures.written

head : (c : In_ok-put_properties) → IsWritten c.put_destination.new.out.items (up_to_delivery_time c.args.message.now ++ up_to_destination c.args.message.now)
head c =
    then_two c.put_delivery_time.new.out.items c.push-2.new.self.items c.push-3.new.self.items c.put_destination.new.out.items (format.mode c.args.message.now) (format.priority c.args.message.now)
    (up_to_delivery_time c.args.message.now) (format.destination_fields c.args.message.now.destination) (moments c)
    (c.in_ok-push-2.ensures.items ∙ ap (λ (n : ℕ). c.put_delivery_time.new.out.items ++ n ∷ []) (c.mode_byte.ensures ∙ ap format.mode_byte c.mode.ensures))
    (c.in_ok-push-3.ensures.items ∙ ap (λ (n : ℕ). c.push-2.new.self.items ++ n ∷ []) c.priority.ensures.value)
    (c.in_ok-put_destination.ensures.written ∙ ap (λ (d : Destination). c.push-3.new.self.items ++ concat (format.destination_fields d)) c.destination.ensures)

pub returns-clause-written : goal.returns-clause-written
returns-clause-written c =
    is_record c.args.message.now c.put_destination.new.out.items c.put_optional.new.out.items c.put_optional-2.new.out.items c.put_body.new.out.items c.put_properties.new.out.items (head c)
    (c.in_ok-put_optional.ensures.written ∙ ap (λ (t : Option (List ℕ)). c.put_destination.new.out.items ++ concat (format.optional t)) c.correlation.ensures)
    (c.in_ok-put_optional-2.ensures.written ∙ ap (λ (t : Option (List ℕ)). c.put_optional.new.out.items ++ concat (format.optional t)) c.message_type.ensures)
    (c.in_ok-put_body.ensures.written ∙ ap (λ (b : Body). c.put_optional-2.new.out.items ++ concat (format.body_fields b)) c.body.ensures)
    (c.in_ok-put_properties.ensures.written ∙ ap (λ (t : Table). c.put_body.new.out.items ++ concat (format.table_fields t)) c.properties.ensures)
