-- What is seen of the fields that a reader gives together.
use Rattle.jm_format.specs.Reading as rule
use Rattle.jm_record.specs.declared.head.Head.{Head}

-- the fields of a message up to JMSPriority
abbrev pub seen_head : Head → rule.Head
seen_head head = record {
  sender = head.sender;
  number = head.number;
  timestamp = head.timestamp;
  expiration = head.expiration;
  delivery_time = head.delivery_time;
  mode = head.mode;
  priority = head.priority;
}
