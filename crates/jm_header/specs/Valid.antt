-- What holds of every draft and every message.
use Rattle.std.specs.Prelude.{◌<◌, ◌≤◌, ◌≢◌}
use Rattle.jm_dest.specs.Numbers.{long_end}
use Rattle.jm_header.specs.declared.content.Content.{Content}
use Rattle.jm_header.specs.declared.content.Settings.{Settings}

-- a draft has a priority of 0 to 9, and a time to live and a delivery delay of 0 to 2^63-1
pub record IsValidSettings (settings : Settings) : Type 0 where
  pub priority : settings.priority ≤ 9
  pub time_to_live : settings.time_to_live < long_end
  pub delivery_delay : settings.delivery_delay < long_end

-- a message has a number of 1 to 2^63-1, a priority of 0 to 9, no expiration (0) or one after its timestamp, and a
-- delivery time that is not before its timestamp
pub record IsValid (content : Content) : Type 0 where
  pub counted : 1 ≤ content.number
  pub numbered : content.number < long_end
  pub priority : content.priority ≤ 9
  pub expires : content.expiration ≢ 0 → content.timestamp < content.expiration
  pub delivered : content.timestamp ≤ content.delivery_time
