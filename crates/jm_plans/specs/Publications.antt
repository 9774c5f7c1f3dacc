-- Publications that are prepared: where each goes, and that there is room for it.
use Rattle.std.specs.Prelude.{◌≡◌, ◌≤◌, ◌+◌, ℕ, List, [], All, map, length, if◌then◌else◌}
use Rattle.jm_base.specs.declared.refusal.Refusal.{Refusal}
use Rattle.jm_base.specs.declared.refusal.Refusal.TheVariants.{Exhausted, Memory}
use Rattle.jm_header.specs.declared.content.Content.{Content}
use Rattle.jm_machine.specs.Machine.{has_places, places_end}
use Rattle.jm_parts.specs.declared.publish.Publication.{Publication}
use Rattle.jm_plans.specs.Provider.{Provider}
use Rattle.jm_parts.specs.Publications.{IsReady}

-- the publications are those of the messages, in order: each goes to the subscriptions that accept it or to its queue, and
-- there are places and room for all of them
pub record ArePrepared (p : Provider) (messages : List Content) (publications : List Publication) : Type 0 where
  pub same : map (λ (x : Publication). x.message) publications ≡ messages
  pub places : p.held.next_place + length messages ≤ places_end
  pub ready : All (IsReady (length messages) p.known.life p.subscriptions.list p.held p.queues) publications

-- why messages are not prepared: places run out, or a request for memory was refused
abbrev pub unprepared : ℕ → List Content → Refusal
unprepared place messages = if has_places place messages then Memory else Exhausted
