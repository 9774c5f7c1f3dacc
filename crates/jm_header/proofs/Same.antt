-- The derived `==` of a message's parts decides whether they are equal.
use Rattle.std.proofs.Common.{◌≡◌, refl, ap, ℕ, List, Option, Some, None, Bool, true, false, nat_eq}
use Rattle.std.proofs.lemmas.Bool.Decides.{Decides-and, Decides-like, Decides-eqb}
use Rattle.std.specs.Bool.{Decides, beq}
use Rattle.std.specs.Cmp.Lexicographic.{bytes_decides, pointwise}
use Rattle.std.specs.Option.{option_eq}
use Rattle.jm_dest.specs.declared.session.SessionId.{SessionId}
use Rattle.jm_dest.specs.declared.destination.Destination.{Destination}
use Rattle.jm_dest.specs.declared.destination.Destination.TheVariants.{Queue, Topic}
use Rattle.jm_dest.specs.contracts.session.SessionIdPartialEq.TheImpl as session_eq
use Rattle.jm_dest.specs.contracts.destination.DestinationPartialEq.TheImpl as destination_eq
use Rattle.jm_property.specs.Same.{table_same}
use Rattle.jm_header.specs.declared.body.Body.{Body}
use Rattle.jm_header.specs.declared.body.Body.TheVariants.{None as NoBody, Text, Bytes}
use Rattle.jm_header.specs.declared.content.Content.{Content}
use Rattle.jm_header.specs.declared.content.DeliveryMode.{DeliveryMode}
use Rattle.jm_header.specs.declared.content.DeliveryMode.TheVariants.{Persistent, NonPersistent}
use Rattle.jm_header.specs.declared.content.Sender.{Sender}
use Rattle.jm_header.specs.declared.content.Settings.{Settings}
use Rattle.jm_header.specs.contracts.body.BodyPartialEq.TheImpl as body_eq
use Rattle.jm_header.specs.contracts.content.SenderPartialEq.TheImpl as sender_eq
use Rattle.jm_header.specs.contracts.content.DeliveryModePartialEq.TheImpl as mode_eq
use Rattle.jm_header.specs.contracts.content.ContentPartialEq.TheImpl as content_eq
use Rattle.jm_header.specs.contracts.content.SettingsPartialEq.TheImpl as settings_eq

pub session_same : (a b : SessionId) → Decides ((session_eq.ghosts).eq a b) (a ≡ b)
session_same a b =
    Decides-like _ (λ e. λ i. record { connection = e.0 i; number = e.1 i })
    (λ e. (ap (λ s. s.connection) e, ap (λ s. s.number) e))
    (Decides-and _ _ (Decides-eqb a.connection b.connection) (Decides-eqb a.number b.number))

pub sender_same : (a b : Sender) → Decides ((sender_eq.ghosts).eq a b) (a ≡ b)
sender_same a b =
    Decides-like _ (λ e. λ i. record { opening = e.0 i; session = e.1 i })
    (λ e. (ap (λ s. s.opening) e, ap (λ s. s.session) e))
    (Decides-and _ _ (Decides-eqb a.opening b.opening) (session_same a.session b.session))

pub mode_same : (a b : DeliveryMode) → Decides ((mode_eq.ghosts).eq a b) (a ≡ b)
mode_same Persistent Persistent = (λ _. refl, λ _. refl)
mode_same Persistent NonPersistent = ((λ e. cc), (λ e. cc))
mode_same NonPersistent Persistent = ((λ e. cc), (λ e. cc))
mode_same NonPersistent NonPersistent = (λ _. refl, λ _. refl)

pub destination_same : (a b : Destination) → Decides ((destination_eq.ghosts).eq a b) (a ≡ b)
destination_same (Queue a) (Queue b) = Decides-like _ (λ e. ap Queue e) (λ e. cc) (bytes_decides a b)
destination_same (Queue a) (Topic b) = ((λ e. cc), (λ e. cc))
destination_same (Topic a) (Queue b) = ((λ e. cc), (λ e. cc))
destination_same (Topic a) (Topic b) = Decides-like _ (λ e. ap Topic e) (λ e. cc) (bytes_decides a b)

pub body_same : (a b : Body) → Decides ((body_eq.ghosts).eq a b) (a ≡ b)
body_same NoBody NoBody = (λ _. refl, λ _. refl)
body_same NoBody (Text b) = ((λ e. cc), (λ e. cc))
body_same NoBody (Bytes b) = ((λ e. cc), (λ e. cc))
body_same (Text a) NoBody = ((λ e. cc), (λ e. cc))
body_same (Text a) (Text b) = Decides-like _ (λ e. ap Text e) (λ e. cc) (bytes_decides a b)
body_same (Text a) (Bytes b) = ((λ e. cc), (λ e. cc))
body_same (Bytes a) NoBody = ((λ e. cc), (λ e. cc))
body_same (Bytes a) (Text b) = ((λ e. cc), (λ e. cc))
body_same (Bytes a) (Bytes b) = Decides-like _ (λ e. ap Bytes e) (λ e. cc) (bytes_decides a b)

pub text_same : (a b : Option (List ℕ)) → Decides (option_eq (pointwise nat_eq) a b) (a ≡ b)
text_same None None = (λ _. refl, λ _. refl)
text_same None (Some b) = ((λ e. cc), (λ e. cc))
text_same (Some a) None = ((λ e. cc), (λ e. cc))
text_same (Some a) (Some b) = Decides-like _ (λ e. ap Some e) (λ e. cc) (bytes_decides a b)

mark_same : (a b : Bool) → Decides (beq a b) (a ≡ b)
mark_same true true = (λ _. refl, λ _. refl)
mark_same true false = ((λ e. cc), (λ e. cc))
mark_same false true = ((λ e. cc), (λ e. cc))
mark_same false false = (λ _. refl, λ _. refl)

pub content_same : (a b : Content) → Decides ((content_eq.ghosts).eq a b) (a ≡ b)
content_same a b =
    Decides-like _
    (λ e. λ i. record {
      sender = e.0 i;
      number = e.1.0 i;
      destination = e.1.1.0 i;
      mode = e.1.1.1.0 i;
      priority = e.1.1.1.1.0 i;
      timestamp = e.1.1.1.1.1.0 i;
      expiration = e.1.1.1.1.1.1.0 i;
      delivery_time = e.1.1.1.1.1.1.1.0 i;
      correlation = e.1.1.1.1.1.1.1.1.0 i;
      message_type = e.1.1.1.1.1.1.1.1.1.0 i;
      body = e.1.1.1.1.1.1.1.1.1.1.0 i;
      properties = e.1.1.1.1.1.1.1.1.1.1.1.0 i;
      is_body_read_only = e.1.1.1.1.1.1.1.1.1.1.1.1.0 i;
      are_properties_read_only = e.1.1.1.1.1.1.1.1.1.1.1.1.1 i;
    })
    (λ e. (
      ap (λ m. m.sender) e,
      (
        ap (λ m. m.number) e,
        (
          ap (λ m. m.destination) e,
          (
            ap (λ m. m.mode) e,
            (
              ap (λ m. m.priority) e,
              (
                ap (λ m. m.timestamp) e,
                (
                  ap (λ m. m.expiration) e,
                  (
                    ap (λ m. m.delivery_time) e,
                    (
                      ap (λ m. m.correlation) e,
                      (
                        ap (λ m. m.message_type) e,
                        (
                          ap (λ m. m.body) e,
                          (
                            ap (λ m. m.properties) e,
                            (
                              ap (λ m. m.is_body_read_only) e,
                              ap (λ m. m.are_properties_read_only) e,
                            ),
                          ),
                        ),
                      ),
                    ),
                  ),
                ),
              ),
            ),
          ),
        ),
      ),
    ))
    (Decides-and _ _ (sender_same a.sender b.sender)
    (Decides-and _ _ (Decides-eqb a.number b.number)
    (Decides-and _ _ (destination_same a.destination b.destination)
    (Decides-and _ _ (mode_same a.mode b.mode)
    (Decides-and _ _ (Decides-eqb a.priority b.priority)
    (Decides-and _ _ (Decides-eqb a.timestamp b.timestamp)
    (Decides-and _ _ (Decides-eqb a.expiration b.expiration)
    (Decides-and _ _ (Decides-eqb a.delivery_time b.delivery_time)
    (Decides-and _ _ (text_same a.correlation b.correlation)
    (Decides-and _ _ (text_same a.message_type b.message_type)
    (Decides-and _ _ (body_same a.body b.body)
    (Decides-and _ _ (table_same a.properties b.properties)
    (Decides-and _ _ (mark_same a.is_body_read_only b.is_body_read_only)
    (mark_same a.are_properties_read_only b.are_properties_read_only))))))))))))))

pub settings_same : (a b : Settings) → Decides ((settings_eq.ghosts).eq a b) (a ≡ b)
settings_same a b =
    Decides-like _
    (λ e. λ i. record {
      mode = e.0 i;
      priority = e.1.0 i;
      time_to_live = e.1.1.0 i;
      delivery_delay = e.1.1.1.0 i;
      correlation = e.1.1.1.1.0 i;
      message_type = e.1.1.1.1.1.0 i;
      body = e.1.1.1.1.1.1.0 i;
      properties = e.1.1.1.1.1.1.1 i;
    })
    (λ e. (
      ap (λ s. s.mode) e,
      (
        ap (λ s. s.priority) e,
        (
          ap (λ s. s.time_to_live) e,
          (
            ap (λ s. s.delivery_delay) e,
            (
              ap (λ s. s.correlation) e,
              (
                ap (λ s. s.message_type) e,
                (
                  ap (λ s. s.body) e,
                  ap (λ s. s.properties) e,
                ),
              ),
            ),
          ),
        ),
      ),
    ))
    (Decides-and _ _ (mode_same a.mode b.mode)
    (Decides-and _ _ (Decides-eqb a.priority b.priority)
    (Decides-and _ _ (Decides-eqb a.time_to_live b.time_to_live)
    (Decides-and _ _ (Decides-eqb a.delivery_delay b.delivery_delay)
    (Decides-and _ _ (text_same a.correlation b.correlation)
    (Decides-and _ _ (text_same a.message_type b.message_type)
    (Decides-and _ _ (body_same a.body b.body)
    (table_same a.properties b.properties))))))))
