use Rattle.std.proofs.Common.{◌≡◌, ◌∙◌, None, ap, sym, arith}
use Rattle.std.specs.Prelude.{◌&&◌}
use Rattle.std.proofs.lemmas.Grind.{common_steps}
use Rattle.std.specs.HashMap.{get}
use Rattle.jm_dest.specs.Names.{session_eq}
use Rattle.jm_machine.specs.declared.call.Who.TheVariants.{Session}
use Rattle.jm_machine.specs.declared.entry.Entry.TheVariants.{Asked}
use Rattle.jm_machine.specs.Lone.{creates, entry_names, is_number}
use Rattle.jm_scope.specs.Numbers.{same_number}
use Rattle.jm_scope.specs.Parts.{client_seen}
use Rattle.jm_scope.proofs.Seen.{number_noted}
use Rattle.jm_scope.proofs.numbers.add_named.Goals as goal

pub returns-in_ok-insert : goal.returns-in_ok-insert
returns-in_ok-insert c told s d =
    let key = c.args.key.now in
    let clients = client_seen c.args.clients.now in
    let t = c.args.session.now in
    let number = c.in-Some.consumer in
    let entry = Asked (Session t) c.args.request.now told in
    let none : get same_number c.args.numbers.now (record { session = t; consumer = number }) ≡ None = grind (arith, common_steps) in
    number_noted key (entry_names key clients) entry c.names_key-names.result t s number d (creates s d entry) (get same_number c.args.numbers.now) _
    (grind (arith, common_steps)) none
    (c.names_key-names.ensures clients (sym c.client_of-client.ensures))
    (ap (λ o. session_eq t s && is_number d o) (sym c.number_made.ensures ∙ c.in-Some.is))
    (c.in_ok-insert.ensures.updates.0 (record { session = s; consumer = d }))
