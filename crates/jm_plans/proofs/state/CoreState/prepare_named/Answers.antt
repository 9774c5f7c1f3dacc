use Rattle.std.proofs.Common.{◌≡◌, ◌≢◌, ◌∙◌, ap, refl, subst, sym, true, Some}
use Rattle.std.specs.Prelude.{IfErr, IfOk}
use Rattle.jm_base.specs.declared.refusal.Refusal.TheVariants.{Memory}
use Rattle.jm_machine.specs.Attached.{is_named}
use Rattle.jm_machine.specs.Life.{client_of}
use Rattle.jm_stations.specs.Stations.{Stations}
use Rattle.jm_plans.specs.Named.{IsPrepared, is_had, key_wanted}
use Rattle.jm_parts.specs.Named.{asked_by, had_refusal, named_key}
use Rattle.jm_plans.specs.Provider.{Provider, state_of}
use Rattle.jm_plans.proofs.Naming.{key_named, prepared_if, refused_if}
use Rattle.jm_plans.proofs.Planned.{of_parts}
use Rattle.jm_plans.proofs.state.CoreState.prepare_named.Goals as goal

pub prepare_under-requires : goal.prepare_under-requires
prepare_under-requires c = record { named = rw c.in_ok-key.ensures (key_named c.args.wanted.now.sharing (client_of c.self.inside.sessions.life) c.args.session.now c.args.wanted.now.name.now) }

pub returns-clause-same : goal.returns-clause-same
returns-clause-same c =
    let h = c.prepare_under.ensures in
    let list = ap (λ (x : Stations). x.list) h.stations in
    let place = ap (λ (x : Stations). x.next_place) h.stations in
    rw (h.life, h.consumers, h.subs, list, place, ← c.self.view_is) refl

pub returns-clause-ok : goal.returns-clause-ok
returns-clause-ok c =
    let h = c.prepare_under.ensures in
    let n = c.prepare_under.new in
    let i = c.self.inside in
    let w = c.args.wanted.now in
    let list = ap (λ (x : Stations). x.list) h.stations in
    let place = ap (λ (x : Stations). x.next_place) h.stations in
    let old = of_parts i.opening i.limit i.sessions i.subs i.stations i.queues in
    let p = of_parts i.opening i.limit n.sessions n.subs n.stations i.queues in
    let named : is_named c.in_ok-key.key ≡ true = rw c.in_ok-key.ensures (key_named w.sharing (client_of i.sessions.life) c.args.session.now w.name.now) in
    let same : state_of p ≡ state_of old = rw (h.life, h.consumers, h.subs, list, place) refl in
    let key = c.in_ok-key.ensures ∙ ap (λ life. named_key w.sharing (client_of life) c.args.session.now w.name.now) (sym h.life) in
    subst (λ k. IfOk c.prepare_under.result (λ x. IsPrepared p w.sharing k w.selector.now (asked_by c.args.topic.now w) x.0 x.1)) key
    (prepared_if i.limit i.stations.next_place old p w.sharing c.in_ok-key.key w.selector.now (asked_by c.args.topic.now w) c.prepare_under.result named c.self.invariant.0 same
    h.source h.decided h.valid h.had h.room h.subs_room h.key_room)

pub returns-clause-err : goal.returns-clause-err
returns-clause-err c =
    let h = c.prepare_under.ensures in
    let i = c.self.inside in
    let w = c.args.wanted.now in
    let old = of_parts i.opening i.limit i.sessions i.subs i.stations i.queues in
    let named : is_named c.in_ok-key.key ≡ true = rw c.in_ok-key.ensures (key_named w.sharing (client_of i.sessions.life) c.args.session.now w.name.now) in
    subst (λ (q : Provider). IfErr c.prepare_under.result (λ e. e ≢ Memory → had_refusal w.selector.now (is_had w.sharing (key_wanted (state_of q) c.args.session.now w) (asked_by c.args.topic.now w) (state_of q)) ≡ Some e)) c.self.view_is
    (subst (λ k. IfErr c.prepare_under.result (λ e. e ≢ Memory → had_refusal w.selector.now (is_had w.sharing k (asked_by c.args.topic.now w) (state_of old)) ≡ Some e)) c.in_ok-key.ensures
    (refused_if i.limit i.stations.next_place old w.sharing c.in_ok-key.key w.selector.now (asked_by c.args.topic.now w) c.prepare_under.result named c.self.invariant.0 h.refused))
