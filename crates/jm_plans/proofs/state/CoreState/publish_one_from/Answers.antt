use Rattle.std.proofs.Common.{◌∙◌, ◌∷◌, [], refl, sym}
use Rattle.jm_base.specs.declared.refusal.Refusal.TheVariants.{Exhausted, IllegalState}
use Rattle.jm_machine.specs.declared.call.Who.TheVariants.{Session}
use Rattle.jm_machine.specs.declared.call.Call.TheVariants.{Publish}
use Rattle.jm_plans.specs.Provider.{state_of}
use Rattle.jm_plans.proofs.Planned.{no_places, not_stamped, one_fits, refused_fits}
use Rattle.jm_plans.proofs.state.CoreState.publish_one_from.Goals as goal

pub returns-then-not-may_publish : goal.returns-then-not-may_publish
returns-then-not-may_publish c =
    let state = state_of c.args.self.now in
    let refused = rw c.from_ref.ensures.value at (sym c.may_publish.ensures ∙ c.if-not-may_publish.true) in
    refused_fits state state (Session c.args.session.now) (Publish (c.args.message ∷ [])) IllegalState refl (not_stamped state c.args.session.now (c.args.message ∷ []) refused)

pub returns-then-not-has_places : goal.returns-then-not-has_places
returns-then-not-has_places c =
    let state = state_of c.args.self.now in
    let stamped = rw c.from_ref.ensures.value at (sym c.may_publish.ensures ∙ c.if-not-may_publish.false) in
    refused_fits state state (Session c.args.session.now) (Publish (c.args.message ∷ [])) Exhausted refl
    (no_places state c.args.session.now (c.args.message ∷ []) stamped (sym c.has_places.ensures ∙ c.if-not-has_places.true))

pub returns : goal.returns
returns c =
    let stamped = rw c.from_ref.ensures.value at (sym c.may_publish.ensures ∙ c.if-not-may_publish.false) in
    one_fits (state_of c.args.self.now) (state_of c.publish_one.new.self) c.args.session.now c.args.message c.publish_one.result stamped (sym c.has_places.ensures ∙ c.if-not-has_places.false)
    c.publish_one.ensures.ok c.publish_one.ensures.refused c.publish_one.ensures.err
