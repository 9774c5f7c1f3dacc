use Rattle.std.proofs.Common.{◌≡◌, ◌++◌, ◌∙◌, [], ◌∷◌, ap, sym, subst, cond}
use Rattle.std.specs.List.{All}
use Rattle.std.proofs.lemmas.List.Elements.{All-push}
use Rattle.jm_parts.specs.declared.stored.StoredMessage.{StoredMessage}
use Rattle.jm_loading.specs.Messages.{ArePairs, IsUnheld}
use Rattle.jm_loading.proofs.Paired.{pairs_push}
use Rattle.jm_loading.proofs.messages.all_unheld.Goals as goal

pub loop-row-preserved : goal.loop-row-preserved
loop-row-preserved c =
    let ms = c.loop-row.messages.items in
    let m = c.unheld.result in
    let items : c.push.new.self.items ≡ ms ++ m ∷ [] = c.push.ensures.items ∙ ap (λ b. cond b (ms ++ m ∷ []) ms) (sym c.in_ok-map_err.ensures.variant) in
    record {
      pairs = subst (ArePairs (c.loop-row.yielded ++ c.in-Some.row ∷ [])) (sym items) (pairs_push c.loop-row.yielded ms c.in-Some.row m c.loop-row.invariant.pairs c.unheld.ensures.place c.unheld.ensures.message);
      unheld = subst (All (λ (x : StoredMessage). IsUnheld x.holders)) (sym items) (All-push (λ (x : StoredMessage). IsUnheld x.holders) ms m c.loop-row.invariant.unheld c.unheld.ensures.unheld);
    }
