-- Replies at the places of items that are calls alone.
use Rattle.std.proofs.Common.{◌≡◌, ◌≤◌, List, [], ◌∷◌, length, true, Result, refl, ap, arith}
use Rattle.std.specs.List.{list_all}
use Rattle.jm_base.specs.declared.refusal.Refusal.{Refusal}
use Rattle.jm_machine.specs.declared.answer.Answer.{Answer}
use Rattle.jm_scenario.specs.Items.{is_call, replies_in_place}
use Rattle.jm_scenario.specs.declared.item.ItemKind.{ItemKind}
use Rattle.jm_scenario.specs.declared.item.ItemKind.TheVariants as kind

-- they are the replies themselves
pub calls_in_place : (kinds : List ItemKind) (replies : List (Result Answer Refusal)) → list_all is_call kinds ≡ true → length replies ≤ length kinds → replies_in_place kinds replies ≡ replies
calls_in_place [] [] each enough = refl
calls_in_place [] (reply ∷ replies) each enough = absurd (omega arith)
calls_in_place (kind.Call ∷ kinds) [] each enough = refl
calls_in_place (kind.Call ∷ kinds) (reply ∷ replies) each enough = ap (λ rest. reply ∷ rest) (calls_in_place kinds replies each (omega arith))
calls_in_place (kind.Fork ∷ kinds) replies each enough = absurd (cc)
calls_in_place (kind.Join ∷ kinds) replies each enough = absurd (cc)
