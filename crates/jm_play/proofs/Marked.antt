-- What is printed of items whose calls ran.
use Rattle.std.proofs.Common.{◌≡◌, ◌∙◌, ℕ, List, Result, ap, subst}
use Rattle.std.specs.Prelude.{map}
use Rattle.jm_base.specs.declared.refusal.Refusal.{Refusal}
use Rattle.jm_machine.specs.Isolation.{AreIsolated}
use Rattle.jm_machine.specs.Machine.{State}
use Rattle.jm_machine.specs.declared.answer.Answer.{Answer}
use Rattle.jm_machine.specs.declared.call.ClientCall.{ClientCall}
use Rattle.jm_scenario.specs.Items.{calls_of, kind_of, replies_in_place}
use Rattle.jm_scenario.specs.Lines.{lines}
use Rattle.jm_scenario.specs.declared.item.Item.{Item}
use Rattle.jm_scenario.specs.declared.item.ItemKind.{ItemKind}
use Rattle.jm_play.specs.Over.{IsRunOver, RepliesOver, TellsFailure}
use Rattle.jm_play.specs.Play.{IsRun, Replies, status_of}

-- on a new provider
pub printed : (limit : ℕ) (items : List Item) (calls : List ClientCall) (kinds : List ItemKind) (replies : List (Result Answer Refusal)) (text : List ℕ) (status : ℕ) →
    calls ≡ calls_of items → kinds ≡ map kind_of items → IsRun limit calls replies → text ≡ lines (replies_in_place kinds replies) → status ≡ status_of replies → Replies limit items text status
printed limit items calls kinds replies text status same kinds_same run text_is status_is = (
  replies,
  subst (λ made. IsRun limit made replies) same run,
  text_is ∙ ap (λ those. lines (replies_in_place those replies)) kinds_same,
  status_is,
)

-- over a keeper
pub printed_over : (before after : State) (faults_before faults_after : ℕ) (items : List Item) (calls : List ClientCall) (kinds : List ItemKind) (replies : List (Result Answer Refusal)) (text : List ℕ) (status : ℕ) →
    calls ≡ calls_of items → kinds ≡ map kind_of items → IsRunOver before after calls replies → AreIsolated before calls replies → TellsFailure faults_before faults_after replies →
    text ≡ lines (replies_in_place kinds replies) → status ≡ status_of replies → RepliesOver before after faults_before faults_after items text status
printed_over before after faults_before faults_after items calls kinds replies text status same kinds_same run isolated tells text_is status_is = (
  replies,
  subst (λ made. IsRunOver before after made replies) same run,
  subst (λ made. AreIsolated before made replies) same isolated,
  tells,
  text_is ∙ ap (λ those. lines (replies_in_place those replies)) kinds_same,
  status_is,
)
