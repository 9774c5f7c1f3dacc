-- What runs on threads tell.
use Rattle.std.proofs.Common.{◌≡◌, ℕ, List, Result, Ok, Err, subst, map}
use Rattle.std.specs.Prelude.{IfOk, IsOkAnd, string_bytes}
use Rattle.jm_machine.specs.Machine.{State, new_core}
use Rattle.jm_scenario.specs.Items.{kind_of, replies_in_place}
use Rattle.jm_scenario.specs.Lines.{lines}
use Rattle.jm_scenario.specs.declared.item.Item.{Item}
use Rattle.jm_scenario.specs.declared.item.ItemKind.{ItemKind}
use Rattle.jm_threaded.specs.Threaded.{PlaysThreaded}
use Rattle.jm_threaded.specs.declared.threaded.Told.{Told}
use Rattle.jm_play.specs.Play.{status_of}
use Rattle.jm_play.specs.declared.ending.Printout.{Printout}
use Rattle.jm_runner.specs.Threaded.{RepliesThreaded, audited_status}

-- what a run told is printed
pub printed : {E F : Type 0} (opening : ℕ) (after : State) (items : List Item) (kinds : List ItemKind) (outcome : Result Told E) (told : Result Printout F) → kinds ≡ map kind_of items
    → IfOk outcome (λ t. PlaysThreaded opening items t.replies.items t.verdict after)
    → IfOk told (λ p. IsOkAnd outcome (λ t. (string_bytes p.text ≡ lines (replies_in_place kinds t.replies.items)) × (p.status ≡ audited_status t.verdict (status_of t.replies.items))))
    → IfOk told (λ p. RepliesThreaded opening after items (string_bytes p.text) p.status)
printed opening after items kinds (Ok t) (Ok p) are plays prints =
    (t.replies.items, t.verdict, plays, subst (λ k. string_bytes p.text ≡ lines (replies_in_place k t.replies.items)) are prints.0, prints.1)
printed opening after items kinds (Err e) (Ok p) are plays prints = absurd prints
printed opening after items kinds outcome (Err f) are plays prints = tt

-- a run on a new provider is one in opening 1
pub anew : {F : Type 0} (limit : ℕ) (before after : State) (items : List Item) (told : Result Printout F) → before ≡ new_core 1 limit
    → IfOk told (λ p. RepliesThreaded before.opening after items (string_bytes p.text) p.status)
    → IfOk told (λ p. (end : State) × RepliesThreaded 1 end items (string_bytes p.text) p.status)
anew limit before after items (Ok p) is h = (after, subst (λ (s : State). RepliesThreaded s.opening after items (string_bytes p.text) p.status) is h)
anew limit before after items (Err f) is h = tt
