-- What is looked up in rows is looked up in what they stand for.
use Rattle.std.proofs.Common.{◌≡◌, Bool, true, false, cond, List, [], ◌∷◌, find, Some, option_map, refl, sym, ap, ◌∙◌}
use Rattle.sqlite_value.specs.Order.{Row}
use Rattle.jm_decoding.specs.Tables.{StandFor}

pub look_up : {X A : Type 0} (StandsFor : Row → X → Type 0) (p : Row → Bool) (q : X → Bool) (f : Row → A) (g : X → A) → ((r : Row) (x : X) → StandsFor r x → p r ≡ q x) → ((r : Row) (x : X) → StandsFor r x → f r ≡ g x)
    → (rows : List Row) (xs : List X) → StandFor StandsFor rows xs → option_map g (find q xs) ≡ option_map f (find p rows)
look_up StandsFor p q f g tests shows [] [] h = refl
look_up StandsFor p q f g tests shows [] (x ∷ xs) h = absurd h
look_up StandsFor p q f g tests shows (r ∷ rows) [] h = absurd h
look_up {A = A} StandsFor p q f g tests shows (r ∷ rows) (x ∷ xs) h =
    elim (q x) as (λ b. p r ≡ b → option_map g (cond b (Some x) (find q xs)) ≡ option_map f (cond (p r) (Some r) (find p rows))) [
      | true ↦ λ e. ap Some (sym (shows r x h.0)) ∙ ap (λ b. option_map f (cond b (Some r) (find p rows))) (sym e)
      | false ↦ λ e. look_up StandsFor p q f g tests shows rows xs h.1 ∙ ap (λ b. option_map f (cond b (Some r) (find p rows))) (sym e)
    ] (tests r x h.0)
