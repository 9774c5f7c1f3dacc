-- One item more at the end of what is kept.
use Rattle.std.proofs.Common.{◌≡◌, ℕ, List, [], ◌∷◌, ◌++◌, Option, map, refl, ap, sym, ◌∙◌, append_assoc}
use Rattle.jm_tree.specs.declared.pattern.Item.{Item}
use Rattle.jm_tree.specs.declared.pattern.Item.TheVariants.{Any}
use Rattle.jm_tree.specs.Patterns.{joined, item_of}

map_place : (places : List (Option ℕ)) (place : Option ℕ) → map item_of (places ++ place ∷ []) ≡ map item_of places ++ item_of place ∷ []
map_place [] place = refl
map_place (p ∷ places) place = ap (λ is. item_of p ∷ is) (map_place places place)

pub joined_place : (segments : List (List (Option ℕ))) (last : List (Option ℕ)) (place : Option ℕ)
    → joined segments (last ++ place ∷ []) ≡ joined segments last ++ item_of place ∷ []
joined_place [] last place = map_place last place
joined_place (segment ∷ segments) last place =
    ap (λ is. map item_of segment ++ Any ∷ is) (joined_place segments last place)
    ∙ sym (append_assoc (map item_of segment) (Any ∷ joined segments last) (item_of place ∷ []))

pub joined_any : (segments : List (List (Option ℕ))) (last : List (Option ℕ)) → joined (segments ++ last ∷ []) [] ≡ joined segments last ++ Any ∷ []
joined_any [] last = refl
joined_any (segment ∷ segments) last =
    ap (λ is. map item_of segment ++ Any ∷ is) (joined_any segments last)
    ∙ sym (append_assoc (map item_of segment) (Any ∷ joined segments last) (Any ∷ []))
