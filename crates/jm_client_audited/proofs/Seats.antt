-- The passes of callers.
use Rattle.std.proofs.Common.{◌≡◌, ◌≤◌, ◌<◌, ◌+◌, ℕ, suc, Bool, true, false, List, [], ◌∷◌, ◌++◌, length, get_or, set, refl, ap, sym, subst, ◌∙◌, arith, length-append, if◌then◌else◌}
use Rattle.std.proofs.lemmas.Bool.Decides.{nat_tests}
use Rattle.std.proofs.lemmas.List.{get_or-set_other}
use Rattle.jm_audit.specs.Passes.{Calls, no_calls}
use Rattle.jm_broker.specs.Calls.{HasSame}
use Rattle.jm_machine.proofs.Keys.{session_refl, session_same}
use Rattle.jm_machine.specs.declared.call.Who.{Who}
use Rattle.jm_machine.specs.declared.call.Who.TheVariants.{Connection, Session}
use Rattle.jm_client_audited.specs.Audits.{calls_by}
use Rattle.jm_client_audited.specs.Callers.{place_of, who_eq}

who_refl : (w : Who) → who_eq w w ≡ true
who_refl (Connection a) = grind (arith, nat_tests)
who_refl (Session s) = session_refl s

who_same : (a b : Who) → who_eq a b ≡ true → a ≡ b
who_same (Connection a) (Connection b) h = ap (λ n. Connection n) (grind (arith, nat_tests))
who_same (Session s) (Session t) h = ap (λ x. Session x) (session_same s t h)
who_same (Connection a) (Session t) h = cc
who_same (Session s) (Connection b) h = cc

-- ---- A pass more

-- a place is at most the number of callers
pub place_within : (cs : List Who) (w : Who) → place_of cs w ≤ length cs
place_within [] w = omega arith
place_within (c ∷ cs) w = go (who_eq c w) (place_within cs w)
  where
    go : (b : Bool) → place_of cs w ≤ length cs → (if b then 0 else suc (place_of cs w)) ≤ suc (length cs)
    go true within = omega arith
    go false within = omega (arith, within)

-- a new caller stands behind all others
pub place_pushed : (cs : List Who) (c : Who) → length cs ≤ place_of cs c → place_of (cs ++ c ∷ []) c ≡ place_of cs c
place_pushed [] c h = ap (λ b. if b then 0 else suc 0) (who_refl c)
place_pushed (d ∷ cs) c h = go (who_eq d c) h (λ e. place_pushed cs c e)
  where
    go : (b : Bool) → suc (length cs) ≤ (if b then 0 else suc (place_of cs c)) → (length cs ≤ place_of cs c → place_of (cs ++ c ∷ []) c ≡ place_of cs c)
        → (if b then 0 else suc (place_of (cs ++ c ∷ []) c)) ≡ (if b then 0 else suc (place_of cs c))
    go true e rest = refl
    go false e rest = ap suc (rest (omega (arith, e)))

-- its place is theirs who called before, and is within
pub seated : (cs ds : List Who) (w : Who) (p i n : ℕ) → ds ≡ cs ++ w ∷ [] → p ≡ place_of cs w → length cs ≤ p → i ≡ length cs → n ≡ length ds → (i ≡ place_of ds w) × (i < n)
seated cs ds w p i n added is beyond last all =
    let pushed : place_of (cs ++ w ∷ []) w ≡ place_of cs w = place_pushed cs w (omega (arith, is, beyond)) in
    let same : place_of ds w ≡ place_of cs w = ap (λ xs. place_of xs w) added ∙ pushed in
    let longer : length ds ≡ length cs + 1 = ap length added ∙ length-append cs (w ∷ []) in
    let within = place_within cs w in (
      omega (arith, same, is, beyond, last, within),
      omega (arith, last, all, longer),
    )

same_as : (p : Calls) → HasSame p p
same_as p = (refl, refl)

-- a pass that was not used changes nobody's calls
pub calls_pushed : (cs : List Who) (ps : List Calls) (c : Who) (p : Calls) → length cs ≡ length ps → p.entries ≡ [] → p.made ≡ 0
    → (w : Who) → HasSame (calls_by cs ps w) (calls_by (cs ++ c ∷ []) (ps ++ p ∷ []) w)
calls_pushed [] [] c p same none unused w = go (who_eq c w)
  where
    go : (b : Bool) → HasSame no_calls (get_or (p ∷ []) (if b then 0 else suc 0) no_calls)
    go true = (none, unused)
    go false = same_as no_calls
calls_pushed [] (q ∷ ps) c p same none unused w = absurd (omega (arith, same))
calls_pushed (d ∷ cs) [] c p same none unused w = absurd (omega (arith, same))
calls_pushed (d ∷ cs) (q ∷ ps) c p same none unused w = go (who_eq d w) (calls_pushed cs ps c p (omega (arith, same)) none unused w)
  where
    go : (b : Bool) → HasSame (calls_by cs ps w) (calls_by (cs ++ c ∷ []) (ps ++ p ∷ []) w) → HasSame (get_or (q ∷ ps) (if b then 0 else suc (place_of cs w)) no_calls) (get_or (q ∷ ps ++ p ∷ []) (if b then 0 else suc (place_of (cs ++ c ∷ []) w)) no_calls)
    go true rest = same_as q
    go false rest = rest

-- ---- A call of one

-- another caller has another place
places_apart : (cs : List Who) (w v : Who) → who_eq w v ≡ false → place_of cs v < length cs → place_of cs w ≡ place_of cs v → ⊥
places_apart [] w v h less e = omega (arith, less)
places_apart (c ∷ cs) w v h less e = go (who_eq c w) (who_eq c v) refl refl less e (λ l f. places_apart cs w v h l f)
  where
    go : (a b : Bool) → who_eq c w ≡ a → who_eq c v ≡ b → (if b then 0 else suc (place_of cs v)) < suc (length cs)
        → (if a then 0 else suc (place_of cs w)) ≡ (if b then 0 else suc (place_of cs v)) → (place_of cs v < length cs → place_of cs w ≡ place_of cs v → ⊥) → ⊥
    go true true x y l f rest = let same : w ≡ v = sym (who_same c w x) ∙ who_same c v y in let own : who_eq w v ≡ true = ap (λ u. who_eq w u) (sym same) ∙ who_refl w in cc
    go true false x y l f rest = omega (arith, f)
    go false true x y l f rest = omega (arith, f)
    go false false x y l f rest = rest (omega (arith, l)) (omega (arith, f))

-- its calls are as before
others_same : (cs : List Who) (ps : List Calls) (v : Who) (y : Calls) → length cs ≡ length ps → place_of cs v < length cs
    → (w : Who) → who_eq w v ≡ false → HasSame (calls_by cs ps w) (calls_by cs (set ps (place_of cs v) y) w)
others_same cs ps v y same less w h =
    let e : calls_by cs (set ps (place_of cs v) y) w ≡ calls_by cs ps w = get_or-set_other ps (place_of cs v) (place_of cs w) y no_calls (places_apart cs w v h less) in
    (ap (λ p. p.entries) e, ap (λ p. p.made) e)

-- said of its place
pub others_at : (cs : List Who) (ps : List Calls) (v : Who) (i : ℕ) (y : Calls) → length cs ≡ length ps → i ≡ place_of cs v → i < length cs
    → (w : Who) → who_eq w v ≡ false → HasSame (calls_by cs ps w) (calls_by cs (set ps i y) w)
others_at cs ps v i y same is less w h =
    let P : ℕ → Type 0 = λ k. HasSame (calls_by cs ps w) (calls_by cs (set ps k y) w) in
    subst P (sym is) (others_same cs ps v y same (omega (arith, is, less)) w h)
