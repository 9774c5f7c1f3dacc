-- A text that is found where it first stands in another.
use Rattle.std.proofs.Common.{◌≡◌, ◌≢◌, ◌⊎◌, inl, inr, ℕ, zero, suc, ◌≤◌, ◌<◌, true, false, ◌&&◌, List, [], ◌∷◌, ◌++◌, length, map, drop, Some, refl, ap, sym, ◌∙◌, arith}
use Rattle.std.specs.Borrow.{Bor}
use Rattle.std.specs.Str.{chars, IsUtf8}
use Rattle.std.specs.Str.Pattern.{FindsText, LacksTextAt, SplitsAroundMatch}
use Rattle.std.proofs.Math.Seq.{drop-append_seam}
use Rattle.std.proofs.Math.Utf8.{encodes}
use Rattle.std.proofs.lemmas.Bool.{and_parts, eqb-true, eq-eqb}
use Rattle.std.proofs.lemmas.List.{length-append}
use Rattle.std.proofs.lemmas.Str.{IsCharBoundary-at_seam, IsUtf8-append, IsUtf8-drop, IsUtf8-take, chars-append, encodes-append, encodes-chars, length-le-encodes}
use Rattle.std.proofs.lemmas.Str.Pattern.{split_text_parts}
use Rattle.jm_tree.specs.declared.pattern.Item.{Item}
use Rattle.jm_tree.specs.declared.pattern.Item.TheVariants.{Any}
use Rattle.jm_tree.specs.Patterns.{item_of}
use Rattle.jm_eval.specs.Patterns.{matches, any_suffix}
use Rattle.jm_eval.proofs.Ends.{drop_end, here_or, later_too, same_answer}
use Rattle.jm_eval.proofs.Pieces.{suffix_at}

-- the items of characters
abbrev of_chars : List ℕ → List Item
of_chars cs = map item_of (map Some cs)

-- the items of characters fit what begins with them, where the items behind fit the rest
fits_front : (cs rest : List ℕ) (is : List Item) → matches is rest ≡ true → matches (of_chars cs ++ is) (cs ++ rest) ≡ true
fits_front [] rest is h = h
fits_front (c ∷ cs) rest is h = ap (λ b. b && matches (of_chars cs ++ is) (cs ++ rest)) (eq-eqb c c refl) ∙ fits_front cs rest is h

-- what they fit begins with them, and the items behind fit the rest
begins : (cs all : List ℕ) (is : List Item) → matches (of_chars cs ++ is) all ≡ true → (rest : List ℕ) × (all ≡ cs ++ rest) × (matches is rest ≡ true)
begins [] all is h = (all, refl, h)
begins (c ∷ cs) [] is h = absurd (cc)
begins (c ∷ cs) (d ∷ all) is h =
    let parts = and_parts _ _ h in
    let found = begins cs all is parts.1 in
    (found.0, ap (λ x. x ∷ all) (eqb-true d c parts.0) ∙ ap (λ l. c ∷ l) found.1, found.2)

-- of two ways to cut a list the shorter front begins the longer one
apart : (u v x y : List ℕ) → length u ≤ length v → u ++ x ≡ v ++ y → (between : List ℕ) × (v ≡ u ++ between) × (x ≡ between ++ y)
apart [] v x y le e = (v, refl, e)
apart (a ∷ u) [] x y le e = absurd (omega (arith, le))
apart (a ∷ u) (b ∷ v) x y le e =
    let parts = apart u v x y (omega (arith, le)) (ap (drop 1) e) in
    (parts.0, ap (λ h. h ∷ v) (sym (head_same a b (u ++ x) (v ++ y) e)) ∙ ap (λ l. a ∷ l) parts.1, parts.2)
  where
    first : ℕ → List ℕ → ℕ
    first d [] = d
    first d (h ∷ t) = h

    head_same : (a b : ℕ) (s t : List ℕ) → a ∷ s ≡ b ∷ t → a ≡ b
    head_same a b s t e = ap (first 0) e

module _ (text literal : List ℕ) (is_text : IsUtf8 text) (is_literal : IsUtf8 literal) where
  -- where the characters of a text are cut, its bytes are cut
  bytes_of : (u w : List ℕ) → chars text ≡ u ++ (chars literal ++ w) → text ≡ encodes u ++ (literal ++ encodes w)
  bytes_of u w e =
      sym (encodes-chars text is_text) ∙ ap encodes e ∙ encodes-append u (chars literal ++ w)
      ∙ ap (λ l. encodes u ++ l) (encodes-append (chars literal) w ∙ ap (λ l. l ++ encodes w) (encodes-chars literal is_literal))

  -- a text that stands nowhere fits nowhere
  pub fits_nowhere : ((xs ys : List ℕ) → text ≢ xs ++ (literal ++ ys)) → (is : List Item) → any_suffix (matches (of_chars (chars literal) ++ is)) (chars text) ≡ false
  fits_nowhere none is = same_answer _ _
      (λ found.
      let at = suffix_at (matches (of_chars (chars literal) ++ is)) (chars text) found in
      let front = begins (chars literal) at.1 is at.3 in
      absurd (none (encodes at.0) (encodes front.0) (bytes_of at.0 front.0 (at.2 ∙ ap (λ l. at.0 ++ l) front.1))))
      (λ e. absurd (cc))

  module _ (before after : List ℕ) (is_before : IsUtf8 before) (cut : text ≡ before ++ (literal ++ after))
      (first : (i : ℕ) → i < length before → LacksTextAt literal text i) where
    whole : chars text ≡ chars before ++ (chars literal ++ chars after)
    whole = ap chars cut ∙ chars-append before (literal ++ after) is_before ∙ ap (λ l. chars before ++ l) (chars-append literal after is_literal)

    -- each place at which it stands is not before the first
    not_before : (u w : List ℕ) → chars text ≡ u ++ (chars literal ++ w) → length (chars before) ≤ length u
    not_before u w e = elim (le_or_lt (length (chars before)) (length u)) [
      | inl le ↦ le
      | inr lt ↦
          let parts = apart u (chars before) (chars literal ++ w) (chars literal ++ chars after) (omega (arith, lt)) (sym e ∙ whole) in
          let bytes : before ≡ encodes u ++ encodes parts.0 = sym (encodes-chars before is_before) ∙ ap encodes parts.1 ∙ encodes-append u parts.0 in
          let longer : length (encodes u) < length before =
          omega (arith, lt, ap length parts.1, length-append u parts.0, length-le-encodes parts.0, ap length bytes, length-append (encodes u) (encodes parts.0)) in
          absurd (first (length (encodes u)) longer (encodes w) (ap (drop (length (encodes u))) (bytes_of u w e) ∙ drop-append_seam (encodes u) (literal ++ encodes w)))
    ]
      where
        le_or_lt : (n m : ℕ) → (n ≤ m) ⊎ (m < n)
        le_or_lt zero m = inl (omega arith)
        le_or_lt (suc n) zero = inr (omega arith)
        le_or_lt (suc n) (suc m) = elim (le_or_lt n m) [
          | inl le ↦ inl (omega (arith, le))
          | inr lt ↦ inr (omega (arith, lt))
        ]

    -- what is behind a later place is an end of what is behind the first
    behind : (u w : List ℕ) → chars text ≡ u ++ (chars literal ++ w) → (front : List ℕ) × (chars after ≡ front ++ w)
    behind u w e =
        let parts = apart (chars before) u (chars literal ++ chars after) (chars literal ++ w) (not_before u w e) (sym whole ∙ e) in
        let dropped = drop_end (length (chars literal)) parts.0 (chars literal ++ w) in (
          dropped.0,
          sym (drop-append_seam (chars literal) (chars after)) ∙ ap (drop (length (chars literal))) parts.2 ∙ dropped.1
              ∙ ap (λ l. dropped.0 ++ l) (drop-append_seam (chars literal) w),
        )

    -- the first place is as good as any later one
    pub fits_first : (is : List Item) → any_suffix (matches (of_chars (chars literal) ++ Any ∷ is)) (chars text) ≡ any_suffix (matches is) (chars after)
    fits_first is = same_answer _ _
        (λ found.
        let at = suffix_at (matches (of_chars (chars literal) ++ Any ∷ is)) (chars text) found in
        let front = begins (chars literal) at.1 (Any ∷ is) at.3 in
        let end = behind at.0 front.0 (at.2 ∙ ap (λ l. at.0 ++ l) front.1) in
        rw end.1 (later_too (matches is) end.0 front.0 front.2))
        (λ found. rw whole (later_too (matches (of_chars (chars literal) ++ Any ∷ is)) (chars before) (chars literal ++ chars after)
        (here_or (matches (of_chars (chars literal) ++ Any ∷ is)) (chars literal ++ chars after) (fits_front (chars literal) (chars after) (Any ∷ is) found))))

-- the same of the two texts between which a text is cut out where it first stands
pub fits_after : (text literal : List ℕ) → IsUtf8 text → IsUtf8 literal → (before after : Bor (List ℕ)) → SplitsAroundMatch (FindsText literal) text before.now after.now →
    (is : List Item) → any_suffix (matches (of_chars (chars literal) ++ Any ∷ is)) (chars text) ≡ any_suffix (matches is) (chars after.now)
fits_after text literal is_text is_literal before after splits =
    let cut = split_text_parts literal text (Some (before, after)) splits in
    let at = splits.2.1 in
    let is_after : IsUtf8 after.now = rw splits.4 (IsUtf8-drop text splits.1 is_text (rw at.ends at.after)) in
    let is_before : IsUtf8 before.now =
    rw splits.3 (IsUtf8-take text splits.0 is_text
    (rw (← splits.6) (IsCharBoundary-at_seam text before.now (literal ++ after.now) cut (IsUtf8-append literal after.now is_literal is_after)))) in
    fits_first text literal is_text is_literal before.now after.now is_before cut (λ i below. splits.2.0 i (rw (← splits.6) below))
