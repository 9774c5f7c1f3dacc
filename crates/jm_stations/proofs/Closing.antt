-- Keys that go with what is held under them.
use Rattle.std.proofs.Common.{◌≡◌, ◌<◌, ◌≤◌, ◌+◌, ℕ, zero, suc, List, [], ◌∷◌, ◌++◌, length, get_or, set, take, drop, Bool, true, false, not, cond, refl, ap, sym, subst, ◌∙◌, arith}
use Rattle.std.specs.List.{All, filter, remove}
use Rattle.std.proofs.lemmas.List.{append_assoc, append-nil, drop_all, drop_more, take_all, take_more}
use Rattle.std.proofs.lemmas.List.Elements.{All-nil, All-cons, All-head, All-tail}
use Rattle.std.proofs.lemmas.List.Sums.{sum_by-cons}
use Rattle.jm_dest.specs.declared.key.Key.{Key}
use Rattle.jm_pending.specs.Rows.{Held}
use Rattle.jm_lane.specs.Holders.{Messages, KeepsMessages, Follows, rows_at}
use Rattle.jm_pending.specs.Counts.{all_at, IsCounted}
use Rattle.jm_stations.specs.Backlogs.{Backlog, kept_under}
use Rattle.jm_stations.specs.Kept.{all_rows, shown, all_shown, cleared, cleared_under, lists_under, IsBacklog, IsKept}
use Rattle.jm_stations.proofs.Each.{keeps_then}
use Rattle.jm_stations.proofs.Shown.{all_covered, all_backlogs_kept, all_shown_kept}

-- no key is looked at yet
pub cleared_none : (p : Key → Bool) (keys : List Key) (lists : List Held) → lists ≡ cleared_under p (take 0 keys) lists
cleared_none p [] lists = refl
cleared_none p (k ∷ keys) lists = refl

pub length-cleared : (p : Key → Bool) (keys : List Key) (lists : List Held) → length (cleared_under p keys lists) ≡ length lists
length-cleared p [] lists = refl
length-cleared p (k ∷ keys) [] = refl
length-cleared p (k ∷ keys) (h ∷ lists) = ap suc (length-cleared p keys lists)

-- one key more is
pub cleared_more : (p : Key → Bool) (keys : List Key) (lists : List Held) (i : ℕ) (d : Key) (h h' : Held) → i < length keys → length keys ≡ length lists → h ≡ get_or (cleared_under p (take i keys) lists) i h → h' ≡ cleared (p (get_or keys i d)) h → set (cleared_under p (take i keys) lists) i h' ≡ cleared_under p (take (suc i) keys) lists
cleared_more p [] lists i d h h' l n e is = absurd (omega (arith, l))
cleared_more p (k ∷ keys) [] i d h h' l n e is = absurd (omega (arith, n))
cleared_more p (k ∷ keys) (x ∷ lists) zero d h h' l n e is = ap (λ (y : Held). y ∷ lists) (is ∙ ap (cleared (p k)) e)
cleared_more p (k ∷ keys) (x ∷ lists) (suc i) d h h' l n e is = ap (λ (ys : List Held). cleared (p k) x ∷ ys) (cleared_more p keys lists i d h h' (omega (arith, l)) (omega (arith, n)) e is)

-- messages that are kept stay kept where a list is cleared
cleared_fewer : (b : Bool) (q : ℕ) (h : Held) → rows_at q (cleared b h).rows ≤ rows_at q h.rows
cleared_fewer true q h = omega arith
cleared_fewer false q h = omega arith

pub cleared_keeps : (e : Bool) (a b c : Messages) (h h' : Held) → h' ≡ cleared e h → KeepsMessages a b → Follows b c h.rows h'.rows → KeepsMessages a c
cleared_keeps e a b c h h' is k f =
    keeps_then a b c h.rows h'.rows (λ q. subst (λ (x : Held). rows_at q x.rows ≤ rows_at q h.rows) (sym is) (cleared_fewer e q h)) k f

-- a list that goes is not looked at any more
left_same : (p : Key → Bool) (keys : List Key) (lists : List Held) → lists_under (λ k. not (p k)) keys (cleared_under p keys lists) ≡ lists_under (λ k. not (p k)) keys lists
left_same p [] lists = refl
left_same p (k ∷ keys) [] = refl
left_same p (k ∷ keys) (h ∷ lists) = go (p k) (lists_under (λ k. not (p k)) keys (cleared_under p keys lists)) (lists_under (λ k. not (p k)) keys lists) (left_same p keys lists)
  where
    go : (b : Bool) (xs ys : List Held) → xs ≡ ys → cond (not b) (cleared b h ∷ xs) xs ≡ cond (not b) (h ∷ ys) ys
    go true xs ys e = e
    go false xs ys e = ap (λ (zs : List Held). h ∷ zs) e

pub left_cleared : (p : Key → Bool) (keys : List Key) (lists a b : List Held) → a ≡ cleared_under p keys lists → b ≡ lists_under (λ k. not (p k)) keys a → b ≡ lists_under (λ k. not (p k)) keys lists
left_cleared p keys lists a b e f = f ∙ ap (lists_under (λ k. not (p k)) keys) e ∙ left_same p keys lists

-- what goes has no rows
rows_left : (q : ℕ) (p : Key → Bool) (keys : List Key) (lists : List Held) → length keys ≡ length lists → all_at q (all_rows (lists_under (λ k. not (p k)) keys (cleared_under p keys lists))) ≡ all_at q (all_rows (cleared_under p keys lists))
rows_left q p [] [] e = refl
rows_left q p [] (h ∷ lists) e = absurd (omega (arith, e))
rows_left q p (k ∷ keys) [] e = refl
rows_left q p (k ∷ keys) (h ∷ lists) e = go (p k) (lists_under (λ k. not (p k)) keys (cleared_under p keys lists)) (cleared_under p keys lists) (rows_left q p keys lists (omega (arith, e)))
  where
    go : (b : Bool) (xs ys : List Held) → all_at q (all_rows xs) ≡ all_at q (all_rows ys) → all_at q (all_rows (cond (not b) (cleared b h ∷ xs) xs)) ≡ all_at q (all_rows (cleared b h ∷ ys))
    go true xs ys e = omega (arith, sum_by-cons (λ rows. rows_at q rows) [] (all_rows ys), e)
    go false xs ys e = omega (arith, sum_by-cons (λ rows. rows_at q rows) h.rows (all_rows xs), sum_by-cons (λ rows. rows_at q rows) h.rows (all_rows ys), e)

pub left_counted : (t : Messages) (p : Key → Bool) (keys : List Key) (lists a b : List Held) → length keys ≡ length lists → a ≡ cleared_under p keys lists → b ≡ lists_under (λ k. not (p k)) keys a → IsCounted t (all_rows a) → IsCounted t (all_rows b)
left_counted t p keys lists a b n e f c =
    let left : b ≡ lists_under (λ k. not (p k)) keys (cleared_under p keys lists) = f ∙ ap (lists_under (λ k. not (p k)) keys) e in
    record { each = λ q. c.each q ∙ ap (λ xs. all_at q (all_rows xs)) e ∙ sym (rows_left q p keys lists n) ∙ sym (ap (λ xs. all_at q (all_rows xs)) left) }

-- what is left keeps what each list keeps
left_each : (P : Held → Type 0) (p : Key → Bool) (keys : List Key) (lists : List Held) → All P lists → All P (lists_under p keys lists)
left_each P p [] lists a = All-nil P
left_each P p (k ∷ keys) [] a = All-nil P
left_each P p (k ∷ keys) (h ∷ lists) a = go (p k) (lists_under p keys lists) (left_each P p keys lists (All-tail P h lists a))
  where
    go : (b : Bool) (xs : List Held) → All P xs → All P (cond b (h ∷ xs) xs)
    go true xs rest = All-cons P h xs (All-head P h lists a) rest
    go false xs rest = rest

-- and what callers see of it
left_shown : (t : Messages) (p : Key → Bool) (keys : List Key) (lists : List Held) → all_shown t (lists_under p keys lists) ≡ kept_under p keys (all_shown t lists)
left_shown t p [] lists = refl
left_shown t p (k ∷ keys) [] = refl
left_shown t p (k ∷ keys) (h ∷ lists) = go (p k) (lists_under p keys lists) (kept_under p keys (all_shown t lists)) (left_shown t p keys lists)
  where
    go : (b : Bool) (xs : List Held) (ys : List Backlog) → all_shown t xs ≡ ys → all_shown t (cond b (h ∷ xs) xs) ≡ cond b (shown t h ∷ ys) ys
    go true xs ys e = ap (λ (zs : List Backlog). shown t h ∷ zs) e
    go false xs ys e = e

-- what is held after all
pub closed_kept : (t t' : Messages) (place : ℕ) (p : Key → Bool) (keys : List Key) (lists : List Held) → IsKept t lists place → IsCounted t' (all_rows (lists_under p keys lists)) → KeepsMessages t t' → IsKept t' (lists_under p keys lists) place
closed_kept t t' place p keys lists w counted keeps = record {
  counted = counted;
  each = all_backlogs_kept t t' place (lists_under p keys lists) keeps (all_covered t' (lists_under p keys lists) counted) (left_each (IsBacklog t place) p keys lists w.each);
  places = w.places;
}

pub closed_shown : (t t' : Messages) (p : Key → Bool) (keys : List Key) (lists : List Held) → IsCounted t' (all_rows (lists_under p keys lists)) → KeepsMessages t t' → all_shown t' (lists_under p keys lists) ≡ kept_under p keys (all_shown t lists)
closed_shown t t' p keys lists counted keeps = all_shown_kept t t' (lists_under p keys lists) keeps (all_covered t' (lists_under p keys lists) counted) ∙ left_shown t p keys lists

-- as many keys are left as lists
pub as_many_left : (p : Key → Bool) (keys : List Key) (lists : List Held) → length keys ≡ length lists → length (filter p keys) ≡ length (lists_under p keys lists)
as_many_left p [] lists e = refl
as_many_left p (k ∷ keys) [] e = absurd (omega (arith, e))
as_many_left p (k ∷ keys) (h ∷ lists) e = go (p k) (filter p keys) (lists_under p keys lists) (as_many_left p keys lists (omega (arith, e)))
  where
    go : (c : Bool) (xs : List Key) (ys : List Held) → length xs ≡ length ys → length (cond c (k ∷ xs) xs) ≡ length (cond c (h ∷ ys) ys)
    go true xs ys e = ap suc e
    go false xs ys e = e

-- no more lists are left than there were
pub left_fewer : (p : Key → Bool) (keys : List Key) (lists : List Held) → length (lists_under p keys lists) ≤ length lists
left_fewer p [] lists = omega arith
left_fewer p (k ∷ keys) [] = omega arith
left_fewer p (k ∷ keys) (h ∷ lists) = go (p k) (left_fewer p keys lists)
  where
    go : (b : Bool) → length (lists_under p keys lists) ≤ length lists → length (cond b (h ∷ lists_under p keys lists) (lists_under p keys lists)) ≤ suc (length lists)
    go true fewer = omega (arith, fewer)
    go false fewer = omega (arith, fewer)

-- before a list that goes, and behind it, stands what stood there
take-removed : {X : Type 0} (xs : List X) (a : ℕ) → take a (remove xs a) ≡ take a xs
take-removed [] zero = refl
take-removed [] (suc a) = refl
take-removed (x ∷ xs) zero = refl
take-removed (x ∷ xs) (suc a) = ap (λ ys. x ∷ ys) (take-removed xs a)

drop-removed : {X : Type 0} (xs : List X) (a : ℕ) → drop a (remove xs a) ≡ drop (suc a) xs
drop-removed [] zero = refl
drop-removed [] (suc a) = refl
drop-removed (x ∷ xs) zero = refl
drop-removed (x ∷ xs) (suc a) = drop-removed xs a

-- a walk over the keys, behind the lists that stay
module _ (p : Key → Bool) (keys : List Key) (i : ℕ) (d : Key) (lists : List Held) (a : ℕ) (all : List Held) (so_far : take a lists ++ lists_under p (drop i keys) (drop a lists) ≡ all) where
  -- all were looked at
  pub left_all : length keys ≤ i → length lists ≤ a → lists ≡ all
  left_all past end =
      let keys_end : drop i keys ≡ [] = drop_all i keys past in
      sym (take_all a lists end) ∙ sym (append-nil (take a lists)) ∙ ap (λ ks. take a lists ++ lists_under p ks (drop a lists)) (sym keys_end) ∙ so_far

  module _ (h : Held) (l : i < length keys) (m : a < length lists) where
    abbrev rest : List Held
    rest = lists_under p (drop (i + 1) keys) (drop (a + 1) lists)

    next_left : (b : Bool) → p (get_or keys i d) ≡ b → take a lists ++ cond b (get_or lists a h ∷ rest) rest ≡ all
    next_left b test =
        ap (λ c. take a lists ++ cond c (get_or lists a h ∷ rest) rest) (sym test) ∙ (λ t. take a lists ++ lists_under p (sym (drop_more keys i d l) t) (sym (drop_more lists a h m) t)) ∙ so_far

    -- the list stays
    pub left_stays : p (get_or keys i d) ≡ true → take (a + 1) lists ++ rest ≡ all
    left_stays test = ap (λ xs. xs ++ rest) (take_more lists a h m) ∙ append_assoc (take a lists) (get_or lists a h ∷ []) rest ∙ next_left true test

    -- the list goes
    pub left_goes : p (get_or keys i d) ≡ false → take a (remove lists a) ++ lists_under p (drop (i + 1) keys) (drop a (remove lists a)) ≡ all
    left_goes test =
        let one : suc a ≡ a + 1 = omega arith in
        (λ t. take-removed lists a t ++ lists_under p (drop (i + 1) keys) ((drop-removed lists a ∙ ap (λ n. drop n lists) one) t)) ∙ next_left false test
