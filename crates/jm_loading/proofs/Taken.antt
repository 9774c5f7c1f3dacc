-- Rows of held come to their messages.
use Rattle.std.proofs.Common.{◌≡◌, ◌+◌, ◌<◌, ◌≤◌, ◌==◌, ◌∙◌, ℕ, zero, suc, Bool, true, false, cond, List, [], ◌∷◌, ◌++◌, ap, sym, subst, refl, length, get_or, set, take, drop, arith, Option, Some, None}
use Rattle.std.specs.Prelude.{◌&&◌, IfSome, find, option_map}
use Rattle.std.specs.Option.{option_or}
use Rattle.std.proofs.Math.Seq.{take-append_seam}
use Rattle.std.proofs.lemmas.List.{get_or_default, take_more}
use Rattle.std.proofs.lemmas.List.Elements.{All-set}
use Rattle.std.proofs.lemmas.List.Folds.{find-append}
use Rattle.jm_dest.specs.declared.key.Key.{Key}
use Rattle.jm_dest.specs.Keys.{key_eq}
use Rattle.jm_parts.specs.declared.stored.StoredMessage.{StoredMessage}
use Rattle.jm_parts.specs.declared.stored.StoredSubscription.{StoredSubscription}
use Rattle.jm_parts.specs.Stored.{AreHolders}
use Rattle.jm_reopened.specs.Given.{count_given, count_of_key, given_at}
use Rattle.jm_decoding.specs.declared.held.HeldRow.{HeldRow}
use Rattle.jm_decoding.specs.declared.message.MessageRow.{MessageRow}
use Rattle.jm_loading.specs.Holding.{AreHeldAs, DoRise, IsHeldMore, TakesRow}
use Rattle.jm_loading.specs.Messages.{ArePlacedAs, IsUnheld, given_pair}
use Rattle.jm_loading.specs.Said.{count_said, is_held_at}
use Rattle.jm_loading.proofs.Placed.{content_set, given_old, given_set, of_given, placed_set}
use Rattle.std.proofs.Math.Seq.{map-set_same}
use Rattle.jm_loading.proofs.Paired.{same_content}
use Rattle.jm_loading.proofs.More.{or_none, unheld_count, unheld_may, unheld_rise}

-- before the first row nobody holds a message
pub unheld_as : (rows : List MessageRow) (ss : List StoredSubscription) (ms : List StoredMessage) → ArePlacedAs rows ms → AreHeldAs rows ss [] ms
unheld_as rows ss ms h = record {
  placed = h.placed;
  pairs = h.pairs;
  same = same_content rows ms h.pairs;
  may = λ k d l. unheld_may ss (get_or ms k d).message (get_or ms k d).holders (h.unheld k d l);
  rise = λ k d l. unheld_rise (get_or ms k d).holders (h.unheld k d l);
  counts = λ key place. go key (given_at place ms) (of_given (λ (m : StoredMessage). IsUnheld m.holders) place ms h.unheld);
}
  where
    go : (key : Key) (o : Option StoredMessage) → IfSome o (λ (m : StoredMessage). IsUnheld m.holders) → count_given ss key o ≡ None
    go key None x = refl
    go key (Some m) x = unheld_count ss key m x

said_more : (key : Key) (place : ℕ) (held : List HeldRow) (h : HeldRow) → count_said key place (held ++ h ∷ []) ≡ option_or (count_said key place held) (cond (is_held_at key place h) (Some h.count) None)
said_more key place held h = ap (option_map (λ (x : HeldRow). x.count)) (find-append (is_held_at key place) held (h ∷ [])) ∙ go (find (is_held_at key place) held) (is_held_at key place h)
  where
    go : (o : Option HeldRow) (b : Bool) → option_map (λ (x : HeldRow). x.count) (option_or o (cond b (Some h) None)) ≡ option_or (option_map (λ (x : HeldRow). x.count) o) (cond b (Some h.count) None)
    go (Some x) b = refl
    go None true = refl
    go None false = refl

and_false : (a : Bool) → (a && false) ≡ false
and_false true = refl
and_false false = refl

and_true : (a : Bool) → (a && true) ≡ a
and_true true = refl
and_true false = refl

count_more : (ss : List StoredSubscription) (held : List HeldRow) (h : HeldRow) (ms : List StoredMessage) (at : ℕ) (n d : StoredMessage) (key : Key) (p : ℕ) → given_at p (set ms at n) ≡ cond (n.place == p) (Some n) (given_at p ms) →
    ((n.place == p) ≡ true → given_at p ms ≡ Some (get_or ms at d)) → n.place ≡ h.place → IsHeldMore ss h.key h.count (get_or ms at d) n → count_given ss key (given_at p ms) ≡ count_said key p held →
    count_given ss key (given_at p (set ms at n)) ≡ count_said key p (held ++ h ∷ [])
count_more ss held h ms at n d key p set_is here place more was = ap (count_given ss key) set_is ∙ go (n.place == p) refl ∙ sym (said_more key p held h)
  where
    go : (b : Bool) → (n.place == p) ≡ b → count_given ss key (cond b (Some n) (given_at p ms)) ≡ option_or (count_said key p held) (cond (is_held_at key p h) (Some h.count) None)
    go true t =
        let mine : is_held_at key p h ≡ key_eq h.key key = ap (λ b. key_eq h.key key && b) (ap (λ x. x == p) (sym place) ∙ t) ∙ and_true (key_eq h.key key) in
        let before : count_of_key ss key (get_or ms at d) ≡ count_said key p held = sym (ap (count_given ss key) (here t)) ∙ was in
        more.counts key ∙ ap (λ o. option_or o (cond (key_eq h.key key) (Some h.count) None)) before ∙ sym (ap (λ b. option_or (count_said key p held) (cond b (Some h.count) None)) mine)
    go false t =
        let other : is_held_at key p h ≡ false = ap (λ b. key_eq h.key key && b) (ap (λ x. x == p) (sym place) ∙ t) ∙ and_false (key_eq h.key key) in
        was ∙ sym (or_none (count_said key p held)) ∙ sym (ap (λ b. option_or (count_said key p held) (cond b (Some h.count) None)) other)

pub taken : (rows : List MessageRow) (ss : List StoredSubscription) (held : List HeldRow) (h : HeldRow) (old new : List StoredMessage) → AreHeldAs rows ss held old → TakesRow ss h old new → AreHeldAs rows ss (held ++ h ∷ []) new
taken rows ss held h old new was t =
    let d = t.message in
    let more = t.more d in
    let l = t.within in
    subst (AreHeldAs rows ss (held ++ h ∷ [])) (sym t.new_is)
    (record {
      placed = placed_set 1 t.at old t.message d was.placed l more.place;
      pairs = map-set_same given_pair old t.at t.message d (λ i. (more.place i, more.message i)) ∙ was.pairs;
      same = λ p. content_set 1 p t.at old t.message d was.placed l more.place more.message ∙ was.same p;
      may = All-set (λ (m : StoredMessage). AreHolders ss m.message m.holders) old t.at t.message (more.may (was.rise t.at d l) (was.may t.at d l)) was.may;
      rise = All-set (λ (m : StoredMessage). DoRise m.holders) old t.at t.message (more.rise (was.rise t.at d l)) was.rise;
      counts = λ key p. count_more ss held h old t.at t.message d key p (given_set 1 p t.at old t.message d was.placed l more.place) (given_old 1 p t.at old t.message d was.placed l more.place) (more.place ∙ t.there d) more (was.counts key p);
    })

-- one message is held more
pub takes : (ss : List StoredSubscription) (h : HeldRow) (old : List StoredMessage) (at : ℕ) (r new : StoredMessage) → at < length old → ((d : StoredMessage) → (get_or old at d).place ≡ h.place) → IsHeldMore ss h.key h.count (get_or old at r) new → TakesRow ss h old (set old at new)
takes ss h old at r new l there more = record {
  at = at;
  within = l;
  message = new;
  there = there;
  more = λ d. subst (λ (x : StoredMessage). IsHeldMore ss h.key h.count x new) (get_or_default old at r d l) more;
  new_is = refl;
}

-- one more row has come
pub taken_next : (rows : List MessageRow) (ss : List StoredSubscription) (held : List HeldRow) (at : ℕ) (h : HeldRow) (old new : List StoredMessage) → at < length held → h ≡ get_or held at h → AreHeldAs rows ss (take at held) old → TakesRow ss h old new → AreHeldAs rows ss (take (at + 1) held) new
taken_next rows ss held at h old new l is was t =
    subst (λ (xs : List HeldRow). AreHeldAs rows ss xs new) (ap (λ (x : HeldRow). take at held ++ x ∷ []) is ∙ sym (take_more held at h l)) (taken rows ss (take at held) h old new was t)

pub take_whole : {X : Type 0} (n : ℕ) (xs : List X) → length xs ≤ n → take n xs ≡ xs
take_whole zero [] l = refl
take_whole (suc k) [] l = refl
take_whole zero (x ∷ xs) l = absurd (omega (arith, l))
take_whole {X} (suc k) (x ∷ xs) l = ap (λ (ys : List X). x ∷ ys) (take_whole k xs (omega (arith, l)))

-- the messages are put back where they stood
pub put_back : {X : Type 0} (n : ℕ) (xs ys : List X) → length xs ≡ length ys → n ≡ length ys → take n (xs ++ drop (length xs) ys) ≡ xs
put_back n xs ys same whole =
    let all : n ≡ length xs = whole ∙ sym same in
    rw all (take-append_seam xs (drop (length xs) ys))

pub held_back : (rows : List MessageRow) (ss : List StoredSubscription) (held : List HeldRow) (old new ms : List StoredMessage) (n : ℕ) → length new ≡ length old → n ≡ length old → ms ≡ take n (new ++ drop (length new) old) → AreHeldAs rows ss held new → AreHeldAs rows ss held ms
held_back rows ss held old new ms n same whole is h = subst (AreHeldAs rows ss held) (sym (is ∙ put_back n new old same whole)) h
