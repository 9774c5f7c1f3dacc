-- Which subscriptions accept a message: those of its channels that want it.
use Rattle.std.proofs.Common.{◌≡◌, ◌∙◌, ◌+◌, ◌<◌, ℕ, zero, suc, Bool, true, false, cond, List, [], ◌∷◌, ◌++◌, None, Some, Option, refl, sym, ap, arith, Result, Ok, Err, OnOk, IfOk}
use Rattle.std.specs.Prelude.{map, nat_eq, not, slice_get, ◌&&◌, ◌||◌}
use Rattle.std.specs.List.{All}
use Rattle.std.specs.Set.{is_member}
use Rattle.std.proofs.lemmas.Bool.Decides.{nat_tests}
use Rattle.std.proofs.lemmas.List.{map-append}
use Rattle.std.proofs.lemmas.List.Elements.{All-head, All-tail}
use Rattle.std.proofs.lemmas.List.Folds.{list_any-append}
use Rattle.jm_dest.specs.declared.key.Key.{Key}
use Rattle.jm_dest.specs.declared.destination.Destination.TheVariants.{Queue, Topic}
use Rattle.jm_dest.specs.Names.{text_eq}
use Rattle.jm_header.specs.declared.content.Content.{Content}
use Rattle.jm_machine.specs.declared.state.Definition.{Definition}
use Rattle.jm_machine.specs.Machine.{Publisher, accepts, is_local, is_to}
use Rattle.jm_selector.specs.declared.literal.Literal.{Literal}
use Rattle.jm_selector.specs.Literals.{HasItsLiteral, literal_of, literals_of}
use Rattle.jm_selector.specs.Selectors.{matches}
use Rattle.jm_grouped.specs.Grouped.{indexes_from, indexes_of}
use Rattle.jm_sub.specs.declared.channel.Channel.{Channel}
use Rattle.jm_sub.specs.Channels.{channel_eq, channel_of, channels_in, literal_eq}
use Rattle.jm_sub.specs.Entries.{subscription_of}
use Rattle.jm_sub.specs.Places.{channels_of, channels_with, heard_in, literal_channel, open_channel, passes}
use Rattle.jm_sub.specs.Subscriptions.{Subscription, accepting_from, accepting_places, takes, wants}
use Rattle.jm_sub.proofs.SameLiteral.{member_from}

-- no subscription accepts what goes to a queue
to_queue_from : (sender : Publisher) (m : Content) (name : List ℕ) (n : ℕ) (ss : List Subscription) → m.destination ≡ Queue name → [] ≡ accepting_from sender m n ss
unfolding accepts
to_queue_from sender m name n [] h = refl
to_queue_from sender m name n (s ∷ ss) h = rw h (to_queue_from sender m name (n + 1) ss h)

pub to_queue : (sender : Publisher) (m : Content) (name : List ℕ) (ss : List Subscription) → m.destination ≡ Queue name → [] ≡ accepting_places sender m ss
to_queue sender m name ss h = to_queue_from sender m name 0 ss h

-- ---- tests

and_false : (b : Bool) → (b && false) ≡ false
and_false true = refl
and_false false = refl

or_false : (b : Bool) → (b || false) ≡ b
or_false true = refl
or_false false = refl

and_or : (a b w : Bool) → ((a || (b || false)) && w) ≡ ((a && w) || (b && w))
and_or true b true = refl
and_or true b false = sym (and_false b)
and_or false true w = refl
and_or false false w = refl

and_one : (a b w : Bool) → ((a || (b || false)) && w) ≡ ((a && w) || ((b || false) && w))
and_one a b w = and_or a b w ∙ ap (λ c. (a && w) || (c && w)) (sym (or_false b))

-- what follows from what a call that succeeded says
pub onto : {T E P Q : Type 0} (r : Result T E) → (P → Q) → OnOk r P → OnOk r Q
onto (Ok x) f h = f h
onto (Err e) f h = h

pub into : {T E : Type 0} {P Q : T → Type 0} (r : Result T E) → ((x : T) → P x → Q x) → IfOk r P → IfOk r Q
into (Ok x) f h = f x h
into (Err e) f h = h

-- what stands between others has what all of them have
pub among : (P : ℕ → Type 0) (xs ys : List ℕ) (x : ℕ) → All P (xs ++ x ∷ ys) → P x
among P [] ys x h = All-head P x ys h
among P (y ∷ xs) ys x h = among P xs ys x (All-tail P y (xs ++ x ∷ ys) h)

-- ---- the places of a channel

-- one place more
place_added : (ps : List ℕ) (p at : ℕ) → is_member nat_eq (ps ++ p ∷ []) at ≡ (is_member nat_eq ps at || nat_eq at p)
place_added ps p at = list_any-append (nat_eq at) ps (p ∷ []) ∙ ap (λ b. is_member nat_eq ps at || b) (or_false (nat_eq at p))

-- where no place was looked at yet
pub none_looked : (b : Bool) → b ≡ (b || false)
none_looked b = sym (or_false b)

or_true : (b : Bool) → (b || true) ≡ true
or_true true = refl
or_true false = refl

and_true : (b : Bool) → (b && true) ≡ b
and_true true = refl
and_true false = refl

looked : (b y now w v here : Bool) → now ≡ (b || (y && w)) → (here ≡ true → w ≡ v) → (now || (here && v)) ≡ (b || ((y || here) && w))
looked b y now w v false is own = or_false now ∙ is ∙ ap (λ c. b || (c && w)) (sym (or_false y))
looked b y now w v true is own = ap (λ c. now || c) (sym (own refl)) ∙ by w is
  where
    by : (w : Bool) → now ≡ (b || (y && w)) → (now || w) ≡ (b || ((y || true) && w))
    by true is = or_true now ∙ sym (or_true b) ∙ ap (λ c. b || (c && true)) (sym (or_true y))
    by false is = or_false now ∙ is ∙ ap (λ c. b || c) (and_false y) ∙ ap (λ c. b || (c && false)) (sym (or_true y))

module _ (sender : Publisher) (m : Content) (es : List (Key × Definition)) where
  -- the subscription at a place wants the message
  abbrev pub wants_there : ℕ → Bool
  wants_there at = passes (λ e. wants e.0 e.1 sender m) (slice_get es at)

  -- what is known of a place once one more was looked at
  next_looked : (ps ys : List ℕ) (p : ℕ) (e : Key × Definition) (at : ℕ) (before v : Bool) → slice_get es p ≡ Some e → wants e.0 e.1 sender m ≡ v → is_member nat_eq ps at ≡ (before || (is_member nat_eq ys at && wants_there at)) →
      (is_member nat_eq ps at || (nat_eq at p && v)) ≡ (before || (is_member nat_eq (ys ++ p ∷ []) at && wants_there at))
  next_looked ps ys p e at before v there want is =
      looked before (is_member nat_eq ys at) (is_member nat_eq ps at) (wants_there at) v (nat_eq at p) is (λ here. (let same : at ≡ p = grind (arith, nat_tests) in ap wants_there same ∙ ap (passes (λ x. wants x.0 x.1 sender m)) there ∙ want))
      ∙ ap (λ c. before || (c && wants_there at)) (sym (place_added ys p at))

  pub wanted_next : (ps ys : List ℕ) (p : ℕ) (e : Key × Definition) (at : ℕ) (before : Bool) → slice_get es p ≡ Some e → wants e.0 e.1 sender m ≡ true → is_member nat_eq ps at ≡ (before || (is_member nat_eq ys at && wants_there at)) →
      is_member nat_eq (ps ++ p ∷ []) at ≡ (before || (is_member nat_eq (ys ++ p ∷ []) at && wants_there at))
  wanted_next ps ys p e at before there want is =
      place_added ps p at ∙ ap (λ c. is_member nat_eq ps at || c) (sym (and_true (nat_eq at p))) ∙ next_looked ps ys p e at before true there want is

  pub unwanted_next : (ps ys : List ℕ) (p : ℕ) (e : Key × Definition) (at : ℕ) (before : Bool) → slice_get es p ≡ Some e → wants e.0 e.1 sender m ≡ false → is_member nat_eq ps at ≡ (before || (is_member nat_eq ys at && wants_there at)) →
      is_member nat_eq ps at ≡ (before || (is_member nat_eq (ys ++ p ∷ []) at && wants_there at))
  unwanted_next ps ys p e at before there want is =
      sym (or_false (is_member nat_eq ps at)) ∙ ap (λ c. is_member nat_eq ps at || c) (sym (and_false (nat_eq at p))) ∙ next_looked ps ys p e at before false there want is

none_below : (n : ℕ) (at : ℕ) → n < at → nat_eq n at ≡ false
none_below n at h = grind (arith, nat_tests)

module _ (channel : Channel) where
  -- those that are counted from a number on are none below it
  below : (first : ℕ) (es : List (Key × Definition)) (n : ℕ) → n < first → is_member nat_eq (indexes_from channel_eq first (channels_in es) channel) n ≡ false
  below first [] n low = refl
  below first (e ∷ es) n low = by (channel_eq (channel_of e.1) channel) (below (first + 1) es n (omega (arith, low)))
    where
      by : (b : Bool) → is_member nat_eq (indexes_from channel_eq (first + 1) (channels_in es) channel) n ≡ false →
          is_member nat_eq (cond b (first ∷ indexes_from channel_eq (first + 1) (channels_in es) channel) (indexes_from channel_eq (first + 1) (channels_in es) channel)) n ≡ false
      by true rest = rw (none_below n first low) rest
      by false rest = rest

  -- where the channel's subscriptions stand
  stands_from : (first : ℕ) (es : List (Key × Definition)) (at : ℕ) → is_member nat_eq (indexes_from channel_eq first (channels_in es) channel) (first + at) ≡ passes (λ e. channel_eq (channel_of e.1) channel) (slice_get es at)
  stands_from first [] at = refl
  stands_from first (e ∷ es) zero = by (channel_eq (channel_of e.1) channel)
    where
      here : nat_eq (first + 0) first ≡ true
      here = grind (arith, nat_tests)

      by : (b : Bool) → is_member nat_eq (cond b (first ∷ indexes_from channel_eq (first + 1) (channels_in es) channel) (indexes_from channel_eq (first + 1) (channels_in es) channel)) (first + 0) ≡ b
      by true = rw here refl
      by false = below (first + 1) es (first + 0) (omega arith)
  stands_from first (e ∷ es) (suc at) = by (channel_eq (channel_of e.1) channel) (ap (is_member nat_eq (indexes_from channel_eq (first + 1) (channels_in es) channel)) next ∙ stands_from (first + 1) es at)
    where
      next : first + suc at ≡ first + 1 + at
      next = omega arith

      apart : nat_eq (first + suc at) first ≡ false
      apart = grind (arith, nat_tests)

      by : (b : Bool) → is_member nat_eq (indexes_from channel_eq (first + 1) (channels_in es) channel) (first + suc at) ≡ passes (λ x. channel_eq (channel_of x.1) channel) (slice_get es at) →
          is_member nat_eq (cond b (first ∷ indexes_from channel_eq (first + 1) (channels_in es) channel) (indexes_from channel_eq (first + 1) (channels_in es) channel)) (first + suc at) ≡ passes (λ x. channel_eq (channel_of x.1) channel) (slice_get es at)
      by true rest = rw apart rest
      by false rest = rest

  -- those of the channel's subscriptions that want the message are heard in it
  pub channel_heard : (sender : Publisher) (m : Content) (es : List (Key × Definition)) (at : ℕ) →
      (is_member nat_eq (indexes_of channel_eq (channels_in es) channel) at && wants_there sender m es at) ≡ passes (heard_in (channel ∷ []) sender m) (slice_get es at)
  channel_heard sender m es at = by (slice_get es at) (ap (is_member nat_eq (indexes_of channel_eq (channels_in es) channel)) none_more ∙ stands_from 0 es at)
    where
      none_more : at ≡ 0 + at
      none_more = omega arith

      by : (o : Option (Key × Definition)) → is_member nat_eq (indexes_of channel_eq (channels_in es) channel) at ≡ passes (λ e. channel_eq (channel_of e.1) channel) o →
          (is_member nat_eq (indexes_of channel_eq (channels_in es) channel) at && passes (λ e. wants e.0 e.1 sender m) o) ≡ passes (heard_in (channel ∷ []) sender m) o
      by None there = and_false (is_member nat_eq (indexes_of channel_eq (channels_in es) channel) at)
      by (Some e) there = ap (λ b. b && wants e.0 e.1 sender m) (there ∙ sym (or_false (channel_eq (channel_of e.1) channel)))

-- one channel more
pub heard_next : (sender : Publisher) (m : Content) (topic : List ℕ) (ls : List Literal) (l : Literal) (o : Option (Key × Definition)) →
    passes (heard_in (channels_with topic (ls ++ l ∷ [])) sender m) o ≡ (passes (heard_in (channels_with topic ls) sender m) o || passes (heard_in (literal_channel topic l ∷ []) sender m) o)
heard_next sender m topic ls l None = refl
heard_next sender m topic ls l (Some e) =
    let its = channel_of e.1 in
    ap (λ cs. (channel_eq its (open_channel topic) || is_member channel_eq cs its) && wants e.0 e.1 sender m) (map-append (literal_channel topic) ls (l ∷ []))
    ∙ ap (λ b. b && wants e.0 e.1 sender m) (list_any-append (channel_eq its) (channels_with topic ls) (literal_channel topic l ∷ []))
    ∙ and_one (is_member channel_eq (channels_with topic ls) its) (channel_eq its (literal_channel topic l)) (wants e.0 e.1 sender m)

-- ---- the channels of a message

-- a subscription that asks for no literal stands in no literal's channel
none_asked : (topic own : List ℕ) (ls : List Literal) → is_member channel_eq (map (literal_channel topic) ls) (open_channel own) ≡ false
none_asked topic own [] = refl
none_asked topic own (l ∷ ls) = none_asked topic own ls

-- one that asks for a literal stands in a channel of it
one_asked : (topic own : List ℕ) (l : Literal) (ls : List Literal) → is_member channel_eq (map (literal_channel topic) ls) (literal_channel own l) ≡ (is_member literal_eq ls l && text_eq own topic)
one_asked topic own l [] = refl
one_asked topic own l (k ∷ ls) = by (literal_eq l k) refl (text_eq own topic) refl (one_asked topic own l ls)
  where
    by : (b : Bool) → literal_eq l k ≡ b → (t : Bool) → text_eq own topic ≡ t → is_member channel_eq (map (literal_channel topic) ls) (literal_channel own l) ≡ (is_member literal_eq ls l && text_eq own topic) →
        ((literal_eq l k && text_eq own topic) || is_member channel_eq (map (literal_channel topic) ls) (literal_channel own l)) ≡ ((literal_eq l k || is_member literal_eq ls l) && text_eq own topic)
    by true same true to rest = rw (same, to) refl
    by true same false away rest = rw (same, away) (rest ∙ ap (λ b. is_member literal_eq ls l && b) away ∙ and_false (is_member literal_eq ls l))
    by false other t to rest = rw other rest

-- a subscription whose selector selects the message stands in one of the message's channels where it is to the topic
member_to : (m : Content) (topic : List ℕ) (d : Definition) → HasItsLiteral d.selector m → matches d.selector m ≡ true → is_member channel_eq (channels_of topic m) (channel_of d) ≡ text_eq d.topic topic
member_to m topic d law selects = by (literal_of d.selector) refl
  where
    by : (o : Option Literal) → literal_of d.selector ≡ o → is_member channel_eq (channels_of topic m) (channel_of d) ≡ text_eq d.topic topic
    by None is =
        ap (λ l. is_member channel_eq (channels_of topic m) (record { literal = l; topic = d.topic })) is
        ∙ ap (λ b. text_eq d.topic topic || b) (none_asked topic d.topic (literals_of m)) ∙ or_false (text_eq d.topic topic)
    by (Some l) is =
        ap (λ l. is_member channel_eq (channels_of topic m) (record { literal = l; topic = d.topic })) is
        ∙ one_asked topic d.topic l (literals_of m) ∙ ap (λ b. b && text_eq d.topic topic) (member_from l (literals_of m) (law l is selects))

-- what is heard in the channels of the message is what accepts it
pub heard_takes : (sender : Publisher) (m : Content) (topic : List ℕ) → m.destination ≡ Topic topic → ((selector : Option (List ℕ)) (c : Content) → HasItsLiteral selector c) → (e : Key × Definition) →
    heard_in (channels_of topic m) sender m e ≡ takes sender m (subscription_of e)
unfolding accepts
heard_takes sender m topic to law e = by (not (e.1.no_local && is_local e.0 sender)) refl (matches e.1.selector m) refl
  where
    there : is_to e.1.topic m.destination ≡ text_eq e.1.topic topic
    there = ap (is_to e.1.topic) to

    by : (free : Bool) → not (e.1.no_local && is_local e.0 sender) ≡ free → (b : Bool) → matches e.1.selector m ≡ b → heard_in (channels_of topic m) sender m e ≡ takes sender m (subscription_of e)
    by free is true selects = ap (λ b. b && wants e.0 e.1 sender m) (member_to m topic e.1 (law e.1.selector m) selects ∙ sym there)
    by true is false none = rw (is, none) (and_false (is_member channel_eq (channels_of topic m) (channel_of e.1)) ∙ sym (and_false (is_to e.1.topic m.destination)))
    by false is false none = rw is (and_false (is_member channel_eq (channels_of topic m) (channel_of e.1)) ∙ sym (and_false (is_to e.1.topic m.destination)))
