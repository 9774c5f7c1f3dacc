-- Worked selectors and worked runs with them, computed on the definitions.
use Rattle.std.proofs.Common.{◌≡◌, ◌∙◌, ℕ, zero, suc, ◌+◌, ℤ, pos, Bool, true, false, cond, List, [], ◌∷◌, ◌++◌, Option, Some, None, Result, Ok, Err, refl, ap, sym}
use Rattle.std.specs.Prelude.{codes, if◌then◌else◌}
use Rattle.jm_base.specs.declared.refusal.Cause.TheVariants.{Expected}
use Rattle.jm_tree.specs.declared.tree.Comparison.TheVariants.{Greater}
use Rattle.jm_tree.specs.declared.tree.Comparison.{Comparison}
use Rattle.jm_lexer.specs.declared.fault.SyntaxFault.{SyntaxFault}
use Rattle.jm_tree.specs.declared.tree.Tree.{Tree, out-Tree, out-roll-Tree}
use Rattle.jm_tree.specs.declared.tree.Tree.TheOpen.{Tree-F}
use Rattle.jm_tree.specs.declared.tree.Tree.TheVariants as e
use Rattle.jm_tree.specs.declared.tree.Tree.TheVariants.{rolls-Name, rolls-Num, rolls-Compare}
use Rattle.jm_lexer.specs.Faults.{fault_at}
use Rattle.jm_tree.specs.Input.{start, kind, next as next_input, left, sees, after as after_mark, expect, operator_at, after_operator, text, noted, is_end}
use Rattle.jm_lexer.specs.Words.{keyword_of, stem, number_of}
use Rattle.jm_lexer.specs.Lex.{content, word_front, number_front, front, lex_from, tokens}
use Rattle.jm_tree.specs.Sorts.{sort_of}
use Rattle.jm_tree.specs.FaultOrder.{settle, chain_from, chain, named, primary, signed, minus, plus, unary, product, sum, compared, tested, condition as condition_rule, both, either, below}
use Rattle.jm_tree.specs.Answer.{settled, finished, whole, answer as grammar_answer}
use Rattle.jm_tree.specs.Parse.{parsed}
use Rattle.jm_tree.specs.declared.tree.Tree.TheFolds.{fold-roll-Tree}
use Rattle.jm_base.specs.declared.mode.Mode.TheVariants.{Auto}
use Rattle.jm_base.specs.declared.refusal.Refusal.{Refusal}
use Rattle.jm_base.specs.declared.refusal.Refusal.TheVariants.{IllegalState, InvalidSelector}
use Rattle.jm_dest.specs.declared.key.Key.TheVariants.{Own}
use Rattle.jm_dest.specs.declared.session.SessionId.{SessionId}
use Rattle.jm_dest.specs.declared.destination.Destination.TheVariants.{Topic}
use Rattle.jm_header.specs.declared.content.Content.{Content}
use Rattle.jm_header.specs.declared.content.Settings.{Settings}
use Rattle.jm_header.specs.Headers.{message_of}
use Rattle.jm_property.specs.declared.property.Property.TheVariants.{Long}
use Rattle.jm_eval.specs.Values.{Value, Number, condition_of, value_of, comparison}
use Rattle.jm_eval.specs.Views.{view}
use Rattle.jm_eval.specs.Evaluation.{value, node}
use Rattle.jm_machine.specs.declared.call.Who.TheVariants.{Connection, Session}
use Rattle.jm_machine.specs.declared.call.Request.TheVariants.{Open, Start, CreateSession, CreateConsumer}
use Rattle.jm_machine.specs.declared.call.ClientCall.{ClientCall}
use Rattle.jm_machine.specs.declared.call.ClientCall.TheVariants.{Ask}
use Rattle.jm_machine.specs.declared.answer.Answer.{Answer}
use Rattle.jm_machine.specs.declared.answer.Answer.TheVariants.{Done, Sent}
use Rattle.jm_machine.specs.declared.state.Definition.{Definition}
use Rattle.jm_machine.specs.declared.state.PlacedRow.{PlacedRow}
use Rattle.jm_machine.specs.Life.{life_after, own_life}
use Rattle.jm_machine.specs.Rows.{fresh, is_next, left_of}
use Rattle.jm_selector.specs.Selectors.{read_refusal, selector_refusal, standing, holds, selects, read_selects}
use Rattle.jm_machine.specs.Machine.{Publisher, new_core, defined, accepts, published, refusal, publish_refusal, after as after_call, answer, replied, moved, reply, step}
use Rattle.jm_machine.specs.Client.{Progress, one_more, reply_to, progress_to, replies_to}
use Rattle.jm_machine.specs.Entries.{entries_of, life_after_entry, committed}
use Rattle.jm_machine.specs.Lone.{lone_of, lone_did, is_answered, feed}
use Rattle.jm_machine.specs.Isolation.{alone}
use Rattle.jm_machine.specs.Examples.{new_run, receiver, publisher, topic, text as text_of, send, receive, ok, none, got}

-- a selector of the messages whose property x is above 0
abbrev positive : List ℕ
positive = codes "x > 0"

abbrev above_zero : Tree
above_zero = e.Compare Greater (e.Name (codes "x")) (e.Num (pos 0))

-- the nodes of a name, a number and a comparison
node_name : (name : List ℕ) → out-Tree (e.Name name) ≡ Tree-F.Name name
node_name name = ap out-Tree (sym (rolls-Name name)) ∙ out-roll-Tree (Tree-F.Name name)

node_num : (n : ℤ) → out-Tree (e.Num n) ≡ Tree-F.Num n
node_num n = ap out-Tree (sym (rolls-Num n)) ∙ out-roll-Tree (Tree-F.Num n)

node_compare : (op : Comparison) (left right : Tree) → out-Tree (e.Compare op left right) ≡ Tree-F.Compare op left right
node_compare op left right = ap out-Tree (sym (rolls-Compare op left right)) ∙ out-roll-Tree (Tree-F.Compare op left right)

pub positive_read : parsed positive ≡ Ok (Some above_zero)
unfolding start kind next_input left sees after_mark expect operator_at after_operator text noted is_end keyword_of stem number_of content word_front number_front front lex_from tokens sort_of settle chain_from chain named primary signed minus plus unary product sum compared tested condition_rule both either below settled finished whole grammar_answer parsed
positive_read = rw (node_name (codes "x"), node_num (pos 0), node_compare Greater (e.Name (codes "x")) (e.Num (pos 0))) refl

pub cut_short : parsed (codes "x = ") ≡ Err (fault_at 4 Expected)
unfolding start kind next_input left sees after_mark expect operator_at after_operator text noted is_end keyword_of stem number_of content word_front number_front front lex_from tokens sort_of settle chain_from chain named primary signed minus plus unary product sum compared tested condition_rule both either below settled finished whole grammar_answer parsed
cut_short = refl

pub blank : parsed (codes " ") ≡ Ok None
unfolding lex_from tokens parsed
blank = refl

-- the value of the selector
positive_value : (view : List ℕ → Value) → value view above_zero ≡ value_of (comparison Greater (view (codes "x")) (Number (pos 0)))
unfolding value
positive_value view =
    let name : value view (e.Name (codes "x")) ≡ view (codes "x") = ap (value view) (sym (rolls-Name (codes "x"))) ∙ fold-roll-Tree Value (node view) (Tree-F.Name (codes "x")) in
    let zero : value view (e.Num (pos 0)) ≡ Number (pos 0) = ap (value view) (sym (rolls-Num (pos 0))) ∙ fold-roll-Tree Value (node view) (Tree-F.Num (pos 0)) in
    ap (value view) (sym (rolls-Compare Greater (e.Name (codes "x")) (e.Num (pos 0))))
    ∙ fold-roll-Tree Value (node view) (Tree-F.Compare Greater (e.Name (codes "x")) (e.Num (pos 0)))
    ∙ ap (λ v. value_of (comparison Greater v (value view (e.Num (pos 0))))) name
    ∙ ap (λ v. value_of (comparison Greater (view (codes "x")) v)) zero

-- both connections and sessions
abbrev sessions : List ClientCall
sessions =
    Ask (Connection 1) (Open None) ∷ Ask (Connection 2) (Open None) ∷ Ask (Session receiver) (CreateSession Auto) ∷ Ask (Session publisher) (CreateSession Auto)
    ∷ Ask (Connection 1) Start ∷ []

abbrev opened : List (Result Answer Refusal)
opened = ok ∷ ok ∷ ok ∷ ok ∷ ok ∷ []

-- a consumer of the topic with that selector
abbrev selecting : ℕ → List ℕ → ClientCall
selecting c selector = Ask (Session receiver) (CreateConsumer c (Topic topic) (Some selector) false)

-- a draft with the property x
abbrev with_x : ℤ → ℕ → Settings
with_x x letter = record (text_of letter) { properties = (codes "x", Long x) ∷ [] }

-- of three messages the one is received for which the selector is TRUE, and neither that for which it is
-- FALSE nor that for which it is UNKNOWN
abbrev receiving : List ClientCall
receiving = receive 1 1000 ∷ receive 1 1000 ∷ []

abbrev sending : List ClientCall
sending = send 1000 (with_x (pos 1) 97) ∷ send 1000 (with_x (pos 0) 98) ∷ send 1000 (text_of 99) ∷ receiving

abbrev selected_calls : List ClientCall
selected_calls = sessions ++ selecting 1 positive ∷ sending

abbrev selected_replies : List (Result Answer Refusal)
selected_replies = opened ++ ok ∷ Ok (Sent 1) ∷ Ok (Sent 2) ∷ Ok (Sent 3) ∷ got (with_x (pos 1) 97) 1 1000 1 ∷ none ∷ []

-- what the checks of the selector, and of each message by it, come to
positive_allowed : selector_refusal (Some positive) ≡ None
unfolding selector_refusal
positive_allowed = ap read_refusal positive_read

abbrev positive_definition : Definition
positive_definition = record { topic = topic; selector = Some positive; no_local = false; shared = false }

positive_defined : defined topic (Some positive) false false ≡ positive_definition
unfolding defined
positive_defined = ap (λ (r : Result (Option Tree) SyntaxFault). record { topic = topic; selector = standing (Some positive) r; no_local = false; shared = false }) positive_read

-- a message of the publisher
abbrev sent : Settings → ℕ → Content
sent draft n = message_of draft (Topic topic) (record { opening = 1; session = publisher }) n 1000

-- who publishes it
abbrev by_publisher : Publisher
by_publisher = record { connection = 2; client = None }

positive_accepts : (draft : Settings) (n : ℕ) → accepts (Own receiver 1) positive_definition by_publisher (sent draft n) ≡ holds (condition_of (value_of (comparison Greater (view (sent draft n) (codes "x")) (Number (pos 0)))))
unfolding accepts selects
positive_accepts draft n =
    ap (λ (r : Result (Option Tree) SyntaxFault). read_selects r (sent draft n)) positive_read
    ∙ ap (λ (v : Value). holds (condition_of v)) (positive_value (view (sent draft n)))

accepts_one : accepts (Own receiver 1) positive_definition by_publisher (sent (with_x (pos 1) 97) 1) ≡ true
unfolding view
accepts_one = positive_accepts (with_x (pos 1) 97) 1

rejects_zero : accepts (Own receiver 1) positive_definition by_publisher (sent (with_x (pos 0) 98) 2) ≡ false
unfolding view
rejects_zero = positive_accepts (with_x (pos 0) 98) 2

rejects_none : accepts (Own receiver 1) positive_definition by_publisher (sent (text_of 99) 3) ≡ false
unfolding view
rejects_none = positive_accepts (text_of 99) 3

-- how far the run has come, once the consumer is made: its rows, and so many sends
abbrev placed : Settings → ℕ → PlacedRow
placed draft n = record { place = n; row = fresh (sent draft n) }

-- the one message that is held
abbrev one : List PlacedRow
one = placed (with_x (pos 1) 97) 1 ∷ []

abbrev sent_after : ℕ → SessionId → ℕ
sent_after zero = λ s. 0
sent_after (suc n) = one_more publisher (sent_after n)

abbrev holding : Definition → List PlacedRow → ℕ → Progress
holding definition rows n = record {
  state = record {
    opening = 1;
    limit = 100000;
    life = record {
      connections = record { id = 1; client = None; is_started = true; is_open = true } ∷ record { id = 2; client = None; is_started = false; is_open = true } ∷ [];
      sessions = record { id = receiver; mode = Auto; is_open = true } ∷ record { id = publisher; mode = Auto; is_open = true } ∷ [];
    };
    consumers = record { session = receiver; id = 1; key = Own receiver 1; selector = None; is_active = true; is_listening = false; is_busy = false } ∷ [];
    stations = record { key = Own receiver 1; definition = definition; missed = 0; rows = rows } ∷ [];
    queues = λ name. [];
    next_place = n + 1;
  };
  sent = sent_after n;
  kept = λ s. [];
}

-- the run at its calls, one after another
turn : (p q : Progress) (call : ClientCall) (calls : List ClientCall) (r : Result Answer Refusal) (rs : List (Result Answer Refusal)) →
    reply_to p call ≡ r → progress_to p call ≡ q → replies_to q calls ≡ rs → replies_to p (call ∷ calls) ≡ r ∷ rs
turn p q call calls r rs e f g = ap (λ x. x ∷ replies_to (progress_to p call) calls) e ∙ ap (λ (x : Progress). r ∷ replies_to x calls) f ∙ ap (λ xs. r ∷ xs) g

-- how far the run has come with its sessions, and the reply to a creating call, and what it leaves
abbrev begins : Progress
begins = record {
  state = record {
    opening = 1;
    limit = 100000;
    life = (holding positive_definition [] 0).state.life;
    consumers = [];
    stations = [];
    queues = λ name. [];
    next_place = 1;
  };
  sent = λ s. 0;
  kept = λ s. [];
}

begins_with : (calls : List ClientCall) → replies_to new_run (sessions ++ calls) ≡ opened ++ replies_to begins calls
unfolding life_after refusal after_call answer reply step reply_to progress_to
begins_with calls = refl

made : reply_to begins (selecting 1 positive) ≡ ok
unfolding refusal answer reply reply_to
made = ap (λ (o : Option Refusal). replied o Done) positive_allowed

makes : progress_to begins (selecting 1 positive) ≡ holding positive_definition [] 0
unfolding refusal after_call step progress_to
makes =
    ap (λ (o : Option Refusal). record begins { state = moved o (record (holding (defined topic (Some positive) false false) [] 0).state { opening = 1 }) begins.state }) positive_allowed
    ∙ ap (λ (d : Definition). holding d [] 0) positive_defined

-- what a send leaves, by whether it is accepted
abbrev after_send : Settings → List PlacedRow → ℕ → Bool → Progress
after_send draft rows n b = holding positive_definition (if b then rows ++ placed draft (n + 1) ∷ [] else rows) (n + 1)

choose : (b : Bool) (draft : Settings) (rows : List PlacedRow) (n : ℕ) →
    record (holding positive_definition rows (n + 1)) { state = record (holding positive_definition rows (n + 1)).state { stations = cond b (record { key = Own receiver 1; definition = positive_definition; missed = 0; rows = rows ++ placed draft (n + 1) ∷ [] }) (record { key = Own receiver 1; definition = positive_definition; missed = 0; rows = rows }) ∷ [] } }
    ≡ after_send draft rows n b
choose true draft rows n = refl
choose false draft rows n = refl

sends_one : progress_to (holding positive_definition [] 0) (send 1000 (with_x (pos 1) 97)) ≡ holding positive_definition one 1
unfolding published publish_refusal step progress_to
sends_one = choose _ (with_x (pos 1) 97) [] 0 ∙ ap (after_send (with_x (pos 1) 97) [] 0) accepts_one

sends_zero : progress_to (holding positive_definition one 1) (send 1000 (with_x (pos 0) 98)) ≡ holding positive_definition one 2
unfolding published publish_refusal step progress_to
sends_zero = choose _ (with_x (pos 0) 98) one 1 ∙ ap (after_send (with_x (pos 0) 98) one 1) rejects_zero

sends_none : progress_to (holding positive_definition one 2) (send 1000 (text_of 99)) ≡ holding positive_definition one 3
unfolding published publish_refusal step progress_to
sends_none = choose _ (text_of 99) one 2 ∙ ap (after_send (text_of 99) one 2) rejects_none

receives : replies_to (holding positive_definition one 3) (receive 1 1000 ∷ receive 1 1000 ∷ []) ≡ got (with_x (pos 1) 97) 1 1000 1 ∷ none ∷ []
unfolding is_next left_of refusal after_call answer reply step reply_to progress_to
receives = refl

-- what is received, and the replies from each send on
abbrev received : List (Result Answer Refusal)
received = got (with_x (pos 1) 97) 1 1000 1 ∷ none ∷ []

from_third : replies_to (holding positive_definition one 2) (send 1000 (text_of 99) ∷ receiving) ≡ Ok (Sent 3) ∷ received
unfolding publish_refusal reply_to
from_third = turn _ (holding positive_definition one 3) (send 1000 (text_of 99)) receiving _ _ refl sends_none receives

from_second : replies_to (holding positive_definition one 1) (send 1000 (with_x (pos 0) 98) ∷ send 1000 (text_of 99) ∷ receiving) ≡ Ok (Sent 2) ∷ Ok (Sent 3) ∷ received
unfolding publish_refusal reply_to
from_second = turn _ (holding positive_definition one 2) (send 1000 (with_x (pos 0) 98)) (send 1000 (text_of 99) ∷ receiving) _ _ refl sends_zero from_third

from_first : replies_to (holding positive_definition [] 0) (sending) ≡ Ok (Sent 1) ∷ Ok (Sent 2) ∷ Ok (Sent 3) ∷ received
unfolding publish_refusal reply_to
from_first = turn _ (holding positive_definition one 1) (send 1000 (with_x (pos 1) 97)) (send 1000 (with_x (pos 0) 98) ∷ send 1000 (text_of 99) ∷ receiving) _ _ refl sends_one from_second

pub selected_run : replies_to new_run selected_calls ≡ selected_replies
selected_run =
    begins_with (selecting 1 positive ∷ sending) ∙ ap (λ (rs : List (Result Answer Refusal)). opened ++ rs) (turn begins (holding positive_definition [] 0) (selecting 1 positive) sending _ _ made makes from_first)

-- a refused text leaves the number of the consumer free, and of two causes the first is told
abbrev refused_calls : List ClientCall
refused_calls = sessions ++ selecting 1 (codes "x = ") ∷ Ask (Session receiver) (CreateConsumer 1 (Topic topic) None false) ∷ selecting 1 (codes "x = ") ∷ []

abbrev refused_replies : List (Result Answer Refusal)
refused_replies = opened ++ Err (InvalidSelector 4 Expected) ∷ ok ∷ Err IllegalState ∷ []

-- what the consumer's subscription answers alone
pub refused_alone : alone (Own receiver 1) (new_core 1 100000) (entries_of 1 refused_calls refused_replies) ≡ (5, Err (InvalidSelector 4 Expected)) ∷ (6, ok) ∷ (7, Err IllegalState) ∷ []
unfolding life_after own_life selector_refusal accepts published refusal publish_refusal after_call answer reply step reply_to progress_to life_after_entry committed lone_of lone_did is_answered feed
refused_alone = rw cut_short refl

pub refused_run : replies_to new_run refused_calls ≡ refused_replies
unfolding life_after selector_refusal refusal after_call answer reply step reply_to progress_to
refused_run = rw cut_short refl

-- a text without tokens is no selector
pub blank_is_none : defined topic (Some (codes " ")) ≡ defined topic None
unfolding lex_from tokens parsed defined
blank_is_none = refl
