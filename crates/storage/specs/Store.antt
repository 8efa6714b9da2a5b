-- The store: records of twenty words in label order, and which of them are sound.
use Rattle.std.specs.Prelude.{Bool, true, false, cond, ◌&&◌, ◌||◌, not, List, [], ◌∷◌, ◌++◌, map, ℕ, zero, suc, ◌*◌, ◌%◌, ◌+◌, length, get_or, take, drop, ltb, leb, eqb}
use Rattle.std.proofs.Math.Option.{Option, none, some}
use Rattle.basics.specs.Basics.{elim?, last, joined}
use Rattle.basics.specs.Limits.{max_depth, max_records, label_size, record_size, name_word, next_word, payload_word}
use Rattle.basics.specs.Refusals.{Refusal, refuse, check, store_size, bad_layout, bad_order, bad_name, bad_next}
use Rattle.naming.specs.Names.{Clues, led, is_name}
use Rattle.labelling.specs.Labels.{Label, before, same, above, label_of, label_words, is_label}

-- an element: its label, its name, its next number f and two payload words that nothing here reads
pub record Element : Type 0 where
  pub label : Label
  pub name : ℕ
  pub next : ℕ
  pub payload0 : ℕ
  pub payload1 : ℕ

-- the order of elements by their labels
abbrev pub ahead : Element → Element → Bool
ahead e f = before e.label f.label

-- the record of an element: word 0 the depth, words 1 to 15 the components,
-- word 16 the name, word 17 f, words 18 and 19 the payload
unfoldable pub element_words : Element → List ℕ
element_words e = label_words e.label ++ (e.name ∷ e.next ∷ e.payload0 ∷ e.payload1 ∷ [])

-- the records of a list of elements, one after the other
unfoldable pub store_words : List Element → List ℕ
store_words es = joined (map element_words es)

-- the element that a record stands for
unfoldable pub read_element : List ℕ → Element
read_element ws = record {
  label = label_of ws;
  name = get_or ws name_word 0;
  next = get_or ws next_word 0;
  payload0 = get_or ws payload_word 0;
  payload1 = get_or ws (payload_word + 1) 0;
}

-- the root's name, which is record 0's
unfoldable pub root_of : List ℕ → ℕ
root_of ws = (read_element (take record_size ws)).name

-- the first `count` records of a slice
unfoldable pub records : ℕ → List ℕ → List (List ℕ)
records zero ws = []
records (suc c) ws = take record_size ws ∷ records c (drop record_size ws)

-- the elements of the first `count` records of a slice
unfoldable pub elements : ℕ → List ℕ → List Element
elements c ws = map read_element (records c ws)

-- the element with a label, if one has it
unfoldable pub find : Label → List Element → Option Element
find l [] = none
find l (e ∷ es) = cond (same e.label l) (some e) (find l es)

-- the element with a label, or the empty element, which only a refused call reads
unfoldable pub element_at : Label → List Element → Element
element_at l es = elim? (find l es) (record { label = []; name = 0; next = 0; payload0 = 0; payload1 = 0 }) (λ e. e)

-- whether a number is a slice's length: a multiple of 20, not 0
unfoldable pub is_slice : ℕ → Bool
is_slice len = eqb (len % record_size) 0 && ltb 0 len

-- the check of a slice's length and a count, which refuses by 18: a count is not 0, nor over the slice or 4,096
unfoldable pub size_check : ℕ → ℕ → Option Refusal
size_check len count = check (is_slice len && ltb 0 count && leb (record_size * count) len && leb count max_records) store_size 0

-- the rules of a sound record, in order
pub data Rule : Type 0 where
  layout_rule order_rule parent_rule name_rule last_rule next_rule : Rule

-- one test in a list of rules: a rule whose test fails is the one broken, and else the rest decides
unfoldable pub test : Bool → Rule → Option Rule → Option Rule
test true r o = o
test false r o = some r

-- whether a record is laid out as a label: depth at most 15, used components at most 65,534, unused ones 0
unfoldable pub laid_out : List ℕ → Bool
laid_out ws = is_label (take label_size ws)

-- whether a component leads from a clue to a name
unfoldable pub leads : List ℕ → ℕ → ℕ → Bool
leads clue x name = elim? (led clue x) false (λ c. eqb c name)

-- whether an element's own f is 0 if its clue is empty or its depth is 15
unfoldable pub closed : Clues → Element → Bool
closed cl e = not (eqb (length (cl e.name)) 0 || eqb (length e.label) max_depth) || eqb e.next 0

-- the first rule that a record breaks, after the elements before it, the previous one first
unfoldable pub broken : Clues → List Element → List ℕ → Option Rule
broken cl [] ws =
    let e = read_element ws in
    test (laid_out ws && eqb (get_or ws 0 0) 0) layout_rule (test (is_name e.name) name_rule (test (closed cl e) next_rule none))
broken cl (previous ∷ done) ws =
    let e = read_element ws in
    test (laid_out ws && ltb 0 (get_or ws 0 0)) layout_rule
    (test (before previous.label e.label) order_rule
    (elim? (find (above e.label) (previous ∷ done)) (some parent_rule) (λ p.
    test (leads (cl p.name) (last e.label) e.name) name_rule
    (test (ltb (last e.label) p.next) last_rule (test (closed cl e) next_rule none)))))

-- a record that is not sound: its place, and the rule that it breaks
pub record Fault : Type 0 where
  pub place : ℕ
  pub rule : Rule

-- the first record that breaks a rule, read from the front, after the elements before it
unfoldable pub fault : Clues → List Element → List (List ℕ) → Option Fault
fault cl done [] = none
fault cl done (r ∷ rs) = elim? (broken cl done r) (fault cl (read_element r ∷ done) rs) (λ b. some (record { place = length done; rule = b }))

-- the number of each rule: 19 the layout, 23 order and parent, 24 the name, 25 both rules on the next number
unfoldable pub number_of : Rule → ℕ
number_of layout_rule = bad_layout
number_of order_rule = bad_order
number_of parent_rule = bad_order
number_of name_rule = bad_name
number_of last_rule = bad_next
number_of next_rule = bad_next

-- the check of the records in use, which refuses at the first record that breaks a rule, by the first rule's number
unfoldable pub sound_check : Clues → ℕ → List ℕ → Option Refusal
sound_check cl count ws = elim? (fault cl [] (records count ws)) none (λ f. refuse (number_of f.rule) f.place)
