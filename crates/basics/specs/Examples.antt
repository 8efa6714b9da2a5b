-- What an example is, the examples of lists and outputs, and the numbers that document 01 fixes.
use Rattle.std.specs.Prelude.{◌≡◌, List, [], ◌∷◌, map, ℕ}
use Rattle.std.proofs.Math.Option.{Option, none, some}
use Rattle.basics.specs.Basics.{joined, total}
use Rattle.basics.specs.Limits.{filler, max_name, no_parent, record_size, table_size, max_file, max_component, max_depth, any_name, max_records, label_size, node_size, max_twig, max_bytes, name_word, next_word, payload_word}
use Rattle.basics.specs.Refusals.{Refusal, Reply, value, refused, refuse, reply, file_length, name_too_high, pair_again, twig_length, twig_parent, twig_edge, name_asked, twig_end, no_record, not_in_clue, too_deep, no_number, no_space, root_stays, not_label, empty_clue, short_output, store_size, bad_layout, bad_stream, bad_root, bad_table, bad_order, bad_name, bad_next}
use Rattle.basics.specs.Outputs.{room_check}

-- a refusal as its number and place
unfoldable pub shown : Option Refusal → List ℕ
shown none = []
shown (some r) = r.number ∷ r.place ∷ []

-- a reply as its value
unfoldable pub told : Reply ℕ → List ℕ
told (value n) = n ∷ []
told (refused r) = []

-- a check: what the definitions give, and what the paper says
pub record Check : Type 0 where
  pub computed : List ℕ
  pub expected : List ℕ

-- the check that the first list given is the second
abbrev pub is : List ℕ → List ℕ → Check
is a b = record { computed = a; expected = b }

-- checks hold: the definitions give what the paper says
abbrev pub Hold : List Check → Type 0
Hold cs = map (λ c. c.computed) cs ≡ map (λ c. c.expected) cs

-- the examples of lists and outputs
unfoldable pub basic_checks : List Check
basic_checks =
    -- lists stand one after the other, and every number counts
    is (joined ((1 ∷ 2 ∷ []) ∷ (3 ∷ []) ∷ [])) (1 ∷ 2 ∷ 3 ∷ [])
    ∷ is (total (1 ∷ 2 ∷ []) ∷ []) (3 ∷ [])
    -- a call that no check refuses answers its value, a refused one none
    ∷ is (told (reply none 5)) (5 ∷ [])
    ∷ is (told (reply (refuse not_label 0) 5)) []
    -- an output holds as many words as it is long
    ∷ is (shown (room_check (8 ∷ []) (7 ∷ []))) []
    ∷ is (shown (room_check (8 ∷ 9 ∷ []) (7 ∷ []))) (17 ∷ 0 ∷ [])
    ∷ []

-- the limits that the paper fixes, in the order of their definitions
unfoldable pub limits : List ℕ
limits =
    max_name ∷ table_size ∷ filler ∷ max_file ∷ max_component ∷ max_depth ∷ max_records ∷ label_size ∷
    record_size ∷ name_word ∷ next_word ∷ payload_word ∷ node_size ∷ max_twig ∷ any_name ∷ no_parent ∷ max_bytes ∷ []

-- the numbers of the refusals, in the order of their definitions
unfoldable pub numbers : List ℕ
numbers =
    file_length ∷ name_too_high ∷ pair_again ∷ twig_length ∷ twig_parent ∷ twig_edge ∷ name_asked ∷ twig_end ∷
    no_record ∷ not_in_clue ∷ too_deep ∷ no_number ∷ no_space ∷
    root_stays ∷ not_label ∷ empty_clue ∷ short_output ∷ store_size ∷ bad_layout ∷ bad_stream ∷ bad_root ∷ bad_table ∷
    bad_order ∷ bad_name ∷ bad_next ∷ []
