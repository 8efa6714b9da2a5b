-- The numbers by which each call refuses, in the order of its checks, and the places that they are given at.
use Rattle.std.specs.Prelude.{◌≡◌, List, [], ◌∷◌, ℕ, ◌≤◌}
use Rattle.basics.specs.Basics.{◌∈◌}
use Rattle.basics.specs.Refusals.{Refusal, file_length, name_too_high, pair_again, twig_length, twig_parent, twig_edge, name_asked, twig_end, no_record, not_in_clue, too_deep, no_number, no_space, root_stays, not_label, empty_clue, short_output, store_size, bad_layout, bad_stream, bad_root, bad_table, bad_order, bad_name, bad_next}
use Rattle.book.specs.Book.{Call, entry, deletion}

-- the numbers of reading a child-name file: 1, 2, 3
unfoldable pub file_numbers : List ℕ
file_numbers = file_length ∷ name_too_high ∷ pair_again ∷ []

-- the numbers of decoding: 22, 21, 15, 16
unfoldable pub decoding_numbers : List ℕ
decoding_numbers = bad_table ∷ bad_root ∷ not_label ∷ empty_clue ∷ []

-- the number of kinship and follows: 15
unfoldable pub label_numbers : List ℕ
label_numbers = not_label ∷ []

-- the numbers of a new store: 18, 21
unfoldable pub new_store_numbers : List ℕ
new_store_numbers = store_size ∷ bad_root ∷ []

-- the numbers of an entry: 22, 18, 19, 23 to 25, 15, 9, 10, 11, 12, 13
unfoldable pub entry_numbers : List ℕ
entry_numbers =
    bad_table ∷ store_size ∷ bad_layout ∷ bad_order ∷ bad_name ∷ bad_next ∷ not_label ∷ no_record ∷ not_in_clue ∷ too_deep ∷ no_number ∷ no_space ∷ []

-- the numbers of a deletion: 22, 18, 19, 23 to 25, 15, 14, 9
unfoldable pub deletion_numbers : List ℕ
deletion_numbers = bad_table ∷ store_size ∷ bad_layout ∷ bad_order ∷ bad_name ∷ bad_next ∷ not_label ∷ root_stays ∷ no_record ∷ []

-- the numbers of a call of a run, an entry or a deletion: its own, but for 22, 19 and 23 to 25
unfoldable pub run_numbers : Call → List ℕ
run_numbers (entry new) = store_size ∷ not_label ∷ no_record ∷ not_in_clue ∷ too_deep ∷ no_number ∷ no_space ∷ []
run_numbers (deletion label) = store_size ∷ not_label ∷ root_stays ∷ no_record ∷ []

-- the numbers of cutting: 22, 18, 19, 23 to 25, 7, 17
unfoldable pub cut_numbers : List ℕ
cut_numbers = bad_table ∷ store_size ∷ bad_layout ∷ bad_order ∷ bad_name ∷ bad_next ∷ name_asked ∷ short_output ∷ []

-- the numbers of matching: 22, 21, 4 to 8, 20, 17
unfoldable pub match_numbers : List ℕ
match_numbers = bad_table ∷ bad_root ∷ twig_length ∷ twig_parent ∷ twig_edge ∷ name_asked ∷ twig_end ∷ bad_stream ∷ short_output ∷ []

-- the numbers of the program: 1 to 3, 18, 19, 23 to 25, 4 to 8, 17
unfoldable pub print_numbers : List ℕ
print_numbers =
    file_length ∷ name_too_high ∷ pair_again ∷ store_size ∷ bad_layout ∷ bad_order ∷ bad_name ∷ bad_next ∷
    twig_length ∷ twig_parent ∷ twig_edge ∷ name_asked ∷ twig_end ∷ short_output ∷ []

-- the numbers given at a pair, a node, a record, a label or a component: 2, 3, 5 to 8, 16, 19, 20, 23 to 25
unfoldable pub placed_numbers : List ℕ
placed_numbers =
    name_too_high ∷ pair_again ∷ twig_parent ∷ twig_edge ∷ name_asked ∷ twig_end ∷ empty_clue ∷ bad_layout ∷ bad_stream ∷ bad_order ∷ bad_name ∷ bad_next ∷ []

-- a refusal by one of a call's numbers: at 0 where the number tells no place, at a component from 1 on where it is 16
pub record RefusedBy (numbers : List ℕ) (r : Refusal) : Type 0 where
  pub listed : r.number ∈ numbers
  pub at_zero : (r.number ∈ placed_numbers → ⊥) → r.place ≡ 0
  pub from_one : r.number ≡ empty_clue → 1 ≤ r.place
