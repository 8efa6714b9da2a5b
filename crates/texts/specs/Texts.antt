-- The matches that words hold, and the room that their text needs.
use Rattle.std.specs.Prelude.{List, [], ◌∷◌, ◌++◌, ℕ, zero, suc, ◌*◌, ◌<◌, ◌≤◌, get_or, drop}
use Rattle.basics.specs.Limits.{max_depth, label_size}
use Rattle.embeddings.specs.Matches.{Match}
use Rattle.match_calls.specs.Matching.{labels_in}
use Rattle.printouts.specs.Printing.{text, decimal}

-- a line with a number
abbrev pub number_line : ℕ → List ℕ
number_line n = decimal n ++ text "\n"

-- the matches that words hold, k labels each
unfoldable pub matches_in : ℕ → ℕ → List ℕ → List Match
matches_in k zero ws = []
matches_in k (suc n) ws = labels_in k ws ∷ matches_in k n (drop (label_size * k) ws)

-- each of the first n labels of words has a depth of at most 15
abbrev pub LabelDepths : ℕ → List ℕ → Type 0
LabelDepths n ws = (i : ℕ) → i < n → get_or ws (label_size * i) 0 ≤ max_depth

-- the most bytes of a label and of what parts it from the next: fifteen components of five digits, a byte behind each
abbrev pub label_room : ℕ
label_room = 90

-- the most bytes of the line of a count: twenty digits and a newline
abbrev pub count_room : ℕ
count_room = 21

-- bytes enough for a refusal
abbrev pub refusal_room : ℕ
refusal_room = 64
