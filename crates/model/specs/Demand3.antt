-- Demand 3, sentence by sentence beside the paper's section "The book beside the store".
use Rattle.std.specs.Prelude.{◌≡◌, ◌↔◌, List, [], ◌∷◌, ◌++◌, map, ℕ, ◌+◌, ◌-◌, ◌*◌, ◌≤◌, ◌<◌, length, get_or, take, replicate, T}
use Rattle.std.proofs.Math.Option.{none, some}
use Rattle.basics.specs.Basics.{◌∈◌, joined, last, over, Ascending}
use Rattle.basics.specs.Limits.{record_size}
use Rattle.basics.specs.Refusals.{Refusal}
use Rattle.naming.specs.Names.{Table, clues_of, place_in, table_check}
use Rattle.labelling.specs.Numbers.{Least}
use Rattle.labelling.specs.Labels.{Label, within, same, label_of, label_words, names_in, decode, path, decode_call}
use Rattle.patterns.specs.Twigs.{Twig, read_twig, twig_check, name_check, wanted, leaf_names}
use Rattle.embeddings.specs.Matches.{Match, earlier, labels_words, match_words, less}
use Rattle.storage.specs.Store.{size_check, sound_check}
use Rattle.store_calls.specs.Updates.{given, new_store}
use Rattle.basics.specs.Outputs.{Listing}
use Rattle.cut_calls.specs.Cutting.{stream, cut, Cuts, full_list, cut_words}
use Rattle.match_calls.specs.Matching.{match_call}
use Rattle.book.specs.Book.{Line, Book, NewElement, Call, entry, deletion, line_element, line_at, sooner, in_order, book_elements, book_words, book_refusal, book_after, child_line, answer, Run, root_line}
use Rattle.book.specs.RefusedCalls.{RefusalHolds}
use Rattle.model.specs.Trees.{Embedding}
use Rattle.model.specs.RefusedBy.{RefusedBy, run_numbers}

-- What holds after a list of calls.
pub record Held (rows : Table) (root : ℕ) (w : List ℕ) (n : ℕ) (b : Book) (g : List Label) : Type 0 where
  -- the count is the number of lines
  pub counted : n ≡ length b
  -- the records in use are the lines in label order
  pub laid : w ≡ book_words b
  pub ordered : Ascending sooner (in_order b)
  pub same_lines : (x : Line) → x ∈ in_order b ↔ x ∈ b
  -- the records in use are sound, in whatever slice they stand: none breaks a rule, which 19, 23, 24 and 25 are for
  pub sound : (slice : List ℕ) → take (record_size * n) slice ≡ w → sound_check (clues_of rows) n slice ≡ none
  -- no label was given out twice
  pub once : (i j : ℕ) → i < j → j < length g → get_or g i [] ≡ get_or g j [] → ⊥
  -- the labels of the lines were given out
  pub given_lines : (x : Line) → x ∈ b → x.label ∈ g
  -- a line's label decodes to its path
  pub paths : (x : Line) → x ∈ b → decode (clues_of rows) root x.label ≡ path x.names
  -- a line's path has one name more than its label has components
  pub depths : (x : Line) → x ∈ b → length x.names ≡ length x.label + 1
  -- decoding a line's label, as a call, answers its path
  pub decodes : (x : Line) → x ∈ b → decode_call rows root (label_words x.label) ≡ record { refusal = none; names = names_in (path x.names) }
  -- cutting from the slice, with room enough, gives the line labels that a name asks for
  pub cutting :
      (slice : List ℕ) → take (record_size * n) slice ≡ w → size_check (length slice) n ≡ none → (want : ℕ) → name_check want 0 ≡ none →
      (out : List ℕ) → length (labels_words (stream want (book_elements b))) ≤ length out →
      cut rows slice n want out ≡
      record { refusal = none; count = length (stream want (book_elements b)); output = over (labels_words (stream want (book_elements b))) out }
  -- the full list is strictly ascending
  pub ascending : (t : Twig) → Ascending earlier (full_list (clues_of rows) root t (book_elements b))
  -- the full list holds the embeddings into the tree of living elements, and nothing else
  pub embeddings :
      (bytes : List ℕ) → twig_check bytes ≡ none → (m : Match) →
      m ∈ full_list (clues_of rows) root (read_twig bytes) (book_elements b) ↔ Embedding (read_twig bytes) (book_elements b) m
  -- streams cut from the slice and matched with room enough give the full list
  pub matching :
      (slice : List ℕ) → take (record_size * n) slice ≡ w → (bytes : List ℕ) → twig_check bytes ≡ none →
      (cuts : List Listing) → Cuts rows slice n (leaf_names (wanted (read_twig bytes))) cuts →
      (out : List ℕ) → length (match_words (full_list (clues_of rows) root (read_twig bytes) (book_elements b))) ≤ length out →
      match_call rows root bytes (map (λ a. a.count) cuts) (joined (map cut_words cuts)) out ≡
      record {
        refusal = none;
        count = length (full_list (clues_of rows) root (read_twig bytes) (book_elements b));
        output = over (match_words (full_list (clues_of rows) root (read_twig bytes) (book_elements b))) out;
      }

-- What holds of an accepted entry: b is the book before it, after the book after it.
pub record EntryHolds (rows : Table) (root n : ℕ) (b after : Book) (slice : List ℕ) (new : NewElement) : Type 0 where
  -- the parent's line stands
  pub parent : Line
  pub found : line_at (label_of new.parent) b ≡ some parent
  pub parent_label : parent.label ≡ label_of new.parent
  -- the name's place in the parent's clue
  pub place : ℕ
  pub placed : place_in new.name (clues_of rows (last parent.names)) ≡ some place
  -- The number given: the least that is at least the parent's next number
  -- and leaves the place when divided by the clue's length.
  pub num : ℕ
  pub numbered : num ≡ given (clues_of rows) (line_element parent) new.name
  pub least : Least (length (clues_of rows (last parent.names))) place parent.next num
  -- the new line stands in the book, and the entry answered its label
  pub added : child_line parent num new ∈ after
  pub answered : (answer rows slice n (entry new)).label ≡ label_words (parent.label ++ (num ∷ []))
  -- the new label decodes to the parent's path followed by the name
  pub new_path : decode (clues_of rows) root (parent.label ++ (num ∷ [])) ≡ path (parent.names ++ (new.name ∷ []))
  -- decoding the label answered, as a call, answers the parent's path followed by the name
  pub decoded :
      decode_call rows root (answer rows slice n (entry new)).label ≡
      record { refusal = none; names = names_in (path (parent.names ++ (new.name ∷ []))) }
  -- of the parent's line only the next number changes
  pub parent_moved :
      record { label = parent.label; names = parent.names; next = num + 1; payload0 = parent.payload0; payload1 = parent.payload1 } ∈ after
  -- every other line stays as it was, and the book has one line more
  pub others_stay : (x : Line) → x ∈ b → (x.label ≡ label_of new.parent → ⊥) → x ∈ after
  pub one_more : length after ≡ length b + 1
  -- the count answered is the number of lines
  pub counted : (answer rows slice n (entry new)).count ≡ length after
  -- every word of the slice: the records of the book after the entry, then what stood there
  pub words : (answer rows slice n (entry new)).slice ≡ over (book_words after) slice
  -- the list of matches after the entry, less those that give a node of the twig the new label, is the list before it
  pub matched :
      (bytes : List ℕ) → twig_check bytes ≡ none →
      less (same (parent.label ++ (num ∷ []))) (full_list (clues_of rows) root (read_twig bytes) (book_elements after)) ≡
      full_list (clues_of rows) root (read_twig bytes) (book_elements b)

-- What holds of an accepted deletion.
pub record DeletionHolds (rows : Table) (root n : ℕ) (b after : Book) (slice lw : List ℕ) : Type 0 where
  -- a line with the label stood
  pub struck_line : Line
  pub found : line_at (label_of lw) b ≡ some struck_line
  -- the lines whose label is the one handed in or begins with it are struck, every other line stays as it was
  pub stays : (x : Line) → x ∈ after ↔ (x ∈ b × (T (within (label_of lw) x.label) → ⊥))
  -- the count answered is the number of lines
  pub counted : (answer rows slice n (deletion lw)).count ≡ length after
  -- every word of the slice: the records of the book after the deletion, zeros in those freed, then what stood there
  pub words : (answer rows slice n (deletion lw)).slice ≡ over (book_words after ++ replicate (record_size * (n - length after)) 0) slice
  -- the list of matches before the deletion, less those that give a node of the twig a struck label,
  -- is the list after it
  pub matched :
      (bytes : List ℕ) → twig_check bytes ≡ none →
      less (within (label_of lw)) (full_list (clues_of rows) root (read_twig bytes) (book_elements b)) ≡
      full_list (clues_of rows) root (read_twig bytes) (book_elements after)

-- what holds of an accepted call
abbrev pub Accepted : Table → ℕ → ℕ → Book → Book → List ℕ → Call → Type 0
Accepted rows root n b after slice (entry new) = EntryHolds rows root n b after slice new
Accepted rows root n b after slice (deletion lw) = DeletionHolds rows root n b after slice lw

-- What holds of the call that comes next.
pub record Next (rows : Table) (root n : ℕ) (b : Book) (slice : List ℕ) (c : Call) : Type 0 where
  -- the call is refused exactly where the book refuses it, by the same number and place
  pub refused_alike : (answer rows slice n c).refusal ≡ book_refusal (clues_of rows) b (length slice) c
  -- a refusal is by none of 22, 19, 23, 24 and 25: the table is an accepted one, and the records are sound
  pub refused_by : (r : Refusal) → (answer rows slice n c).refusal ≡ some r → RefusedBy (run_numbers c) r
  pub refused : (r : Refusal) → (answer rows slice n c).refusal ≡ some r → RefusalHolds rows n b (book_after (clues_of rows) b (length slice) c) slice c
  pub accepted : (answer rows slice n c).refusal ≡ none → Accepted rows root n b (book_after (clues_of rows) b (length slice) c) slice c

-- Demand 3: one claim about the whole list of entries and deletions.
pub record Demand3 : Type 0 where
  -- a list of calls starts at an accepted new store, which opens the book and leaves its record
  pub opening :
      (slice : List ℕ) (root p0 p1 : ℕ) → (new_store slice root p0 p1).refusal ≡ none →
      new_store slice root p0 p1 ≡ record { refusal = none; count = 1; label = []; slice = over (book_words (root_line root p0 p1 ∷ [])) slice }
  -- what holds after a list of calls, under an accepted table
  pub held :
      (rows : Table) → table_check rows ≡ none → (root : ℕ) (w : List ℕ) (n : ℕ) (b : Book) (g : List Label) → Run rows root w n b g →
      Held rows root w n b g
  -- what holds of the call that comes next, in a slice of any length that holds the records
  pub next :
      (rows : Table) → table_check rows ≡ none → (root : ℕ) (w : List ℕ) (n : ℕ) (b : Book) (g : List Label) → Run rows root w n b g →
      (slice : List ℕ) (c : Call) → take (record_size * n) slice ≡ w → Next rows root n b slice c
