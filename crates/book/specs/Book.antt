-- The book beside the store: it is fed each call's arguments and, of the store, only the slice's length;
-- nothing that a call answers or writes.
use Rattle.std.specs.Prelude.{◌≡◌, Bool, cond, not, List, [], ◌∷◌, ◌++◌, map, ℕ, ◌+◌, ◌*◌, length, take}
use Rattle.std.proofs.Math.Option
use Rattle.std.proofs.Math.Option.{Option, none, some}
use Rattle.basics.specs.Basics.{elim?, keep, last}
use Rattle.basics.specs.Limits.{record_size}
use Rattle.basics.specs.Refusals.{Refusal, first}
use Rattle.naming.specs.Names.{Table, Clues, clues_of}
use Rattle.labelling.specs.Labels.{Label, before, within, same, label_of, label_check}
use Rattle.patterns.specs.Twigs.{child_edge}
use Rattle.embeddings.specs.Matches.{holds}
use Rattle.storage.specs.Store.{Element, store_words, size_check}
use Rattle.store_calls.specs.Updates.{Answer, parent_check, space_check, root_stays_check, found_check, given, new_store, enter, delete}

-- a line: a label, a path, a next number and two payload words
pub record Line : Type 0 where
  pub label : Label
  pub names : List ℕ
  pub next : ℕ
  pub payload0 : ℕ
  pub payload1 : ℕ

-- a book is its lines, the newest first
abbrev pub Book : Type 0
Book = List Line

-- the element that a line stands for, whose name is the path's last
unfoldable pub line_element : Line → Element
line_element x = record { label = x.label; name = last x.names; next = x.next; payload0 = x.payload0; payload1 = x.payload1 }

-- the line of a book with a label, if one has it
unfoldable pub line_at : Label → Book → Option Line
line_at l [] = none
line_at l (x ∷ xs) = cond (same x.label l) (some x) (line_at l xs)

-- what an entry is handed: the words of the parent's label, the new element's name and its two payload words
pub record NewElement : Type 0 where
  pub parent : List ℕ
  pub name : ℕ
  pub payload0 : ℕ
  pub payload1 : ℕ

-- an entry or a deletion, with its arguments
pub data Call : Type 0 where
  entry : NewElement → Call
  deletion : (label : List ℕ) → Call

-- The book's refusal of a call, the lines standing for the records in use.
-- 22, 19 and 23 to 25 are missing: the table is an accepted one, and that the records are always sound is proved.
unfoldable pub book_refusal : Clues → Book → ℕ → Call → Option Refusal
book_refusal cl b len (entry new) =
    first
    (size_check len (length b)
    ∷ label_check new.parent
    ∷ parent_check cl (Option.map line_element (line_at (label_of new.parent) b)) new.name
    ∷ space_check len (length b)
    ∷ [])
book_refusal cl b len (deletion lw) =
    first
    (size_check len (length b)
    ∷ label_check lw
    ∷ root_stays_check (label_of lw)
    ∷ found_check (line_at (label_of lw) b)
    ∷ [])

-- the line that opens the book: the empty label, the root's name as its path, the next number 0, the payload
abbrev pub root_line : ℕ → ℕ → ℕ → Line
root_line root p0 p1 = record { label = []; names = root ∷ []; next = 0; payload0 = p0; payload1 = p1 }

-- The line that an entry adds: the parent's label followed by the number given,
-- the parent's path followed by the name, the next number 0, the payload.
abbrev pub child_line : Line → ℕ → NewElement → Line
child_line x num new = record {
  label = x.label ++ (num ∷ []);
  names = x.names ++ (new.name ∷ []);
  next = 0;
  payload0 = new.payload0;
  payload1 = new.payload1;
}

-- a line, its next number moved to f where it has the label l, and else as it was
unfoldable pub moved : Label → ℕ → Line → Line
moved l f x = record {
  label = x.label;
  names = x.names;
  next = cond (same x.label l) f x.next;
  payload0 = x.payload0;
  payload1 = x.payload1;
}

-- the book after an entry below the line x that is given the number num
abbrev pub entry_book : Book → Line → ℕ → NewElement → Book
entry_book b x num new = child_line x num new ∷ map (moved x.label (num + 1)) b

-- the book after the lines are struck whose label is the one handed in or begins with it
unfoldable pub struck : Label → Book → Book
struck l = keep (λ x. not (within l x.label))

-- the book after an accepted call
unfoldable pub written_book : Clues → Book → Call → Book
written_book cl b (entry new) = elim? (line_at (label_of new.parent) b) b (λ x. entry_book b x (given cl (line_element x) new.name) new)
written_book cl b (deletion lw) = struck (label_of lw) b

-- the book after a call: a refused call writes nothing
unfoldable pub book_after : Clues → Book → ℕ → Call → Book
book_after cl b len c = elim? (book_refusal cl b len c) (written_book cl b c) (λ r. b)

-- the order of lines by their labels
abbrev pub sooner : Line → Line → Bool
sooner x y = before x.label y.label

-- a line put into lines in label order, before the first that comes after it
unfoldable pub insert_line : Line → Book → Book
insert_line x [] = x ∷ []
insert_line x (y ∷ ys) = cond (sooner x y) (x ∷ (y ∷ ys)) (y ∷ insert_line x ys)

-- the lines of a book in label order
unfoldable pub in_order : Book → Book
in_order [] = []
in_order (x ∷ xs) = insert_line x (in_order xs)

-- the elements of a book, in label order
abbrev pub book_elements : Book → List Element
book_elements b = map line_element (in_order b)

-- the records in use as the book has them: those of its lines in label order
unfoldable pub book_words : Book → List ℕ
book_words b = store_words (book_elements b)

-- a call as it runs, on the slice that it is lent
unfoldable pub answer : Table → List ℕ → ℕ → Call → Answer
answer rows slice count (entry new) = enter rows slice count new.parent new.name new.payload0 new.payload1
answer rows slice count (deletion lw) = delete rows slice count lw

-- the labels given out after a call, the newest first: an accepted entry adds the one that it answered
unfoldable pub given_out : Answer → Call → List Label → List Label
given_out a (entry new) g = elim? a.refusal (label_of a.label ∷ g) (λ r. g)
given_out a (deletion lw) g = g

-- how many of the labels given out stand right below a label
unfoldable pub given_below : Label → List Label → ℕ
given_below l g = length (keep (holds child_edge l) g)

-- the number given out last right below a label, if one was
unfoldable pub last_below : Label → List Label → Option ℕ
last_below l [] = none
last_below l (m ∷ g) = cond (holds child_edge l m) (some (last m)) (last_below l g)

-- Every list of calls from an accepted new store: each call gets the count that the last one answered
-- and, in a slice of any length that holds them, the records that it left.
-- A run has the records in use, their count, the book, and the labels given out, the root's among them.
pub data Run (rows : Table) (root : ℕ) : List ℕ → ℕ → Book → List Label → Type 0 where
  opened :
      (slice : List ℕ) (p0 p1 : ℕ) → (new_store slice root p0 p1).refusal ≡ none →
      Run rows root (take (record_size * (new_store slice root p0 p1).count) (new_store slice root p0 p1).slice) (new_store slice root p0 p1).count
      (root_line root p0 p1 ∷ []) ([] ∷ [])
  called :
      {w : List ℕ} {n : ℕ} {b : Book} {g : List Label} → Run rows root w n b g →
      (slice : List ℕ) (c : Call) → take (record_size * n) slice ≡ w →
      Run rows root (take (record_size * (answer rows slice n c).count) (answer rows slice n c).slice) (answer rows slice n c).count
      (book_after (clues_of rows) b (length slice) c) (given_out (answer rows slice n c) c g)
