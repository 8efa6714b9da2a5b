-- What else holds over every run: when numbers run out, and how the numbers given agree with the article's.
use Rattle.std.specs.Prelude.{◌≡◌, List, map, ℕ, ◌+◌, ◌*◌, ◌/◌, ◌%◌, ◌≤◌, length, take}
use Rattle.std.proofs.Math.Option.{none, some}
use Rattle.basics.specs.Basics.{last}
use Rattle.basics.specs.Limits.{max_component, record_size}
use Rattle.basics.specs.Refusals.{Refusal, no_number}
use Rattle.naming.specs.Names.{Table, clues_of, place_in, table_check}
use Rattle.labelling.specs.Numbers.{article_number}
use Rattle.labelling.specs.Labels.{Label, label_of}
use Rattle.store_calls.specs.Updates.{given}
use Rattle.book.specs.Book.{Line, Book, NewElement, entry, deletion, line_element, line_at, answer, given_below, last_below, Run, opened, called}

-- An entry is refused by 12 only after floor(65,535 / n) accepted entries below its parent, whose clue has n names.
abbrev pub EnoughNumbers : Type 0
EnoughNumbers =
    (rows : Table) → table_check rows ≡ none → (root : ℕ) (w : List ℕ) (n : ℕ) (b : Book) (g : List Label) → Run rows root w n b g →
    (slice : List ℕ) → take (record_size * n) slice ≡ w → (new : NewElement) (r : Refusal) →
    (answer rows slice n (entry new)).refusal ≡ some r → r.number ≡ no_number →
    (x : Line) × (line_at (label_of new.parent) b ≡ some x) ×
    ((max_component + 1) / length (clues_of rows (last x.names)) ≤ given_below (label_of new.parent) g)

-- The number given below a line is the one of rules 2.1 and 2.2 of source document 004
-- after the number given out last below it, but for the corner.
abbrev pub ArticleNumbers : Type 0
ArticleNumbers =
    (rows : Table) → table_check rows ≡ none → (root : ℕ) (w : List ℕ) (n : ℕ) (b : Book) (g : List Label) → Run rows root w n b g →
    (l : Label) (x : Line) → line_at l b ≡ some x → (name k : ℕ) → place_in name (clues_of rows (last x.names)) ≡ some k →
    ((y : ℕ) → last_below l g ≡ some y → (k ≡ 0) × (y % length (clues_of rows (last x.names)) ≡ 0) → ⊥) →
    given (clues_of rows) (line_element x) name ≡ article_number (length (clues_of rows (last x.names))) k (last_below l g)

-- no deletion was among the calls of a run, or every deletion was refused
abbrev pub Undeleted : {rows : Table} {root : ℕ} {w : List ℕ} {n : ℕ} {b : Book} {g : List Label} → Run rows root w n b g → Type 0
Undeleted (opened slice p0 p1 e) = Unit {0}
Undeleted {rows} (called {n = n} run slice c laid) = Undeleted run × ((lw : List ℕ) → c ≡ deletion lw → (answer rows slice n c).refusal ≡ none → ⊥)

-- Where nothing was deleted the labels given out are those of the lines,
-- so that the number given out last is the left sibling's.
abbrev pub NothingDeleted : Type 0
NothingDeleted =
    (rows : Table) → table_check rows ≡ none → (root : ℕ) (w : List ℕ) (n : ℕ) (b : Book) (g : List Label) (run : Run rows root w n b g) →
    Undeleted run → map (λ x. x.label) b ≡ g
