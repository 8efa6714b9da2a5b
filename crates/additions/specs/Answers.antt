-- What the addition of a child answers and leaves, by the definitions of `store_calls`.
use Rattle.std.specs.Prelude.{ℕ, ◌+◌, ◌*◌, true, List, [], ◌∷◌, ◌++◌, length, set, replicate}
use Rattle.std.proofs.Math.Option.{none, some}
use Rattle.basics.specs.Basics.{elim?, leading}
use Rattle.basics.specs.Limits.{label_size, record_size, next_word}
use Rattle.labelling.specs.Labels.{Label, label_words}
use Rattle.storage.specs.Store.{Element, element_words, elements}
use Rattle.store_calls.specs.Updates as spec
use Rattle.refusals.specs.Answers.{verdict_of}
use Rattle.refusals.specs.declared.Verdict.{Verdict}
use Rattle.moving.specs.Moves.{inserted}
use Rattle.lookup.specs.Places.{passes}
use Rattle.additions.specs.declared.Entry.{Entry}

-- what an entry answers, beside the words that it leaves
pub record Entered : Type 0 where
  pub answer : Entry
  pub words : List ℕ

-- an answer beside the words left, as one value
abbrev pub entry_and_words : Entry → List ℕ → Entered
entry_and_words r ws = record { answer = r; words = ws }

-- the answer of a refused entry: the count as it was, and sixteen zeros
abbrev pub refused_entry : Verdict → ℕ → Entry
refused_entry v count = record { verdict = v; count = count; label = replicate label_size 0 }

-- the element of a child: its parent's label and a number, with the next number 0
abbrev pub child_element : Label → ℕ → ℕ → ℕ → ℕ → Element
child_element l x name p0 p1 = record { label = l ++ (x ∷ []); name = name; next = 0; payload0 = p0; payload1 = p1 }

-- the words with the next number of the record a raised and a record put in behind the subtree of its label l
abbrev pub child_written : List ℕ → ℕ → ℕ → Label → ℕ → List ℕ → List ℕ
child_written ws count a l x rec = inserted (set ws (a * record_size + next_word) (x + 1)) (leading (passes true l) (elements count ws)) count rec

-- a child with a number added below the record a, which has the label l
abbrev pub child_answer : List ℕ → ℕ → ℕ → Label → ℕ → ℕ → ℕ → ℕ → Entered
child_answer ws count a l x name p0 p1 =
    entry_and_words (record { verdict = verdict_of none; count = count + 1; label = label_words (l ++ (x ∷ [])) })
    (child_written ws count a l x (element_words (child_element l x name p0 p1)))

-- a child with a number added below the record a, which has the label l, or 13 where no record is free
unfoldable pub child_added : List ℕ → ℕ → ℕ → Label → ℕ → ℕ → ℕ → ℕ → Entered
child_added ws count a l x name p0 p1 =
    elim? (spec.space_check (length ws) count) (child_answer ws count a l x name p0 p1) (λ r. entry_and_words (refused_entry (verdict_of (some r)) count) ws)
