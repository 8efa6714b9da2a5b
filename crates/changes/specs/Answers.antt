-- The checks before a call's own, and what a new store and a
-- deletion answer and leave, by the definitions of `store_calls`.
use Rattle.std.specs.Prelude.{ℕ, List, [], ◌∷◌}
use Rattle.std.proofs.Math.Option.{Option}
use Rattle.naming.specs.Names.{Table}
use Rattle.labelling.specs.Labels.{label_check}
use Rattle.basics.specs.Refusals.{Refusal, first}
use Rattle.storage.specs.Store.{Element}
use Rattle.store_calls.specs.Updates as spec
use Rattle.refusals.specs.Answers.{verdict_of}
use Rattle.store_checks.specs.Stores.{store_check}
use Rattle.changes.specs.declared.Change.{Change}

-- the checks before those of a call's own, of table, sizes, records and label, in this order: 22, 18, 19, 23 to 25, 15
unfoldable pub call_check : Table → List ℕ → ℕ → List ℕ → Option Refusal
call_check rows ws count lw = first (store_check rows ws count ∷ label_check lw ∷ [])

-- what a call answers, beside the words that it leaves
pub record Changed : Type 0 where
  pub answer : Change
  pub words : List ℕ

-- an answer beside the words left, as one value
abbrev pub changed : Change → List ℕ → Changed
changed r ws = record { answer = r; words = ws }

-- what a new store or a deletion answers and leaves
abbrev pub change_of : spec.Answer → Changed
change_of a = changed (record { verdict = verdict_of a.refusal; count = a.count }) a.slice

-- the root's element
abbrev pub root_element : ℕ → ℕ → ℕ → Element
root_element name p0 p1 = record { label = []; name = name; next = 0; payload0 = p0; payload1 = p1 }
