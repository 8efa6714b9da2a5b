-- What an entry answers and leaves, and what a parent gives a child, by the definitions of `store_calls`.
use Rattle.std.specs.Prelude.{Result, Ok, Err}
use Rattle.std.specs.Prelude.{ℕ, List}
use Rattle.std.proofs.Math.Option.{Option, none, some}
use Rattle.basics.specs.Basics.{elim?}
use Rattle.naming.specs.Names.{Clues}
use Rattle.labelling.specs.Labels.{Label}
use Rattle.basics.specs.Refusals.{Refusal}
use Rattle.storage.specs.Store.{Element, read_element}
use Rattle.store_calls.specs.Updates as spec
use Rattle.refusals.specs.declared.Refusal.{Refusal as Shown}
use Rattle.refusals.specs.Answers.{refusal_of, verdict_of}
use Rattle.records.specs.Records.{record_at}
use Rattle.additions.specs.Answers.{Entered, entry_and_words, refused_entry, child_added}

-- what an entry answers and leaves, by its definition
abbrev pub entry_of : spec.Answer → Entered
entry_of a = entry_and_words (record { verdict = verdict_of a.refusal; count = a.count; label = a.label }) a.slice

-- a number, or the refusal where there is one
abbrev pub gift_by : Option Refusal → ℕ → Result ℕ Shown
gift_by none x = Ok x
gift_by (some r) x = Err (refusal_of r)

-- what a parent gives a child with a name
abbrev pub gift_of : Clues → Element → ℕ → Result ℕ Shown
gift_of cl p name = gift_by (spec.parent_check cl (some p) name) (spec.given cl p name)

-- an entry below the record a, which has the label l: 10, 11, 12, or the child added with the number given
unfoldable pub entered_below : Clues → List ℕ → ℕ → ℕ → Label → ℕ → ℕ → ℕ → Entered
entered_below cl ws count a l name p0 p1 =
    let p = read_element (record_at a ws) in
    elim? (spec.parent_check cl (some p) name) (child_added ws count a l (spec.given cl p name) name p0 p1) (λ r. entry_and_words (refused_entry (verdict_of (some r)) count) ws)
