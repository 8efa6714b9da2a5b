-- What taking out a subtree answers and leaves, by the definitions of `storage` and `moving`.
use Rattle.std.specs.Prelude.{ℕ, ◌-◌, true, List}
use Rattle.std.proofs.Math.Option.{none}
use Rattle.basics.specs.Basics.{leading}
use Rattle.labelling.specs.Labels.{Label}
use Rattle.storage.specs.Store.{elements}
use Rattle.refusals.specs.Answers.{verdict_of}
use Rattle.moving.specs.Moves.{removed}
use Rattle.lookup.specs.Places.{passes}
use Rattle.changes.specs.Answers.{Changed, changed}

-- the records of the subtree of a label taken out, where the record a has the label l
abbrev pub subtree_removed : List ℕ → ℕ → ℕ → Label → Changed
subtree_removed ws count a l =
    let end = leading (passes true l) (elements count ws) in
    changed (record { verdict = verdict_of none; count = count - (end - a) }) (removed ws a end count)
