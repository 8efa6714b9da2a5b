-- A stream written record by record.
use Prim.Native.Nat.{ℕ, ◌+◌, ◌*◌, ◌≤◌}
use mathlib.Core.Path.{◌≡◌, ◌∙◌}
use mathlib.Core.List.{List, ◌∷◌}
use native.Mathlib.Omega.{arith}
use lib.Dec.{T}
use lib.ListN.{length, take, drop}
use lib.Seq.{take-take}
use Rattle.basics.specs.Limits.{label_size, record_size}
use Rattle.labelling.specs.Labels.{Label}
use Rattle.storage.specs.Store.{read_element, laid_out}
use Rattle.storage.proofs.Relaid.{label_back}
use Rattle.storage.proofs.SoundStore.{label_good}
use Rattle.records.specs.Records.{record_at}
use Rattle.words.specs.Writing as words
use Rattle.cutting.proofs.Outputs.{written, written_more}

-- the label of a record is its first sixteen words
label_first : (ws : List ℕ) (r : ℕ) → take label_size (record_at r ws) ≡ take label_size (drop (r * record_size) ws)
unfolding record_at
label_first ws r = take-take label_size record_size (drop (r * record_size) ws) (omega arith)

-- where the label of a record is next, its words are written behind the labels that stand
pub label_written : (ws : List ℕ) (r : ℕ) (ls : List Label) (n : ℕ) (out : List ℕ) → T (laid_out (record_at r ws)) → label_size * n + label_size ≤ length out →
    written ((read_element (record_at r ws)).label ∷ ls) n out ≡ written ls (n + 1) (words.written (label_size * n) (take label_size (drop (r * record_size) ws)) out)
label_written ws r ls n out laid room =
    written_more (read_element (record_at r ws)).label n out (label_good (record_at r ws) laid).shallow room ls ∙ rw (label_back (record_at r ws) laid, label_first ws r)
