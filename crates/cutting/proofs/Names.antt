-- The name of a record, for the test whether it is asked for.
use Prim.Native.Nat.{ℕ, ◌+◌, ◌*◌}
use mathlib.Core.Path.{◌≡◌, sym, ap, ◌∙◌}
use mathlib.Core.Bool.{Bool}
use mathlib.Core.List.{List}
use native.Mathlib.Omega.{arith}
use lib.ListN.{get_or}
use Rattle.basics.specs.Limits.{record_size, name_word}
use Rattle.embeddings.specs.Matches.{asks}
use Rattle.storage.specs.Store.{read_element}
use Rattle.records.specs.Records.{record_at}
use Rattle.records.proofs.Parts.{record_word}

-- the name of a record is read where it stands
pub asks_record : (want : ℕ) (ws : List ℕ) (r : ℕ) {b : Bool} → b ≡ asks want (get_or ws (r * record_size + name_word) 0) → b ≡ asks want (read_element (record_at r ws)).name
unfolding read_element
asks_record want ws r e = e ∙ ap (asks want) (sym (record_word ws r name_word (omega arith)))
