-- The check of a store: what the calls that take one check before their own.
use Rattle.std.specs.Prelude.{List, [], ◌∷◌, ℕ, length}
use Rattle.std.proofs.Math.Option.{Option}
use Rattle.basics.specs.Refusals.{Refusal, first}
use Rattle.naming.specs.Names.{Table, clues_of, table_check}
use Rattle.storage.specs.Store.{size_check, sound_check}

-- the checks of table, sizes and records, in this order: 22, 18, 19, 23 to 25
unfoldable pub store_check : Table → List ℕ → ℕ → Option Refusal
store_check rows ws count = first (table_check rows ∷ size_check (length ws) count ∷ sound_check (clues_of rows) count ws ∷ [])
