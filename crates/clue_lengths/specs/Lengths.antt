-- The lengths of the clues of a table.
use Rattle.std.specs.Prelude.{ℕ, List, map, length}
use Rattle.naming.specs.Names.{Table, names_of}

-- how many names each row has
unfoldable pub lengths_of : Table → List ℕ
lengths_of rows = map (λ row. length (names_of row)) rows
