-- A table as its bytes: rows that stand one after the other.
use Rattle.std.specs.Prelude.{ℕ, ◌*◌, cond, List, map, length, take, drop, replicate, eqb}
use Rattle.naming.specs.Names.{Table}
use Rattle.basics.specs.Basics.{up_to}
use Rattle.basics.specs.Limits.{table_size}

-- row p of a table's bytes
unfoldable pub row_in : List ℕ → ℕ → List ℕ
row_in bytes p = take table_size (drop (p * table_size) bytes)

-- the rows of a table's bytes
unfoldable pub rows_in : List ℕ → Table
rows_in bytes = map (row_in bytes) (up_to table_size)

-- a table that 22 rules out, since all its numbers are above 63
abbrev pub torn_rows : Table
torn_rows = replicate table_size (replicate table_size 64)

-- the table that bytes are taken as: bytes of another length are a table that 22 rules out
unfoldable pub table_in : List ℕ → Table
table_in bytes = cond (eqb (length bytes) (table_size * table_size)) (rows_in bytes) torn_rows
