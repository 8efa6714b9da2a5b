-- A record of a slice by its number.
use Rattle.std.specs.Prelude.{List, ℕ, ◌*◌, take, drop}
use Rattle.basics.specs.Limits.{record_size}

-- the twenty words of record r of a slice
unfoldable pub record_at : ℕ → List ℕ → List ℕ
record_at r ws = take record_size (drop (r * record_size) ws)
