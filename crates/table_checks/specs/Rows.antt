-- A number of a row that is no name: the filler.
use Rattle.std.specs.Prelude.{ℕ, Bool, eqb}
use Rattle.basics.specs.Limits.{filler}

-- the test of a number: whether it is the filler
abbrev pub is_filler : ℕ → Bool
is_filler x = eqb x filler
