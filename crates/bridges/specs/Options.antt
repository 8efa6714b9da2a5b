-- An option of the definitions, as the code answers it.
use Rattle.std.specs.Prelude.{Option, Some, None}
use Rattle.std.proofs.Math.Option as math

-- the same value, or none
abbrev pub optional : {A : Type 0} → math.Option A → Option A
optional math.none = None
optional (math.some a) = Some a
