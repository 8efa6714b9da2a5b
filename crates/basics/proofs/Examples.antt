-- The examples of lists and outputs hold, and the numbers are the paper's.
use mathlib.Core.Path.{◌≡◌, refl}
use mathlib.Core.List.{[], ◌∷◌, map}
use Prim.Native.Nat.{suc}
use Rattle.basics.specs.Basics.{up_to}
use Rattle.basics.specs.Examples.{Hold, basic_checks, limits, numbers}
use Rattle.basics.proofs.Computing.{computing}

-- of lists and outputs the definitions give what the paper says
pub basic_checks_hold : Hold basic_checks
unfolding computing
basic_checks_hold = refl

-- the limits are the paper's
pub limits_are : limits ≡ 63 ∷ 64 ∷ 255 ∷ 8192 ∷ 65534 ∷ 15 ∷ 4096 ∷ 16 ∷ 20 ∷ 16 ∷ 17 ∷ 18 ∷ 4 ∷ 32 ∷ 255 ∷ 255 ∷ 64000 ∷ []
unfolding computing
limits_are = refl

-- the refusals are numbered 1 to 25
pub numbers_are : numbers ≡ map suc (up_to 25)
unfolding computing
numbers_are = refl
