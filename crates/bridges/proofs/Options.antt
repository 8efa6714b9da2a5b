-- What an answered option tells of the definition's.
use mathlib.Core.Path.{◌≡◌, refl}
use Rattle.std.specs.Prelude.{Option, Some, None}
use Rattle.std.proofs.Math.Option as math
use Rattle.bridges.specs.Options.{optional}

-- where a value is answered, the definition gives it
pub given_some : {A : Type 0} (o : math.Option A) {r : Option A} {a : A} → r ≡ optional o → r ≡ Some a → o ≡ math.some a
given_some math.none p q = cc
given_some (math.some b) p q = cc

-- where none is answered, the definition gives none
pub given_none : {A : Type 0} (o : math.Option A) {r : Option A} → r ≡ optional o → r ≡ None → o ≡ math.none
given_none math.none p q = refl
given_none (math.some b) p q = cc
