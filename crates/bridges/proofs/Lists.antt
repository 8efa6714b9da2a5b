-- Lists, as the library walks them.
use mathlib.Core.Path.{◌≡◌, refl, ap}
use mathlib.Core.Bool.{Bool, ◌&&◌}
use mathlib.Core.List.{List, [], ◌∷◌}
use Rattle.std.specs.List.{list_all}
use Rattle.basics.specs.Basics.{all}

-- the library's test of every member is the test of every member
pub all_is : {A : Type 0} (f : A → Bool) (s : List A) → list_all f s ≡ all f s
unfolding all
all_is f [] = refl
all_is f (x ∷ s) = ap (λ b. f x && b) (all_is f s)
