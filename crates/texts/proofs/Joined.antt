-- Texts parted by a byte: those behind the first, each with the byte before it.
use mathlib.Core.Path.{◌≡◌, refl, ap, ◌∙◌}
use mathlib.Core.List.{List, [], ◌∷◌, ◌++◌, append_assoc}
use Prim.Native.Nat.{ℕ}
use Rattle.printouts.specs.Printing.{joined_by}

-- texts with a byte before each, and an end behind them
unfoldable pub tailed : ℕ → List ℕ → List (List ℕ) → List ℕ
tailed by end [] = end
tailed by end (t ∷ ts) = by ∷ (t ++ tailed by end ts)

-- texts joined by a byte are the first and the others with the byte before each
pub joined_tailed : (by : ℕ) (end t : List ℕ) (ts : List (List ℕ)) → joined_by (by ∷ []) (t ∷ ts) ++ end ≡ t ++ tailed by end ts
unfolding joined_by tailed
joined_tailed by end t [] = refl
joined_tailed by end t (u ∷ ts) =
    append_assoc t (by ∷ joined_by (by ∷ []) (u ∷ ts)) end ∙ ap (λ s. t ++ (by ∷ s)) (joined_tailed by end u ts)
