-- The text of a label that words hold, written component by component.
use mathlib.Core.Path.{◌≡◌, sym, ap, ◌∙◌}
use mathlib.Core.List.{List, [], ◌∷◌, ◌++◌, map, append-nil}
use Prim.Native.Nat.{ℕ, suc, ◌+◌, ◌-◌, ◌≤◌, ◌<◌}
use native.Mathlib.Omega.{arith}
use lib.ListN.{length, get_or, take, drop, drop_of_length-le}
use Rattle.labelling.specs.Labels.{label_of}
use Rattle.printouts.specs.Printing.{text, decimal, label_text}
use Rattle.basics.proofs.Scans.{from_cons}
use Rattle.texts.proofs.Joined.{tailed, joined_tailed}

-- components, a dot before each
unfoldable pub dotted : List ℕ → List ℕ
dotted l = tailed 46 [] (map decimal l)

-- the components from one on are a dot, that component, and those behind it
pub dotted_from : (l : List ℕ) (i : ℕ) → i < length l → dotted (drop i l) ≡ 46 ∷ (decimal (get_or l i 0) ++ dotted (drop (i + 1) l))
unfolding dotted tailed
dotted_from l i h = rw (from_cons l i 0 h)

-- behind the last component nothing is to come
pub dotted_end : (l : List ℕ) (i : ℕ) → length l ≤ i → dotted (drop i l) ≡ []
unfolding dotted tailed
dotted_end l i h = rw drop_of_length-le

module _ (ws : List ℕ) where
  -- the text of the root is a dot
  pub root_text : get_or ws 0 0 ≡ 0 → label_text (label_of ws) ≡ 46 ∷ []
  unfolding label_of label_text text
  root_text flat = rw flat

  -- the text of a label below the root is its first component, and those behind it with a dot before each
  pub label_parts : 0 < get_or ws 0 0 → get_or ws 0 0 < length ws →
      label_text (label_of ws) ≡ decimal (get_or ws 1 0) ++ dotted (take (get_or ws 0 0 + 1 - 2) (drop 2 ws))
  unfolding label_of label_text text dotted
  label_parts deep held =
      let others : List ℕ = take (get_or ws 0 0 + 1 - 2) (drop 2 ws) in
      let z : get_or ws 0 0 ≡ suc (get_or ws 0 0 + 1 - 2) = omega arith in
      let e : label_of ws ≡ get_or ws 1 0 ∷ others =
      ap (λ n. take n (drop 1 ws)) z ∙ ap (λ l. take (suc (get_or ws 0 0 + 1 - 2)) l) (from_cons ws 1 0 (omega arith)) in
      ap label_text e ∙ sym (append-nil _) ∙ joined_tailed 46 [] (decimal (get_or ws 1 0)) (map decimal others)
