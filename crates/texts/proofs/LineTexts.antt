-- The line of a match that words hold, written label by label.
use mathlib.Core.Path.{◌≡◌, ap}
use mathlib.Core.List.{List, [], ◌∷◌, ◌++◌, map}
use Prim.Native.Nat.{ℕ, suc, ◌+◌, ◌-◌, ◌*◌, ◌≤◌, ◌<◌}
use native.Mathlib.Nat.{add-zero}
use native.Mathlib.Omega.{arith}
use lib.ListN.{length, get_or, take, drop}
use lib.Seq.{get_or-drop, drop-drop}
use Rattle.basics.specs.Limits.{max_depth, label_size}
use Rattle.labelling.specs.Labels.{label_of}
use Rattle.match_calls.specs.Matching.{labels_in}
use Rattle.printouts.specs.Printing.{text, label_text, match_line}
use Rattle.labelling.proofs.LabelWords.{label_of-take}
use Rattle.basics.proofs.Scans.{tail_is}
use Rattle.texts.specs.Texts.{LabelDepths}
use Rattle.texts.proofs.Joined.{tailed, joined_tailed}

-- words from a place on, as a part of a slice
abbrev pub from : List ℕ → ℕ → List ℕ
from ws at = take (length ws - at) (drop at ws)

-- the labels of a match from one on, a space before each, and a newline
unfoldable pub spaced : ℕ → List ℕ → ℕ → List ℕ
spaced k ws i = tailed 32 (10 ∷ []) (map label_text (labels_in (k - i) (drop (label_size * i) ws)))

-- behind the last label the newline is to come
pub spaced_end : (k : ℕ) (ws : List ℕ) (i : ℕ) → k ≤ i → spaced k ws i ≡ 10 ∷ []
unfolding spaced tailed labels_in
spaced_end k ws i done = let z : k - i ≡ 0 = omega arith in rw z

module _ (k : ℕ) (ws : List ℕ) where
  -- where a label stands, its depth is no more than fifteen
  depth_at : LabelDepths k ws → (i : ℕ) → i < k → get_or (drop (label_size * i) ws) 0 0 ≤ max_depth
  depth_at deep i h = rw (get_or-drop, add-zero) (deep i h)

  -- the labels from one on are that one and those behind it
  labels_from : LabelDepths k ws → (i : ℕ) → i < k →
      labels_in (k - i) (drop (label_size * i) ws) ≡ label_of (from ws (label_size * i)) ∷ labels_in (k - (i + 1)) (drop (label_size * (i + 1)) ws)
  unfolding labels_in
  labels_from deep i h =
      let z : k - i ≡ suc (k - (i + 1)) = omega arith in
      let next : label_size * i + label_size ≡ label_size * (i + 1) = omega arith in
      rw (z, tail_is, drop-drop, next) (ap (λ l. l ∷ labels_in (k - (i + 1)) (drop (label_size * (i + 1)) ws)) (label_of-take (drop (label_size * i) ws) (depth_at deep i h)))

  -- the text from a label on is a space, the label, and the text of those behind it
  pub spaced_from : (i : ℕ) → LabelDepths k ws → i < k → spaced k ws i ≡ 32 ∷ (label_text (label_of (from ws (label_size * i))) ++ spaced k ws (i + 1))
  unfolding spaced tailed
  spaced_from i deep h = ap (λ l. tailed 32 (10 ∷ []) (map label_text l)) (labels_from deep i h)

  -- the line is the text of the first label and of those behind it
  pub line_parts : 1 ≤ k → LabelDepths k ws → match_line (labels_in k ws) ≡ label_text (label_of ws) ++ spaced k ws 1
  unfolding match_line text spaced
  line_parts some deep =
      let z : k - 0 ≡ k = omega arith in
      let e : labels_in k ws ≡ label_of (from ws 0) ∷ labels_in (k - 1) (drop label_size ws) = rw z at (labels_from deep 0 (omega arith)) in
      let whole : label_of (from ws 0) ≡ label_of ws = ap label_of (tail_is 0 ws) in
      rw (e, whole) (joined_tailed 32 (10 ∷ []) (label_text (label_of ws)) (map label_text (labels_in (k - 1) (drop label_size ws))))
