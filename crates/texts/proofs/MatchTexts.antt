-- The text of the matches that words hold, written line by line.
use mathlib.Core.Path.{◌≡◌}
use mathlib.Core.List.{List, ◌++◌, map, append_assoc}
use Prim.Native.Nat.{ℕ, suc, ◌+◌, ◌-◌, ◌*◌, ◌≤◌, ◌<◌}
use native.Mathlib.Nat.{mul-suc, mul-zero, mul-le-mul_left}
use native.Mathlib.Numerals.{add-one}
use native.Mathlib.Omega.{arith}
use lib.ListN.{drop}
use lib.Seq.{drop-drop}
use Rattle.basics.specs.Basics.{joined}
use Rattle.basics.specs.Limits.{label_size}
use Rattle.match_calls.specs.Matching.{labels_in}
use Rattle.printouts.specs.Printing.{match_line, matches_text}
use Rattle.basics.proofs.Scans.{tail_is}
use Rattle.texts.specs.Texts.{number_line, matches_in, LabelDepths}
use Rattle.texts.proofs.LineTexts.{from}
use Rattle.texts.proofs.Words.{length-matches_in, depths_drop}

-- the lines of the matches from one on, and the line of the count
unfoldable pub lines : ℕ → ℕ → List ℕ → ℕ → List ℕ
lines k count ws i = joined (map match_line (matches_in k (count - i) (drop (label_size * (k * i)) ws))) ++ number_line count

module _ (k count : ℕ) where
  -- the labels of a match are among those of all matches
  labels_among : (i : ℕ) → i < count → k * i + k ≤ k * count
  labels_among i h = omega (arith, mul-suc k i, mul-le-mul_left k h)

  -- before match i + 1 stand the labels before match i, and its own k
  labels_next : (i : ℕ) → k * (i + 1) ≡ k * i + k
  labels_next i = rw add-one (mul-suc k i)

  module _ (ws : List ℕ) where
    -- the lines of all matches and of their count are the whole text
    pub lines_all : lines k count ws 0 ≡ matches_text (matches_in k count ws)
    unfolding lines matches_text
    lines_all = let z : count - 0 ≡ count = omega arith in rw (z, mul-zero, length-matches_in k count ws)

    module _ (i : ℕ) where
      -- the labels of a match are as deep as they stand among all words
      pub match_deep : i < count → LabelDepths (k * count) ws → LabelDepths k (from ws (label_size * (k * i)))
      match_deep h deep = rw tail_is (depths_drop (k * i) k ws (λ j p. deep j (omega (arith, labels_among i h))))

      -- the lines from a match on are that match's and those behind it
      pub lines_from : i < count → lines k count ws i ≡ match_line (labels_in k (from ws (label_size * (k * i)))) ++ lines k count ws (i + 1)
      unfolding lines matches_in joined
      lines_from h =
          let z : count - i ≡ suc (count - (i + 1)) = omega arith in
          let next : label_size * (k * i) + label_size * k ≡ label_size * (k * (i + 1)) = omega (arith, labels_next i) in
          rw (z, tail_is, drop-drop, next)
          (append_assoc (match_line (labels_in k (drop (label_size * (k * i)) ws)))
          (joined (map match_line (matches_in k (count - (i + 1)) (drop (label_size * (k * (i + 1))) ws)))) (number_line count))

      -- behind the last match the line of the count is to come
      pub lines_end : count ≤ i → lines k count ws i ≡ number_line count
      unfolding lines matches_in joined
      lines_end h = let z : count - i ≡ 0 = omega arith in rw z
