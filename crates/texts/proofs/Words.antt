-- The labels and matches that words hold: how many and how deep they are, and that matches laid out in words are read
-- back.
use mathlib.Core.Path.{◌≡◌, refl, ap, ap₂, subst, ◌∙◌}
use mathlib.Core.Logic.{by_cases}
use mathlib.Core.List.{List, [], ◌∷◌, ◌++◌, append_assoc}
use Prim.Native.Nat.{ℕ, zero, suc, ◌+◌, ◌-◌, ◌*◌, ◌≤◌}
use native.Mathlib.Nat.{mul-suc, mul-zero, mul_assoc}
use native.Mathlib.Decide.{dec_lt}
use native.Mathlib.Omega.{arith}
use lib.ListN.{length, get_or, drop, length-append}
use lib.Seq.{get_or-drop, drop_at}
use Rattle.basics.specs.Basics.{◌∈◌, joined}
use Rattle.basics.specs.Limits.{max_depth, label_size}
use Rattle.labelling.specs.Labels.{Label, label_words}
use Rattle.embeddings.specs.Matches.{Match, labels_words, match_words}
use Rattle.basics.proofs.Lists.{here, there}
use Rattle.labelling.proofs.LabelWords.{length-label_words}
use Rattle.embeddings.proofs.MatchWords.{length-labels_words, length-match_words}
use Rattle.cut_calls.proofs.StreamWords.{labels_in-labels_words}
use Rattle.texts.specs.Texts.{matches_in, LabelDepths}

-- as many matches are read as are asked for
pub length-matches_in : (k n : ℕ) (ws : List ℕ) → length (matches_in k n ws) ≡ n
unfolding matches_in
length-matches_in k zero ws = refl
length-matches_in k (suc n) ws = ap suc (length-matches_in k n (drop (label_size * k) ws))

module _ (m n : ℕ) (ws : List ℕ) where
  -- label i behind m others is label m + i of all
  label_behind : (i : ℕ) → get_or (drop (label_size * m) ws) (label_size * i) 0 ≡ get_or ws (label_size * (m + i)) 0
  label_behind i =
      let z : label_size * m + label_size * i ≡ label_size * (m + i) = omega arith in
      get_or-drop (label_size * m) ws (label_size * i) 0 ∙ ap (λ j. get_or ws j 0) z

  -- the labels behind m others are as deep as they were
  pub depths_drop : LabelDepths (m + n) ws → LabelDepths n (drop (label_size * m) ws)
  depths_drop deep i h = rw (label_behind i) (deep (m + i) (omega arith))

  -- where m labels have depths of at most 15, and n labels behind them, so have all m + n
  depths_join : LabelDepths m ws → LabelDepths n (drop (label_size * m) ws) → LabelDepths (m + n) ws
  depths_join first others i h =
      by_cases (dec_lt i m) (first i) (λ p.
      let z : m + (i - m) ≡ i = omega arith in
      subst (λ j. get_or ws (label_size * j) 0 ≤ max_depth) z (rw (label_behind (i - m)) at (others (i - m) (omega arith))))

-- labels laid out in words show their own depths
depths_labels_words : (ls : List Label) (rest : List ℕ) → ((l : Label) → l ∈ ls → length l ≤ max_depth) → LabelDepths (length ls) (labels_words ls ++ rest)
unfolding labels_words joined label_words
depths_labels_words [] rest short = λ i h. absurd (omega arith)
depths_labels_words (l ∷ ls) rest short =
    let shallow : length l ≤ max_depth = short l (here refl) in
    let ws : List ℕ = label_words l ++ labels_words ls ++ rest in
    let e : drop label_size ws ≡ labels_words ls ++ rest =
    rw append_assoc (drop_at (label_words l) (labels_words ls ++ rest) label_size (length-label_words l shallow)) in
    let z : 1 + length ls ≡ suc (length ls) = omega arith in
    let deep : LabelDepths (1 + length ls) ws =
    depths_join 1 (length ls) ws (λ i h. let o : i ≡ 0 = omega arith in rw o shallow) (rw e (depths_labels_words ls rest (λ a m. short a (there m)))) in
    rw z at deep

-- matches of k labels of depth at most fifteen each
module _ (k : ℕ) where
  -- each match has k labels of depth at most fifteen
  abbrev pub Shallow : List Match → Type 0
  Shallow ms = (m : Match) → m ∈ ms → (length m ≡ k) × ((l : Label) → l ∈ m → length l ≤ max_depth)

  module _ (m : Match) (ms : List Match) (rest : List ℕ) (each : Shallow (m ∷ ms)) where
    -- the words of the first match stand before those of the others
    first_words : match_words (m ∷ ms) ++ rest ≡ labels_words m ++ (match_words ms ++ rest)
    unfolding match_words joined
    first_words = append_assoc (labels_words m) (match_words ms) rest

    -- behind the words of the first match stand those of the others
    other_words : drop (label_size * k) (match_words (m ∷ ms) ++ rest) ≡ match_words ms ++ rest
    other_words =
        let long : length (labels_words m) ≡ label_size * k = length-labels_words m (each m (here refl)).1 ∙ ap (λ n. label_size * n) (each m (here refl)).0 in
        rw first_words (drop_at (labels_words m) (match_words ms ++ rest) (label_size * k) long)

  -- matches laid out in words are read back
  pub matches_in-match_words : (ms : List Match) (rest : List ℕ) → Shallow ms → matches_in k (length ms) (match_words ms ++ rest) ≡ ms
  unfolding matches_in
  matches_in-match_words [] rest each = refl
  matches_in-match_words (m ∷ ms) rest each =
      let (long, short) = each m (here refl) in
      ap₂ ◌∷◌
      (rw (first_words m ms rest each, ← long) (labels_in-labels_words m (match_words ms ++ rest) short))
      (rw (other_words m ms rest each) (matches_in-match_words ms rest (λ a p. each a (there p))))

  -- matches laid out in words show the depths of their labels
  pub match_words_deep : (ms : List Match) (rest : List ℕ) → Shallow ms → LabelDepths (k * length ms) (match_words ms ++ rest)
  match_words_deep [] rest each = λ i h. absurd (omega (arith, mul-zero k))
  match_words_deep (m ∷ ms) rest each =
      let (long, short) = each m (here refl) in
      let z : k + k * length ms ≡ k * suc (length ms) = omega (arith, mul-suc k (length ms)) in
      let first : LabelDepths k (match_words (m ∷ ms) ++ rest) =
      rw (first_words m ms rest each, ← long) (depths_labels_words m (match_words ms ++ rest) short) in
      let others : LabelDepths (k * length ms) (drop (label_size * k) (match_words (m ∷ ms) ++ rest)) =
      rw (other_words m ms rest each) (match_words_deep ms rest (λ a p. each a (there p))) in
      rw z at (depths_join k (k * length ms) (match_words (m ∷ ms) ++ rest) first others)

  -- the words of matches are long enough for k labels each
  pub match_words_held : (ms : List Match) (rest : List ℕ) → Shallow ms → label_size * (k * length ms) ≤ length (match_words ms ++ rest)
  match_words_held ms rest each =
      omega (arith, length-match_words k ms each, mul_assoc label_size k (length ms), length-append (match_words ms) rest)
