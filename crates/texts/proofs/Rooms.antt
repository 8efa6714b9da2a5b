-- How many bytes the matches of words have at most, each word being of sixteen bits.
use mathlib.Core.Path.{◌≡◌, refl, ap}
use mathlib.Core.List.{List, [], ◌∷◌, ◌++◌, map, append-nil}
use Prim.Native.Nat.{ℕ, zero, suc, ◌+◌, ◌*◌, ◌^◌, ◌≤◌, ◌<◌}
use native.Mathlib.Nat.{mul-zero, mul-suc}
use native.Mathlib.Omega.{arith}
use mir.Syntax.{w16}
use mir.Val.{Fits}
use lib.ListN.{length, get_or, take, drop, length-append, length-map, length-take}
use lib.Seq.{get_or-take, get_or-drop}
use Rattle.basics.specs.Basics.{◌∈◌, joined}
use Rattle.basics.specs.Limits.{max_depth, label_size}
use Rattle.labelling.specs.Labels.{Label, label_of}
use Rattle.embeddings.specs.Matches.{Match}
use Rattle.match_calls.specs.Matching.{labels_in}
use Rattle.printouts.specs.Printing.{text, decimal, joined_by, label_text, match_line, matches_text}
use Rattle.basics.proofs.Lists.{here, there, nowhere, for_cons, for_map, member_at}
use Rattle.labelling.proofs.LabelWords.{label_of-take}
use Rattle.texts.specs.Texts.{number_line, matches_in, LabelDepths, label_room, count_room}
use Rattle.match_calls.proofs.Buffers.{length-labels_in}
use Rattle.texts.proofs.Words.{length-matches_in, depths_drop}
use Rattle.texts.proofs.Digits.{decimal_short, length_few}
use Rattle.texts.proofs.Joined.{tailed, joined_tailed}

-- the line of a number of sixty-four bits has at most twenty-one bytes
pub number_line_short : (n : ℕ) → n < 2 ^ 64 → length (number_line n) ≤ count_room
unfolding text
number_line_short n h = omega (arith, length-append (decimal n) (10 ∷ []), length_few n h)

-- texts of fewer than n bytes each, with a byte before each, have at most n bytes for each
tailed_short : (by : ℕ) (end : List ℕ) (n : ℕ) (ts : List (List ℕ)) → ((t : List ℕ) → t ∈ ts → length t < n) → length (tailed by end ts) ≤ n * length ts + length end
unfolding tailed
tailed_short by end n [] h = omega (arith, mul-zero n)
tailed_short by end n (t ∷ ts) h =
    omega (arith, mul-suc n (length ts), length-append t (tailed by end ts), h t (here refl), tailed_short by end n ts (λ u m. h u (there m)))

-- texts of fewer than n bytes each, joined by a byte, have fewer than n bytes for each
joined_short : (by : ℕ) (end : List ℕ) (n : ℕ) (t : List ℕ) (ts : List (List ℕ)) → ((u : List ℕ) → u ∈ t ∷ ts → length u < n) →
    length (joined_by (by ∷ []) (t ∷ ts) ++ end) < n * length (t ∷ ts) + length end
joined_short by end n t ts h =
    omega (
      arith,
      ap length (joined_tailed by end t ts),
      length-append t (tailed by end ts),
      mul-suc n (length ts),
      h t (here refl),
      tailed_short by end n ts (λ u m. h u (there m)),
    )

-- a label of at most fifteen components of sixteen bits has fewer than ninety bytes
pub label_short : (l : Label) → length l ≤ max_depth → ((x : ℕ) → x ∈ l → x < 2 ^ 16) → length (label_text l) < label_room
unfolding label_text text
label_short [] h small = omega arith
label_short (x ∷ l) h small =
    let each : (t : List ℕ) → t ∈ map decimal (x ∷ l) → length t < 6 =
    for_map decimal (λ t. length t < 6) (x ∷ l) (λ y m. omega (arith, decimal_short 4 y (omega (arith, small y m)))) in
    let e : label_text (x ∷ l) ++ [] ≡ label_text (x ∷ l) = append-nil (label_text (x ∷ l)) in
    omega (arith, ap length e, joined_short 46 [] 6 (decimal x) (map decimal l) each, length-map l decimal)

-- a match of labels of fewer than ninety bytes has a line of at most ninety bytes for each
line_short : (l : Label) (m : Match) → ((a : Label) → a ∈ l ∷ m → length (label_text a) < label_room) → length (match_line (l ∷ m)) ≤ label_room * length (l ∷ m)
unfolding match_line text
line_short l m h =
    omega (arith, joined_short 32 (10 ∷ []) label_room (label_text l) (map label_text m) (for_map label_text (λ t. length t < label_room) (l ∷ m) h), length-map m label_text)

-- each word has sixteen bits
abbrev pub Small : List ℕ → Type 0
Small ws = (i : ℕ) → Fits w16 (get_or ws i 0)

-- words behind others have sixteen bits too
small_drop : (n : ℕ) (ws : List ℕ) → Small ws → Small (drop n ws)
small_drop n ws small i = rw (get_or-drop) (small (n + i))

-- the first label that words hold has fewer than ninety bytes
first_short : (ws : List ℕ) → Small ws → get_or ws 0 0 ≤ max_depth → length (label_text (label_of ws)) < label_room
unfolding label_of
first_short ws small deep =
    let d : ℕ = get_or ws 0 0 in
    label_short (take d (drop 1 ws)) (omega (arith, length-take d (drop 1 ws))) (λ x m.
    let (i, p, e) = (member_at 0 (take d (drop 1 ws)) x).0 m in
    let in_label : i < d = omega (arith, length-take d (drop 1 ws)) in
    rw (← e, get_or-take d (drop 1 ws) i 0 in_label, get_or-drop) (small (1 + i)).fits)

-- each label that words hold has fewer than ninety bytes
labels_short : (k : ℕ) (ws : List ℕ) → Small ws → LabelDepths k ws → (l : Label) → l ∈ labels_in k ws → length (label_text l) < label_room
unfolding labels_in
labels_short zero ws small deep = λ l m. absurd (nowhere m)
labels_short (suc k) ws small deep =
    let now : get_or ws 0 0 ≤ max_depth = deep 0 (omega arith) in
    for_cons (λ l. length (label_text l) < label_room) (rw (label_of-take ws now) (first_short ws small now))
    (labels_short k (drop label_size ws) (small_drop label_size ws small) (depths_drop 1 k ws (λ i h. deep i (omega arith))))

module _ (k : ℕ) (some : 1 ≤ k) where
  -- the line of the first match that words hold has at most ninety bytes for each label
  first_line_short : (ws : List ℕ) → Small ws → LabelDepths k ws → length (match_line (labels_in k ws)) ≤ label_room * k
  first_line_short ws small deep = go (labels_in k ws) (length-labels_in k ws) (labels_short k ws small deep)
    where
      go : (m : Match) → length m ≡ k → ((l : Label) → l ∈ m → length (label_text l) < label_room) → length (match_line m) ≤ label_room * k
      go [] e h = absurd (omega arith)
      go (l ∷ m) e h = omega (arith, line_short l m h)

  -- the lines of all matches have at most ninety bytes for each label
  lines_short : (n : ℕ) (ws : List ℕ) → Small ws → LabelDepths (k * n) ws → length (joined (map match_line (matches_in k n ws))) ≤ label_room * (k * n)
  unfolding matches_in joined
  lines_short zero ws small deep = omega (arith, mul-zero k)
  lines_short (suc n) ws small deep =
      let z : k * suc n ≡ k + k * n = omega (arith, mul-suc k n) in
      let behind : List ℕ = drop (label_size * k) ws in
      omega (
        arith,
        length-append (match_line (labels_in k ws)) (joined (map match_line (matches_in k n behind))),
        first_line_short ws small (λ i h. deep i (omega arith)),
        lines_short n behind (small_drop (label_size * k) ws small) (depths_drop k (k * n) ws (λ i h. deep i (omega arith))),
      )

  -- the text of all matches and of their count has at most ninety bytes for each label and twenty-one more
  pub matches_short : (n : ℕ) (ws : List ℕ) → n < 2 ^ 64 → Small ws → LabelDepths (k * n) ws → length (matches_text (matches_in k n ws)) ≤ label_room * (k * n) + count_room
  unfolding matches_text
  matches_short n ws few small deep =
      let lines : List ℕ = joined (map match_line (matches_in k n ws)) in
      rw (length-matches_in k n ws) (omega (arith, length-append lines (number_line n), lines_short n ws small deep, number_line_short n few))
