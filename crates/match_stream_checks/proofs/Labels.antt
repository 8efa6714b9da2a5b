-- The labels of a stream are those of its words.
use Prim.Native.Nat.{ℕ, zero, suc, ◌<◌}
use mathlib.Core.Path.{◌≡◌, refl}
use mathlib.Core.List.{List, [], ◌∷◌}
use native.Mathlib.Omega.{arith}
use lib.ListN.{get_or}
use Rattle.basics.specs.Basics.{elim?}
use Rattle.match_calls.specs.Matching.{labels_in}
use Rattle.match_calls.proofs.Buffers.{labels_in_words}
use Rattle.match_label_decoding.specs.Streams.{words_at, label_at, previous_at, label_before}

-- label i of a stream is the label of words i
pub labels_at : (n : ℕ) (ws : List ℕ) (i : ℕ) → i < n → get_or (labels_in n ws) i [] ≡ label_at i ws
unfolding words_at
labels_at = labels_in_words

-- with the root's label in front, label i of a stream is the one before label i
pub labels_before : (n : ℕ) (ws : List ℕ) (i : ℕ) → i < n → get_or ([] ∷ labels_in n ws) i [] ≡ label_before i ws
unfolding label_before previous_at elim?
labels_before n ws zero h = refl
labels_before n ws (suc i) h = labels_at n ws i (omega arith)
