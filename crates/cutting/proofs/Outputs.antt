-- Labels written to an output: one label more of a stream.
use Prim.Native.Nat.{ℕ, ◌+◌, ◌*◌, ◌≤◌}
use mathlib.Core.Path.{◌≡◌, refl, sym, ap, ◌∙◌}
use mathlib.Core.List.{List, [], ◌∷◌, ◌++◌, append_assoc}
use native.Mathlib.Omega.{arith}
use lib.ListN.{length, take, drop, length-append, take-append-drop}
use lib.Seq.{drop-drop}
use Rattle.basics.specs.Basics.{over, joined}
use Rattle.basics.specs.Limits.{label_size, max_depth}
use Rattle.labelling.specs.Labels.{Label, label_words}
use Rattle.embeddings.specs.Matches.{labels_words}
use Rattle.labelling.proofs.LabelWords.{length-label_words}
use Rattle.words.specs.Writing as words
use Rattle.words.proofs.Writing.{take_written_end, drop_written_end}

-- an output whose first n labels stand, with the labels to come behind them
unfoldable pub written : List Label → ℕ → List ℕ → List ℕ
written ls n out = take (label_size * n) out ++ over (labels_words ls) (drop (label_size * n) out)

-- at the start all labels are to come
pub written_from : (ls : List Label) (out : List ℕ) → written ls 0 out ≡ over (labels_words ls) out
unfolding written
written_from ls out = refl

-- at the end no label is to come
pub written_end : (n : ℕ) (out : List ℕ) → written [] n out ≡ out
unfolding written over labels_words joined
written_end n out = take-append-drop (label_size * n) out

-- words written over an output in two parts are written one behind the other
over_append : (a b out : List ℕ) → over (a ++ b) out ≡ a ++ over b (drop (length a) out)
unfolding over
over_append a b out =
    append_assoc a b (drop (length (a ++ b)) out) ∙
    ap (λ t. a ++ (b ++ t)) (ap (λ n. drop n out) (length-append a b) ∙ sym (drop-drop (length b) (length a) out))

-- one label more stands in the output
pub written_more : (l : Label) (n : ℕ) (out : List ℕ) → length l ≤ max_depth → label_size * n + label_size ≤ length out → (ls : List Label) →
    written (l ∷ ls) n out ≡ written ls (n + 1) (words.written (label_size * n) (label_words l) out)
unfolding written labels_words joined
written_more l n out short room ls =
    let end : label_size * n + length (label_words l) ≡ label_size * (n + 1) = omega (arith, length-label_words l short) in
    let fits : label_size * n + length (label_words l) ≤ length out = omega (arith, length-label_words l short) in
    ap (λ t. take (label_size * n) out ++ t) (over_append (label_words l) (labels_words ls) (drop (label_size * n) out)) ∙
    rw (← end, drop-drop, take_written_end (label_size * n) (label_words l) out fits, drop_written_end (label_size * n) (label_words l) out fits)
    (sym (append_assoc (take (label_size * n) out) (label_words l) (over (labels_words ls) (drop (label_size * n + length (label_words l)) out))))
