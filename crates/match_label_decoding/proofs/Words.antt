-- The labels of a stream in its words: the words of label i, the label before it, and the test of their order.
use Prim.Native.Nat.{ℕ, zero, suc, ◌+◌, ◌-◌, ◌*◌, ◌≤◌}
use mathlib.Core.Path.{◌≡◌, refl, ap, ◌∙◌}
use mathlib.Core.Bool.{Bool, true, ◌||◌}
use mathlib.Core.List.{List, []}
use native.Mathlib.Omega.{arith}
use lib.ListN.{length, take, drop, length-drop}
use lib.Seq.{length-take-le}
use lib.Dec.{eqb}
use borrow.Author.Tests.{eq-eqb, ne_eqb}
use Rattle.basics.specs.Basics.{elim?}
use Rattle.basics.specs.Limits.{label_size}
use Rattle.labelling.specs.Labels.{Label, before, label_of, is_label}
use Rattle.match_label_decoding.specs.Streams.{words_at, label_at, previous_at, label_before, Stood}

-- the part of a stream between the bounds of label i is its words
pub words_are : (ws : List ℕ) (i : ℕ) → take (i * label_size + label_size - i * label_size) (drop (i * label_size) ws) ≡ words_at i ws
unfolding words_at
words_are ws i = let e : i * label_size + label_size - i * label_size ≡ label_size = omega arith in rw e

-- the words of label i are sixteen
pub words_sixteen : (ws : List ℕ) (i : ℕ) → i * label_size + label_size ≤ length ws → length (take (i * label_size + label_size - i * label_size) (drop (i * label_size) ws)) ≡ label_size
words_sixteen ws i room =
    let e : i * label_size + label_size - i * label_size ≡ label_size = omega arith in
    rw e (length-take-le label_size (drop (i * label_size) ws) (omega (arith, length-drop (i * label_size) ws)))

-- the label before the first one is the root's
pub before_first : (ws : List ℕ) (i : ℕ) → i ≡ 0 → [] ≡ label_before i ws
unfolding label_before previous_at elim?
before_first ws i e = rw e

-- the label before a later one is that of the words before its own
pub before_other : (ws : List ℕ) (i : ℕ) → (i ≡ 0 → ⊥) → {l : Label} {vs : List ℕ} → vs ≡ words_at (i - 1) ws → l ≡ label_of vs → l ≡ label_before i ws
unfolding label_before previous_at elim?
before_other ws zero n e f = absurd (n refl)
before_other ws (suc i) n e f = let z : suc i - 1 ≡ i = omega arith in f ∙ ap label_of e ∙ ap (λ j. label_at j ws) z

-- the words before a later label are a label
pub before_label : (ws : List ℕ) (i : ℕ) → Stood i ws → (i ≡ 0 → ⊥) → {vs : List ℕ} → vs ≡ words_at (i - 1) ws → is_label vs ≡ true
before_label ws i stood n e = ap is_label e ∙ stood n

-- the first label is behind none, so its order passes
pub later_first : (i : ℕ) (l m : Label) → i ≡ 0 → eqb i 0 ≡ (eqb i 0 || before l m)
later_first i l m e = rw (eq-eqb _ _ e)

-- the order of a later label is that with the label before it
pub later_other : (i : ℕ) (l m : Label) → (i ≡ 0 → ⊥) → {b : Bool} → b ≡ before l m → b ≡ (eqb i 0 || before l m)
later_other i l m n e = rw (ne_eqb _ _ n) e
