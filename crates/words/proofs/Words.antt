-- Words written over others: what a loop has written so far, and what a list is whose middle was overwritten.
use Prim.Native.Nat.{ℕ, ◌+◌, ◌-◌, ◌<◌, ◌≤◌}
use mathlib.Core.Path.{◌≡◌, sym, ap, ◌∙◌}
use mathlib.Core.List.{List, ◌++◌, append-nil}
use native.Mathlib.Omega.{arith}
use native.Mathlib.Nat.{zero-add}
use native.Mathlib.Numerals.{add-one}
use lib.ListN.{length, get_or, take, drop, set, length-drop}
use lib.Seq.{paste-suc, take-length, drop-length, drop-drop}
use Rattle.basics.specs.Basics.{over}
use Rattle.basics.proofs.Scans.{tail_is}

module _ (d s : List ℕ) {e : List ℕ} {i : ℕ} (p : e ≡ take i s ++ drop i d) where
  -- one more word is written
  pub over_more : length s ≤ length d → i < length s → set e i (get_or s i 0) ≡ take (i + 1) s ++ drop (i + 1) d
  over_more h k =
      let more = paste-suc d 0 s i 0 (omega arith) k in
      rw (p, add-one) (simp zero-add at more)

  -- at the end of the loop all words are written
  pub over_all : i ≤ length s → length s ≤ i → e ≡ over s d
  unfolding over
  over_all h k =
      let z : i ≡ length s = omega arith in
      p ∙ rw z (ap (λ t. t ++ drop (length s) d) (take-length s))

-- a list of which the words from one place on were lent and
-- overwritten: those written stand there, and the rest is as it was
pub over_middle : (d s : List ℕ) (from to : ℕ) {l : List ℕ} → from + length s ≡ to → l ≡ over s (take (length d - from) (drop from d)) →
    take from d ++ (l ++ drop (length d - from) (drop from d)) ≡ take from d ++ (s ++ drop to d)
unfolding over
over_middle d s from to e p =
    let none_behind = ap (λ n. drop n (drop from d)) (sym (length-drop from d)) ∙ drop-length (drop from d) in
    ap (λ t. take from d ++ t) (rw (p, tail_is, none_behind, append-nil, drop-drop, e))
