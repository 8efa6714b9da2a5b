-- Names written to the places of a label: where they stand, and what stays before them.
use Prim.Native.Nat.{ℕ, ◌+◌, ◌*◌, ◌<◌, ◌≤◌}
use mathlib.Core.Path.{◌≡◌, sym, ap, ◌∙◌}
use mathlib.Core.List.{List, ◌++◌, append_assoc}
use native.Mathlib.Omega.{arith}
use lib.ListN.{length, take, drop, length-drop, take-append-drop}
use lib.Seq.{paste, take_all, take_at, drop_at, take-append-le, drop-append-le, length-take-le, length-paste}

-- a part that lies in the front of a list does not depend on how the list goes on
part_front : (l rest : List ℕ) (k m : ℕ) → k + m ≤ length l → take m (drop k (l ++ rest)) ≡ take m (drop k l)
part_front l rest k m h = ap (take m) (drop-append-le k l rest (omega arith)) ∙ take-append-le m (drop k l) rest (omega (arith, length-drop k l))

-- n names written to a list from a place on
module _ (d : List ℕ) (at : ℕ) (names : List ℕ) (n : ℕ) where
  -- the list is as long as it was
  pub pasted_long : {rows : List ℕ} → rows ≡ paste d at names n → length names ≡ n → at + n ≤ length d → length rows ≡ length d
  pasted_long e size room = ap length e ∙ length-paste d at names n room (omega arith)

  -- the names stand where they were written
  pub pasted_here : length names ≡ n → at ≤ length d → take n (drop at (paste d at names n)) ≡ names
  pasted_here size room =
      let all : take n names ≡ names = take_all n names (omega arith) in
      ap (λ l. take n (drop at l)) (append_assoc (take at d) (take n names) (drop (at + n) d)) ∙
      ap (take n) (drop_at (take at d) _ at (length-take-le at d room)) ∙
      take_at (take n names) (drop (at + n) d) n (ap length all ∙ size) ∙ all

  -- what stands before the names stays
  pub pasted_before : (k m : ℕ) → k + m ≤ at → at ≤ length d → take m (drop k (paste d at names n)) ≡ take m (drop k d)
  pasted_before k m h room =
      let long : length (take at d) ≡ at = length-take-le at d room in
      ap (λ l. take m (drop k l)) (append_assoc (take at d) (take n names) (drop (at + n) d)) ∙
      part_front (take at d) _ k m (omega arith) ∙ sym (part_front (take at d) (drop at d) k m (omega arith)) ∙
      ap (λ l. take m (drop k l)) (take-append-drop at d)
