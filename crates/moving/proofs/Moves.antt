-- Records written and moved: what holds before, after each turn and at the end of the loops.
use Prim.Native.Nat.{ℕ, ◌+◌, ◌-◌, ◌*◌, ◌<◌, ◌≤◌}
use mathlib.Core.Logic.{◌⊎◌, inl, inr, by_cases}
use mathlib.Core.Path.{◌≡◌, sym, ap, ◌∙◌}
use mathlib.Core.List.{List, ◌++◌, append_assoc}
use native.Mathlib.Decide.{dec_lt}
use native.Mathlib.Omega.{arith}
use lib.ListN.{length, get_or, take, drop, set, replicate, length-append, length-drop, length-replicate, get_or-replicate, take-append-drop}
use lib.Seq.{paste, take_all, length-take-le, get_or-drop}
use Rattle.basics.specs.Basics.{over}
use Rattle.basics.specs.Limits.{record_size}
use Rattle.words.proofs.Words.{over_middle}
use Rattle.moving.specs.Moves.{put, shifted_up, shifted_down, cleared, inserted, removed}
use Rattle.moving.proofs.Words.{paste_more, paste_beside, two_parts_lem, part_kept, rest_kept, then_before, then_after}

-- where all words of a record are copied, the record is written at its place
pub put_is : (d : List ℕ) (at : ℕ) (s : List ℕ) (i : ℕ) {e : List ℕ} → e ≡ paste d (record_size * at) s i → i ≤ record_size → record_size ≤ i → e ≡ put d at (take record_size s)
unfolding put
put_is d at s i p h k =
    let x : i ≡ record_size = omega arith in
    let y : record_size * at + record_size ≡ record_size * (at + 1) = omega arith in
    p ∙ rw (x, y, append_assoc)

-- a record lent as a slice and overwritten is replaced
pub put_over : (d : List ℕ) (at : ℕ) (rec : List ℕ) {l : List ℕ} → length rec ≡ record_size → l ≡ over rec (take (length d - record_size * at) (drop (record_size * at) d)) →
    take (record_size * at) d ++ (l ++ drop (length d - record_size * at) (drop (record_size * at) d)) ≡ put d at rec
unfolding put
put_over d at rec n p = over_middle d rec (record_size * at) (record_size * (at + 1)) (omega arith) p

-- one more word of a record is copied
pub copy_more : (d : List ℕ) (from to i : ℕ) {e : List ℕ} → e ≡ paste d (record_size * to) (drop (record_size * from) d) i →
    record_size * (from + 1) ≤ length d → record_size * (to + 1) ≤ length d → i < record_size →
    set e (record_size * to + i) (get_or e (record_size * from + i) 0) ≡ paste d (record_size * to) (drop (record_size * from) d) (i + 1)
copy_more d from to i {e} p h k l =
    let n : i < length (drop (record_size * from) d) = rw length-drop (omega arith) in
    let beside : (record_size * from + i < record_size * to) ⊎ (record_size * to + i ≤ record_size * from + i) =
    by_cases (dec_lt from to) (λ b. inl (omega arith)) (λ b. inr (omega arith)) in
    let read : get_or e (record_size * from + i) 0 ≡ get_or d (record_size * from + i) 0 =
    rw p (paste_beside d (record_size * to) (drop (record_size * from) d) i (record_size * from + i) (omega arith) (omega arith) beside) in
    paste_more d (record_size * to) (drop (record_size * from) d) i p (omega arith) n (read ∙ sym (get_or-drop (record_size * from) d i 0))

-- zeros written over records `from` to `count`, i of n words so far
module _ (d : List ℕ) (from count n i : ℕ) {e : List ℕ} (p : e ≡ paste d (record_size * from) (replicate n 0) i) (size : n ≡ record_size * (count - from)) where
  -- one more word is set to 0
  pub clear_more : from ≤ count → record_size * count ≤ length d → i < n → set e (record_size * from + i) 0 ≡ paste d (record_size * from) (replicate n 0) (i + 1)
  clear_more h k l =
      let x : i < length {A = ℕ} (replicate n 0) = rw (length-replicate {A = ℕ} n 0) l in
      paste_more d (record_size * from) (replicate n 0) i p (omega arith) x (sym (get_or-replicate n i 0 0 l))

  -- where all n words are 0, the records are cleared
  pub clear_is : from ≤ count → i ≤ n → n ≤ i → e ≡ cleared d from count
  unfolding cleared
  clear_is h k l =
      let x : i ≡ n = omega arith in
      let y : record_size * from + n ≡ record_size * count = omega arith in
      let z : take {A = ℕ} n (replicate n 0) ≡ replicate n 0 = take_all n (replicate n 0) (omega (arith, length-replicate {A = ℕ} n 0)) in
      p ∙ rw (x, y, z, append_assoc, size)

module _ (d : List ℕ) (count : ℕ) where
  -- before the first turn no record is moved up
  pub up_none : d ≡ shifted_up d count count
  unfolding shifted_up
  up_none =
      let z : record_size * (count - count) ≡ 0 = omega arith in
      rw z (sym (take-append-drop (record_size * (count + 1)) d))

  -- one more record is moved up, to the place that the record behind it has left
  up_next : (j : ℕ) {e f : List ℕ} → j < count → record_size * (count + 1) ≤ length d → f ≡ shifted_up d (j + 1) count →
      e ≡ put f (j + 1) (take record_size (drop (record_size * j) f)) → e ≡ shifted_up d j count
  unfolding put shifted_up
  up_next j {e} {f} h k p q =
      let moved : List ℕ = take (record_size * (count - (j + 1))) (drop (record_size * (j + 1)) d) in
      let rest : List ℕ = drop (record_size * (count + 1)) d in
      let read : take record_size (drop (record_size * j) f) ≡ take record_size (drop (record_size * j) d) =
      rw p (part_kept d (moved ++ rest) (record_size * j) record_size (record_size * (j + 1 + 1)) (omega arith) (omega arith)) in
      q
      ∙ then_before d (record_size * (j + 1)) (record_size * (j + 1 + 1)) (record_size * (count + 1)) (take record_size (drop (record_size * j) f)) moved (omega arith) (omega arith) p
      ∙ rw read
      (ap (λ t. take (record_size * (j + 1)) d ++ t)
      (two_parts_lem d (record_size * j) record_size (record_size * (count - (j + 1))) (record_size * (j + 1)) (record_size * (count - j)) rest (omega arith) (omega arith)))

  -- one more record is moved up, the last first
  pub up_more : (at i : ℕ) {e f : List ℕ} → at < i → i ≤ count → record_size * (count + 1) ≤ length d → f ≡ shifted_up d i count →
      e ≡ put f (i - 1 + 1) (take record_size (drop (record_size * (i - 1)) f)) → e ≡ shifted_up d (i - 1) count
  up_more at i b h k p q =
      let x : i ≡ i - 1 + 1 = omega arith in
      up_next (i - 1) (omega arith) k (p ∙ ap (λ n. shifted_up d n count) x) q

  -- where the index has come down to the place, all records are moved up
  pub up_is : (at i : ℕ) {e : List ℕ} → e ≡ shifted_up d i count → at ≤ i → i ≤ at → e ≡ shifted_up d at count
  up_is at i p h k =
      let x : i ≡ at = omega arith in
      p ∙ ap (λ j. shifted_up d j count) x

module _ (d : List ℕ) (to from : ℕ) where
  -- before the first turn no record is moved down
  pub down_none : d ≡ shifted_down d to from from
  unfolding shifted_down
  down_none =
      let x : record_size * (from - from) ≡ 0 = omega arith in
      let y : to + (from - from) ≡ to = omega arith in
      rw (x, y) (sym (take-append-drop (record_size * to) d))

  -- how far the records that were moved down reach
  down_length : (i : ℕ) → to ≤ from → from ≤ i → record_size * i ≤ length d →
      length (take (record_size * to) d ++ take (record_size * (i - from)) (drop (record_size * from) d)) ≡ record_size * (to + (i - from))
  down_length i h k l =
      let x : record_size * (i - from) ≤ length (drop (record_size * from) d) = rw length-drop (omega arith) in
      rw (length-append, length-take-le (record_size * to) d (omega arith), length-take-le (record_size * (i - from)) (drop (record_size * from) d) x) (omega arith)

  -- one more record is moved down, the first first
  pub down_more : (count i : ℕ) {e f : List ℕ} → to ≤ from → from ≤ i → i < count → record_size * count ≤ length d → f ≡ shifted_down d to from i →
      e ≡ put f (to + (i - from)) (take record_size (drop (record_size * i) f)) → e ≡ shifted_down d to from (i + 1)
  unfolding put shifted_down
  down_more count i {e} {f} b h l k p q =
      let moved : List ℕ = take (record_size * (i - from)) (drop (record_size * from) d) in
      let last : ℕ = to + (i - from) in
      let rest : List ℕ = drop (record_size * (last + 1)) d in
      let ends = down_length i b h (omega arith) in
      let read : take record_size (drop (record_size * i) f) ≡ take record_size (drop (record_size * i) d) =
      ap (λ t. take record_size (drop (record_size * i) t)) (p ∙ sym (append_assoc (take (record_size * to) d) moved (drop (record_size * last) d)))
      ∙ ap (λ t. take record_size t) (rest_kept d (take (record_size * to) d ++ moved) (record_size * last) (record_size * i) ends (omega arith)) in
      let x : last + 1 ≡ to + (i + 1 - from) = omega arith in
      q
      ∙ then_after d (record_size * to) (record_size * last) (record_size * (last + 1)) (take record_size (drop (record_size * i) f)) moved ends (omega arith) p
      ∙ rw (read, ← x)
      (ap (λ t. take (record_size * to) d ++ t)
      (two_parts_lem d (record_size * from) (record_size * (i - from)) record_size (record_size * i) (record_size * (i + 1 - from)) rest (omega arith) (omega arith)))

  -- where the index has come to the count, all records are moved down
  pub down_is : (count i : ℕ) {e : List ℕ} → e ≡ shifted_down d to from i → i ≤ count → count ≤ i → e ≡ shifted_down d to from count
  down_is count i p h k =
      let x : i ≡ count = omega arith in
      p ∙ ap (λ j. shifted_down d to from j) x

-- records moved up and one put into the gap are a record put in
pub insert_is : (d : List ℕ) (at count : ℕ) (rec : List ℕ) {e f : List ℕ} → at ≤ count → record_size * (count + 1) ≤ length d →
    f ≡ shifted_up d at count → e ≡ put f at rec → e ≡ inserted d at count rec
unfolding shifted_up put inserted
insert_is d at count rec h k p q =
    q
    ∙ then_before d (record_size * at) (record_size * (at + 1)) (record_size * (count + 1)) rec (take (record_size * (count - at)) (drop (record_size * at) d)) (omega arith) (omega arith) p

-- records moved down and zeros behind them are records taken out
pub remove_is : (d : List ℕ) (from to count : ℕ) {e f : List ℕ} → from < to → to ≤ count → record_size * count ≤ length d →
    f ≡ shifted_down d from to count → e ≡ cleared f (from + (count - to)) count → e ≡ removed d from to count
unfolding shifted_down cleared removed
remove_is d from to count {e} {f} h k l p q =
    let x : count - (from + (count - to)) ≡ to - from = omega arith in
    q
    ∙ then_after d (record_size * from) (record_size * (from + (count - to))) (record_size * count) (replicate (record_size * (count - (from + (count - to)))) 0)
    (take (record_size * (count - to)) (drop (record_size * to) d)) (down_length d from to count (omega arith) k l) (omega arith) p
    ∙ ap (λ n. take (record_size * from) d ++ (take (record_size * (count - to)) (drop (record_size * to) d) ++ (replicate (record_size * n) 0 ++ drop (record_size * count) d))) x
