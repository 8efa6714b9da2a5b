-- What a deletion leaves of the words of a sound store:
-- the records of the label's subtree taken out, and zeros at the end.
use Prim.Native.Nat.{ℕ, ◌-◌, ◌*◌, ◌<◌, ◌≤◌}
use mathlib.Core.Path.{◌≡◌, sym, ap, ap₂, ◌∙◌}
use mathlib.Core.Bool.{true}
use mathlib.Core.List.{List, ◌++◌, append_assoc}
use mathlib.Core.Option.{some, none}
use native.Mathlib.Omega.{arith}
use lib.ListN.{length, take, drop, replicate, length-append, length-drop, length-replicate}
use lib.Seq.{length-take-le, take-take}
use Rattle.basics.specs.Basics.{over, leading}
use Rattle.basics.specs.Limits.{record_size}
use Rattle.naming.specs.Names.{Clues}
use Rattle.labelling.specs.Labels.{Label}
use Rattle.storage.specs.Store.{Element, store_words, elements, sound_check}
use Rattle.store_calls.specs.Updates.{without}
use Rattle.storage.proofs.Sizes.{length_elements_read}
use Rattle.moving.specs.Moves.{removed}
use Rattle.lookup.specs.Places.{place_at, passes}
use Rattle.lookup.proofs.Places.{searchable, place_leading, place_before_end, without_leading}
use Rattle.changes.proofs.Splices.{words_gap}
use Rattle.changes.proofs.InUse.{records_behind, subtree_end, sound_fit, sound_words}

-- the records in use with some taken out and zeros behind them, written over the slice
remove_over : (ws : List ℕ) (a b count : ℕ) → a ≤ b → b ≤ count → record_size * count ≤ length ws →
    over (take (record_size * a) (take (record_size * count) ws) ++ drop (record_size * b) (take (record_size * count) ws) ++ replicate (record_size * (b - a)) 0) ws ≡
    removed ws a b count
unfolding over removed
remove_over ws a b count h k room =
    let used : List ℕ = take (record_size * count) ws in
    let front : List ℕ = take (record_size * a) used in
    let back : List ℕ = drop (record_size * b) used in
    let zeros : List ℕ = replicate (record_size * (b - a)) 0 in
    let held : length used ≡ record_size * count = length-take-le (record_size * count) ws room in
    let long : length (front ++ back ++ zeros) ≡ record_size * count =
    omega (
      arith,
      length-append (front ++ back) zeros,
      length-append front back,
      length-take-le (record_size * a) used (omega arith),
      length-drop (record_size * b) used,
      length-replicate {A = ℕ} (record_size * (b - a)) 0,
    ) in
    ap (λ n. front ++ back ++ zeros ++ drop n ws) long ∙ append_assoc (front ++ back) zeros _ ∙ append_assoc front back _ ∙
    ap₂ (λ s t. s ++ (t ++ (zeros ++ drop (record_size * count) ws))) (take-take (record_size * a) (record_size * count) ws (omega arith))
    (records_behind ws b count k room)

-- a deletion from a sound store, of the element at place a
module _ (cl : Clues) (count : ℕ) (ws : List ℕ) (l : Label) (a : ℕ) (sound : sound_check cl count ws ≡ none) (room : record_size * count ≤ length ws)
    (at : place_at l (elements count ws) ≡ some a) where
  -- the end of the label's subtree is behind its place
  before_end : a < leading (passes true l) (elements count ws)
  before_end = place_before_end l (elements count ws) a (searchable cl count ws room sound).ordered at

  -- the elements left are those before the place and those behind the end
  left_parts : without l (elements count ws) ≡ take a (elements count ws) ++ drop (leading (passes true l) (elements count ws)) (elements count ws)
  left_parts =
      let es : List Element = elements count ws in
      let ordered = (searchable cl count ws room sound).ordered in
      without_leading l es ordered ∙ ap (λ n. take n es ++ drop (leading (passes true l) es) es) (sym (place_leading l es a ordered at))

  -- as many elements are left as were there but for the subtree
  pub delete_count : length (without l (elements count ws)) ≡ count - (leading (passes true l) (elements count ws) - a)
  delete_count =
      let es : List Element = elements count ws in
      let b : ℕ = leading (passes true l) es in
      let n : length es ≡ count = length_elements_read count ws in
      ap length left_parts ∙
      omega (arith, length-append (take a es) (drop b es), length-take-le a es (omega (arith, before_end, subtree_end count ws l)), length-drop b es, before_end, subtree_end count ws l)

  -- the words that a deletion leaves are those with the subtree's records taken out
  pub delete_words :
      over (store_words (without l (elements count ws)) ++ replicate (record_size * (count - length (without l (elements count ws)))) 0) ws ≡
      removed ws a (leading (passes true l) (elements count ws)) count
  delete_words =
      let es : List Element = elements count ws in
      let b : ℕ = leading (passes true l) es in
      let freed : count - length (without l es) ≡ b - a = omega (arith, delete_count, before_end, subtree_end count ws l) in
      let words : store_words (without l es) ≡ take (record_size * a) (take (record_size * count) ws) ++ drop (record_size * b) (take (record_size * count) ws) =
      ap store_words left_parts ∙
      words_gap es (sound_fit cl ws count sound) a b (omega (arith, before_end)) (omega (arith, subtree_end count ws l, length_elements_read count ws)) ∙
      ap (λ s. take (record_size * a) s ++ drop (record_size * b) s) (sound_words cl ws count sound room) in
      ap₂ (λ s n. over (s ++ replicate (record_size * n) 0) ws) words freed ∙ remove_over ws a b count (omega (arith, before_end)) (subtree_end count ws l) room
