-- The records in use of a sound store: their words, and the element that a label's place reads as.
use Prim.Native.Nat.{ℕ, ◌+◌, ◌-◌, ◌*◌, ◌<◌, ◌≤◌}
use mathlib.Core.Path.{◌≡◌, sym, ap, subst, ◌∙◌}
use mathlib.Core.Bool.{true}
use mathlib.Core.List.{List}
use mathlib.Core.Option.{some, none}
use native.Mathlib.Omega.{arith}
use lib.ListN.{length, get_or, take, drop}
use lib.Seq.{take-add, drop_at, length-take-le}
use Rattle.basics.proofs.Leading.{leading_most}
use Rattle.basics.specs.Basics.{elim?, leading}
use Rattle.basics.specs.Limits.{max_depth, record_size}
use Rattle.naming.specs.Names.{Clues}
use Rattle.labelling.specs.Labels.{Label}
use Rattle.storage.specs.Store.{Element, store_words, read_element, elements, find, element_at, sound_check}
use Rattle.storage.proofs.Sizes.{length_elements_read}
use Rattle.storage.proofs.Faults.{sound_check_lem}
use Rattle.storage.proofs.Relaid.{relaid}
use Rattle.records.specs.Records.{record_at}
use Rattle.records.proofs.Elements.{element_at_lem}
use Rattle.lookup.specs.Places.{place_at, passes, InLabelOrder}
use Rattle.lookup.proofs.Places.{place_inside, find_place}
pub use Rattle.storage.proofs.SoundStore.{sound_fit}

-- the records in use behind place b
pub records_behind : (ws : List ℕ) (b count : ℕ) → b ≤ count → record_size * count ≤ length ws →
    drop (record_size * b) (take (record_size * count) ws) ≡ take (record_size * (count - b)) (drop (record_size * b) ws)
records_behind ws b count h room =
    let e : record_size * count ≡ record_size * b + record_size * (count - b) = omega arith in
    ap (λ n. drop (record_size * b) (take n ws)) e ∙ ap (drop (record_size * b)) (take-add (record_size * b) (record_size * (count - b)) ws) ∙
    drop_at (take (record_size * b) ws) _ (record_size * b) (length-take-le (record_size * b) ws (omega arith))

-- a label's subtree ends among the records in use
pub subtree_end : (count : ℕ) (ws : List ℕ) (l : Label) → leading (passes true l) (elements count ws) ≤ count
subtree_end count ws l = omega (arith, leading_most (passes true l) (elements count ws), length_elements_read count ws)

-- the number that is answered as the end of a subtree is not past the records in use
pub end_used : (count : ℕ) (ws : List ℕ) (l : Label) {end : ℕ} → end ≡ leading (passes true l) (elements count ws) → end ≤ count
end_used count ws l e = rw e (subtree_end count ws l)

module _ (cl : Clues) (ws : List ℕ) where
  -- the records in use of a sound store are the words of its elements
  pub sound_words : (count : ℕ) → sound_check cl count ws ≡ none → record_size * count ≤ length ws → store_words (elements count ws) ≡ take (record_size * count) ws
  sound_words count sound room = relaid cl count _ ws room ((sound_check_lem cl count ws).0 sound)

-- no element is found where a label has no place
pub find_absent : (count : ℕ) (ws : List ℕ) (l : Label) → place_at l (elements count ws) ≡ none → find l (elements count ws) ≡ none
unfolding elim?
find_absent count ws l e = rw (find_place l (elements count ws) (element_at l (elements count ws)), e)

module _ (count : ℕ) (ws : List ℕ) (l : Label) (a : ℕ) (at : place_at l (elements count ws) ≡ some a) where
  -- the place of a label is one of those in use
  pub place_used : a < count
  place_used = omega (arith, length_elements_read count ws, (place_inside l (elements count ws) a (element_at l (elements count ws)) at).0)

  -- the element with a label stands at its place
  element_found : (d : Element) → element_at l (elements count ws) ≡ get_or (elements count ws) a d
  unfolding element_at elim?
  element_found d = rw (find_place l (elements count ws) d, at)

  -- the element with a label is found as what the record at its place reads as
  pub find_found : find l (elements count ws) ≡ some (read_element (record_at a ws))
  unfolding elim?
  find_found =
      let d = element_at l (elements count ws) in
      find_place l (elements count ws) d ∙ rw at (ap some (element_at_lem count ws a d place_used))

  -- the element with a label is what the record at its place reads as
  pub parent_read : element_at l (elements count ws) ≡ read_element (record_at a ws)
  unfolding element_at elim?
  parent_read = rw find_found

  -- the element that a label's place has has that label
  pub parent_label_lem : (element_at l (elements count ws)).label ≡ l
  parent_label_lem =
      let d = element_at l (elements count ws) in
      ap (λ (e : Element). e.label) (element_found d) ∙ (place_inside l (elements count ws) a d at).1

  -- a label is as deep as the record at its place says
  pub label_high : length (read_element (record_at a ws)).label < max_depth → length l < max_depth
  label_high h = subst (λ m. length m < max_depth) (ap (λ (e : Element). e.label) (sym parent_read) ∙ parent_label_lem) h

  module _ (can : InLabelOrder count ws) where
    -- the record at a label's place is in the slice
    pub record_inside : a * record_size + record_size ≤ length ws
    record_inside = omega (arith, can.room, place_used)

    -- the record at a label's place has a depth of at most 15
    pub record_shallow : get_or ws (a * record_size) 0 ≤ max_depth
    record_shallow = can.shallow a place_used
