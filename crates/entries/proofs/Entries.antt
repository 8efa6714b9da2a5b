-- What an entry leaves of the words of a sound store:
-- the parent's next number raised, and a record put in behind the parent's subtree.
use Prim.Native.Nat.{ℕ, ◌+◌, ◌*◌, ◌<◌, ◌≤◌}
use mathlib.Core.Path.{◌≡◌, sym, ap, ap₂, ◌∙◌}
use mathlib.Core.Bool.{true}
use mathlib.Core.List.{List, [], ◌∷◌, ◌++◌, map, append_assoc}
use mathlib.Core.Option.{some, none}
use native.Mathlib.Omega.{arith}
use lib.ListN.{length, take, drop, set, length-append, length-drop, length-set, length-map}
use lib.Seq.{length-take-le, take-take, take-set-lt, drop-set-lt}
use Rattle.basics.specs.Basics.{over, leading}
use Rattle.basics.specs.Limits.{max_depth, record_size, next_word}
use Rattle.naming.specs.Names.{Clues}
use Rattle.labelling.specs.Labels.{Label}
use Rattle.storage.specs.Store.{Element, element_words, store_words, elements, element_at, sound_check}
use Rattle.store_calls.specs.Updates.{given, raised, placed, entered}
use Rattle.basics.proofs.Lists.{for_map}
use Rattle.storage.proofs.Sizes.{length_elements_read}
use Rattle.storage.proofs.Words.{length-element_words}
use Rattle.moving.specs.Moves.{inserted}
use Rattle.lookup.specs.Places.{place_at, passes}
use Rattle.lookup.proofs.Places.{searchable, placed_leading}
use Rattle.changes.proofs.Splices.{words_splice}
use Rattle.entries.proofs.Raises.{leading_raised, words_raised}
use Rattle.changes.proofs.InUse.{records_behind, subtree_end, sound_fit, sound_words, place_used, parent_label_lem}

-- the records in use with one put in, written over the slice
insert_over : (ws out rec : List ℕ) (b count : ℕ) → b ≤ count → record_size * (count + 1) ≤ length ws → length rec ≡ record_size →
    drop (record_size * (count + 1)) out ≡ drop (record_size * (count + 1)) ws →
    over (take (record_size * b) (take (record_size * count) ws) ++ (rec ++ drop (record_size * b) (take (record_size * count) ws))) out ≡ inserted ws b count rec
unfolding over inserted
insert_over ws out rec b count h room size rest =
    let used : List ℕ = take (record_size * count) ws in
    let front : List ℕ = take (record_size * b) used in
    let back : List ℕ = drop (record_size * b) used in
    let held : length used ≡ record_size * count = length-take-le (record_size * count) ws (omega arith) in
    let long : length (front ++ (rec ++ back)) ≡ record_size * (count + 1) =
    omega (arith, length-append front (rec ++ back), length-append rec back, length-take-le (record_size * b) used (omega arith), length-drop (record_size * b) used) in
    ap (λ n. (front ++ (rec ++ back)) ++ drop n out) long ∙ ap (λ t. (front ++ (rec ++ back)) ++ t) rest ∙
    append_assoc front (rec ++ back) _ ∙ ap (λ t. front ++ t) (append_assoc rec back _) ∙
    ap₂ (λ s t. s ++ (rec ++ (t ++ drop (record_size * (count + 1)) ws))) (take-take (record_size * b) (record_size * count) ws (omega arith))
    (records_behind ws b count h (omega arith))

-- an entry into a sound store with a free record, below the element at place a
module _ (cl : Clues) (count : ℕ) (ws : List ℕ) (l : Label) (a : ℕ) (sound : sound_check cl count ws ≡ none) (room : record_size * (count + 1) ≤ length ws)
    (at : place_at l (elements count ws) ≡ some a) where
  -- raising the next number of the element at place a sets one word
  raised_words : (f : ℕ) → store_words (map (raised l f) (elements count ws)) ≡ take (record_size * count) (set ws (a * record_size + next_word) f)
  raised_words f =
      words_raised l f (elements count ws) (sound_fit cl ws count sound) (searchable cl count ws (omega arith) sound).ordered a at ∙
      ap (λ s. set s (a * record_size + next_word) f) (sound_words cl ws count sound (omega arith)) ∙
      sym (take-set-lt (record_size * count) ws (a * record_size + next_word) f (omega (arith, place_used count ws l a at)))

  -- with the next number raised and an element placed, the words have one record more
  placed_words : (f : ℕ) (new : Element) → length new.label ≤ max_depth →
      over (store_words (placed l new (map (raised l f) (elements count ws)))) ws ≡
      inserted (set ws (a * record_size + next_word) f) (leading (passes true l) (elements count ws)) count (element_words new)
  unfolding raised
  placed_words f new shallow =
      let es : List Element = elements count ws in
      let up : List Element = map (raised l f) es in
      let b : ℕ = leading (passes true l) es in
      let ws' : List ℕ = set ws (a * record_size + next_word) f in
      let most : b ≤ count = subtree_end count ws l in
      ap (λ t. over (store_words t) ws) (placed_leading l new up ∙ ap (λ n. take n up ++ (new ∷ drop n up)) (leading_raised l f true l es)) ∙
      ap (λ t. over t ws) (words_splice up (for_map (raised l f) (λ e. length e.label ≤ max_depth) es (sound_fit cl ws count sound)) b
      (omega (arith, length-map es (raised l f), length_elements_read count ws)) new ∙
      ap (λ s. take (record_size * b) s ++ (element_words new ++ drop (record_size * b) s)) (raised_words f)) ∙
      insert_over ws' ws (element_words new) b count most (omega (arith, length-set ws (a * record_size + next_word) f))
      (length-element_words new shallow) (sym (drop-set-lt (record_size * (count + 1)) ws (a * record_size + next_word) f (omega (arith, place_used count ws l a at))))

  -- the words that an entry leaves are those with the child written
  pub enter_words : length l < max_depth → (name p0 p1 : ℕ) →
      over (store_words (entered cl (elements count ws) (element_at l (elements count ws)) name p0 p1)) ws ≡
      inserted (set ws (a * record_size + next_word) (given cl (element_at l (elements count ws)) name + 1)) (leading (passes true l) (elements count ws)) count
      (element_words (record {
        label = l ++ (given cl (element_at l (elements count ws)) name ∷ []);
        name = name;
        next = 0;
        payload0 = p0;
        payload1 = p1;
      }))
  unfolding entered
  enter_words high name p0 p1 =
      let num : ℕ = given cl (element_at l (elements count ws)) name in
      let child : Label → Element = λ m. record { label = m ++ (num ∷ []); name = name; next = 0; payload0 = p0; payload1 = p1 } in
      ap (λ m. over (store_words (placed m (child m) (map (raised m (num + 1)) (elements count ws)))) ws) (parent_label_lem count ws l a at) ∙
      placed_words (num + 1) (child l) (omega (arith, length-append l (num ∷ [])))
