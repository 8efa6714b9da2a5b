-- The stream of a store from one record on: what a turn of a loop over the records finds of it.
use Prim.Native.Nat.{ℕ, ◌+◌, ◌<◌, ◌≤◌}
use mathlib.Core.Path.{◌≡◌, refl, sym, ap, ◌∙◌}
use mathlib.Core.Bool.{Bool, true, false, cond}
use mathlib.Core.List.{List, [], ◌∷◌, map}
use native.Mathlib.Numerals.{add-one}
use native.Mathlib.Omega.{arith}
use lib.ListN.{length, drop, drop_of_length-le}
use Rattle.basics.specs.Basics.{keep}
use Rattle.labelling.specs.Labels.{Label}
use Rattle.embeddings.specs.Matches.{asks}
use Rattle.storage.specs.Store.{Element, read_element, elements}
use Rattle.cut_calls.specs.Cutting.{stream}
use Rattle.basics.proofs.Scans.{from_cons}
use Rattle.storage.proofs.Sizes.{length_elements_read}
use Rattle.records.specs.Records.{record_at}
use Rattle.records.proofs.Elements.{element_at_lem}

-- the stream of elements with one more in front
stream_cons : (want : ℕ) (e : Element) (es : List Element) →
    stream want (e ∷ es) ≡ cond (asks want e.name) (e.label ∷ stream want es) (stream want es)
unfolding stream keep
stream_cons want e es = go (asks want e.name)
  where
    go : (b : Bool) → map (λ (e : Element). e.label) (cond b (e ∷ keep (λ e. asks want e.name) es) (keep (λ e. asks want e.name) es)) ≡
        cond b (e.label ∷ map (λ (e : Element). e.label) (keep (λ e. asks want e.name) es)) (map (λ (e : Element). e.label) (keep (λ e. asks want e.name) es))
    go true = refl
    go false = refl

-- whether the name of record r is asked for
abbrev pub asked : ℕ → List ℕ → ℕ → Bool
asked want ws r = asks want (read_element (record_at r ws)).name

-- the stream of the elements from record r on
abbrev pub stream_from : ℕ → ℕ → List ℕ → ℕ → List Label
stream_from want count ws r = stream want (drop r (elements count ws))

-- behind the last record the stream is empty
pub stream_end : (want count : ℕ) (ws : List ℕ) (r : ℕ) → count ≤ r → stream_from want count ws r ≡ []
unfolding stream keep
stream_end want count ws r h =
    let past : length (elements count ws) ≤ r = omega (arith, length_elements_read count ws) in
    rw drop_of_length-le

module _ (want count : ℕ) (ws : List ℕ) (r : ℕ) (h : r < count) where
  -- record r decides whether its label is the first of the stream
  stream_next : stream_from want count ws r ≡
      cond (asked want ws r) ((read_element (record_at r ws)).label ∷ stream_from want count ws (r + 1)) (stream_from want count ws (r + 1))
  stream_next =
      let es : List Element = elements count ws in
      let e : Element = read_element (record_at r ws) in
      let split : drop r es ≡ e ∷ drop (r + 1) es =
      from_cons es r e (omega (arith, length_elements_read count ws)) ∙ ap (λ x. x ∷ drop (r + 1) es) (element_at_lem count ws r e h) in
      ap (stream want) split ∙ stream_cons want e (drop (r + 1) es)

  -- a label that is asked for is the first of the stream
  pub stream_taken : asked want ws r ≡ true → stream_from want count ws r ≡ (read_element (record_at r ws)).label ∷ stream_from want count ws (r + 1)
  stream_taken e = stream_next ∙ rw e

  -- where the label of record r is not asked for, the stream begins behind it
  pub stream_left : asked want ws r ≡ false → stream_from want count ws r ≡ stream_from want count ws (r + 1)
  stream_left e = stream_next ∙ rw e

-- n labels of the stream are counted before record r
module _ (want count : ℕ) (ws : List ℕ) (r n : ℕ) (inv : n + length (stream_from want count ws r) ≡ length (stream want (elements count ws))) where
  -- at the end all labels of the stream are counted
  pub count_end : count ≤ r → n ≡ length (stream want (elements count ws))
  count_end h = let none : length (stream_from want count ws r) ≡ 0 = ap (λ (ls : List Label). length ls) (stream_end want count ws r h) in omega arith

  module _ (h : r < count) {b : Bool} (is : b ≡ asked want ws r) {m : ℕ} where
    -- a label that is asked for is counted
    pub count_taken : b ≡ true → m ≡ n + 1 → m + length (stream_from want count ws (r + 1)) ≡ length (stream want (elements count ws))
    count_taken e f =
        let one : length (stream_from want count ws r) ≡ length (stream_from want count ws (r + 1)) + 1 =
        ap (λ (ls : List Label). length ls) (stream_taken want count ws r h (sym is ∙ e)) ∙ sym (add-one _) in
        omega arith

    -- a label that is not asked for is not counted
    pub count_left : b ≡ false → m ≡ n → m + length (stream_from want count ws (r + 1)) ≡ length (stream want (elements count ws))
    count_left e f = rw (f, ← stream_left want count ws r h (sym is ∙ e)) inv
