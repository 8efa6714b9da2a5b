-- What each way out of the search tells of the definitions.
use Prim.Native.Nat.{ℕ, ◌+◌, ◌*◌, ◌<◌, ◌≤◌}
use mathlib.Core.Path.{◌≡◌, sym, ap, subst, ◌∙◌}
use mathlib.Core.Bool.{Bool, true, false, not, true≢false}
use mathlib.Core.List.{List}
use mathlib.Core.Option.{some}
use native.Mathlib.Omega.{arith}
use lib.ListN.{length, get_or}
use lib.Dec.{T, eqb}
use lib.Pointwise.{pointwise, bytes_decides}
use borrow.Author.Tests.{not-true, not-false}
use Rattle.basics.proofs.Leading.{leading_most, leading_under}
use Rattle.basics.specs.Basics.{leading}
use Rattle.basics.specs.Limits.{max_depth, record_size}
use Rattle.labelling.specs.Labels.{Label, before, shared, within, label_of}
use Rattle.storage.specs.Store.{Element, read_element, elements}
use Rattle.storage.proofs.Sizes.{length_elements_read}
use Rattle.records.specs.Records.{record_at}
use Rattle.records.proofs.Elements.{element_at_lem}
use Rattle.std.specs.Prelude.{Some, None}
use Rattle.bridges.specs.Options.{optional}
use Rattle.lookup.specs.Places.{place_at, passes, InLabelOrder}
use Rattle.lookup.proofs.Places.{empty, leading_over, place_leading, place_inside, place_none, place_found}

-- record r has the label m, and b tells whether m comes before a label
module _ (ws : List ℕ) (r : ℕ) (l : Label) {m : Label} (e : m ≡ label_of (record_at r ws)) {b : Bool} (is : b ≡ before m l) where
  -- a record before a label passes it
  pub passes_before : (subtree : Bool) → b ≡ true → true ≡ passes subtree l (read_element (record_at r ws))
  unfolding passes read_element
  passes_before subtree h = rw (← e, ← is, h)

  module _ (h : b ≡ false) where
    -- a record that is not before a label does not pass it where its subtree is not asked for
    pub passes_not : (subtree : Bool) → not subtree ≡ true → false ≡ passes subtree l (read_element (record_at r ws))
    unfolding passes read_element
    passes_not subtree n = rw (← e, ← is, h, not-true subtree n)

    -- where the label's subtree is asked for, a record that is not before the label passes if it is in that
    pub passes_inside : (subtree : Bool) → not subtree ≡ false → {s : ℕ} → s ≡ shared l m → eqb s (length l) ≡ passes subtree l (read_element (record_at r ws))
    unfolding passes read_element within
    passes_inside subtree n f = rw (← e, ← is, h, not-false subtree n, f)

-- no more records pass than are in use
pub rank_most : (f : Element → Bool) (count : ℕ) (ws : List ℕ) → leading f (elements count ws) ≤ count
rank_most f count ws = omega (arith, leading_most f (elements count ws), length_elements_read count ws)

-- a record in use
module _ (count : ℕ) (ws : List ℕ) (s : InLabelOrder count ws) {r : ℕ} (h : r < count) where
  -- a record in use is in the slice
  pub in_room : r * record_size + record_size ≤ length ws
  in_room = omega (arith, s.room)

  -- the depth of a record in use is at most 15
  pub in_shallow : get_or ws (r * record_size) 0 ≤ max_depth
  in_shallow = s.shallow r h

  module _ (subtree : Bool) (l : Label) {p : Bool} (is : p ≡ passes subtree l (read_element (record_at r ws))) where
    -- the answer is that of the element
    passes_at : p ≡ passes subtree l (get_or (elements count ws) r empty)
    passes_at = is ∙ ap (passes subtree l) (sym (element_at_lem count ws r empty h))

    -- a record that passes is counted
    pub rank_over : p ≡ true → r + 1 ≤ leading (passes subtree l) (elements count ws)
    rank_over e =
        omega (arith, leading_over subtree l (elements count ws) r empty s.ordered (omega (arith, length_elements_read count ws)) (subst T (sym e ∙ passes_at) tt))

    -- no record is counted from one on that does not pass
    pub rank_under : p ≡ false → leading (passes subtree l) (elements count ws) ≤ r
    rank_under e = leading_under (passes subtree l) empty (elements count ws) r (λ t. subst T (sym passes_at ∙ e) t)

-- labels that a comparison tells apart are not the same
told_apart : {m l : Label} → false ≡ pointwise eqb m l → m ≡ l → ⊥
told_apart {m} {l} n e = true≢false (sym ((bytes_decides m l).1 e) ∙ sym n)

-- record r is the first that does not come before a label
module _ (count : ℕ) (ws : List ℕ) (s : InLabelOrder count ws) (l : Label) {r : ℕ} (is : r ≡ leading (passes false l) (elements count ws)) where
  -- the label stands there or nowhere
  absent : ((a : ℕ) → r ≡ a → place_at l (elements count ws) ≡ some a → ⊥) → None ≡ optional (place_at l (elements count ws))
  absent n = rw (place_none l (elements count ws) (λ a q. n a (is ∙ sym (place_leading l (elements count ws) a s.ordered q)) q))

  -- all come before it
  pub lookup_past : count ≤ r → None ≡ optional (place_at l (elements count ws))
  lookup_past h = absent (λ a e q. omega (arith, (place_inside l (elements count ws) a empty q).0, length_elements_read count ws))

  module _ (h : r < count) {m : Label} (e : m ≡ label_of (record_at r ws)) where
    -- the record's label is the element's
    label_is : (get_or (elements count ws) r empty).label ≡ m
    unfolding read_element
    label_is = ap (λ (x : Element). x.label) (element_at_lem count ws r empty h) ∙ sym e

    -- where the record has another label, the label stands nowhere
    pub lookup_other : false ≡ pointwise eqb m l → None ≡ optional (place_at l (elements count ws))
    lookup_other n = absent (λ a d q. told_apart n (sym label_is ∙ ap (λ (i : ℕ). (get_or (elements count ws) i empty).label) d ∙ (place_inside l (elements count ws) a empty q).1))

    -- where the record has the label, it is found there
    pub lookup_here : true ≡ pointwise eqb m l → Some r ≡ optional (place_at l (elements count ws))
    lookup_here d =
        let same : m ≡ l = (bytes_decides m l).0 (sym d) in
        let (a, p) = place_found l (elements count ws) r empty (omega (arith, length_elements_read count ws)) (label_is ∙ same) in
        rw p (ap Some (is ∙ sym (place_leading l (elements count ws) a s.ordered p)))
