-- What holds of a sound store, from a run or not.
use mathlib.Core.Path.{◌≡◌, refl, sym, ap, subst, ◌∙◌}
use mathlib.Core.List.{List, [], ◌∷◌, map}
use mathlib.Core.Option.{none, some}
use Prim.Native.Nat.{ℕ, zero, suc, ◌≤◌, ◌<◌}
use native.Mathlib.Omega.{arith}
use lib.ListN.{length, get_or, take, drop, length-take, length-drop}
use lib.Seq.{length-take-le}
use lib.Dec.{T}
use Rattle.basics.specs.Basics.{◌∈◌, all, last, Ascending, none_left, one_more_lem}
use Rattle.basics.specs.Limits.{max_name, label_size, record_size}
use Rattle.naming.specs.Names.{Clues, led}
use Rattle.labelling.specs.Labels.{Label, before, above, name_at, end_of, decode, label_of}
use Rattle.storage.specs.Store.{Element, ahead, read_element, records, elements, laid_out, broken, fault, root_of, size_check, sound_check, layout_rule, order_rule, parent_rule, name_rule, last_rule, next_rule}
use Rattle.basics.proofs.Lists.{here, there, nowhere, for_cons}
use Rattle.labelling.proofs.LabelOrder.{before_order, above_last, above_before, precedes_iff}
use Rattle.labelling.proofs.Decode.{name_child}
use Rattle.labelling.proofs.LabelWords.{GoodLabel, is_label_iff, label_of_good, label_of-take}
use Rattle.storage.proofs.Finding.{has_first, first_mem}
use Rattle.storage.proofs.Rules.{Closed, layout_deep, broken_none}
use Rattle.storage.proofs.Relaid.{laid_depth, sound_laid}
use Rattle.storage.proofs.Words.{Fit}
use Rattle.storage.proofs.Sizes.{size_iff}
use Rattle.storage.proofs.Faults.{fault_cons, sound_check_lem}

-- elements in label order, each label decoding to its element's name under a root name
pub record SoundElements (cl : Clues) (root : ℕ) (es : List Element) : Type 0 where
  pub root_is_name : root ≤ max_name
  pub ordered : Ascending ahead es
  pub labelled : (e : Element) → e ∈ es → GoodLabel e.label
  pub named : (e : Element) → e ∈ es → name_at cl root e.label ≡ some e.name

-- An element below another of a store: the other stands earlier, right above it,
-- and the other's clue and next number allow the last component.
pub record Child (cl : Clues) (es : List Element) (e : Element) : Type 0 where
  pub deeper : 0 < length e.label
  pub parent : Element
  pub stands : parent ∈ es
  pub earlier : T (ahead parent e)
  pub right_above : parent.label ≡ above e.label
  pub named : led (cl parent.name) (last e.label) ≡ some e.name
  pub below : last e.label < parent.next

-- the rules that an element of a store keeps, but for that of order
record Kept (cl : Clues) (es : List Element) (e : Element) : Type 0 where
  labelled : GoodLabel e.label
  child : Child cl es e
  shut : Closed cl e

module _ (r : List ℕ) (laid : T (laid_out r)) where
  -- the label of a record that is laid out as a label is good
  pub label_good : GoodLabel (read_element r).label
  unfolding laid_out read_element
  label_good = subst GoodLabel (label_of-take r (laid_depth r laid)) (label_of_good (take label_size r) laid)

  -- the label of a record that is laid out as a label is as long as the depth says
  label_length : length (read_element r).label ≡ get_or r 0 0
  unfolding laid_out read_element label_of
  label_length = length-take-le (get_or r 0 0) (drop 1 r)
      (omega (arith, laid_depth r laid, length-drop 1 r, length-take label_size r, ((is_label_iff (take label_size r)).0 laid).sixteen))

-- record 0 of a sound store is the root's, has a name and keeps the rule of the next number
first_kept : (cl : Clues) (r : List ℕ) → broken cl [] r ≡ none →
    ((read_element r).label ≡ []) × ((read_element r).name ≤ max_name) × Closed cl (read_element r)
first_kept cl r e =
    let kept = (broken_none cl [] r).0 e in
    (empty (read_element r).label (label_length r (sound_laid cl [] r e) ∙ (kept layout_rule).root_only.1 refl), kept name_rule, kept next_rule)
  where
    empty : (l : Label) → length l ≡ 0 → l ≡ []
    empty [] h = refl
    empty (x ∷ l) h = absurd (omega arith)

-- a sound record after others keeps the rules, and comes after the previous one
next_kept : (cl : Clues) (previous : Element) (done : List Element) (r : List ℕ) → broken cl (previous ∷ done) r ≡ none →
    T (ahead previous (read_element r)) × Kept cl (previous ∷ done) (read_element r)
next_kept cl previous done r e =
    let x : Element = read_element r in
    let kept = (broken_none cl (previous ∷ done) r).0 e in
    let laid = sound_laid cl (previous ∷ done) r e in
    let deeper : 0 < length x.label = omega (arith, label_length r laid, layout_deep (kept layout_rule)) in
    let (p, stands, label) = kept parent_rule in
    let (q, parent) = has_first (above x.label) (previous ∷ done) p stands label in (
      (precedes_iff previous.label x.label).1 (kept order_rule),
      record {
        labelled = label_good r laid;
        child = record {
          deeper = deeper;
          parent = q;
          stands = first_mem parent;
          earlier = subst (λ l. T (before l x.label)) (sym parent.labelled) (above_before x.label deeper);
          right_above = parent.labelled;
          named = kept name_rule q parent;
          below = kept last_rule q parent;
        };
        shut = kept next_rule;
      },
    )

-- the label of an element below a named one decodes to the element's own name
child_named : (cl : Clues) (root : ℕ) (es : List Element) (e : Element) (c : Child cl es e) →
    name_at cl root c.parent.label ≡ some c.parent.name → name_at cl root e.label ≡ some e.name
child_named cl root es e c h =
    ap (name_at cl root) (above_last e.label c.deeper) ∙
    name_child cl root (above e.label) (last e.label) c.parent.name (ap (name_at cl root) (sym c.right_above) ∙ h) ∙ c.named

-- an element that keeps the rules among some elements keeps them among more
kept_more : (cl : Clues) (es fs : List Element) (e : Element) → ((d : Element) → d ∈ es → d ∈ fs) → Kept cl es e → Kept cl fs e
kept_more cl es fs e more k =
    let c = k.child in
    record {
      labelled = k.labelled;
      child = record {
        deeper = c.deeper;
        parent = c.parent;
        stands = more c.parent c.stands;
        earlier = c.earlier;
        right_above = c.right_above;
        named = c.named;
        below = c.below;
      };
      shut = k.shut;
    }

module _ (cl : Clues) (root : ℕ) (es : List Element) where
  -- an element of the store whose label decodes to its name
  record Named (e : Element) : Type 0 where
    stands : e ∈ es
    named : name_at cl root e.label ≡ some e.name

  -- the elements after a previous one: in label order, each with its name and under the rules
  record Rest (previous : Element) (rest : List Element) : Type 0 where
    ordered : Ascending ahead rest
    later : (e : Element) → e ∈ rest → T (ahead previous e)
    named : (e : Element) → e ∈ rest → name_at cl root e.label ≡ some e.name
    kept : (e : Element) → e ∈ rest → Kept cl es e

  -- one element more, right after the previous one
  rest_cons : {previous e : Element} {rest : List Element} → T (ahead previous e) → Named e → Kept cl es e → Rest e rest → Rest previous (e ∷ rest)
  rest_cons {previous} {e} {rest} k n h r = record {
    ordered = one_more_lem r.later r.ordered;
    later = for_cons (λ x. T (ahead previous x)) k (λ x m. before_order.chain previous.label e.label x.label k (r.later x m));
    named = for_cons (λ x. name_at cl root x.label ≡ some x.name) n.named r.named;
    kept = for_cons (Kept cl es) h r.kept;
  }

  -- the elements of records without a fault, after elements that have their names,
  -- are in order, each with its name and under the rules
  sound_rest : (rs : List (List ℕ)) (previous : Element) (done : List Element) → ((d : Element) → d ∈ previous ∷ done → Named d) →
      ((e : Element) → e ∈ map read_element rs → e ∈ es) → fault cl (previous ∷ done) rs ≡ none → Rest previous (map read_element rs)
  sound_rest [] previous done d m e =
      record { ordered = none_left; later = λ x n. absurd (nowhere n); named = λ x n. absurd (nowhere n); kept = λ x n. absurd (nowhere n) }
  sound_rest (r ∷ rs) previous done d m e =
      let (b, e') = fault_cons cl (previous ∷ done) r rs e in
      let (k, h) = next_kept cl previous done r b in
      let n : Named (read_element r) = record {
        stands = m _ (here refl);
        named = child_named cl root (previous ∷ done) (read_element r) h.child (d _ h.child.stands).named;
      } in
      rest_cons k n (kept_more cl (previous ∷ done) es (read_element r) (λ x s. (d x s).stands) h)
      (sound_rest rs (read_element r) (previous ∷ done) (for_cons Named n d) (λ x s. m x (there s)) e')

-- the root decodes to the root's name
pub name_root : (cl : Clues) (root : ℕ) → name_at cl root [] ≡ some root
unfolding name_at end_of decode last
name_root cl root = refl

-- the element of record 0
abbrev element0 : List ℕ → Element
element0 ws = read_element (take record_size ws)

-- a store without a fault
module _ (cl : Clues) (n : ℕ) (ws : List ℕ) (sound : fault cl [] (records (suc n) ws) ≡ none) where
  -- in a store without a fault record 0 breaks no rule, and the records after it break none
  both_sound : (broken cl [] (take record_size ws) ≡ none) × (fault cl (element0 ws ∷ []) (records n (drop record_size ws)) ≡ none)
  unfolding records
  both_sound = fault_cons cl [] (take record_size ws) (records n (drop record_size ws)) sound

  -- the label of record 0 is the root's
  pub sound_root : (read_element (take record_size ws)).label ≡ []
  sound_root = (first_kept cl (take record_size ws) both_sound.0).0

  -- the label of record 0 decodes to record 0's name, which is the root's
  root_named : name_at cl (element0 ws).name (element0 ws).label ≡ some (element0 ws).name
  root_named = ap (name_at cl (element0 ws).name) sound_root ∙ name_root cl (element0 ws).name

  -- the elements after record 0 are in order, each with its name and under the rules
  others : Rest cl (element0 ws).name (elements (suc n) ws) (element0 ws) (elements n (drop record_size ws))
  unfolding elements records
  others =
      sound_rest cl (element0 ws).name (elements (suc n) ws) (records n (drop record_size ws)) (element0 ws) []
      (for_cons (Named cl (element0 ws).name (elements (suc n) ws)) (record { stands = here refl; named = root_named }) (λ d m. absurd (nowhere m)))
      (λ e m. there m) both_sound.1

  -- the labels of a sound store are good and in order, and each decodes to its element's name
  pub sound_elements : SoundElements cl (read_element (take record_size ws)).name (elements (suc n) ws)
  unfolding elements records all
  sound_elements = record {
    root_is_name = (first_kept cl (take record_size ws) both_sound.0).1;
    ordered = one_more_lem others.later others.ordered;
    labelled = for_cons (λ e. GoodLabel e.label) (subst GoodLabel (sym sound_root) (record { shallow = omega arith; small = tt }))
        (λ e m. (others.kept e m).labelled);
    named = for_cons (λ e. name_at cl (element0 ws).name e.label ≡ some e.name) root_named others.named;
  }

  -- every element but the first stands below an earlier one, so that no other label is the root's
  pub sound_parents : (e : Element) → e ∈ elements n (drop record_size ws) → Child cl (elements (suc n) ws) e
  sound_parents e m = (others.kept e m).child

  -- the next number of every element is 0 where nothing may stand below it
  pub sound_closed : (e : Element) → e ∈ elements (suc n) ws → Closed cl e
  unfolding elements records
  sound_closed = for_cons (Closed cl) (first_kept cl (take record_size ws) both_sound.0).2 (λ e m. (others.kept e m).shut)

-- the labels of a sound store fit their records
pub sound_fit : (cl : Clues) (ws : List ℕ) (count : ℕ) → sound_check cl count ws ≡ none → Fit (elements count ws)
unfolding elements records
sound_fit cl ws zero sound e m = absurd (nowhere m)
sound_fit cl ws (suc n) sound e m = ((sound_elements cl n ws ((sound_check_lem cl (suc n) ws).0 sound)).labelled e m).shallow

-- an accepted store has sound elements
pub store_elements : (cl : Clues) (ws : List ℕ) (count : ℕ) → size_check (length ws) count ≡ none → sound_check cl count ws ≡ none →
    SoundElements cl (root_of ws) (elements count ws)
unfolding root_of
store_elements cl ws zero size sound = absurd (omega (arith, ((size_iff (length ws) 0).0 size).used))
store_elements cl ws (suc n) size sound = sound_elements cl n ws ((sound_check_lem cl (suc n) ws).0 sound)
