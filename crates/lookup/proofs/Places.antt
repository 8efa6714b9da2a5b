-- Where a label stands among elements in label order: how many pass it, and what finding, placing and deleting do
-- there.
use Prim.Native.Nat.{ℕ, zero, suc, ◌+◌, ◌*◌, ◌<◌, ◌≤◌}
use mathlib.Core.Path.{◌≡◌, refl, sym, ap, subst, ◌∙◌}
use mathlib.Core.Logic.{◌⊎◌, inl, inr, ⊎_elim, ⊎_map, by_cases}
use mathlib.Core.Bool.{Bool, true, false, cond, ◌||◌, not}
use mathlib.Core.List.{List, [], ◌∷◌, ◌++◌}
use mathlib.Core.Option.{Option, none, some, map, none-ne-some, some-injective}
use native.Mathlib.Omega.{arith}
use native.Mathlib.Decide.{dec_lt}
use lib.ListN.{length, get_or, take, drop, length-take, length-drop}
use lib.Dec.{T}
use Rattle.basics.specs.Basics.{◌∈◌, elim?, keep, leading, Ascending, none_left, one_more_lem}
use Rattle.basics.specs.Limits.{max_depth, record_size}
use Rattle.naming.specs.Names.{Clues}
use Rattle.labelling.specs.Labels.{Label, before, within, same, label_of}
use Rattle.storage.specs.Store.{Element, ahead, read_element, records, elements, find, sound_check}
use Rattle.store_calls.specs.Updates.{placed, without}
use Rattle.basics.proofs.Tests.{or_iff, and_iff, decide, Tells, passes as told, fails as untold}
use Rattle.basics.proofs.Lists.{here, member_at}
use Rattle.basics.proofs.Leading.{leading_zero, leading_under, leading_stops, leading_reaches}
use Rattle.labelling.proofs.LabelOrder.{before_order, before_one_way, before_extend, extend_before, within_iff, within_self, same?}
use Rattle.storage.proofs.Sizes.{length_elements_read}
use Rattle.storage.proofs.Faults.{sound_check_lem}
use Rattle.storage.proofs.SoundStore.{sound_elements}
use Rattle.records.specs.Records.{record_at}
use Rattle.records.proofs.Parts.{record_depth}
use Rattle.records.proofs.Elements.{element_at_lem}
use Rattle.lookup.specs.Places.{place_at, passes, InLabelOrder}

-- what comes before a label of a subtree comes before the subtree or is in it
before_subtree : (l m n : Label) → T (before m n) → T (within l n) → T (before m l) ⊎ T (within l m)
before_subtree l m n h w = ⊎_elim inl (⊎_elim (λ e. inr (rw e (within_self l))) (λ k. inr (inside k))) (before_order.total m l)
  where
    inside : T (before l m) → T (within l m)
    inside k = ⊎_elim (λ v. v) (λ v.
        let (rest, e) = (within_iff l n).0 w in
        absurd (before_one_way.asym m n h (subst (λ n. T (before n m)) (sym e) (extend_before l m rest k v)))) (decide (within l m))

-- what comes before an element that passes a label passes it
pub passes_down : (s : Bool) (l : Label) (x y : Element) → T (before x.label y.label) → T (passes s l y) → T (passes s l x)
unfolding passes
passes_down s l x y h p =
    (or_iff (before x.label l) _).1 (⊎_elim
    (λ k. inl (before_order.chain x.label y.label l h k))
    (λ k. let (t, w) = (and_iff s _).0 k in ⊎_map (λ b. b) (λ v. (and_iff s _).1 (t, v)) (before_subtree l x.label y.label h w))
    ((or_iff (before y.label l) _).0 p))

-- the element with a label does not come before it
passes_never : (l : Label) (e : Element) → e.label ≡ l → T (passes false l e) → ⊥
unfolding passes
passes_never l e h p = ⊎_elim (λ k. before_order.never l (subst (λ m. T (before m l)) h k)) (λ k. k) ((or_iff (before e.label l) false).0 p)

-- the element with a label is in that label's subtree
passes_own : (l : Label) (e : Element) → e.label ≡ l → T (passes true l e)
unfolding passes
passes_own l e h = (or_iff (before e.label l) _).1 (inr (rw h (within_self l)))

-- an element before a label passes it
passes_first : (s : Bool) (l : Label) (e : Element) → T (before e.label l) → T (passes s l e)
unfolding passes
passes_first s l e h = (or_iff (before e.label l) _).1 (inl h)

-- an element that nothing asks for
pub empty : Element
empty = record { label = []; name = 0; next = 0; payload0 = 0; payload1 = 0 }

-- one in label order that passes a label is counted
pub leading_over : (s : Bool) (l : Label) (es : List Element) (i : ℕ) (d : Element) → Ascending ahead es → i < length es → T (passes s l (get_or es i d)) →
    i < leading (passes s l) es
leading_over s l es i d o h p =
    let k : i ≤ leading (passes s l) es = leading_reaches (passes s l) d o i h (λ a k. passes_down s l a (get_or es i d) k p) in
    by_cases (dec_lt i (leading (passes s l) es)) (λ q. q) (λ q.
    let e : i ≡ leading (passes s l) es = omega arith in
    absurd (leading_stops (passes s l) d es (omega arith) (subst (λ j. T (passes s l (get_or es j d))) e p)))

-- the element at a label's place has that label
pub place_inside : (l : Label) (es : List Element) (a : ℕ) (d : Element) → place_at l es ≡ some a → (a < length es) × ((get_or es a d).label ≡ l)
unfolding place_at
place_inside l [] a d q = absurd (none-ne-some a q)
place_inside l (e ∷ es) a d q = go (same e.label l) (same? e.label l) (place_at l es) q (λ b. place_inside l es b d)
  where
    go : (c : Bool) → Tells (e.label ≡ l) c → (o : Option ℕ) → cond c (some 0) (map suc o) ≡ some a →
        ((b : ℕ) → o ≡ some b → (b < length es) × ((get_or es b d).label ≡ l)) → (a < suc (length es)) × ((get_or (e ∷ es) a d).label ≡ l)
    go true (told h) o q below = rw (← some-injective 0 a q) (omega arith, h)
    go false h none q below = absurd (none-ne-some a q)
    go false h (some b) q below = let (i, k) = below b refl in rw (← some-injective (suc b) a q) (omega arith, k)

-- a label that an element has stands somewhere
pub place_found : (l : Label) (es : List Element) (i : ℕ) (d : Element) → i < length es → (get_or es i d).label ≡ l → (a : ℕ) × (place_at l es ≡ some a)
unfolding place_at
place_found l [] i d h k = absurd (omega arith)
place_found l (e ∷ es) i d h k = go i (same e.label l) (same? e.label l) (λ j. place_found l es j d) h k
  where
    go : (i : ℕ) (c : Bool) → Tells (e.label ≡ l) c → ((j : ℕ) → j < length es → (get_or es j d).label ≡ l → (a : ℕ) × (place_at l es ≡ some a)) →
        i < suc (length es) → (get_or (e ∷ es) i d).label ≡ l → (a : ℕ) × (cond c (some 0) (map suc (place_at l es)) ≡ some a)
    go i true t below h k = (0, refl)
    go zero false (untold n) below h k = absurd (n k)
    go (suc j) false t below h k = let (a, q) = below j (omega arith) k in (suc a, ap (map suc) q)

-- a label that stands at no place stands nowhere
pub place_none : (l : Label) (es : List Element) → ((a : ℕ) → place_at l es ≡ some a → ⊥) → place_at l es ≡ none
place_none l es n = go (place_at l es) n
  where
    go : (o : Option ℕ) → ((a : ℕ) → o ≡ some a → ⊥) → o ≡ none
    go none n = refl
    go (some a) n = absurd (n a refl)

-- a label's place is behind those that come before it
pub place_leading : (l : Label) (es : List Element) (a : ℕ) → Ascending ahead es → place_at l es ≡ some a → a ≡ leading (passes false l) es
place_leading l es a o q =
    let (h, k) = place_inside l es a empty q in
    let low : leading (passes false l) es ≤ a = leading_under (passes false l) empty es a (passes_never l (get_or es a empty) k) in
    let high : a ≤ leading (passes false l) es =
    leading_reaches (passes false l) empty o a h (λ e b. passes_first false l e (subst (λ m. T (before e.label m)) k b)) in
    omega arith

-- a label's place is before the end of its subtree
pub place_before_end : (l : Label) (es : List Element) (a : ℕ) → Ascending ahead es → place_at l es ≡ some a → a < leading (passes true l) es
place_before_end l es a o q =
    let (h, k) = place_inside l es a empty q in
    leading_over true l es a empty o h (passes_own l (get_or es a empty) k)

-- an element is found at its label's place
pub find_place : (l : Label) (es : List Element) (d : Element) → find l es ≡ elim? (place_at l es) none (λ a. some (get_or es a d))
unfolding find place_at elim?
find_place l [] d = refl
find_place l (e ∷ es) d = go (same e.label l) (place_at l es) (find_place l es d)
  where
    go : (c : Bool) (o : Option ℕ) → find l es ≡ elim? o none (λ a. some (get_or es a d)) →
        cond c (some e) (find l es) ≡ elim? (cond c (some 0) (map suc o)) none (λ a. some (get_or (e ∷ es) a d))
    go true o below = refl
    go false none below = below
    go false (some a) below = below

-- a new element is placed behind the subtree
pub placed_leading : (l : Label) (new : Element) (es : List Element) →
    placed l new es ≡ take (leading (passes true l) es) es ++ (new ∷ drop (leading (passes true l) es) es)
unfolding placed leading passes
placed_leading l new [] = refl
placed_leading l new (e ∷ es) = go (within l e.label) (before e.label l) (placed_leading l new es)
  where
    go : (w b : Bool) → placed l new es ≡ take (leading (passes true l) es) es ++ (new ∷ drop (leading (passes true l) es) es) →
        cond (w || b) (e ∷ placed l new es) (new ∷ (e ∷ es)) ≡
        take (cond (b || w) (suc (leading (passes true l) es)) 0) (e ∷ es) ++
        (new ∷ drop (cond (b || w) (suc (leading (passes true l) es)) 0) (e ∷ es))
    go true true below = ap (◌∷◌ e) below
    go true false below = ap (◌∷◌ e) below
    go false true below = ap (◌∷◌ e) below
    go false false below = refl

-- behind an element that does not pass a label none does
leading_none : (s : Bool) (l : Label) (e : Element) (es : List Element) → ((b : Element) → b ∈ es → T (ahead e b)) → (T (passes s l e) → ⊥) →
    leading (passes s l) es ≡ 0
unfolding leading
leading_none s l e [] u n = refl
leading_none s l e (x ∷ es) u n = leading_zero (passes s l) x es (λ p. n (passes_down s l e x (u x (here refl)) p))

-- a label that is within another does not come after it
within_not_after : (l m : Label) → T (within l m) → T (before m l) → ⊥
within_not_after l m w h =
    let (rest, e) = (within_iff l m).0 w in
    before_order.never m (subst (λ n. T (before m n)) (sym e) (before_extend m l rest h))

-- deleting leaves what comes before a label and what stands behind its subtree
pub without_leading : (l : Label) (es : List Element) → Ascending ahead es →
    without l es ≡ take (leading (passes false l) es) es ++ drop (leading (passes true l) es) es
unfolding without keep leading passes
without_leading l [] none_left = refl
without_leading l (e ∷ es) (one_more_lem u r) =
    go (leading (passes false l) es) (leading (passes true l) es) (before e.label l) (within l e.label) (within_not_after l e.label) (without_leading l es r)
    (leading_none false l e es u) (leading_none true l e es u)
  where
    go : (low high : ℕ) (b w : Bool) → (T w → T b → ⊥) → without l es ≡ take low es ++ drop high es →
        ((T (b || false) → ⊥) → low ≡ 0) → ((T (b || w) → ⊥) → high ≡ 0) →
        cond (not w) (e ∷ without l es) (without l es) ≡ take (cond (b || false) (suc low) 0) (e ∷ es) ++ drop (cond (b || w) (suc high) 0) (e ∷ es)
    go low high true true n below f g = absurd (n tt tt)
    go low high true false n below f g = ap (◌∷◌ e) below
    go low high false true n below f g = below ∙ rw (f (λ h. h))
    go low high false false n below f g = ap (◌∷◌ e) (below ∙ rw (f (λ h. h), g (λ h. h)))

-- record r of those in use reads as one of the elements
element_in : (count : ℕ) (ws : List ℕ) (r : ℕ) → r < count → read_element (record_at r ws) ∈ elements count ws
element_in count ws r h =
    (member_at empty (elements count ws) (read_element (record_at r ws))).1 (r, omega (arith, length_elements_read count ws), element_at_lem count ws r empty h)

-- a record that reads as at most 15 components has a depth of at most 15
shallow_record : (ws : List ℕ) (r : ℕ) → r * record_size + record_size ≤ length ws → length (read_element (record_at r ws)).label ≤ max_depth →
    get_or ws (r * record_size) 0 ≤ max_depth
unfolding read_element label_of record_at
shallow_record ws r room h =
    let rest : List ℕ = drop (r * record_size) ws in
    let words : List ℕ = record_at r ws in
    omega (arith, record_depth ws r, length-take (get_or words 0 0) (drop 1 words), length-drop 1 words, length-take record_size rest, length-drop (r * record_size) ws)

-- a store without a fault can be searched
pub searchable : (cl : Clues) (count : ℕ) (ws : List ℕ) → record_size * count ≤ length ws → sound_check cl count ws ≡ none → InLabelOrder count ws
unfolding elements records
searchable cl zero ws room sound = record { room = omega arith; ordered = none_left; shallow = λ r h. absurd (omega arith) }
searchable cl (suc n) ws room sound =
    let s = sound_elements cl n ws ((sound_check_lem cl (suc n) ws).0 sound) in
    record {
      room = omega arith;
      ordered = s.ordered;
      shallow = λ r h. shallow_record ws r (omega arith) (s.labelled (read_element (record_at r ws)) (element_in (suc n) ws r h)).shallow;
    }
