-- One step of the pass over the records: the rules that it tests are the paper's, and what it keeps holds after it.
use Prim.Native.Nat.{ℕ, zero, suc, ◌+◌, ◌*◌, ◌<◌, ◌≤◌}
use mathlib.Core.Path.{◌≡◌, refl, sym, ap, subst, ◌∙◌}
use mathlib.Core.Logic.{inl, inr, ⊎_elim, by_cases}
use mathlib.Core.Bool.{Bool, true, false, cond}
use mathlib.Core.List.{List, ◌∷◌}
use mathlib.Core.Option.{Option, none, some}
use native.Mathlib.Decide.{dec_lt}
use native.Mathlib.Omega.{arith}
use lib.ListN.{length, get_or, take, set}
use lib.Seq.{take-take, take_all, length-take-le, get_or-set_same, get_or-set_other}
use lib.Dec.{T, ltb, eqb}
use borrow.Author.Tests.{eqb-true}
use Rattle.basics.specs.Basics.{elim?, last}
use Rattle.basics.specs.Limits.{record_size}
use Rattle.naming.specs.Names.{Clues}
use Rattle.labelling.specs.Labels.{Label, before, shared, same, above}
use Rattle.storage.specs.Store.{Element, Rule, read_element, find, test, laid_out, leads, closed, broken, parent_rule, name_rule, last_rule, next_rule}
use Rattle.basics.proofs.Tests.{Tells, passes, fails, eq?, and_iff, eqb_alike}
use Rattle.basics.proofs.Lists.{nowhere, for_cons}
use Rattle.labelling.proofs.LabelOrder.{before_order, same?}
use Rattle.labelling.proofs.Kinship.{shared_alike, shared_low}
use Rattle.storage.proofs.Relaid.{test_none, test_rest, test_passes}
use Rattle.labels.proofs.Steps.{passed}
use Rattle.records.specs.Records.{record_at}
use Rattle.records.proofs.Parts.{record_depth}
use Rattle.record_rules.specs.Rules.{Laid, broken_root, broken_below, broken_at}
use Rattle.record_rules.proofs.Depths.{fitting_depth, depth_root, depth_below}
use Rattle.soundness.proofs.Shared.{component_count}
use Rattle.soundness.proofs.Trail.{behind, Trail, parent_shared, find_none}

-- an element with the label at the front of the list is found
find_self : (e : Element) (l : Label) (done : List Element) → e.label ≡ l → find l (e ∷ done) ≡ some e
unfolding find
find_self e l done h = go (same e.label l) (same? e.label l)
  where
    go : (c : Bool) → Tells (e.label ≡ l) c → cond c (some e) (find l done) ≡ some e
    go true k = refl
    go false (fails n) = absurd (n h)

-- behind an element with another label the search goes on
find_skip : (e : Element) (l : Label) (done : List Element) → (e.label ≡ l → ⊥) → find l (e ∷ done) ≡ find l done
unfolding find
find_skip e l done h = go (same e.label l) (same? e.label l)
  where
    go : (c : Bool) → Tells (e.label ≡ l) c → cond c (some e) (find l done) ≡ find l done
    go true (passes k) = absurd (h k)
    go false k = refl

-- the rules behind a rule are looked at only where that rule is kept
test_under : (b : Bool) (r : Rule) (o p : Option Rule) → (T b → o ≡ p) → test b r o ≡ test b r p
unfolding test
test_under true r o p h = h tt
test_under false r o p h = refl

-- the test of the parent by what is known of where it would be found
parent_decides : {P : Type 0} {o : Option Element} {p : Element} (b : Bool) → Tells P b → (P → o ≡ some p) → ((P → ⊥) → o ≡ none) → (k : Element → Option Rule) →
    elim? o (some parent_rule) k ≡ test b parent_rule (k p)
unfolding elim? test
parent_decides true (passes h) is not k = rw (is h)
parent_decides false (fails n) is not k = rw (not n)

module _ (ws : List ℕ) (r : ℕ) (room : r * record_size + record_size ≤ length ws) (laid : Laid ws r) where
  -- the label is as long as the depth says
  label_long : length (read_element (record_at r ws)).label ≡ get_or ws (r * record_size) 0
  unfolding read_element
  label_long = component_count ws r (fitting_depth r _ laid.0) room

  -- behind record r its own label leads to record r
  line_self : (parents : List ℕ) → length parents ≡ 17 → (j : ℕ) → j ≡ length (read_element (record_at r ws)).label →
      find (take j (read_element (record_at r ws)).label) (behind (suc r) ws) ≡
      some (read_element (record_at (get_or (set parents (get_or ws (r * record_size) 0 + 1) r) (suc j) 0) ws))
  unfolding behind
  line_self parents size j e =
      let low = fitting_depth r _ laid.0 in
      let at : suc j ≡ get_or ws (r * record_size) 0 + 1 = omega (arith, label_long) in
      find_self _ _ (behind r ws) (sym (take_all j _ (omega arith))) ∙
      ap (λ n. some (read_element (record_at n ws))) (sym (ap (λ i. get_or (set parents (get_or ws (r * record_size) 0 + 1) r) i 0) at ∙
      get_or-set_same parents _ r 0 (omega arith)))

-- record r, after those before it
module _ (cl : Clues) (ws parents : List ℕ) where
  -- record r breaks the rule that the pass finds
  pub broken_is : (r : ℕ) → Trail ws r parents → r * record_size + record_size ≤ length ws → Laid ws r →
      broken cl (behind r ws) (record_at r ws) ≡ broken_at cl ws r (get_or parents (get_or ws (r * record_size) 0) 0)
  unfolding broken broken_at broken_root broken_below behind
  broken_is zero trail room (fits, laid) =
      let flat : eqb (get_or ws (zero * record_size) 0) 0 ≡ true = depth_root zero _ (fitting_depth zero _ fits) refl ∙ fits in
      test_passes _ _ _ ((and_iff (laid_out (record_at 0 ws)) _).1 (passed laid, passed (ap (λ d. eqb d 0) (record_depth ws 0) ∙ flat)))
  broken_is (suc r) trail room (fits, laid) =
      let deep : ltb 0 (get_or ws (suc r * record_size) 0) ≡ true = depth_below (suc r) _ (fitting_depth (suc r) _ fits) (λ e. omega arith) ∙ fits in
      test_passes _ _ _ ((and_iff (laid_out (record_at (suc r) ws)) _).1 (passed laid, passed (ap (ltb 0) (record_depth ws (suc r)) ∙ deep))) ∙
      test_under _ _ _ _ below
    where
      l : Label
      l = (read_element (record_at r ws)).label

      e : Element
      e = read_element (record_at (suc r) ws)

      m : Label
      m = e.label

      parent : Element
      parent = read_element (record_at (get_or parents (get_or ws (suc r * record_size) 0) 0) ws)

      kept : Element → Option Rule
      kept p = test (leads (cl p.name) (last m) e.name) name_rule (test (ltb (last m) p.next) last_rule (test (closed cl e) next_rule none))

      found : T (before l m) → shared l m + 1 ≡ length m → find (above m) (behind (suc r) ws) ≡ some parent
      found t k =
          let n : suc (shared l m) ≡ get_or ws (suc r * record_size) 0 = omega (arith, label_long ws (suc r) room (fits, laid)) in
          ap (λ p. find p (behind (suc r) ws)) (parent_shared l m t k) ∙ trail.line (shared l m) (shared_low l m) ∙
          ap (λ n. some (read_element (record_at (get_or parents n 0) ws))) n

      below : T (before l m) → elim? (find (above m) (behind (suc r) ws)) (some parent_rule) kept ≡ test (eqb (shared l m + 1) (length m)) parent_rule (kept parent)
      below t = parent_decides _ (eq? (shared l m + 1) (length m)) (found t) (λ n. find_none l m t n (behind (suc r) ws) trail.latest) kept

  -- after a record that breaks no rule, that record is known as the one that elements below it stand below
  pub trail_on : (r : ℕ) → Trail ws r parents → r * record_size + record_size ≤ length ws → Laid ws r → length parents ≡ 17 →
      broken_at cl ws r (get_or parents (get_or ws (r * record_size) 0) 0) ≡ none → Trail ws (suc r) (set parents (get_or ws (r * record_size) 0 + 1) r)
  unfolding broken_at broken_below behind
  trail_on zero trail room laid size e =
      let long = label_long ws zero room laid in
      let flat : get_or ws (zero * record_size) 0 ≡ 0 = eqb-true _ 0 (depth_root zero _ (fitting_depth zero _ laid.0) refl ∙ laid.0) in
      record {
        line = λ j h. line_self ws zero room laid parents size j (omega arith);
        latest = for_cons _ (inl refl) (λ x k. absurd (nowhere k));
      }
  trail_on (suc r) trail room laid size e =
      let t : T (before l m) = test_none _ _ _ e in
      let k : shared l m + 1 ≡ length m = (eqb_alike _ _).0 (test_none _ _ _ (test_rest _ _ _ e)) in
      record {
        line = λ j h. by_cases (dec_lt j (length m)) (λ low. line_above k j low) (λ high. line_self ws (suc r) room laid parents size j (omega arith));
        latest = for_cons _ (inl refl) (λ x stands. inr (⊎_elim (λ same. subst (λ x. T (before x m)) (sym same) t)
            (λ b. before_order.chain x.label l m b t) (trail.latest x stands)));
      }
    where
      l : Label
      l = (read_element (record_at r ws)).label

      m : Label
      m = (read_element (record_at (suc r) ws)).label

      depth : ℕ
      depth = get_or ws (suc r * record_size) 0

      line_above : shared l m + 1 ≡ length m → (j : ℕ) → j < length m →
          find (take j m) (behind (suc (suc r)) ws) ≡ some (read_element (record_at (get_or (set parents (depth + 1) (suc r)) (suc j) 0) ws))
      line_above k j low =
          let short : j ≤ shared l m = omega arith in
          let alike : take j m ≡ take j l =
          sym (take-take j (shared l m) m short) ∙ ap (take j) (sym (shared_alike l m)) ∙ take-take j (shared l m) l short in
          let other : m ≡ take j m → ⊥ = λ e. omega (arith, ap length e, length-take-le j m (omega arith)) in
          find_skip _ (take j m) (behind (suc r) ws) other ∙ ap (λ p. find p (behind (suc r) ws)) alike ∙
          trail.line j (omega (arith, shared_low l m)) ∙
          ap (λ n. some (read_element (record_at n ws))) (sym (get_or-set_other parents (depth + 1) (suc j) (suc r) 0
          (λ e. omega (arith, label_long ws (suc r) room laid))))
