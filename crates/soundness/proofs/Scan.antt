-- The pass over the records: what holds before record r, and what each way out of the loops tells of the definition.
use Prim.Native.Nat.{ℕ, zero, suc, ◌+◌, ◌-◌, ◌*◌, ◌<◌, ◌≤◌}
use mathlib.Core.Path.{◌≡◌, refl, sym, ap, subst, ◌∙◌}
use mathlib.Core.Logic.{by_cases}
use mathlib.Core.Bool.{Bool, true, false, not}
use mathlib.Core.List.{List, [], ◌∷◌}
use mathlib.Core.Option.{Option, none, some}
use native.Mathlib.Decide.{dec_lt}
use native.Mathlib.Omega.{arith}
use native.Mathlib.Numerals.{add-one}
use lib.ListN.{length, get_or, drop, set, replicate, length-set}
use lib.Seq.{drop-drop}
use lib.Dec.{T, eqb, ltb}
use borrow.Author.Tests.{not-true}
use Rattle.std.specs.Prelude.{Result, Ok, Err, ⊤}
use Rattle.basics.specs.Basics.{elim?}
use Rattle.basics.specs.Limits.{max_depth, record_size}
use Rattle.naming.specs.Names.{Clues}
use Rattle.storage.specs.Store as spec
use Rattle.basics.proofs.Tests.{and_iff, is_true}
use Rattle.storage.proofs.Relaid.{laid_depth}
use Rattle.labels.proofs.Steps.{passed}
use Rattle.records.specs.Records.{record_at}
use Rattle.records.proofs.Parts.{record_depth}
use Rattle.record_rules.specs.Rules.{Laid, Ready, depth_fits, shared_before, broken_at}
use Rattle.record_rules.specs.Answers.{rule_of, check_of}
use Rattle.record_rules.specs.declared.Rule.{Rule}
use Rattle.record_rules.specs.declared.Rule.TheVariants as rule
use Rattle.record_rules.proofs.Depths.{fitting_depth, depth_root, depth_below}
use Rattle.soundness.specs.Answers.{broken, soundness_of}
use Rattle.soundness.specs.declared.Fault.{Fault}
use Rattle.soundness.proofs.Fits.{Fitting, found_depth}
use Rattle.soundness.proofs.Shared.{shares_fit}
use Rattle.soundness.proofs.Trail.{behind, Trail}
use Rattle.soundness.proofs.Pass.{broken_is, trail_on}

-- before record r: no earlier record breaks a rule, and the records that later ones may stand below are known
pub record Scanned (cl : Clues) (count : ℕ) (ws parents : List ℕ) (r : ℕ) : Type 0 where
  pub sized : length parents ≡ 17
  pub earlier : (j : ℕ) → get_or parents j 0 ≤ r
  pub tidy : (q : ℕ) → q < r → Laid ws q
  pub trail : Trail ws r parents
  pub rest : spec.fault cl [] (spec.records count ws) ≡ spec.fault cl (behind r ws) (spec.records (count - r) (drop (r * record_size) ws))

-- as many elements stand behind record r as there are records before it
length_behind : (r : ℕ) (ws : List ℕ) → length (behind r ws) ≡ r
unfolding behind
length_behind zero ws = refl
length_behind (suc r) ws = ap suc (length_behind r ws)

-- numbers up to a bound stay so where one is replaced by another up to it
set_under : (l : List ℕ) (i x n : ℕ) → ((j : ℕ) → get_or l j 0 ≤ n) → x ≤ n → (j : ℕ) → get_or (set l i x) j 0 ≤ n
set_under [] i x n h k j = h j
set_under (a ∷ l) zero x n h k zero = k
set_under (a ∷ l) zero x n h k (suc j) = h (suc j)
set_under (a ∷ l) (suc i) x n h k zero = h zero
set_under (a ∷ l) (suc i) x n h k (suc j) = set_under l i x n (λ j. h (suc j)) k j

-- before record 0 nothing is to be known
pub scan_start : (cl : Clues) (count : ℕ) (ws : List ℕ) → Scanned cl count ws (replicate 17 0) 0
unfolding behind
scan_start cl count ws =
    let all : count - 0 ≡ count = omega arith in
    record {
      sized = refl;
      earlier = zeros 17;
      tidy = λ q h. absurd (omega arith);
      trail = tt;
      rest = rw all refl;
    }
  where
    zeros : (n j : ℕ) → get_or (replicate n 0) j 0 ≤ 0
    zeros zero j = omega arith
    zeros (suc n) zero = omega arith
    zeros (suc n) (suc j) = zeros n j

-- a rule that is not kept is the one broken
test_fails : (b : Bool) (r : spec.Rule) (o : Option spec.Rule) → (T b → ⊥) → spec.test b r o ≡ some r
unfolding spec.test
test_fails true r o h = absurd (h tt)
test_fails false r o h = refl

-- a record that is not laid out, or whose depth does not fit, breaks the first rule
layout_broken : (cl : Clues) (ws : List ℕ) (r : ℕ) → (Laid ws r → ⊥) → spec.broken cl (behind r ws) (record_at r ws) ≡ some spec.layout_rule
unfolding spec.broken behind
layout_broken cl ws zero h = test_fails _ _ _ (λ t.
    let (laid, flat) = (and_iff (spec.laid_out (record_at zero ws)) _).0 t in
    h (sym (depth_root zero _ (shallow laid) refl) ∙ is_true _ (subst (λ d. T (eqb d 0)) (record_depth ws zero) flat), is_true _ laid))
  where
    shallow : T (spec.laid_out (record_at zero ws)) → get_or ws (zero * record_size) 0 ≤ max_depth
    shallow laid = subst (λ d. d ≤ max_depth) (record_depth ws zero) (laid_depth (record_at zero ws) laid)
layout_broken cl ws (suc r) h = test_fails _ _ _ (λ t.
    let (laid, deep) = (and_iff (spec.laid_out (record_at (suc r) ws)) _).0 t in
    h (sym (depth_below (suc r) _ (shallow laid) (λ e. omega arith)) ∙ is_true _ (subst (λ d. T (ltb 0 d)) (record_depth ws (suc r)) deep), is_true _ laid))
  where
    shallow : T (spec.laid_out (record_at (suc r) ws)) → get_or ws (suc r * record_size) 0 ≤ max_depth
    shallow laid = subst (λ d. d ≤ max_depth) (record_depth ws (suc r)) (laid_depth (record_at (suc r) ws) laid)

-- where the code answers a broken rule, the definition finds that rule broken
said_broken : (o : Option spec.Rule) {k : Result ⊤ Rule} {x : Rule} → k ≡ check_of o → k ≡ Err x → (y : spec.Rule) × (o ≡ some y) × (rule_of y ≡ x)
said_broken none e f = cc
said_broken (some y) e f = (y, refl, cc)

-- where the code answers that all rules are kept, the definition finds none broken
said_kept : (o : Option spec.Rule) {k : Result ⊤ Rule} → k ≡ check_of o → k ≡ Ok tt → o ≡ none
said_kept none e f = refl
said_kept (some y) e f = cc

module _ (cl : Clues) (count : ℕ) (ws parents : List ℕ) (r : ℕ) (scanned : Scanned cl count ws parents r) where
  -- where all records are scanned, the store is sound
  pub scan_end : {k : Result ⊤ Fault} → k ≡ Ok tt → count ≤ r → k ≡ soundness_of (spec.fault cl [] (spec.records count ws))
  unfolding spec.fault spec.records
  scan_end e h = e ∙ (let none_left : count - r ≡ 0 = omega arith in rw (scanned.rest, none_left))

  module _ (h : r < count) where
    -- the store's fault is the rule that record r breaks, or stands in the rest
    next : spec.fault cl [] (spec.records count ws) ≡
        elim? (spec.broken cl (behind r ws) (record_at r ws))
        (spec.fault cl (spec.read_element (record_at r ws) ∷ behind r ws) (spec.records (count - (r + 1)) (drop ((r + 1) * record_size) ws)))
        (λ b. some (record { place = r; rule = b }))
    unfolding spec.fault spec.records record_at
    next =
        let more : count - r ≡ suc (count - (r + 1)) = omega arith in
        let on : r * record_size + record_size ≡ (r + 1) * record_size = omega arith in
        scanned.rest ∙ rw (more, drop-drop record_size (r * record_size) ws, on, length_behind r ws)

    -- the previous record has a label; record 0 is counted as its own previous one
    pub scan_previous : {b : Bool} → b ≡ depth_fits r (get_or ws (r * record_size) 0) → not b ≡ false → get_or ws ((r - 1) * record_size) 0 ≤ max_depth
    scan_previous is e =
        by_cases (dec_lt 0 r) (λ h. fitting_depth _ _ (scanned.tidy (r - 1) (omega arith)).0) (λ h. let here : r - 1 ≡ r = omega arith in rw here (found_depth r _ is e))

    -- a rule that record r breaks is the store's fault
    breaks : (x : spec.Rule) → spec.broken cl (behind r ws) (record_at r ws) ≡ some x →
        broken (rule_of x) r ≡ soundness_of (spec.fault cl [] (spec.records count ws))
    unfolding elim?
    breaks x e = rw (next, e)

    -- a record whose depth does not fit breaks the rule of the layout
    pub scan_depth : {b : Bool} → b ≡ depth_fits r (get_or ws (r * record_size) 0) → not b ≡ true →
        broken rule.Layout r ≡ soundness_of (spec.fault cl [] (spec.records count ws))
    scan_depth {b} is e = breaks spec.layout_rule (layout_broken cl ws r (λ l. subst T (sym is ∙ not-true b e) (passed l.0)))

    -- a record with a word that does not fit breaks the rule of the layout
    pub scan_word : spec.laid_out (record_at r ws) ≡ false → broken rule.Layout r ≡ soundness_of (spec.fault cl [] (spec.records count ws))
    scan_word e = breaks spec.layout_rule (layout_broken cl ws r (λ l. subst T e (passed l.1)))

    -- the components that record r shares with the previous one fit
    pub scan_shared : count * record_size ≤ length ws → get_or ws (r * record_size) 0 ≤ max_depth → {s : ℕ} → s ≡ shared_before ws r → Fitting ws r (s + 1)
    scan_shared room deep is = shares_fit ws r is scanned.tidy deep (omega arith)

    -- a record that is laid out can be tested by the other rules
    pub scan_ready : count * record_size ≤ length ws → Laid ws r → Ready ws r (get_or parents (get_or ws (r * record_size) 0) 0)
    scan_ready room laid = record { room = omega arith; laid = laid; earlier = scanned.earlier _; shallow = λ q h. fitting_depth q _ (scanned.tidy q h).0 }

    module _ (room : count * record_size ≤ length ws) (laid : Laid ws r) {k : Result ⊤ Rule}
        (is : k ≡ check_of (broken_at cl ws r (get_or parents (get_or ws (r * record_size) 0) 0))) where
      -- record r stands in the slice
      inside : r * record_size + record_size ≤ length ws
      inside = omega arith

      -- a later rule that record r breaks is the store's fault
      pub scan_rule : {x : Rule} → k ≡ Err x → broken x r ≡ soundness_of (spec.fault cl [] (spec.records count ws))
      scan_rule e =
          let (y, at, named) = said_broken _ is e in
          ap (λ x. broken x r) (sym named) ∙ breaks y (broken_is cl ws parents r scanned.trail inside laid ∙ at)

      -- where record r keeps all rules, what was known before it is known before the next record
      pub scan_on : k ≡ Ok tt → Scanned cl count ws (set parents (get_or ws (r * record_size) 0 + 1) r) (r + 1)
      unfolding behind elim?
      scan_on e =
          let kept = said_kept _ is e in
          let none_broken = broken_is cl ws parents r scanned.trail inside laid ∙ kept in
          record {
            sized = length-set parents _ r ∙ scanned.sized;
            earlier = set_under parents _ r (r + 1) (λ j. omega (arith, scanned.earlier j)) (omega arith);
            tidy = λ q a. by_cases (dec_lt q r) (scanned.tidy q) (λ n. let at : q ≡ r = omega arith in rw at laid);
            trail = rw add-one (trail_on cl ws parents r scanned.trail inside laid scanned.sized kept);
            rest = next ∙ rw (none_broken, add-one);
          }
