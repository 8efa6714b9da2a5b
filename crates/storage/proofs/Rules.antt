-- The rules of a sound record as facts: the rule named for a record is the first whose fact does not hold.
use mathlib.Core.Path.{◌≡◌, refl, sym, ap, subst, ◌∙◌}
use mathlib.Core.Logic.Iff
use mathlib.Core.Logic.{◌↔◌, ◌⊎◌, by_cases}
use mathlib.Core.Bool.{Bool, true, false, ◌&&◌, ◌||◌, not}
use mathlib.Core.List.{List, [], ◌∷◌, cons-ne-nil}
use mathlib.Core.Option.{Option, none, some, none-ne-some, some-ne-none, some-injective}
use Prim.Native.Nat.{ℕ, zero, suc, ◌≤◌, ◌<◌}
use native.Mathlib.Decide.{dec_lt}
use native.Mathlib.Omega.{arith}
use lib.ListN.{length, get_or, take}
use lib.Dec.{T, ltb, eqb, leb→le, le→leb, ltb→lt, lt→ltb}
use Rattle.basics.specs.Basics.{◌∈◌, elim?, last}
use Rattle.basics.specs.Limits.{max_name, max_depth, label_size}
use Rattle.naming.specs.Names.{Clues, led, is_name}
use Rattle.labelling.specs.Labels.{before, above}
use Rattle.storage.specs.Store.{Element, Rule, read_element, find, test, laid_out, leads, closed, broken, layout_rule, order_rule, parent_rule, name_rule, last_rule, next_rule}
use Rattle.basics.proofs.Tests.{and_facts, or_facts, eqb_alike}
use Rattle.labelling.proofs.LabelOrder.{Precedes, precedes_iff}
use Rattle.labelling.proofs.LabelWords.{IsLabel, is_label_iff}
use Rattle.storage.proofs.Finding.{FirstWith, find_iff, find_none, find_mem}

-- the layout of a record after others: its first sixteen words are a label's, and its depth is 0 for record 0 only
pub record Layout (done : List Element) (ws : List ℕ) : Type 0 where
  pub words : IsLabel (take label_size ws)
  pub root_only : get_or ws 0 0 ≡ 0 ↔ (done ≡ [])

-- an element's next number is 0 where nothing may stand below it
abbrev pub Closed : Clues → Element → Type 0
Closed cl e = (length (cl e.name) ≡ 0) ⊎ (length e.label ≡ max_depth) → e.next ≡ 0

-- the parent of a record: the last element before it that has the record's label without the last component
abbrev pub ParentOf : List Element → List ℕ → Element → Type 0
ParentOf done ws = FirstWith (above (read_element ws).label) done

-- what a rule says of a record after the elements before it, the previous one first
abbrev pub Keeps : Clues → List Element → List ℕ → Rule → Type 0
-- layout: depth at most 15, 0 for record 0 only, used components at most 65,534, unused ones 0
Keeps cl done ws layout_rule = Layout done ws
-- order: the record's label is after the previous record's
Keeps cl [] ws order_rule = Unit {0}
Keeps cl (previous ∷ done) ws order_rule = Precedes previous.label (read_element ws).label
-- parent: the record's parent stands earlier
Keeps cl [] ws parent_rule = Unit {0}
Keeps cl (previous ∷ done) ws parent_rule = (p : Element) × p ∈ previous ∷ done × (p.label ≡ above (read_element ws).label)
-- name: what the last component leads to from the parent's name; record 0's is 0 to 63
Keeps cl [] ws name_rule = (read_element ws).name ≤ max_name
Keeps cl (previous ∷ done) ws name_rule =
    (p : Element) → ParentOf (previous ∷ done) ws p → led (cl p.name) (last (read_element ws).label) ≡ some (read_element ws).name
-- last component: below the parent's f
Keeps cl [] ws last_rule = Unit {0}
Keeps cl (previous ∷ done) ws last_rule = (p : Element) → ParentOf (previous ∷ done) ws p → last (read_element ws).label < p.next
-- next number: the record's own f is 0 if its clue is empty or its depth is 15
Keeps cl done ws next_rule = Closed cl (read_element ws)

-- the place of a rule in the order of rules
abbrev pub rank : Rule → ℕ
rank layout_rule = 0
rank order_rule = 1
rank parent_rule = 2
rank name_rule = 3
rank last_rule = 4
rank next_rule = 5

-- a rule whose fact does not hold, while the facts of all rules before it do
pub record Breaks (K : Rule → Type 0) (r : Rule) : Type 0 where
  pub earlier : (q : Rule) → rank q < rank r → K q
  pub fails : K r → ⊥

-- rules at the same place are the same
same_rank : (q r : Rule) → rank q ≡ rank r → q ≡ r
same_rank q r e = sym (at q) ∙ ap rule e ∙ at r
  where
    rule : ℕ → Rule
    rule zero = layout_rule
    rule (suc zero) = order_rule
    rule (suc (suc zero)) = parent_rule
    rule (suc (suc (suc zero))) = name_rule
    rule (suc (suc (suc (suc zero)))) = last_rule
    rule (suc (suc (suc (suc (suc n))))) = next_rule

    at : (r : Rule) → rule (rank r) ≡ r
    at layout_rule = refl
    at order_rule = refl
    at parent_rule = refl
    at name_rule = refl
    at last_rule = refl
    at next_rule = refl

-- what the first rule broken, or none, says of the facts
abbrev Outcome : (Rule → Type 0) → Option Rule → Type 0
Outcome K none = (r : Rule) → K r
Outcome K (some r) = Breaks K r

-- the tests of all rules, one after the other in their order
abbrev chain : (Rule → Bool) → Option Rule
chain b =
    test (b layout_rule) layout_rule (test (b order_rule) order_rule (test (b parent_rule) parent_rule
    (test (b name_rule) name_rule (test (b last_rule) last_rule (test (b next_rule) next_rule none)))))

module _ (K : Rule → Type 0) where
  -- the facts of the rules before a place in the order
  abbrev Before : ℕ → Type 0
  Before n = (q : Rule) → rank q < n → K q

  -- one rule more is tested: where the test fails, that rule is the first that is broken
  tested : (r : Rule) (b : Bool) → T b ↔ K r → (o : Option Rule) → Before (rank r) → (Before (suc (rank r)) → Outcome K o) → Outcome K (test b r o)
  unfolding test
  tested r true e o h k = k (λ q l. by_cases (dec_lt (rank q) (rank r)) (h q) (λ n. subst K (same_rank r q (omega arith)) (e.0 tt)))
  tested r false e o h k = record { earlier = h; fails = e.1 }

  -- tests that tell the facts name the first rule that is broken
  chain_outcome : (b : Rule → Bool) → ((r : Rule) → T (b r) ↔ K r) → Outcome K (chain b)
  chain_outcome b e =
      next layout_rule _ (λ q l. absurd (omega arith)) (λ h. next order_rule _ h (λ h. next parent_rule _ h (λ h.
      next name_rule _ h (λ h. next last_rule _ h (λ h. next next_rule none h (λ h r. h r (low r)))))))
    where
      next : (r : Rule) (o : Option Rule) → Before (rank r) → (Before (suc (rank r)) → Outcome K o) → Outcome K (test (b r) r o)
      next r = tested r (b r) (e r)

      low : (r : Rule) → rank r < 6
      low layout_rule = omega arith
      low order_rule = omega arith
      low parent_rule = omega arith
      low name_rule = omega arith
      low last_rule = omega arith
      low next_rule = omega arith

  -- no rule is named exactly if the facts of all rules hold
  outcome_none : (o : Option Rule) → Outcome K o → o ≡ none ↔ ((r : Rule) → K r)
  outcome_none none h = (λ e. h, λ k. refl)
  outcome_none (some q) h = (λ e. absurd (some-ne-none q e), λ k. absurd (h.fails (k q)))

  -- a rule is named exactly if its fact does not hold and the facts of the rules before it do
  outcome_some : (o : Option Rule) → Outcome K o → (r : Rule) → o ≡ some r ↔ Breaks K r
  outcome_some none h r = (λ e. absurd (none-ne-some r e), λ b. absurd (b.fails (h r)))
  outcome_some (some q) h r = (λ e. subst (Breaks K) (some-injective q r e) h, λ b. ap some (same_rank q r (level b)))
    where
      level : Breaks K r → rank q ≡ rank r
      level b = by_cases (dec_lt (rank q) (rank r)) (λ l. absurd (h.fails (b.earlier q l)))
          (λ n. by_cases (dec_lt (rank r) (rank q)) (λ l. absurd (b.fails (h.earlier r l))) (λ m. omega arith))

-- the test that one test implies another passes exactly if one fact implies the other
implies_iff : {P Q : Type 0} (a b : Bool) → T a ↔ P → T b ↔ Q → T (not a || b) ↔ (P → Q)
implies_iff true b e f = (λ t p. f.0 t, λ h. f.1 (h (e.0 tt)))
implies_iff false b e f = (λ t p. absurd (e.1 p), λ h. tt)

-- the test of a next number passes exactly if the number is 0 where nothing may stand below
closed_iff : (cl : Clues) (e : Element) → T (closed cl e) ↔ Closed cl e
unfolding closed
closed_iff cl e = implies_iff (eqb (length (cl e.name)) 0 || eqb (length e.label) max_depth) (eqb e.next 0)
    (or_facts (eqb (length (cl e.name)) 0) (eqb (length e.label) max_depth) (eqb_alike _ 0) (eqb_alike _ max_depth)) (eqb_alike e.next 0)

-- the test of where a component leads passes exactly if it leads to the name
leads_iff : (clue : List ℕ) (x name : ℕ) → T (leads clue x name) ↔ (led clue x ≡ some name)
unfolding leads elim?
leads_iff clue x name = go (led clue x)
  where
    go : (o : Option ℕ) → T (elim? o false (λ c. eqb c name)) ↔ (o ≡ some name)
    go none = (absurd, λ e. absurd (none-ne-some name e))
    go (some c) = (λ t. ap some ((eqb_alike c name).0 t), λ e. (eqb_alike c name).1 (some-injective c name e))

-- the test of record 0's layout passes exactly if the layout is right
layout_root : (ws : List ℕ) → T (laid_out ws && eqb (get_or ws 0 0) 0) ↔ Layout [] ws
unfolding laid_out
layout_root ws = Iff.trans (and_facts (laid_out ws) (eqb (get_or ws 0 0) 0) (is_label_iff (take label_size ws)) (eqb_alike (get_or ws 0 0) 0))
    (λ h. record { words = h.0; root_only = (λ e. refl, λ e. h.1) }, λ l. (l.words, l.root_only.1 refl))

-- a later record whose layout is right has a depth above 0
pub layout_deep : {previous : Element} {done : List Element} {ws : List ℕ} → Layout (previous ∷ done) ws → 0 < get_or ws 0 0
layout_deep {previous} {done} {ws} l =
    by_cases (dec_lt 0 (get_or ws 0 0)) (λ p. p) (λ n. absurd (cons-ne-nil previous done (l.root_only.0 (omega arith))))

-- the test of a later record's layout passes exactly if the layout is right
layout_below : (previous : Element) (done : List Element) (ws : List ℕ) → T (laid_out ws && ltb 0 (get_or ws 0 0)) ↔ Layout (previous ∷ done) ws
unfolding laid_out
layout_below previous done ws =
    Iff.trans (and_facts (laid_out ws) (ltb 0 (get_or ws 0 0)) (is_label_iff (take label_size ws)) (ltb→lt 0 (get_or ws 0 0), lt→ltb 0 (get_or ws 0 0))) (
      λ h. record { words = h.0; root_only = (λ e. absurd (omega (arith, h.1)), λ e. absurd (cons-ne-nil previous done e)) },
      λ l. (l.words, layout_deep l),
    )

-- the tests of a record's parent among the elements before it
module _ (done : List Element) (ws : List ℕ) where
  -- the parent of the record among the elements before it, where one stands
  abbrev parent : Option Element
  parent = find (above (read_element ws).label) done

  -- a test of the parent passes exactly if its fact holds of the parent, where there is one
  of_parent : {P : Element → Type 0} (f : Element → Bool) → ((p : Element) → T (f p) ↔ P p) →
      T (elim? parent true f) ↔ ((p : Element) → ParentOf done ws p → P p)
  unfolding elim?
  of_parent {P} f e = go parent refl
    where
      go : (o : Option Element) → parent ≡ o → T (elim? o true f) ↔ ((p : Element) → ParentOf done ws p → P p)
      go none d = (λ t p w. absurd (none-ne-some p (sym d ∙ (find_iff _ done p).1 w)), λ h. tt)
      go (some q) d = (
        λ t p w. subst P (some-injective q p (sym d ∙ (find_iff _ done p).1 w)) ((e q).0 t),
        λ h. (e q).1 (h q ((find_iff _ done q).0 d)),
      )

  -- a parent is found exactly if an element before the record has its label without the last component
  has_parent : T (elim? parent false (λ p. true)) ↔ ((p : Element) × p ∈ done × (p.label ≡ above (read_element ws).label))
  unfolding elim?
  has_parent = go parent refl
    where
      go : (o : Option Element) → parent ≡ o →
          T (elim? o false (λ p. true)) ↔ ((p : Element) × p ∈ done × (p.label ≡ above (read_element ws).label))
      go none d = (absurd, λ h. (find_none _ done).0 d h.0 h.1 h.2)
      go (some q) d = (λ t. let (m, f) = find_mem _ done q d in (q, m, f), λ h. tt)

-- the test of each rule for a record after the elements before it
keeps : Clues → List Element → List ℕ → Rule → Bool
keeps cl [] ws layout_rule = laid_out ws && eqb (get_or ws 0 0) 0
keeps cl (previous ∷ done) ws layout_rule = laid_out ws && ltb 0 (get_or ws 0 0)
keeps cl [] ws order_rule = true
keeps cl (previous ∷ done) ws order_rule = before previous.label (read_element ws).label
keeps cl [] ws parent_rule = true
keeps cl (previous ∷ done) ws parent_rule = elim? (parent (previous ∷ done) ws) false (λ p. true)
keeps cl [] ws name_rule = is_name (read_element ws).name
keeps cl (previous ∷ done) ws name_rule =
    elim? (parent (previous ∷ done) ws) true (λ p. leads (cl p.name) (last (read_element ws).label) (read_element ws).name)
keeps cl [] ws last_rule = true
keeps cl (previous ∷ done) ws last_rule = elim? (parent (previous ∷ done) ws) true (λ p. ltb (last (read_element ws).label) p.next)
keeps cl done ws next_rule = closed cl (read_element ws)

-- the test of a rule passes exactly if the record keeps that rule
keeps_iff : (cl : Clues) (done : List Element) (ws : List ℕ) (r : Rule) → T (keeps cl done ws r) ↔ Keeps cl done ws r
unfolding keeps is_name
keeps_iff cl [] ws layout_rule = layout_root ws
keeps_iff cl (previous ∷ done) ws layout_rule = layout_below previous done ws
keeps_iff cl [] ws order_rule = Iff.rfl
keeps_iff cl (previous ∷ done) ws order_rule = precedes_iff previous.label (read_element ws).label
keeps_iff cl [] ws parent_rule = Iff.rfl
keeps_iff cl (previous ∷ done) ws parent_rule = has_parent (previous ∷ done) ws
keeps_iff cl [] ws name_rule = (leb→le (read_element ws).name max_name, le→leb (read_element ws).name max_name)
keeps_iff cl (previous ∷ done) ws name_rule =
    of_parent (previous ∷ done) ws _ (λ p. leads_iff (cl p.name) (last (read_element ws).label) (read_element ws).name)
keeps_iff cl [] ws last_rule = Iff.rfl
keeps_iff cl (previous ∷ done) ws last_rule =
    of_parent (previous ∷ done) ws _ (λ p. (ltb→lt (last (read_element ws).label) p.next, lt→ltb (last (read_element ws).label) p.next))
keeps_iff cl [] ws next_rule = closed_iff cl (read_element ws)
keeps_iff cl (previous ∷ done) ws next_rule = closed_iff cl (read_element ws)

-- the rules of parent, name and last component, tested one after the other, give what the search for the parent gives
parent_chain : (o : Option Element) (f g : Element → Bool) (rest : Option Rule) →
    elim? o (some parent_rule) (λ p. test (f p) name_rule (test (g p) last_rule rest)) ≡
    test (elim? o false (λ p. true)) parent_rule (test (elim? o true f) name_rule (test (elim? o true g) last_rule rest))
unfolding elim? test
parent_chain none f g rest = refl
parent_chain (some p) f g rest = refl

-- the first rule that a record breaks is the first whose test fails
broken_chain : (cl : Clues) (done : List Element) (ws : List ℕ) → broken cl done ws ≡ chain (keeps cl done ws)
unfolding broken keeps test
broken_chain cl [] ws = refl
broken_chain cl (previous ∷ done) ws =
    ap (λ o. test (laid_out ws && ltb 0 (get_or ws 0 0)) layout_rule (test (before previous.label (read_element ws).label) order_rule o))
    (parent_chain (parent (previous ∷ done) ws) _ _ _)

module _ (cl : Clues) (done : List Element) (ws : List ℕ) where
  -- the rule named for a record is the first whose fact does not hold
  broken_outcome : Outcome (Keeps cl done ws) (broken cl done ws)
  broken_outcome = rw (broken_chain cl done ws) (chain_outcome (Keeps cl done ws) (keeps cl done ws) (keeps_iff cl done ws))

  -- no rule is named exactly if the record keeps all of them
  pub broken_none : broken cl done ws ≡ none ↔ ((r : Rule) → Keeps cl done ws r)
  broken_none = outcome_none (Keeps cl done ws) (broken cl done ws) broken_outcome

  -- a rule is named exactly if the record breaks it and keeps all rules before it
  pub broken_some : (r : Rule) → broken cl done ws ≡ some r ↔ Breaks (Keeps cl done ws) r
  broken_some = outcome_some (Keeps cl done ws) (broken cl done ws) broken_outcome
