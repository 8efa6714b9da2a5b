-- What each way out of the code on one record tells of the rules.
use Prim.Native.Nat.{ℕ, ◌+◌, ◌-◌, ◌*◌, ◌<◌, ◌≤◌}
use mathlib.Core.Path.{◌≡◌, refl, sym, ap, ap₂, ◌∙◌}
use mathlib.Core.Bool.{Bool, true, false, not, ◌||◌}
use mathlib.Core.List.{List}
use native.Mathlib.Omega.{arith}
use lib.ListN.{length, get_or}
use lib.Dec.{eqb, ltb}
use borrow.Author.Tests.{eq-eqb, ne_eqb, lt-ltb, le-ltb, le-leb, lt-leb, not-true, not-false}
use Rattle.std.specs.Prelude.{Option, Some, None, Result, Ok, Err, ⊤}
use Rattle.basics.specs.Basics.{elim?, last}
use Rattle.basics.specs.Limits.{max_depth, max_name, record_size, name_word, next_word}
use Rattle.naming.specs.Names.{Clues, led, is_name}
use Rattle.labelling.specs.Labels.{Label, before, shared, label_of}
use Rattle.storage.specs.Store as spec
use Rattle.labelling.proofs.Kinship.{shared_low}
use Rattle.bridges.specs.Options.{optional}
use Rattle.bridges.proofs.Options.{given_some, given_none}
use Rattle.records.specs.Records.{record_at}
use Rattle.records.proofs.Parts.{record_word, record_label, record_long}
use Rattle.record_rules.specs.Rules.{closed_by, broken_root, broken_below}
use Rattle.record_rules.specs.Answers.{check_of}
use Rattle.record_rules.specs.declared.Rule.{Rule}
use Rattle.record_rules.specs.declared.Rule.TheVariants as rule

-- one of two tests passes where the second does
or_true : (a : Bool) → (a || true) ≡ true
or_true true = refl
or_true false = refl

-- one of two tests passes as the first does, where the second fails
or_false : (a : Bool) → (a || false) ≡ a
or_false true = refl
or_false false = refl

-- the rule of a next number, by the length of the clue and the depth
module _ (n depth next : ℕ) where
  -- a next number of 0 keeps the rule
  pub closed_zero : next ≡ 0 → true ≡ closed_by n depth next
  unfolding closed_by
  closed_zero e = sym (ap (λ b. not (eqb n 0 || eqb depth max_depth) || b) (eq-eqb next 0 e) ∙ or_true (not (eqb n 0 || eqb depth max_depth)))

  module _ (more : next ≡ 0 → ⊥) where
    -- at depth 15 a next number other than 0 breaks the rule
    pub closed_deep : depth ≡ max_depth → false ≡ closed_by n depth next
    unfolding closed_by
    closed_deep e = rw (ne_eqb next 0 more, eq-eqb depth max_depth e, or_true)

    -- above depth 15 a next number other than 0 keeps the rule exactly if the clue has names
    pub closed_clue : (depth ≡ max_depth → ⊥) → not (eqb n 0) ≡ closed_by n depth next
    unfolding closed_by
    closed_clue h = rw (ne_eqb next 0 more, ne_eqb depth max_depth h, or_false, or_false)

-- a component below a clue, where the answer is c
module _ (clue : List ℕ) (x name : ℕ) {c : Option ℕ} (is : c ≡ optional (led clue x)) where
  -- a component that leads nowhere does not lead to the name
  pub leads_nowhere : c ≡ None → false ≡ spec.leads clue x name
  unfolding spec.leads elim?
  leads_nowhere e = rw (given_none (led clue x) is e)

  -- a component that leads to a name leads to this name exactly if the two are equal
  pub leads_name : {d : ℕ} → c ≡ Some d → eqb d name ≡ spec.leads clue x name
  unfolding spec.leads elim?
  leads_name e = rw (given_some (led clue x) is e)

-- the rules of record 0 behind its layout
module _ (cl : Clues) (ws : List ℕ) where
  -- the name of record 0 is word 16
  root_word : (spec.read_element (record_at 0 ws)).name ≡ get_or ws name_word 0
  unfolding spec.read_element
  root_word = record_word ws 0 name_word (omega arith)

  -- a name above 63 breaks the rule of record 0's name
  pub root_high : max_name < get_or ws name_word 0 → Err rule.Name ≡ check_of (broken_root cl (spec.read_element (record_at 0 ws)))
  unfolding broken_root is_name spec.test
  root_high h = rw (root_word, lt-leb (get_or ws name_word 0) max_name h)

  module _ (low : get_or ws name_word 0 ≤ max_name) (flat : get_or ws 0 0 ≡ 0) (room : record_size ≤ length ws) {n : ℕ}
      (size : n ≡ length (cl (get_or ws name_word 0))) {b : Bool} (is : b ≡ closed_by n 0 (get_or ws next_word 0)) where
    -- what `closed` answers is the rule of record 0's next number
    root_closed : b ≡ spec.closed cl (spec.read_element (record_at 0 ws))
    unfolding closed_by spec.closed spec.read_element
    root_closed =
        let deep : get_or ws (0 * record_size) 0 ≤ max_depth = omega arith in
        let long : length (label_of (record_at 0 ws)) ≡ 0 = ap length (sym (record_label ws 0 deep)) ∙ record_long ws 0 deep room ∙ flat in
        is ∙ rw (size, root_word, long, record_word ws 0 next_word (omega arith))

    -- where `closed` fails, the rule of its next number is the first that record 0 breaks
    pub root_next : not b ≡ true → Err rule.Next ≡ check_of (broken_root cl (spec.read_element (record_at 0 ws)))
    unfolding broken_root is_name spec.test
    root_next e = rw (← root_closed, not-true b e, root_word, le-leb (get_or ws name_word 0) max_name low)

    -- where `closed` passes, record 0 keeps all rules
    pub root_kept : not b ≡ false → Ok tt ≡ check_of (broken_root cl (spec.read_element (record_at 0 ws)))
    unfolding broken_root is_name spec.test
    root_kept e = rw (← root_closed, not-false b e, root_word, le-leb (get_or ws name_word 0) max_name low)

-- what two labels share is what they share where they are lent
pub shared_lent : (l m p q : Label) {s : ℕ} → s ≡ shared p q → l ≡ p → m ≡ q → s ≡ shared l m
shared_lent l m p q is e f = is ∙ ap₂ shared (sym e) (sym f)

-- labels share at most fifteen components
pub shared_few : (l p q : Label) {s d : ℕ} → s ≡ shared p q → l ≡ p → length l ≡ d → d ≤ max_depth → s + 1 < 17
shared_few l p q is e long low = omega (arith, shared_low p q, ap length e)

-- the rules of a record behind another, below the record with the number `parent`
module _ (cl : Clues) (ws : List ℕ) (r parent : ℕ) {l m : Label} (p : l ≡ label_of (record_at r ws)) (q : m ≡ label_of (record_at (r + 1) ws)) {s : ℕ}
    (is : s ≡ shared (label_of (record_at r ws)) (label_of (record_at (r + 1) ws))) where
  -- what the rules say of the record
  abbrev answer : Result ⊤ Rule
  answer = check_of (broken_below cl (spec.read_element (record_at r ws)) (spec.read_element (record_at parent ws)) (spec.read_element (record_at (r + 1) ws)))

  module _ {b : Bool} (order : b ≡ before l m) where
    -- a label that does not come after the previous one breaks the rule of order
    pub below_order : not b ≡ true → Err rule.Order ≡ answer
    unfolding broken_below spec.read_element spec.test
    below_order e = rw (← p, ← q, ← order, not-true b e)

    module _ (ascends : not b ≡ false) where
      -- a record whose parent does not stand earlier breaks the rule of the parent
      pub below_parent : (s + 1 ≡ length m → ⊥) → Err rule.Parent ≡ answer
      unfolding broken_below spec.read_element spec.test
      below_parent e = rw (← p, ← q, ← order, not-false b ascends, ← shared_lent l m _ _ is p q, ne_eqb _ _ e)

      module _ (stands : s + 1 ≡ length m) {k : Bool}
          (led : k ≡ spec.leads (cl (get_or ws (parent * record_size + name_word) 0)) (get_or m s 0) (get_or ws ((r + 1) * record_size + name_word) 0)) where
        -- the component behind the shared ones is the last
        last_is : get_or m s 0 ≡ last m
        unfolding last
        last_is = let d : s ≡ length m - 1 = omega arith in ap (λ i. get_or m i 0) d

        -- what `leads` answers is the rule of the record's name
        led_is : k ≡ spec.leads (cl (get_or (record_at parent ws) name_word 0)) (last m) (get_or (record_at (r + 1) ws) name_word 0)
        led_is = led ∙ rw (last_is, record_word ws parent name_word (omega arith), record_word ws (r + 1) name_word (omega arith))

        -- a name to which the parent's clue does not lead breaks the rule of the name
        pub below_name : not k ≡ true → Err rule.Name ≡ answer
        unfolding broken_below spec.read_element spec.test
        below_name e = rw (← p, ← q, ← order, not-false b ascends, ← shared_lent l m _ _ is p q, eq-eqb _ _ stands, ← led_is, not-true k e)

        module _ (named : not k ≡ false) where
          -- a last component that is not below the parent's next number breaks the rule of the last component
          pub below_last : get_or ws (parent * record_size + next_word) 0 ≤ get_or m s 0 → Err rule.Last ≡ answer
          unfolding broken_below spec.read_element spec.test
          below_last h =
              let over : ltb (last m) (get_or (record_at parent ws) next_word 0) ≡ false =
              ap₂ ltb (sym last_is) (record_word ws parent next_word (omega arith)) ∙ le-ltb _ _ h in
              rw (← p, ← q, ← order, not-false b ascends, ← shared_lent l m _ _ is p q, eq-eqb _ _ stands, ← led_is, not-false k named, over)

          module _ (h : get_or m s 0 < get_or ws (parent * record_size + next_word) 0) {n : ℕ} (size : n ≡ length (cl (get_or ws ((r + 1) * record_size + name_word) 0)))
              {f : Bool} (shut : f ≡ closed_by n (s + 1) (get_or ws ((r + 1) * record_size + next_word) 0)) where
            -- the last component is below the parent's next number
            under : ltb (last m) (get_or (record_at parent ws) next_word 0) ≡ true
            under = ap₂ ltb (sym last_is) (record_word ws parent next_word (omega arith)) ∙ lt-ltb _ _ h

            -- what `closed` answers is the rule of the record's own next number
            shut_is : f ≡ spec.closed cl (spec.read_element (record_at (r + 1) ws))
            unfolding closed_by spec.closed spec.read_element
            shut_is = shut ∙ rw (size, ← q, ← stands, record_word ws (r + 1) name_word (omega arith), record_word ws (r + 1) next_word (omega arith))

            -- where `closed` fails, the rule of its own next number is the first that the record breaks
            pub below_next : not f ≡ true → Err rule.Next ≡ answer
            unfolding broken_below spec.read_element spec.test
            below_next e = rw (← shut_is, ← p, ← q, ← order, not-false b ascends, ← shared_lent l m _ _ is p q, eq-eqb _ _ stands, ← led_is, not-false k named, under, not-true f e)

            -- where `closed` passes, the record keeps all rules
            pub below_kept : not f ≡ false → Ok tt ≡ answer
            unfolding broken_below spec.read_element spec.test
            below_kept e = rw (← shut_is, ← p, ← q, ← order, not-false b ascends, ← shared_lent l m _ _ is p q, eq-eqb _ _ stands, ← led_is, not-false k named, under, not-false f e)
