-- The check of the records: what each way out of the code tells of the definition.
use Prim.Native.Nat.{ℕ}
use mathlib.Core.Path.{◌≡◌, refl, sym, ap, ap₂, ◌∙◌}
use mathlib.Core.List.{List, []}
use mathlib.Core.Option.{Option, none, some}
use Rattle.std.specs.Prelude.{Result, Ok, Err, ⊤}
use Rattle.basics.specs.Basics.{elim?}
use Rattle.basics.specs.Refusals.{refuse, bad_layout, bad_order, bad_name, bad_next}
use Rattle.naming.specs.Names.{Clues}
use Rattle.storage.specs.Store as spec
use Rattle.refusals.specs.Answers.{verdict_of}
use Rattle.refusals.specs.declared.Verdict.{Verdict}
use Rattle.refusals.specs.declared.Verdict.TheVariants as verdict
use Rattle.record_rules.specs.Answers.{rule_of}
use Rattle.record_rules.specs.declared.Rule.{Rule}
use Rattle.record_rules.specs.declared.Rule.TheVariants as rule
use Rattle.soundness.specs.Answers.{paper_rule, soundness_of}
use Rattle.soundness.specs.declared.Fault.{Fault}

-- the number of each rule
module _ {r : Rule} where
  -- the rule of the layout has the number 19
  pub layout_number : r ≡ rule.Layout → bad_layout ≡ spec.number_of (paper_rule r)
  unfolding spec.number_of
  layout_number e = rw e refl

  -- the rule of order has the number 23
  pub order_number : r ≡ rule.Order → bad_order ≡ spec.number_of (paper_rule r)
  unfolding spec.number_of
  order_number e = rw e refl

  -- the rule of the parent has the number 23
  pub parent_number : r ≡ rule.Parent → bad_order ≡ spec.number_of (paper_rule r)
  unfolding spec.number_of
  parent_number e = rw e refl

  -- the rule of the name has the number 24
  pub name_number : r ≡ rule.Name → bad_name ≡ spec.number_of (paper_rule r)
  unfolding spec.number_of
  name_number e = rw e refl

  -- the rule of the last component has the number 25
  pub last_number : r ≡ rule.Last → bad_next ≡ spec.number_of (paper_rule r)
  unfolding spec.number_of
  last_number e = rw e refl

  -- the rule of the next number has the number 25
  pub next_number : r ≡ rule.Next → bad_next ≡ spec.number_of (paper_rule r)
  unfolding spec.number_of
  next_number e = rw e refl

-- a rule of the paper, as the code names it, stands for itself
paper_rule_lem : (x : spec.Rule) → paper_rule (rule_of x) ≡ x
paper_rule_lem spec.layout_rule = refl
paper_rule_lem spec.order_rule = refl
paper_rule_lem spec.parent_rule = refl
paper_rule_lem spec.name_rule = refl
paper_rule_lem spec.last_rule = refl
paper_rule_lem spec.next_rule = refl

-- where the code answers that a store is sound, the definition finds no fault
said_sound : (o : Option spec.Fault) {k : Result ⊤ Fault} → k ≡ soundness_of o → k ≡ Ok tt → o ≡ none
said_sound none e f = refl
said_sound (some x) e f = cc

-- where the code names a fault, the definition finds it
said_fault : (o : Option spec.Fault) {k : Result ⊤ Fault} {x : Fault} → k ≡ soundness_of o → k ≡ Err x →
    (f : spec.Fault) × (o ≡ some f) × (x ≡ record { rule = rule_of f.rule; place = f.place })
said_fault none e f = cc
said_fault (some x) e f = (x, refl, cc)

module _ (cl : Clues) (count : ℕ) (ws : List ℕ) {k : Result ⊤ Fault} (is : k ≡ soundness_of (spec.fault cl [] (spec.records count ws))) where
  -- records without a fault pass
  pub records_sound : k ≡ Ok tt → verdict.Passed ≡ verdict_of (spec.sound_check cl count ws)
  unfolding spec.sound_check elim?
  records_sound e = rw (said_sound (spec.fault cl [] (spec.records count ws)) is e)

  -- a fault is refused by its rule's number at its place
  pub records_fault : {x : Fault} {n : ℕ} {v : Verdict} → k ≡ Err x → n ≡ spec.number_of (paper_rule x.rule) → v ≡ verdict_of (refuse n x.place) →
      v ≡ verdict_of (spec.sound_check cl count ws)
  unfolding spec.sound_check elim?
  records_fault {n = n} e number f =
      let (fault, at, named) = said_fault (spec.fault cl [] (spec.records count ws)) is e in
      let same : n ≡ spec.number_of fault.rule = number ∙ ap (λ (x : Fault). spec.number_of (paper_rule x.rule)) named ∙ ap spec.number_of (paper_rule_lem fault.rule) in
      f ∙ ap₂ (λ (n p : ℕ). verdict_of (refuse n p)) same (ap (λ (x : Fault). x.place) named) ∙
      sym (ap (λ o. verdict_of (elim? o none (λ f. refuse (spec.number_of f.rule) f.place))) at)
