-- What the rules say of a store, by the definitions of `storage`.
use Rattle.std.specs.Prelude.{ℕ, Result, Ok, Err, ⊤}
use Rattle.std.proofs.Math.Option.{Option, none, some}
use Rattle.storage.specs.Store as spec
use Rattle.record_rules.specs.Answers.{rule_of}
use Rattle.record_rules.specs.declared.Rule.{Rule}
use Rattle.record_rules.specs.declared.Rule.TheVariants as rule
use Rattle.soundness.specs.declared.Fault.{Fault}

-- the rule of the paper that a rule of the code stands for
abbrev pub paper_rule : Rule → spec.Rule
paper_rule rule.Layout = spec.layout_rule
paper_rule rule.Order = spec.order_rule
paper_rule rule.Parent = spec.parent_rule
paper_rule rule.Name = spec.name_rule
paper_rule rule.Last = spec.last_rule
paper_rule rule.Next = spec.next_rule

-- a rule that the record at a place breaks
abbrev pub broken : Rule → ℕ → Result ⊤ Fault
broken r place = Err (record { rule = r; place = place })

-- what the rules say of a store
abbrev pub soundness_of : Option spec.Fault → Result ⊤ Fault
soundness_of none = Ok tt
soundness_of (some f) = broken (rule_of f.rule) f.place
