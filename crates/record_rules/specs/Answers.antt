-- What the rules say of a record, by the definitions of `storage`.
use Rattle.std.specs.Prelude.{Result, Ok, Err, ⊤}
use Rattle.std.proofs.Math.Option.{Option, none, some}
use Rattle.storage.specs.Store as spec
use Rattle.record_rules.specs.declared.Rule.{Rule}
use Rattle.record_rules.specs.declared.Rule.TheVariants as rule

-- a rule of the paper, as the code names it
abbrev pub rule_of : spec.Rule → Rule
rule_of spec.layout_rule = rule.Layout
rule_of spec.order_rule = rule.Order
rule_of spec.parent_rule = rule.Parent
rule_of spec.name_rule = rule.Name
rule_of spec.last_rule = rule.Last
rule_of spec.next_rule = rule.Next

-- what the rules say of a record: kept, or the first one broken
abbrev pub check_of : Option spec.Rule → Result ⊤ Rule
check_of none = Ok tt
check_of (some r) = Err (rule_of r)
