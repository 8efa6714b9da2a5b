-- A record is scanned where its depth fits, its words fit and it keeps the rules; the first that is not is the fault.
use borrow.Author.Rules.{rules, Fits-under}
use Rattle.soundness.proofs.Fits.{found_depth}
use Rattle.soundness.proofs.Shared.{shares_small}
use Rattle.soundness.proofs.Scan.{scan_depth}
use Rattle.soundness.proofs.Tested.{tested_shared, tested_rest, tested_ready, tested_rule, tested_kept}
use Rattle.soundness.proofs.first_fault.Goals as goal

pub overflow_step-w : goal.overflow_step-w
overflow_step-w c = Fits-under _ _ 17 (search (shares_small, found_depth, rules)) tt

pub loop-w-init : goal.loop-w-init
loop-w-init c = (search rules, search (tested_shared, rules))

pub record_rules-requires : goal.record_rules-requires
record_rules-requires c = (search rules, search rules, search (tested_ready _ _ _ _ _ c.loop-w.invariant.1, rules))

pub records-preserved : goal.records-preserved
records-preserved c = (
  search rules,
  tested_kept _ _ _ _ _ c.loop-w.invariant.1 c.rest_zero.ensures (search rules) (search rules) c.record_rules.ensures (search rules),
)

pub returns-then-not-depth_fits : goal.returns-then-not-depth_fits
returns-then-not-depth_fits c = search (scan_depth, rules)

pub returns-then-not-rest_zero : goal.returns-then-not-rest_zero
returns-then-not-rest_zero c = search (tested_rest, rules)

pub returns-in-Err : goal.returns-in-Err
returns-in-Err c = tested_rule _ _ _ _ _ c.loop-w.invariant.1 c.rest_zero.ensures (search rules) (search rules) c.record_rules.ensures (search rules)
