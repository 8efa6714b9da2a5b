-- `label_checks::check_label` meets its contract: the check passes exactly where `is_label` does.
use borrow.Author.Rules.{rules}
use Rattle.label_checks.proofs.Steps.{check_passes, check_refuses}
use Rattle.label_checks.proofs.check_label.Statement.{statement}
use Rattle.label_checks.proofs.check_label.Tie as tie

pub check_label_spec : {M : Type 1} → statement M
check_label_spec =
    tie.close
    (tie.spec
    (λ c κs. search rules)
    (λ c κs. search rules)
    (λ c. search (check_passes, rules))
    (λ c. search (check_refuses, rules)))
