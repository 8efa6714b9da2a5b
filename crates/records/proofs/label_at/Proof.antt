-- `records::label_at` meets its contract: a record's first word counts its components.
use borrow.Author.Rules.{rules}
use Rattle.records.proofs.Parts.{record_label, record_long}
use Rattle.records.proofs.label_at.Statement.{statement}
use Rattle.records.proofs.label_at.Tie as tie

pub label_at_spec : {M : Type 1} → statement M
label_at_spec =
    tie.close
    (tie.spec
    (λ c. search rules)
    (λ c. search rules)
    (λ c. search rules)
    (λ c. search rules)
    (λ c. search rules)
    (λ c. search rules)
    (λ c. search rules)
    (λ c. search rules)
    (λ c. search rules)
    (λ c. search rules)
    (λ c. search rules)
    (λ c. search (record_label, record_long, rules)))
