-- `printing::check_file` meets its contract: each way to refuse in turn.
use borrow.Author.Rules.{rules}
use Rattle.printing.proofs.Files.{file_empty, file_long, file_uneven, file_whole}
use Rattle.printing.proofs.check_file.Statement.{statement}
use Rattle.printing.proofs.check_file.Tie as tie

pub check_file_spec : {M : Type 1} → statement M
check_file_spec =
    tie.close
    (tie.spec
    (λ c κs. search rules)
    (λ c. search (file_empty, rules))
    (λ c κs. search rules)
    (λ c. search (file_long, rules))
    (λ c. search rules)
    (λ c. search rules)
    (λ c κs. search rules)
    (λ c. search (file_uneven, rules))
    (λ c. search (file_whole, rules)))
