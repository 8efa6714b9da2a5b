-- `twigs::is_asked` meets its contract: a name up to 63 may be asked for, or 255.
use borrow.Author.Rules.{rules}
use Rattle.twigs.proofs.Asking.{asked_name, asked_high}
use Rattle.twigs.proofs.is_asked.Statement.{statement}
use Rattle.twigs.proofs.is_asked.Tie as tie

pub is_asked_spec : {M : Type 1} → statement M
is_asked_spec = tie.close (tie.spec (λ c. search (asked_name, rules)) (λ c. search (asked_high, rules)))
