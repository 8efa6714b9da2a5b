-- `twigs::asks` meets its contract: 255 asks for any name, another one for itself.
use borrow.Author.Rules.{rules}
use Rattle.twigs.proofs.Asking.{asks_any, asks_itself}
use Rattle.twigs.proofs.asks.Statement.{statement}
use Rattle.twigs.proofs.asks.Tie as tie

pub asks_spec : {M : Type 1} → statement M
asks_spec = tie.close (tie.spec (λ c. search (asks_any, rules)) (λ c. search (asks_itself, rules)))
