-- `table_bytes::table_in` meets its contract: 4,096 bytes are the table of their rows, others one that 22 rules out.
use borrow.Author.Rules.{rules}
use Rattle.table_bytes.proofs.Bytes.{table_torn, table_whole}
use Rattle.table_bytes.proofs.table_in.Statement.{statement}
use Rattle.table_bytes.proofs.table_in.Tie as tie

pub table_in_spec : {M : Type 1} → statement M
table_in_spec = tie.close (tie.spec (λ c. search (table_torn, rules)) (λ c κs. search rules) (λ c. search (table_whole, rules)))
