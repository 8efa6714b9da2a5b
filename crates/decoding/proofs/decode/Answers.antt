-- The refusal of a table is the call's.
use Rattle.std.proofs.Common.{rules}
use Rattle.decoding.proofs.Answers.{bad_table_lem}
use Rattle.decoding.proofs.decode.Goals as goal

pub returns-in-Refused : goal.returns-in-Refused
returns-in-Refused c = search (bad_table_lem, rules)
