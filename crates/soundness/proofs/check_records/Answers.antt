-- A fault is refused by its rule's number at its place.
use Rattle.std.proofs.Common.{rules}
use Rattle.soundness.proofs.Checks.{records_fault}
use Rattle.soundness.proofs.check_records.Goals as goal

pub returns-in-Err : goal.returns-in-Err
returns-in-Err c = search (records_fault, rules)
