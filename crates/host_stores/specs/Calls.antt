-- What a host program is told of a store that is changed.
use Rattle.std.specs.Prelude.{ℕ, List}
use Rattle.store_calls.specs.Updates.{Answer}
use Rattle.host_answers.specs.Reports.{Report, report_of}

-- what is told of a new store, an entry or a deletion: the refusal, and the count
abbrev pub change_report : Answer → List ℕ → Report
change_report a answer = report_of a.refusal a.count answer
