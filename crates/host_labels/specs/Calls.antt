-- What a host program is told of kinship and of follows.
use Rattle.std.specs.Prelude.{ℕ, Bool, cond, List}
use Rattle.std.proofs.Math.Option.{none, some}
use Rattle.basics.specs.Refusals.{Reply, value, refused}
use Rattle.host_answers.specs.Reports.{Report, report_of}

-- what is told of kinship: its number, 0 in a refusal
abbrev pub kinship_report : Reply ℕ → List ℕ → Report
kinship_report (value k) answer = report_of none k answer
kinship_report (refused r) answer = report_of (some r) 0 answer

-- what is told of follows: 1 for a label that follows, 0 for one that does not and in a refusal
abbrev pub follows_report : Reply Bool → List ℕ → Report
follows_report (value b) answer = report_of none (cond b 1 0) answer
follows_report (refused r) answer = report_of (some r) 0 answer
