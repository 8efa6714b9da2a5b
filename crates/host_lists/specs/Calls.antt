-- What a host program is told of a list that is written.
use Rattle.std.specs.Prelude.{ℕ, List}
use Rattle.basics.specs.Outputs.{Listing}
use Rattle.host_answers.specs.Reports.{Report, report_of}

-- what is told of cutting and matching: the refusal, and how many labels or matches there are
abbrev pub listing_report : Listing → List ℕ → Report
listing_report a answer = report_of a.refusal a.count answer
