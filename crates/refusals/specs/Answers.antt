-- What checks and calls answer, by the definitions of `basics`.
use Rattle.std.specs.Prelude.{List, ℕ}
use Rattle.std.proofs.Math.Option.{Option, none, some}
use Rattle.basics.specs.Refusals as spec
use Rattle.basics.specs.Outputs as outputs
use Rattle.refusals.specs.declared.Refusal.{Refusal}
use Rattle.refusals.specs.declared.Verdict.{Verdict}
use Rattle.refusals.specs.declared.Verdict.TheVariants as verdict
use Rattle.refusals.specs.declared.Listing.{Listing}

-- a refusal of the paper, as data
abbrev pub refusal_of : spec.Refusal → Refusal
refusal_of r = record { number = r.number; place = r.place }

-- what a check answers: passed, or the refusal
abbrev pub verdict_of : Option spec.Refusal → Verdict
verdict_of none = verdict.Passed
verdict_of (some r) = verdict.Refused (refusal_of r)

-- what a call that fills an output answers and leaves: the answer, and the words of the output
pub record Filled : Type 0 where
  pub answer : Listing
  pub output : List ℕ

-- an answer beside an output, as one value
abbrev pub filled : Listing → List ℕ → Filled
filled r out = record { answer = r; output = out }

-- a refusal lists nothing
abbrev pub refused_by : Verdict → Listing
refused_by v = record { verdict = v; count = 0 }

-- what a call that fills an output answers and leaves, by its definition
abbrev pub listing_of : outputs.Listing → Filled
listing_of a = filled (record { verdict = verdict_of a.refusal; count = a.count }) a.output
