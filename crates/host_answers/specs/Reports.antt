-- What a host program is told of a call.
use Rattle.std.specs.Prelude.{ℕ, List, [], ◌∷◌, ◌++◌, length, take, drop}
use Rattle.std.proofs.Math.Option.{Option, none, some}
use Rattle.basics.specs.Refusals.{Refusal}
use Rattle.refusals.specs.declared.Verdict.{Verdict}
use Rattle.refusals.specs.declared.Verdict.TheVariants as verdict

-- as many of some numbers as a lent slice has room for, and behind them what stood there
unfoldable pub fitted : List ℕ → List ℕ → List ℕ
fitted ns out = take (length out) ns ++ drop (length ns) out

-- what every call answers: a number, and a slice with a place and a value
pub record Report : Type 0 where
  pub number : ℕ
  pub answer : List ℕ

-- a number beside a slice, as one value
abbrev pub report : ℕ → List ℕ → Report
report n answer = record { number = n; answer = answer }

-- what is told of a check: the refusal's number and place, or 0 and 0 where there is none, beside a value
abbrev pub report_of : Option Refusal → ℕ → List ℕ → Report
report_of none value answer = report 0 (fitted (0 ∷ value ∷ []) answer)
report_of (some r) value answer = report r.number (fitted (r.place ∷ value ∷ []) answer)

-- what is told of a verdict: the refusal's number and place, or 0 and 0 where it passed, beside a value
abbrev pub report_by : Verdict → ℕ → List ℕ → Report
report_by verdict.Passed value answer = report 0 (fitted (0 ∷ value ∷ []) answer)
report_by (verdict.Refused r) value answer = report r.number (fitted (r.place ∷ value ∷ []) answer)
