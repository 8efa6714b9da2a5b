-- What is told of a verdict, and that it is what is told of its check.
use Prim.Native.Nat.{ℕ}
use mathlib.Core.Path.{◌≡◌, refl, sym, ap, ◌∙◌}
use mathlib.Core.List.{List, [], ◌∷◌}
use mathlib.Core.Option.{Option, none, some}
use Rattle.basics.specs.Refusals as spec
use Rattle.refusals.specs.Answers.{verdict_of}
use Rattle.refusals.specs.declared.Refusal.{Refusal}
use Rattle.refusals.specs.declared.Verdict.{Verdict}
use Rattle.refusals.specs.declared.Verdict.TheVariants as verdict
use Rattle.host_answers.specs.Reports.{fitted, Report, report, report_of, report_by}

module _ (value : ℕ) (answer : List ℕ) {left : List ℕ} {v : Verdict} where
  -- of a call that is taken the number 0 and the place 0 are told
  pub tell_taken : v ≡ verdict.Passed → left ≡ fitted (0 ∷ value ∷ []) answer → report 0 left ≡ report_by v value answer
  tell_taken e f = ap (λ l. report 0 l) f ∙ sym (ap (λ x. report_by x value answer) e)

  -- of a call that is refused the refusal's number and place are told
  pub tell_refused : {r : Refusal} → v ≡ verdict.Refused r → left ≡ fitted (r.place ∷ value ∷ []) answer → report r.number left ≡ report_by v value answer
  tell_refused {r} e f = ap (λ l. report r.number l) f ∙ sym (ap (λ x. report_by x value answer) e)

-- what is told of a verdict is what is told of its check
report_verdict : (o : Option spec.Refusal) (value : ℕ) (answer : List ℕ) → report_by (verdict_of o) value answer ≡ report_of o value answer
report_verdict none value answer = refl
report_verdict (some r) value answer = refl

-- what is told of a check is told by its verdict
pub told_check : (o : Option spec.Refusal) (value : ℕ) (answer : List ℕ) {v : Verdict} {x : Report} → v ≡ verdict_of o → x ≡ report_by v value answer → x ≡ report_of o value answer
told_check o value answer f e = e ∙ ap (λ w. report_by w value answer) f ∙ report_verdict o value answer
