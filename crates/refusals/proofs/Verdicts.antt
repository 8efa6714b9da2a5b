-- What a verdict tells of the check that gave it.
use Prim.Native.Nat.{ℕ}
use mathlib.Core.Path.{◌≡◌, refl, sym, ap, ◌∙◌}
use mathlib.Core.List.{List, ◌∷◌}
use mathlib.Core.Option.{Option, none, some}
use native.Mathlib.Omega.{arith}
use Rattle.basics.specs.Refusals as spec
use Rattle.basics.proofs.Refusals.{first_here}
use Rattle.refusals.specs.Answers.{verdict_of}
use Rattle.refusals.specs.declared.Refusal.{Refusal}
use Rattle.refusals.specs.declared.Verdict.{Verdict}
use Rattle.refusals.specs.declared.Verdict.TheVariants as verdict

-- a check that answered `Passed` refuses nothing
pub passed_none : (o : Option spec.Refusal) {v : Verdict} → v ≡ verdict_of o → v ≡ verdict.Passed → o ≡ none
passed_none none e f = refl
passed_none (some r) e f = absurd (let z : ◌≡◌ {A = ℕ} 0 1 = cc in omega arith)

-- where a check answered a refusal, the definition of the check has one
pub refused_some : (o : Option spec.Refusal) {v : Verdict} {x : Refusal} → v ≡ verdict_of o → v ≡ verdict.Refused x → (r : spec.Refusal) × (o ≡ some r)
refused_some none e f = absurd (let z : ◌≡◌ {A = ℕ} 0 1 = cc in omega arith)
refused_some (some r) e f = (r, refl)

-- where the first of several checks refuses, its verdict is the verdict of all
pub first_refused : (o : Option spec.Refusal) (os : List (Option spec.Refusal)) {v : Verdict} {x : Refusal} → v ≡ verdict_of o → v ≡ verdict.Refused x →
    v ≡ verdict_of (spec.first (o ∷ os))
first_refused o os is e = let (r, f) = refused_some o is e in is ∙ ap verdict_of (f ∙ sym (first_here r o os f))
