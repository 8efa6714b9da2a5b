-- What each answer of `is_label` tells of the check of a label.
use Prim.Native.Nat.{ℕ}
use mathlib.Core.Path.{◌≡◌}
use mathlib.Core.List.{List}
use mathlib.Core.Bool.{Bool, true, false}
use Rattle.basics.specs.Refusals.{check, refuse, not_label}
use Rattle.labelling.specs.Labels.{is_label, label_check}
use Rattle.refusals.specs.Answers.{verdict_of}
use Rattle.refusals.specs.declared.Verdict.{Verdict}
use Rattle.refusals.specs.declared.Verdict.TheVariants as verdict

-- the check of a label, where `is_label` answered x
module _ (ws : List ℕ) {x : Bool} (is : x ≡ is_label ws) where
  -- a label passes
  pub check_passes : x ≡ true → verdict.Passed ≡ verdict_of (label_check ws)
  unfolding label_check check
  check_passes e = rw (← is, e)

  -- words that are no label are refused by 15
  pub check_refuses : x ≡ false → {v : Verdict} → v ≡ verdict_of (refuse not_label 0) → v ≡ verdict_of (label_check ws)
  unfolding label_check check
  check_refuses e f = rw (← is, e) f
