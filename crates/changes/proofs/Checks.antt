-- The checks of store and label that entry and deletion make before their own:
-- one that refuses refuses the call, else the call's own decide.
use Prim.Native.Nat.{ℕ, ◌*◌, ◌≤◌}
use mathlib.Core.Path.{◌≡◌, sym, ap, ◌∙◌}
use mathlib.Core.Logic.{⊎_elim}
use mathlib.Core.Bool.{true}
use mathlib.Core.List.{List, ◌∷◌}
use mathlib.Core.Option.{Option, none, some}
use lib.ListN.{length}
use Rattle.std.specs.Prelude.{Some}
use Rattle.std.specs.Prelude as std
use Rattle.basics.specs.Limits.{record_size}
use Rattle.basics.specs.Refusals.{Refusal, first, not_label}
use Rattle.naming.specs.Names.{Table, clues_of, table_check}
use Rattle.labelling.specs.Labels.{Label, label_of, is_label, label_check}
use Rattle.storage.specs.Store.{Element, size_check, sound_check}
use Rattle.basics.proofs.Refusals.{first_rest, first_last, first_some, first_both, first_here, first_next, check_none}
use Rattle.basics.proofs.Tests.{is_true}
use Rattle.refusals.specs.Answers.{verdict_of}
use Rattle.refusals.specs.declared.Refusal.{Refusal as Shown}
use Rattle.refusals.specs.declared.Verdict.{Verdict}
use Rattle.refusals.specs.declared.Verdict.TheVariants as verdict
use Rattle.refusals.proofs.Verdicts.{passed_none, first_refused}
use Rattle.bridges.specs.Options.{optional}
use Rattle.bridges.proofs.Options.{given_some}
use Rattle.lookup.specs.Places.{place_at, InLabelOrder}
use Rattle.lookup.proofs.Places.{searchable}
use Rattle.store_checks.specs.Stores.{store_check}
use Rattle.store_checks.proofs.Stores.{store_refused, store_passed, store_sound, store_room}
use Rattle.changes.specs.Answers.{call_check}

-- where lookup answered a place, the label that the words hold has that place
pub found_label : (lw : List ℕ) (es : List Element) {l : Label} {f : std.Option ℕ} {a : ℕ} → f ≡ Some a → l ≡ label_of lw → f ≡ optional (place_at l es) →
    place_at (label_of lw) es ≡ some a
found_label lw es g parts looked = given_some (place_at (label_of lw) es) (looked ∙ ap (λ l. optional (place_at l es)) parts) g

module _ (rows : Table) (ws : List ℕ) (count : ℕ) where
  module _ (lw : List ℕ) where
    -- checks that refuse before a call's own refuse the call
    pub call_refused : (cs : List (Option Refusal)) (r : Refusal) → call_check rows ws count lw ≡ some r →
        first (table_check rows ∷ size_check (length ws) count ∷ sound_check (clues_of rows) count ws ∷ label_check lw ∷ cs) ≡ some r
    unfolding call_check
    call_refused cs r e =
        ⊎_elim (λ f. store_refused rows ws count _ r f) (λ f. store_passed rows ws count f.0 _ ∙ first_here r _ cs (sym (first_last (label_check lw)) ∙ f.1)) (first_some _ _ r e)

    module _ (passed : call_check rows ws count lw ≡ none) where
      -- the store and the label of a call that passes both pass
      call_checks : (store_check rows ws count ≡ none) × (label_check lw ≡ none)
      unfolding call_check
      call_checks = (first_both _ _).0 passed

      -- where store and label pass, the call's own checks decide
      pub call_passed : (cs : List (Option Refusal)) →
          first (table_check rows ∷ size_check (length ws) count ∷ sound_check (clues_of rows) count ws ∷ label_check lw ∷ cs) ≡ first cs
      call_passed cs = let (store, label) = call_checks in store_passed rows ws count store _ ∙ first_rest _ _ label

      -- the records of a call that passes are sound
      pub call_sound : sound_check (clues_of rows) count ws ≡ none
      call_sound = store_sound rows ws count call_checks.0

      -- the records of a call that passes stand in the slice
      pub call_room : record_size * count ≤ length ws
      call_room = store_room rows ws count call_checks.0

    module _ {v : Verdict} (checked : v ≡ verdict_of (call_check rows ws count lw)) (good : v ≡ verdict.Passed) where
      -- where the answer is `Passed`, no check refuses
      pub checks_passed : call_check rows ws count lw ≡ none
      checks_passed = passed_none (call_check rows ws count lw) checked good

      -- the store of a call that passes can be searched
      pub call_searchable : InLabelOrder count ws
      call_searchable = searchable (clues_of rows) count ws (call_room checks_passed) (call_sound checks_passed)

      -- the words of a call that passes are a label
      pub call_label : is_label lw ≡ true
      unfolding label_check
      call_label = is_true (is_label lw) (check_none (is_label lw) not_label 0 (call_checks checks_passed).1)

  -- where the check of the store refuses, its verdict is the call's
  pub call_unsound : (lw : List ℕ) {v : Verdict} {x : Shown} → v ≡ verdict_of (store_check rows ws count) → v ≡ verdict.Refused x →
      v ≡ verdict_of (call_check rows ws count lw)
  unfolding call_check
  call_unsound lw e f = first_refused _ _ e f

  -- where the check of the store passes, the verdict on the label is the call's
  pub call_labelled : (lw : List ℕ) {v w : Verdict} → v ≡ verdict_of (store_check rows ws count) → v ≡ verdict.Passed → w ≡ verdict_of (label_check lw) →
      w ≡ verdict_of (call_check rows ws count lw)
  unfolding call_check
  call_labelled lw e f g = g ∙ ap verdict_of (sym (first_next _ _ (passed_none (store_check rows ws count) e f)))
