-- What a deletion answers and leaves, for each way out of its code.
use Prim.Native.Nat.{ℕ, ◌-◌, ◌<◌, ◌≤◌}
use mathlib.Core.Path.{◌≡◌, sym, ap, ◌∙◌}
use mathlib.Core.Bool.{true}
use mathlib.Core.List.{List, [], ◌∷◌}
use mathlib.Core.Option.{none, some}
use native.Mathlib.Omega.{arith}
use lib.ListN.{length}
use lib.Dec.{ltb→lt, lt→ltb}
use Rattle.std.specs.Prelude.{Some, None}
use Rattle.std.specs.Prelude as std
use Rattle.basics.specs.Basics.{elim?, leading}
use Rattle.basics.specs.Refusals.{Refusal, refuse, first, no_record, root_stays}
use Rattle.naming.specs.Names.{Table, clues_of}
use Rattle.labelling.specs.Labels.{Label, label_of}
use Rattle.storage.specs.Store.{elements, find}
use Rattle.store_calls.specs.Updates.{root_stays_check, found_check, deletion_refusal, delete}
use Rattle.basics.proofs.Refusals.{check_passed, check_failed, first_here, first_next}
use Rattle.refusals.specs.Answers.{verdict_of}
use Rattle.refusals.specs.declared.Refusal.{Refusal as Shown}
use Rattle.refusals.specs.declared.Verdict.{Verdict}
use Rattle.refusals.specs.declared.Verdict.TheVariants as verdict
use Rattle.refusals.proofs.Verdicts.{refused_some}
use Rattle.moving.specs.Moves.{removed}
use Rattle.bridges.specs.Options.{optional}
use Rattle.bridges.proofs.Options.{given_some, given_none}
use Rattle.lookup.specs.Places.{place_at, passes, InLabelOrder}
use Rattle.lookup.proofs.Places.{place_before_end}
use Rattle.changes.specs.Answers.{call_check, Changed, changed, change_of}
use Rattle.deletions.specs.Answers.{subtree_removed}
use Rattle.changes.proofs.InUse.{end_used, find_absent, find_found}
use Rattle.deletions.proofs.Deletions.{delete_count, delete_words}
use Rattle.changes.proofs.Checks.{call_refused, call_passed, call_sound, call_room, checks_passed}

module _ (count : ℕ) (ws : List ℕ) (l : Label) (a : ℕ) (can : InLabelOrder count ws) (at : place_at l (elements count ws) ≡ some a)
    {end : ℕ} (ends : end ≡ leading (passes true l) (elements count ws)) where
  -- the subtree ends behind the label's record
  pub subtree_some : a < end
  subtree_some = rw ends (place_before_end l (elements count ws) a can.ordered at)

  -- the subtree does not end before the label's record
  pub subtree_over : a ≤ end
  subtree_over = omega (arith, subtree_some)

  -- the subtree has no more records than are in use
  pub subtree_fewer : end - a ≤ count
  subtree_fewer = omega (arith, end_used count ws l ends)

  -- what is left has the records of the subtree taken out
  pub subtree_removed_lem : {ws' : List ℕ} → ws' ≡ removed ws a end count →
      changed (record { verdict = verdict.Passed; count = count - (end - a) }) ws' ≡ subtree_removed ws count a l
  subtree_removed_lem h = rw (h, ends)

module _ (rows : Table) (ws : List ℕ) (count : ℕ) (lw : List ℕ) where
  -- a deletion that is refused answers the refusal and leaves the words
  deletion_refused : {r : Refusal} {v : Verdict} → deletion_refusal rows ws count lw ≡ some r → v ≡ verdict_of (some r) →
      changed (record { verdict = v; count = count }) ws ≡ change_of (delete rows ws count lw)
  unfolding delete elim?
  deletion_refused e f = rw (f, e)

  module _ {v : Verdict} (checked : v ≡ verdict_of (call_check rows ws count lw)) where
    -- where table, store or label is ruled out, the deletion has that refusal
    pub delete_unchecked : {s : Shown} → v ≡ verdict.Refused s → changed (record { verdict = v; count = count }) ws ≡ change_of (delete rows ws count lw)
    unfolding deletion_refusal
    delete_unchecked f =
        let (r, e) = refused_some (call_check rows ws count lw) checked f in
        deletion_refused (call_refused rows ws count lw _ r e) (checked ∙ ap verdict_of e)

    module _ (good : v ≡ verdict.Passed) where
      -- the checks of table, store and label pass
      passed : call_check rows ws count lw ≡ none
      passed = checks_passed rows ws count lw checked good

      module _ {l : Label} (parts : l ≡ label_of lw) where
        -- behind the checks of table, store and label the others decide
        to_root : deletion_refusal rows ws count lw ≡ first (root_stays_check l ∷ found_check (find l (elements count ws)) ∷ [])
        unfolding deletion_refusal
        to_root = call_passed rows ws count lw passed _ ∙ ap (λ l. first (root_stays_check l ∷ found_check (find l (elements count ws)) ∷ [])) (sym parts)

        -- the deletion of the root is refused by 14
        pub delete_root : {w : Verdict} → length l ≡ 0 → w ≡ verdict_of (refuse root_stays 0) →
            changed (record { verdict = w; count = count }) ws ≡ change_of (delete rows ws count lw)
        unfolding root_stays_check
        delete_root h f = deletion_refused (to_root ∙ first_here _ _ _ (check_failed _ root_stays 0 (λ t. omega (arith, ltb→lt 0 (length l) t)))) f

        module _ (below : length l ≡ 0 → ⊥) {f : std.Option ℕ} (looked : f ≡ optional (place_at l (elements count ws))) where
          -- where the label is not the root's, whether a record has the label decides
          to_found : deletion_refusal rows ws count lw ≡ found_check (find l (elements count ws))
          unfolding root_stays_check
          to_found = to_root ∙ first_next _ _ (check_passed _ root_stays 0 (lt→ltb 0 (length l) (omega arith)))

          -- where no record has the label, 9 is answered
          pub delete_absent : {w : Verdict} → f ≡ None → w ≡ verdict_of (refuse no_record 0) →
              changed (record { verdict = w; count = count }) ws ≡ change_of (delete rows ws count lw)
          unfolding found_check
          delete_absent g h = deletion_refused (to_found ∙ ap found_check (find_absent count ws l (given_none _ looked g))) h

          -- where a record has the label, the records of its subtree are taken out
          pub delete_done : {a : ℕ} {y : Changed} → f ≡ Some a → y ≡ subtree_removed ws count a l → y ≡ change_of (delete rows ws count lw)
          unfolding delete elim? found_check
          delete_done {a} g h =
              let room = call_room rows ws count lw passed in
              let sound = call_sound rows ws count lw passed in
              let at = given_some _ looked g in
              let free : deletion_refusal rows ws count lw ≡ none = to_found ∙ ap found_check (find_found count ws l a at) in
              h ∙ rw (free, ← parts, delete_words (clues_of rows) count ws l a sound room at, delete_count (clues_of rows) count ws l a sound room at)
