-- A store and a twig: the line of the first check that refuses, else what the buffers decide.
use Prim.Native.Nat.{ℕ}
use mathlib.Core.Path.{◌≡◌, ap, ◌∙◌}
use mathlib.Core.List.{List, ◌∷◌}
use mathlib.Core.Option.{none}
use lib.ListN.{length}
use Rattle.naming.specs.Names.{Table, clues_of, table_check}
use Rattle.patterns.specs.Twigs.{twig_check}
use Rattle.storage.specs.Store.{size_check, sound_check}
use Rattle.printouts.specs.Printing.{refusal_text}
use Rattle.basics.proofs.Refusals.{first_rest, first_last}
use Rattle.refusals.specs.Answers.{verdict_of}
use Rattle.refusals.specs.declared.Refusal as declared
use Rattle.refusals.specs.declared.Verdict.{Verdict}
use Rattle.refusals.specs.declared.Verdict.TheVariants as verdict
use Rattle.refusals.proofs.Verdicts.{passed_none}
use Rattle.store_checks.specs.Stores.{store_check}
use Rattle.printing.specs.Texts.{Prints, refusal_told, printed_by, store_matches, buffer_checks, store_checks}
use Rattle.printing.specs.Streams.{StoreAccepted}
use Rattle.printing.proofs.Printed.{prints_as, printed_on, printed_refused}

module _ (rows : Table) (ws : List ℕ) (count : ℕ) (table : table_check rows ≡ none) (size : size_check (length ws) count ≡ none)
    {v : Verdict} (checked : v ≡ verdict_of (store_check rows ws count)) where
  -- under an accepted table and with an accepted size, the verdict on a store is that on its records
  sound_verdict : v ≡ verdict_of (sound_check (clues_of rows) count ws)
  unfolding store_check
  sound_verdict = checked ∙ ap verdict_of (first_rest _ _ table ∙ first_rest _ _ size ∙ first_last _)

  -- the refusal of an unsound record is printed
  pub records_refused : (twig : List ℕ) {x : declared.Refusal} → v ≡ verdict.Refused x →
      {n : ℕ} {left text : List ℕ} → Prints (refusal_text (refusal_told x)) n left text →
      Prints (printed_by (store_checks rows ws count twig) (store_matches rows ws count twig)) n left text
  unfolding store_checks
  records_refused twig e = printed_refused (sound_check (clues_of rows) count ws) _ _ sound_verdict e

  module _ (passed : v ≡ verdict.Passed) where
    -- a store that passes is accepted
    pub store_accepted : StoreAccepted rows ws count
    store_accepted = record { table = table; size = size; sound = passed_none _ sound_verdict passed }

    module _ (twig : List ℕ) {u : Verdict} (read : u ≡ verdict_of (twig_check twig)) where
      -- over an accepted store the twig decides
      twig_next : printed_by (store_checks rows ws count twig) (store_matches rows ws count twig) ≡
          printed_by (twig_check twig ∷ buffer_checks rows ws count twig) (store_matches rows ws count twig)
      unfolding store_checks
      twig_next = printed_on (sound_check (clues_of rows) count ws) _ _ store_accepted.sound

      -- the refusal of a twig is printed
      pub bytes_refused : {x : declared.Refusal} → u ≡ verdict.Refused x → {n : ℕ} {left text : List ℕ} → Prints (refusal_text (refusal_told x)) n left text →
          Prints (printed_by (store_checks rows ws count twig) (store_matches rows ws count twig)) n left text
      bytes_refused e p = prints_as twig_next (printed_refused (twig_check twig) _ _ read e p)

      -- what the buffers decide is printed for a twig that passes
      pub store_printed : u ≡ verdict.Passed → {n : ℕ} {left text : List ℕ} →
          Prints (printed_by (buffer_checks rows ws count twig) (store_matches rows ws count twig)) n left text →
          Prints (printed_by (store_checks rows ws count twig) (store_matches rows ws count twig)) n left text
      store_printed e p = prints_as (twig_next ∙ printed_on (twig_check twig) _ _ (passed_none _ read e)) p
