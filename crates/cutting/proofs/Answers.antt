-- What cutting answers and leaves, for each way out of its code.
use Prim.Native.Nat.{ℕ, ◌*◌, ◌/◌, ◌<◌, ◌≤◌}
use mathlib.Core.Path.{◌≡◌, ap, ◌∙◌}
use mathlib.Core.Bool.{Bool, true, false, not, ◌||◌}
use mathlib.Core.List.{List, [], ◌∷◌}
use mathlib.Core.Option.{some}
use native.Mathlib.Omega.{arith}
use lib.ListN.{length}
use lib.Dec.{leb, eqb}
use borrow.Author.Tests.{le-leb, lt-leb, not-true, not-false}
use Rattle.basics.specs.Basics.{over}
use Rattle.basics.specs.Limits.{any_name, label_size}
use Rattle.basics.specs.Refusals.{Refusal, refuse, check, first, name_asked, short_output}
use Rattle.naming.specs.Names.{Table, is_name}
use Rattle.patterns.specs.Twigs.{name_check}
use Rattle.embeddings.specs.Matches.{labels_words}
use Rattle.storage.specs.Store.{elements}
use Rattle.basics.specs.Outputs as outputs
use Rattle.cut_calls.specs.Cutting as spec
use Rattle.basics.proofs.Refusals.{first_last}
use Rattle.refusals.specs.Answers.{verdict_of, filled, refused_by, listing_of}
use Rattle.refusals.specs.declared.Listing.{Listing}
use Rattle.refusals.specs.declared.Refusal as declared
use Rattle.refusals.specs.declared.Verdict.{Verdict}
use Rattle.refusals.specs.declared.Verdict.TheVariants as verdict
use Rattle.refusals.proofs.Verdicts.{passed_none, refused_some}
use Rattle.store_checks.specs.Stores.{store_check}
use Rattle.store_checks.proofs.Stores.{store_refused, store_passed}
use Rattle.cutting.proofs.Sound.{store_laid, stream_words}

-- an output into which n labels fit has room for their words
pub room_held : {n k size : ℕ} → n ≡ k → n ≤ size / label_size → label_size * k ≤ size
room_held e h = omega arith

module _ (rows : Table) (ws : List ℕ) (count want : ℕ) (out : List ℕ) where
  -- the words of the stream asked for
  abbrev words : List ℕ
  words = labels_words (spec.stream want (elements count ws))

  -- a call that is refused answers the refusal and leaves the output
  refused_by_lem : (r : Refusal) {v : Verdict} {a : Listing} → spec.cut_refusal rows ws count want out ≡ some r → v ≡ verdict_of (some r) → a ≡ refused_by v →
      filled a out ≡ listing_of (spec.cut rows ws count want out)
  unfolding spec.cut outputs.listed
  refused_by_lem r e f g = rw (e, g, f)

  module _ {v : Verdict} (checked : v ≡ verdict_of (store_check rows ws count)) where
    -- where table or store is ruled out, the call has that refusal
    pub refused_first : {x : declared.Refusal} {a : Listing} → v ≡ verdict.Refused x → a ≡ refused_by v → filled a out ≡ listing_of (spec.cut rows ws count want out)
    unfolding spec.cut_refusal
    refused_first f g =
        let (r, is) = refused_some (store_check rows ws count) checked f in
        refused_by_lem r (store_refused rows ws count _ r is) (checked ∙ ap verdict_of is) g

    module _ (good : v ≡ verdict.Passed) {b : Bool} (is : b ≡ (is_name want || eqb want any_name)) where
      -- behind the checks of table and store comes that of the name
      name_next : spec.cut_refusal rows ws count want out ≡ first (check b name_asked 0 ∷ outputs.room_check words out ∷ [])
      unfolding spec.cut_refusal name_check
      name_next = store_passed rows ws count (passed_none (store_check rows ws count) checked good) _ ∙ rw is

      -- a name that may not be asked for is refused by 7
      pub name_refused : {u : Verdict} {a : Listing} → not b ≡ true → u ≡ verdict_of (refuse name_asked 0) → a ≡ refused_by u →
          filled a out ≡ listing_of (spec.cut rows ws count want out)
      unfolding check first
      name_refused e = refused_by_lem _ (name_next ∙ rw (not-true b e))

      module _ (e : not b ≡ false) {n : ℕ} (counted : n ≡ length (spec.stream want (elements count ws))) where
        -- behind the check of the name comes that of the output's room
        room_next : spec.cut_refusal rows ws count want out ≡ check (leb (label_size * n) (length out)) short_output 0
        unfolding check first outputs.room_check
        room_next = name_next ∙ rw (not-false b e, stream_words want count ws (store_laid rows ws count checked good), ← counted) (first_last _)

        -- an output that is too short for the stream is refused by 17
        pub room_refused : {u : Verdict} {a : Listing} → length out / label_size < n → u ≡ verdict_of (refuse short_output 0) → a ≡ refused_by u →
            filled a out ≡ listing_of (spec.cut rows ws count want out)
        unfolding check
        room_refused h = refused_by_lem _ (room_next ∙ rw (lt-leb (label_size * n) (length out) (omega arith)))

        -- where nothing is refused, the stream is written and its length answered
        pub cut_done : {left : List ℕ} → n ≤ length out / label_size → left ≡ over words out →
            filled (record { verdict = verdict.Passed; count = n }) left ≡ listing_of (spec.cut rows ws count want out)
        unfolding check spec.cut outputs.listed
        cut_done h f = rw (room_next, le-leb (label_size * n) (length out) (omega arith), f, counted)
