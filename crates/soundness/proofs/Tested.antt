-- The test of one record: what holds before word w of its label, and
-- what each way out of the inner loop tells of the definition.
use Prim.Native.Nat.{ℕ, ◌+◌, ◌*◌, ◌<◌, ◌≤◌}
use mathlib.Core.Path.{◌≡◌}
use mathlib.Core.Bool.{Bool, true, false, not}
use mathlib.Core.List.{List, []}
use native.Mathlib.Omega.{arith}
use lib.ListN.{length, get_or, set}
use Rattle.std.specs.Prelude.{Result, Ok, Err, ⊤}
use Rattle.basics.specs.Limits.{max_component, max_depth, label_size, record_size}
use Rattle.naming.specs.Names.{Clues}
use Rattle.storage.specs.Store as spec
use Rattle.label_words.specs.Words.{words_fit}
use Rattle.label_padding.specs.Padding.{rest_fits}
use Rattle.record_rules.specs.Rules.{Laid, Ready, depth_fits, shared_before, broken_at}
use Rattle.record_rules.specs.Answers.{check_of}
use Rattle.record_rules.specs.declared.Rule.{Rule}
use Rattle.record_rules.specs.declared.Rule.TheVariants as rule
use Rattle.soundness.specs.Answers.{broken, soundness_of}
use Rattle.soundness.proofs.Fits.{Fitting, found_fits, found_depth, fit_on, fit_over, fit_rest, fit_laid}
use Rattle.soundness.proofs.Scan.{Scanned, scan_word, scan_shared, scan_ready, scan_rule, scan_on}

-- before word w of record r: the records before it are scanned, and its own words so far fit its depth
pub record Tested (cl : Clues) (count : ℕ) (ws parents : List ℕ) (r w : ℕ) : Type 0 where
  pub scanned : Scanned cl count ws parents r
  pub inside : r < count
  pub room : count * record_size ≤ length ws
  pub fits : depth_fits r (get_or ws (r * record_size) 0) ≡ true
  pub deep : get_or ws (r * record_size) 0 ≤ max_depth
  pub words : Fitting ws r w

module _ (cl : Clues) (count : ℕ) (ws parents : List ℕ) (r : ℕ) where
  -- where the depth fits, the test begins behind the components that the record shares with the previous one
  pub tested_shared : {b : Bool} {s : ℕ} → Scanned cl count ws parents r → r < count → count * record_size ≤ length ws →
      b ≡ depth_fits r (get_or ws (r * record_size) 0) → not b ≡ false → s ≡ shared_before ws r → Tested cl count ws parents r (s + 1)
  tested_shared scanned inside room is e shared =
      let deep = found_depth r _ is e in
      record {
        scanned = scanned;
        inside = inside;
        room = room;
        fits = found_fits r _ is e;
        deep = deep;
        words = scan_shared cl count ws parents r scanned inside room deep shared;
      }

  module _ {w : ℕ} (t : Tested cl count ws parents r w) where
    -- a used component of at most 65,534 fits
    pub tested_on : w ≤ get_or ws (r * record_size) 0 → get_or ws (r * record_size + w) 0 ≤ max_component → Tested cl count ws parents r (w + 1)
    tested_on used small = record {
      scanned = t.scanned;
      inside = t.inside;
      room = t.room;
      fits = t.fits;
      deep = t.deep;
      words = fit_on ws r w t.words used small;
    }

    -- a used component over 65,534 breaks the rule of the layout
    pub tested_over : w ≤ get_or ws (r * record_size) 0 → max_component < get_or ws (r * record_size + w) 0 →
        broken rule.Layout r ≡ soundness_of (spec.fault cl [] (spec.records count ws))
    tested_over used over = scan_word cl count ws parents r t.scanned t.inside (fit_over ws r count w t.inside t.room used t.deep over)

    module _ {b : Bool} (is : b ≡ words_fit (rest_fits (get_or ws (r * record_size) 0)) ws (r * record_size) label_size) where
      -- an unused component that is not 0 breaks the rule of the layout
      pub tested_rest : not b ≡ true → broken rule.Layout r ≡ soundness_of (spec.fault cl [] (spec.records count ws))
      tested_rest e = scan_word cl count ws parents r t.scanned t.inside (fit_rest ws r (omega (arith, t.inside, t.room)) is e)

      module _ (all_used : get_or ws (r * record_size) 0 < w) (unused : not b ≡ false) where
        -- a record whose words all fit is laid out as it must be
        laid : Laid ws r
        laid = fit_laid ws r (omega (arith, t.inside, t.room)) is unused t.words all_used t.fits

        -- the later rules can be tested on a record whose words all fit
        pub tested_ready : {p : ℕ} → p ≡ get_or parents (get_or ws (r * record_size) 0) 0 → Ready ws r p
        tested_ready at = rw at (scan_ready cl count ws parents r t.scanned t.inside t.room laid)

        module _ {k : Result ⊤ Rule} (answer : k ≡ check_of (broken_at cl ws r (get_or parents (get_or ws (r * record_size) 0) 0))) where
          -- a later rule that the record breaks is the store's fault
          pub tested_rule : {x : Rule} → k ≡ Err x → broken x r ≡ soundness_of (spec.fault cl [] (spec.records count ws))
          tested_rule e = scan_rule cl count ws parents r t.scanned t.inside t.room laid answer e

          -- a record that keeps all rules is scanned
          pub tested_kept : k ≡ Ok tt → Scanned cl count ws (set parents (get_or ws (r * record_size) 0 + 1) r) (r + 1)
          tested_kept e = scan_on cl count ws parents r t.scanned t.inside t.room laid answer e
