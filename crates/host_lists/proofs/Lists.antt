-- What is told of cutting and matching, and what they leave.
use Prim.Native.Nat.{ℕ}
use mathlib.Core.Path.{◌≡◌, ap, ◌∙◌}
use mathlib.Core.List.{List}
use Rattle.naming.specs.Names.{Table}
use Rattle.basics.specs.Outputs as outputs
use Rattle.match_calls.specs.Matching.{match_call}
use Rattle.cut_calls.specs.Cutting as cutting
use Rattle.refusals.specs.Answers.{Filled, filled, listing_of}
use Rattle.refusals.specs.declared.Listing.{Listing}
use Rattle.table_bytes.specs.Rows.{table_in}
use Rattle.host_answers.specs.Reports.{Report, report_by}
use Rattle.host_answers.proofs.Verdicts.{told_check}
use Rattle.host_lists.specs.Calls.{listing_report}

-- a call that fills an output, of which a is the definition's answer
module _ (a : outputs.Listing) {r : Listing} {left : List ℕ} (is : filled r left ≡ listing_of a) where
  -- the refusal and the count are told
  listing_told : (answer : List ℕ) {x : Report} → x ≡ report_by r.verdict r.count answer → x ≡ listing_report a answer
  listing_told answer e =
      told_check a.refusal a.count answer (ap (λ (f : Filled). f.answer.verdict) is) (e ∙ ap (λ (f : Filled). report_by r.verdict f.answer.count answer) is)

  -- the output left is that of the definition
  listing_written : left ≡ a.output
  listing_written = ap (λ (f : Filled). f.output) is

module _ (bytes : List ℕ) {t : Table} (read : t ≡ table_in bytes) {r : Listing} {left : List ℕ} where
  module _ (ws : List ℕ) (count name : ℕ) (out : List ℕ) (is : filled r left ≡ listing_of (cutting.cut t ws count name out)) where
    -- cutting by a table's bytes is cutting by the table that they hold
    cut_is : filled r left ≡ listing_of (cutting.cut (table_in bytes) ws count name out)
    cut_is = is ∙ ap (λ rows. listing_of (cutting.cut rows ws count name out)) read

    -- the refusal of cutting, and how many labels the stream has, are told
    pub cut_told : (answer : List ℕ) {x : Report} → x ≡ report_by r.verdict r.count answer → x ≡ listing_report (cutting.cut (table_in bytes) ws count name out) answer
    cut_told answer e = listing_told (cutting.cut (table_in bytes) ws count name out) cut_is answer e

    -- the output that cutting leaves is that of the definition
    pub cut_written : left ≡ (cutting.cut (table_in bytes) ws count name out).output
    cut_written = listing_written (cutting.cut (table_in bytes) ws count name out) cut_is

  module _ (root : ℕ) (twig counts buffer out : List ℕ) (is : filled r left ≡ listing_of (match_call t root twig counts buffer out)) where
    -- matching by a table's bytes is matching by the table that they hold
    match_is : filled r left ≡ listing_of (match_call (table_in bytes) root twig counts buffer out)
    match_is = is ∙ ap (λ rows. listing_of (match_call rows root twig counts buffer out)) read

    -- the refusal of matching, and how many matches there are, are told
    pub match_told : (answer : List ℕ) {x : Report} → x ≡ report_by r.verdict r.count answer → x ≡ listing_report (match_call (table_in bytes) root twig counts buffer out) answer
    match_told answer e = listing_told (match_call (table_in bytes) root twig counts buffer out) match_is answer e

    -- the output that matching leaves is that of the definition
    pub match_written : left ≡ (match_call (table_in bytes) root twig counts buffer out).output
    match_written = listing_written (match_call (table_in bytes) root twig counts buffer out) match_is
