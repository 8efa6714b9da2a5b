-- What is told of a new store, an entry and a deletion, and what they leave.
use Prim.Native.Nat.{ℕ}
use mathlib.Core.Path.{◌≡◌, ap, ◌∙◌}
use mathlib.Core.List.{List}
use Rattle.naming.specs.Names.{Table}
use Rattle.store_calls.specs.Updates as updates
use Rattle.changes.specs.Answers.{Changed, changed, change_of}
use Rattle.additions.specs.Answers.{Entered, entry_and_words}
use Rattle.entries.specs.Answers.{entry_of}
use Rattle.changes.specs.declared.Change.{Change}
use Rattle.additions.specs.declared.Entry.{Entry}
use Rattle.table_bytes.specs.Rows.{table_in}
use Rattle.host_answers.specs.Reports.{fitted, Report, report_by}
use Rattle.host_answers.proofs.Verdicts.{told_check}
use Rattle.host_stores.specs.Calls.{change_report}

-- a new store or a deletion, of which a is the definition's answer
module _ (a : updates.Answer) {r : Change} {left : List ℕ} (is : changed r left ≡ change_of a) where
  -- the refusal and the count are told
  pub change_told : (answer : List ℕ) {x : Report} → x ≡ report_by r.verdict r.count answer → x ≡ change_report a answer
  change_told answer e =
      told_check a.refusal a.count answer (ap (λ (c : Changed). c.answer.verdict) is) (e ∙ ap (λ (c : Changed). report_by r.verdict c.answer.count answer) is)

  -- the words left are those of the definition
  pub change_written : left ≡ a.slice
  change_written = ap (λ (c : Changed). c.words) is

module _ (bytes : List ℕ) {t : Table} (read : t ≡ table_in bytes) (ws : List ℕ) (count : ℕ) (label : List ℕ) where
  module _ {r : Change} {left : List ℕ} (is : changed r left ≡ change_of (updates.delete t ws count label)) where
    -- a deletion by a table's bytes is one by the table that they hold
    deleted : changed r left ≡ change_of (updates.delete (table_in bytes) ws count label)
    deleted = is ∙ ap (λ rows. change_of (updates.delete rows ws count label)) read

    -- the refusal and the count of a deletion are told
    pub delete_told : (answer : List ℕ) {x : Report} → x ≡ report_by r.verdict r.count answer → x ≡ change_report (updates.delete (table_in bytes) ws count label) answer
    delete_told answer e = change_told (updates.delete (table_in bytes) ws count label) deleted answer e

    -- the words that a deletion leaves are those of the definition
    pub delete_written : left ≡ (updates.delete (table_in bytes) ws count label).slice
    delete_written = change_written (updates.delete (table_in bytes) ws count label) deleted

  module _ (name p0 p1 : ℕ) {r : Entry} {left : List ℕ} (is : entry_and_words r left ≡ entry_of (updates.enter t ws count label name p0 p1)) where
    -- an entry by a table's bytes is one by the table that they hold
    enter_is : entry_and_words r left ≡ entry_of (updates.enter (table_in bytes) ws count label name p0 p1)
    enter_is = is ∙ ap (λ rows. entry_of (updates.enter rows ws count label name p0 p1)) read

    -- the refusal and the count of an entry are told
    pub enter_told : (answer : List ℕ) {x : Report} → x ≡ report_by r.verdict r.count answer → x ≡ change_report (updates.enter (table_in bytes) ws count label name p0 p1) answer
    enter_told answer e =
        told_check (updates.enter (table_in bytes) ws count label name p0 p1).refusal (updates.enter (table_in bytes) ws count label name p0 p1).count answer
        (ap (λ (c : Entered). c.answer.verdict) enter_is) (e ∙ ap (λ (c : Entered). report_by r.verdict c.answer.count answer) enter_is)

    -- the words that an entry leaves are those of the definition
    pub enter_written : left ≡ (updates.enter (table_in bytes) ws count label name p0 p1).slice
    enter_written = ap (λ (c : Entered). c.words) enter_is

    -- the label of a new element is told
    pub enter_labelled : (out : List ℕ) {put : List ℕ} → put ≡ fitted r.label out → put ≡ fitted (updates.enter (table_in bytes) ws count label name p0 p1).label out
    enter_labelled out e = e ∙ ap (λ (c : Entered). fitted c.answer.label out) enter_is
