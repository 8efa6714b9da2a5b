-- What is told of kinship, of follows and of decoding.
use Prim.Native.Nat.{ℕ}
use mathlib.Core.Path.{◌≡◌, sym, ap, ◌∙◌}
use mathlib.Core.Bool.{Bool, cond}
use mathlib.Core.List.{List}
use Rattle.std.specs.Prelude.{Result, Ok, Err}
use Rattle.naming.specs.Names.{Table}
use Rattle.basics.specs.Refusals as spec
use Rattle.labelling.specs.Labels.{decode_call}
use Rattle.refusals.specs.Answers.{refusal_of}
use Rattle.refusals.specs.declared.Refusal.{Refusal}
use Rattle.refusals.specs.declared.Verdict.TheVariants as verdict
use Rattle.kinship.specs.Answers.{relation_number, kinship_reply, follows_of}
use Rattle.kinship.specs.declared.Relation.{Relation}
use Rattle.decoding.specs.Answers.{decoding_of}
use Rattle.decoding.specs.declared.Decoding.{Decoding}
use Rattle.table_bytes.specs.Rows.{table_in}
use Rattle.host_answers.specs.Reports.{fitted, Report, report_by, report_of}
use Rattle.host_answers.proofs.Verdicts.{told_check}
use Rattle.host_labels.specs.Calls.{kinship_report, follows_report}

-- where kinship answers a relation, its number is told
pub kinship_taken : (a : spec.Reply ℕ) (answer : List ℕ) {k : Result Relation Refusal} {relation : Relation} {n : ℕ} {x : Report} →
    kinship_reply k ≡ a → k ≡ Ok relation → n ≡ relation_number relation → x ≡ report_by verdict.Passed n answer → x ≡ kinship_report a answer
kinship_taken a answer is e f told =
    told ∙ ap (λ j. report_by verdict.Passed j answer) f ∙ ap (λ a. kinship_report a answer) (ap kinship_reply (sym e) ∙ is)

-- where kinship is refused, the refusal is told
pub kinship_refused : (a : spec.Reply ℕ) (answer : List ℕ) {k : Result Relation Refusal} {r : Refusal} {x : Report} →
    kinship_reply k ≡ a → k ≡ Err r → x ≡ report_by (verdict.Refused r) 0 answer → x ≡ kinship_report a answer
kinship_refused a answer is e told = told ∙ ap (λ a. kinship_report a answer) (ap kinship_reply (sym e) ∙ is)

-- where follows answers, 1 or 0 is told
pub follows_taken : (a : spec.Reply Bool) (answer : List ℕ) {k : Result Bool Refusal} {b : Bool} {n : ℕ} {x : Report} →
    k ≡ follows_of a → k ≡ Ok b → n ≡ cond b 1 0 → x ≡ report_by verdict.Passed n answer → x ≡ follows_report a answer
follows_taken (spec.value c) answer {k} {b} is e f told =
    let z : b ≡ c = cc in told ∙ ap (λ j. report_by verdict.Passed j answer) (f ∙ ap (λ d. cond d 1 0) z)
follows_taken (spec.refused r) answer is e f told = cc

-- where follows is refused, the refusal is told
pub follows_refused : (a : spec.Reply Bool) (answer : List ℕ) {k : Result Bool Refusal} {r : Refusal} {x : Report} →
    k ≡ follows_of a → k ≡ Err r → x ≡ report_by (verdict.Refused r) 0 answer → x ≡ follows_report a answer
follows_refused (spec.value c) answer is e told = cc
follows_refused (spec.refused q) answer {k} {r} is e told = let z : r ≡ refusal_of q = cc in told ∙ ap (λ w. report_by (verdict.Refused w) 0 answer) z

module _ (bytes : List ℕ) (root : ℕ) (label : List ℕ) {t : Table} (read : t ≡ table_in bytes) {r : Decoding} (is : r ≡ decoding_of (decode_call t root label)) where
  -- decoding by a table's bytes is decoding by the table that they hold
  decoded : r ≡ decoding_of (decode_call (table_in bytes) root label)
  decoded = is ∙ ap (λ rows. decoding_of (decode_call rows root label)) read

  -- what decoding refuses is told
  pub decode_told : (answer : List ℕ) {x : Report} → x ≡ report_by r.verdict 0 answer → x ≡ report_of (decode_call (table_in bytes) root label).refusal 0 answer
  decode_told answer e = told_check (decode_call (table_in bytes) root label).refusal 0 answer (ap (λ (d : Decoding). d.verdict) decoded) e

  -- the names that decoding answers are told
  pub decode_named : (names : List ℕ) {left : List ℕ} → left ≡ fitted r.names names → left ≡ fitted (decode_call (table_in bytes) root label).names names
  decode_named names e = e ∙ ap (λ (d : Decoding). fitted d.names names) decoded
