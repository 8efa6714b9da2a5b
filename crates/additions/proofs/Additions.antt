-- What the addition of a child answers and leaves, for each way out of its code: 13, or the child put in.
use Prim.Native.Nat.{ℕ, ◌+◌, ◌*◌, ◌<◌, ◌≤◌}
use mathlib.Core.Path.{◌≡◌, ap, ◌∙◌}
use mathlib.Core.Bool.{true}
use mathlib.Core.List.{List, [], ◌∷◌, ◌++◌}
use mathlib.Core.Option.{some}
use lib.ListN.{length, get_or, set, length-set}
use Rattle.basics.specs.Basics.{elim?, leading}
use Rattle.basics.specs.Limits.{max_depth, record_size, next_word}
use Rattle.labelling.specs.Labels.{Label, label_of, label_words, is_label}
use Rattle.storage.specs.Store.{element_words, read_element, elements}
use Rattle.store_calls.specs.Updates.{space_check}
use Rattle.store_calls.proofs.Placed.{space_iff}
use Rattle.refusals.specs.Answers.{verdict_of}
use Rattle.refusals.specs.declared.Refusal.{Refusal as Shown}
use Rattle.refusals.specs.declared.Verdict.{Verdict}
use Rattle.refusals.specs.declared.Verdict.TheVariants as verdict
use Rattle.refusals.proofs.Verdicts.{passed_none, refused_some}
use Rattle.records.specs.Records.{record_at}
use Rattle.moving.specs.Moves.{inserted}
use Rattle.lookup.specs.Places.{place_at, passes}
use Rattle.additions.specs.declared.Entry.{Entry}
use Rattle.additions.specs.Answers.{entry_and_words, refused_entry, child_written, child_added}
use Rattle.changes.proofs.InUse.{label_high}
use Rattle.additions.proofs.Children.{label_depth}

module _ (ws : List ℕ) (i f : ℕ) where
  -- a list with one word set is as long as it was
  pub written_length : {n : ℕ} → n ≡ length (set ws i f) → n ≡ length ws
  written_length e = e ∙ length-set ws i f

  -- a list with one word set has the room that it had
  pub written_room : {n : ℕ} → n ≤ length ws → n ≤ length (set ws i f)
  written_room h = rw (length-set ws i f) h

-- a label whose record is above the deepest level is above the deepest level
pub depth_high : (count : ℕ) (ws lw : List ℕ) (a : ℕ) → is_label lw ≡ true → place_at (label_of lw) (elements count ws) ≡ some a →
    length (read_element (record_at a ws)).label < max_depth → get_or lw 0 0 < max_depth
depth_high count ws lw a good at h = rw (label_depth lw good) (label_high count ws (label_of lw) a at h)

-- the record is put in behind the subtree, and the parent's next number is raised
pub child_written_lem : (ws : List ℕ) (count a : ℕ) (l : Label) (x : ℕ) (rec : List ℕ) {end : ℕ} {ws' : List ℕ} → end ≡ leading (passes true l) (elements count ws) →
    ws' ≡ inserted (set ws (a * record_size + next_word) (x + 1)) end count rec → ws' ≡ child_written ws count a l x rec
child_written_lem ws count a l x rec e f = f ∙ ap (λ n. inserted (set ws (a * record_size + next_word) (x + 1)) n count rec) e

module _ (ws : List ℕ) (count : ℕ) {v : Verdict} (checked : v ≡ verdict_of (space_check (length ws) count)) where
  -- where no record is free, 13 is answered
  pub add_refused : (a : ℕ) (l : Label) (x name p0 p1 : ℕ) {s : Shown} {r : Entry} → v ≡ verdict.Refused s → r ≡ refused_entry v count →
      entry_and_words r ws ≡ child_added ws count a l x name p0 p1
  unfolding child_added elim?
  add_refused a l x name p0 p1 f g = let (r, e) = refused_some (space_check (length ws) count) checked f in rw (g, checked, e)

  module _ (free : v ≡ verdict.Passed) where
    -- where a record is free, the slice has room for one more
    pub add_room : record_size * (count + 1) ≤ length ws
    add_room = ((space_iff (length ws) count).0 (passed_none (space_check (length ws) count) checked free)).0

    -- where a record is free, the child is put in
    pub add_done : (a : ℕ) (lw : List ℕ) (x name p0 p1 : ℕ) {label lent rec l shown ws' : List ℕ} → label ≡ label_words (label_of lw ++ (x ∷ [])) →
        lent ≡ label → rec ≡ lent ++ (name ∷ 0 ∷ p0 ∷ p1 ∷ []) → l ≡ label_of lw → shown ≡ rec → ws' ≡ child_written ws count a l x shown →
        entry_and_words (record { verdict = verdict.Passed; count = count + 1; label = label }) ws' ≡ child_added ws count a (label_of lw) x name p0 p1
    unfolding child_added elim? element_words
    add_done a lw x name p0 p1 i j k m n o = rw (o, n, m, k, j, i, passed_none (space_check (length ws) count) checked free)
