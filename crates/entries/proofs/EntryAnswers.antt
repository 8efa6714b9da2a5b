-- What an entry answers and leaves, for each way out of its code.
use Prim.Native.Nat.{ℕ, ◌+◌, ◌<◌}
use mathlib.Core.Path.{◌≡◌, refl, sym, ap, ap₂, ◌∙◌}
use mathlib.Core.List.{List, [], ◌∷◌, ◌++◌}
use mathlib.Core.Option.{Option, none, some}
use lib.ListN.{length, replicate}
use Rattle.std.specs.Prelude.{Some, None}
use Rattle.std.specs.Prelude as std
use Rattle.basics.specs.Basics.{elim?, over}
use Rattle.basics.specs.Limits.{max_depth, label_size}
use Rattle.basics.specs.Refusals.{Refusal, refuse, first, no_record}
use Rattle.naming.specs.Names.{Table, clues_of}
use Rattle.labelling.specs.Labels.{Label, label_of, label_words}
use Rattle.storage.specs.Store.{Element, store_words, read_element, elements, find, element_at, sound_check}
use Rattle.store_calls.specs.Updates as spec
use Rattle.basics.proofs.Refusals.{first_here, first_next}
use Rattle.store_calls.proofs.Parents.{parent_nine}
use Rattle.store_calls.proofs.Placed.{space_iff}
use Rattle.refusals.specs.Answers.{verdict_of}
use Rattle.refusals.specs.declared.Refusal.{Refusal as Shown}
use Rattle.refusals.specs.declared.Verdict.{Verdict}
use Rattle.refusals.specs.declared.Verdict.TheVariants as verdict
use Rattle.refusals.proofs.Verdicts.{refused_some}
use Rattle.records.specs.Records.{record_at}
use Rattle.bridges.specs.Options.{optional}
use Rattle.bridges.proofs.Options.{given_none}
use Rattle.lookup.specs.Places.{place_at}
use Rattle.changes.specs.Answers.{call_check}
use Rattle.additions.specs.declared.Entry.{Entry}
use Rattle.additions.specs.Answers.{Entered, entry_and_words, refused_entry, child_answer, child_added}
use Rattle.entries.specs.Answers.{entry_of, entered_below}
use Rattle.changes.proofs.InUse.{find_absent, find_found, parent_read, parent_label_lem, label_high}
use Rattle.entries.proofs.Entries.{enter_words}
use Rattle.changes.proofs.Checks.{found_label, call_refused, call_passed, call_sound, checks_passed}
use Rattle.entries.proofs.Gifts.{passed_high}

-- an entry that is refused answers the refusal, and leaves the words
entry_refused : (rows : Table) (ws : List ℕ) (count : ℕ) (lw : List ℕ) (name p0 p1 : ℕ) {r : Refusal} {v : Verdict} {e : Entry} →
    spec.entry_refusal rows ws count lw name ≡ some r → v ≡ verdict_of (some r) → e ≡ refused_entry v count →
    entry_and_words e ws ≡ entry_of (spec.enter rows ws count lw name p0 p1)
unfolding spec.enter elim?
entry_refused rows ws count lw name p0 p1 f g h = rw (h, g, f)

-- an entry into a sound store below the record a, which has the label that words hold
module _ (rows : Table) (ws : List ℕ) (count : ℕ) (lw : List ℕ) (name p0 p1 a : ℕ) (sound : sound_check (clues_of rows) count ws ≡ none)
    (at : place_at (label_of lw) (elements count ws) ≡ some a) where
  -- the parent is what record a reads as
  abbrev parent : Element
  parent = element_at (label_of lw) (elements count ws)

  -- the number that the parent gives
  abbrev num : ℕ
  num = spec.given (clues_of rows) parent name

  -- what is answered where nothing is refused
  abbrev accepted : spec.Answer
  accepted = record {
    refusal = none;
    count = count + 1;
    label = label_words (parent.label ++ (num ∷ []));
    slice = over (store_words (spec.entered (clues_of rows) (elements count ws) parent name p0 p1)) ws;
  }

  -- where the parent gives a number, the space decides: the child is added, or 13
  by_space : length (label_of lw) < max_depth → (o : Option Refusal) → spec.space_check (length ws) count ≡ o →
      elim? o (child_answer ws count a (label_of lw) num name p0 p1) (λ r. entry_and_words (refused_entry (verdict_of (some r)) count) ws) ≡
      entry_of (elim? o accepted (λ r. record { refusal = some r; count = count; label = replicate label_size 0; slice = ws }))
  unfolding elim?
  by_space high (some r) e = refl
  by_space high none e =
      ap₂ (λ (m : Label) (s : List ℕ). entry_and_words (record { verdict = verdict_of none; count = count + 1; label = label_words (m ++ (num ∷ [])) }) s)
      (sym (parent_label_lem count ws (label_of lw) a at))
      (sym (enter_words (clues_of rows) count ws (label_of lw) a sound ((space_iff (length ws) count).0 e).0 at high name p0 p1))

  -- what the parent gives decides first: a refusal, or the number
  by_parent : (o : Option Refusal) → spec.parent_check (clues_of rows) (some (read_element (record_at a ws))) name ≡ o →
      spec.entry_refusal rows ws count lw name ≡ first (o ∷ spec.space_check (length ws) count ∷ []) →
      elim? o (child_added ws count a (label_of lw) (spec.given (clues_of rows) (read_element (record_at a ws)) name) name p0 p1)
      (λ r. entry_and_words (refused_entry (verdict_of (some r)) count) ws) ≡
      entry_of (spec.enter rows ws count lw name p0 p1)
  unfolding elim? child_added spec.enter
  by_parent (some r) e f = entry_refused rows ws count lw name p0 p1 (f ∙ first_here r _ _ refl) refl refl
  by_parent none e f =
      let high = label_high count ws (label_of lw) a at (passed_high (clues_of rows) (read_element (record_at a ws)) name e) in
      rw (f ∙ first_next none _ refl, ← parent_read count ws (label_of lw) a at) (by_space high (spec.space_check (length ws) count) refl)

module _ (rows : Table) (ws : List ℕ) (count : ℕ) (lw : List ℕ) (name p0 p1 : ℕ) {v : Verdict} (checked : v ≡ verdict_of (call_check rows ws count lw)) where
  -- where table, store or label is ruled out, the entry has that refusal
  pub enter_unchecked : {s : Shown} {e : Entry} → v ≡ verdict.Refused s → e ≡ refused_entry v count → entry_and_words e ws ≡ entry_of (spec.enter rows ws count lw name p0 p1)
  unfolding spec.entry_refusal
  enter_unchecked f h =
      let (r, g) = refused_some (call_check rows ws count lw) checked f in
      entry_refused rows ws count lw name p0 p1 (call_refused rows ws count lw _ r g) (checked ∙ ap verdict_of g) h

  module _ (good : v ≡ verdict.Passed) {l : Label} (parts : l ≡ label_of lw) {f : std.Option ℕ} (looked : f ≡ optional (place_at l (elements count ws))) where
    -- where table, store and label pass, the parent that is found and the space decide
    to_parent : (o : Option Element) → find (label_of lw) (elements count ws) ≡ o →
        spec.entry_refusal rows ws count lw name ≡ first (spec.parent_check (clues_of rows) o name ∷ spec.space_check (length ws) count ∷ [])
    unfolding spec.entry_refusal
    to_parent o e =
        call_passed rows ws count lw (checks_passed rows ws count lw checked good) _ ∙
        ap (λ o. first (spec.parent_check (clues_of rows) o name ∷ spec.space_check (length ws) count ∷ [])) e

    -- where no record has the label, 9 is answered
    pub enter_absent : {w : Verdict} {e : Entry} → f ≡ None → w ≡ verdict_of (refuse no_record 0) → e ≡ refused_entry w count →
        entry_and_words e ws ≡ entry_of (spec.enter rows ws count lw name p0 p1)
    enter_absent g h =
        let nowhere = find_absent count ws (label_of lw) (given_none _ (looked ∙ ap (λ l. optional (place_at l (elements count ws))) parts) g) in
        entry_refused rows ws count lw name p0 p1 (to_parent none nowhere ∙ first_here _ _ _ (parent_nine (clues_of rows) name)) h

    -- where a record has the label, the entry is what the parent answers
    pub enter_done : {a : ℕ} {y : Entered} → f ≡ Some a → y ≡ entered_below (clues_of rows) ws count a (label_of lw) name p0 p1 →
        y ≡ entry_of (spec.enter rows ws count lw name p0 p1)
    unfolding entered_below
    enter_done {a} g h =
        let sound = call_sound rows ws count lw (checks_passed rows ws count lw checked good) in
        let at = found_label lw (elements count ws) g parts looked in
        h ∙ by_parent rows ws count lw name p0 p1 a sound at _ refl (to_parent _ (find_found count ws (label_of lw) a at))
