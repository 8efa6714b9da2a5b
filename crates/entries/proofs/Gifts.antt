-- What a parent gives a child, for each way out of the code: 10, 11, 12 or the number; and what a number given tells.
use Prim.Native.Nat.{ℕ, ◌+◌, ◌*◌, ◌<◌, ◌≤◌}
use mathlib.Core.Path.{◌≡◌, refl, sym, ap, subst, ◌∙◌}
use mathlib.Core.Logic.{by_cases}
use mathlib.Core.Bool.{Bool, true, false, cond}
use mathlib.Core.List.{List}
use mathlib.Core.Option.{Option, none, some, some-injective}
use native.Mathlib.Omega.{arith}
use native.Mathlib.Decide.{dec_lt}
use lib.ListN.{length, get_or}
use lib.Dec.{T, leb, leb→le, le→leb}
use borrow.Author.Tests.{lt-ltb}
use Rattle.std.specs.Prelude.{Some, None, Result, Ok, Err}
use Rattle.std.specs.Prelude as std
use Rattle.basics.specs.Basics.{◌∈◌, elim?}
use Rattle.basics.specs.Limits.{max_component, max_depth, record_size, name_word, next_word}
use Rattle.basics.specs.Refusals.{Refusal, not_in_clue, too_deep, no_number}
use Rattle.naming.specs.Names.{Table, Clues, clues_of, place_in}
use Rattle.labelling.specs.Labels.{Label}
use Rattle.storage.specs.Store.{Element, read_element}
use Rattle.store_calls.specs.Updates as spec
use Rattle.basics.proofs.Lists.{member_at}
use Rattle.naming.proofs.NameTables.{placed_at, place_in_none}
use Rattle.store_calls.proofs.Parents.{parent_ten, parent_eleven, parent_twelve, parent_passed, ParentFacts, parent_check_iff}
use Rattle.refusals.specs.Answers.{refusal_of, verdict_of}
use Rattle.refusals.specs.declared.Refusal.{Refusal as Shown}
use Rattle.refusals.specs.declared.Verdict.TheVariants as verdict
use Rattle.bridges.specs.Options.{optional}
use Rattle.bridges.proofs.Options.{given_some, given_none}
use Rattle.numbers.specs.Answers.{number_answer, number_for}
use Rattle.records.specs.Records.{record_at}
use Rattle.records.proofs.Parts.{record_word, record_label, record_long}
use Rattle.additions.specs.declared.Entry.{Entry}
use Rattle.additions.specs.Answers.{Entered, entry_and_words, refused_entry, child_added}
use Rattle.entries.specs.Answers.{gift_by, gift_of, entered_below}

-- a number that was given is the one asked for, and a component
number_given : (y : ℕ) {x : ℕ} {r : std.Option ℕ} → r ≡ number_answer y → r ≡ Some x → (x ≡ y) × (y ≤ max_component)
unfolding number_answer
number_given y {x} {r} p q = go (leb y max_component) (leb→le y max_component) p
  where
    go : (c : Bool) → (T c → y ≤ max_component) → r ≡ cond c (Some y) None → (x ≡ y) × (y ≤ max_component)
    go true h p = (cc, h tt)
    go false h p = absurd (let z : ◌≡◌ {A = ℕ} 0 1 = cc in omega arith)

-- where no number was given, the one asked for is over 65,534
number_left : (y : ℕ) {r : std.Option ℕ} → r ≡ number_answer y → r ≡ None → max_component < y
unfolding number_answer
number_left y {r} p q = go (leb y max_component) (le→leb y max_component) p
  where
    go : (c : Bool) → (y ≤ max_component → T c) → r ≡ cond c (Some y) None → max_component < y
    go true h p = absurd (let z : ◌≡◌ {A = ℕ} 0 1 = cc in omega arith)
    go false h p = by_cases (dec_lt max_component y) (λ k. k) (λ k. absurd (h (omega arith)))

module _ (rows : Table) (ws : List ℕ) (a name : ℕ) where
  -- the parent is what record a reads as
  abbrev parent : Element
  parent = read_element (record_at a ws)

  -- the parent's name is word 16 of its record
  parent_name : parent.name ≡ get_or ws (a * record_size + name_word) 0
  unfolding read_element
  parent_name = record_word ws a name_word (omega arith)

  -- the parent's next number is word 17 of its record
  parent_next : parent.next ≡ get_or ws (a * record_size + next_word) 0
  unfolding read_element
  parent_next = record_word ws a next_word (omega arith)

  module _ (room : a * record_size + record_size ≤ length ws) (low : get_or ws (a * record_size) 0 ≤ max_depth) where
    -- the parent's depth is word 0 of its record
    parent_depth : length parent.label ≡ get_or ws (a * record_size) 0
    unfolding read_element
    parent_depth = ap length (sym (record_label ws a low)) ∙ record_long ws a low room

    module _ {r : std.Option ℕ} (is : r ≡ optional (place_in name (clues_of rows (get_or ws (a * record_size + name_word) 0)))) where
      -- the place that was answered is that of the name in the clue of the parent's name
      place_is : r ≡ optional (place_in name (clues_of rows parent.name))
      place_is = is ∙ ap (λ n. optional (place_in name (clues_of rows n))) (sym parent_name)

      -- a name that is not in the clue is refused by 10
      pub gift_absent : r ≡ None → Err (record { number = not_in_clue; place = 0 }) ≡ gift_of (clues_of rows) parent name
      gift_absent f =
          ap (λ o. gift_by o (spec.given (clues_of rows) parent name))
          (sym (parent_ten (clues_of rows) parent name ((place_in_none name (clues_of rows parent.name)).0 (given_none _ place_is f))))

      module _ {k : ℕ} (at : r ≡ Some k) where
        -- the name has the place k in the clue
        placed : place_in name (clues_of rows parent.name) ≡ some k
        placed = given_some _ place_is at

        -- the name is in the clue
        in_clue_lem : name ∈ clues_of rows parent.name
        in_clue_lem = let (h, e) = placed_at name (clues_of rows parent.name) k placed in (member_at 0 (clues_of rows parent.name) name).1 (k, h, e)

        -- a parent at depth 15 is refused by 11
        pub gift_deep : max_depth ≤ get_or ws (a * record_size) 0 → Err (record { number = too_deep; place = 0 }) ≡ gift_of (clues_of rows) parent name
        gift_deep h =
            ap (λ o. gift_by o (spec.given (clues_of rows) parent name)) (sym (parent_eleven (clues_of rows) parent name in_clue_lem (omega (arith, parent_depth))))

        module _ (high : get_or ws (a * record_size) 0 < max_depth) {n : ℕ} {m : std.Option ℕ} (counted : n ≡ length (clues_of rows (get_or ws (a * record_size + name_word) 0)))
            (asked : m ≡ number_for n k (get_or ws (a * record_size + next_word) 0)) where
          -- the number asked for is the one that the parent gives
          number_asked : m ≡ number_answer (spec.given (clues_of rows) parent name)
          unfolding spec.given elim? number_for
          number_asked =
              let long : n ≡ length (clues_of rows parent.name) = counted ∙ ap (λ p. length (clues_of rows p)) (sym parent_name) in
              let inside : k < n = omega (arith, (placed_at name (clues_of rows parent.name) k placed).0) in
              rw placed (asked ∙ rw (lt-ltb k n inside, long, parent_next))

          -- where no number is left, 12 is answered
          pub gift_none : m ≡ None → Err (record { number = no_number; place = 0 }) ≡ gift_of (clues_of rows) parent name
          gift_none f =
              ap (λ o. gift_by o (spec.given (clues_of rows) parent name))
              (sym (parent_twelve (clues_of rows) parent name in_clue_lem (omega (arith, parent_depth)) (number_left _ number_asked f)))

          -- where a number is given, the parent gives it
          pub gift_given : {x : ℕ} → m ≡ Some x → Ok x ≡ gift_of (clues_of rows) parent name
          gift_given f =
              let (e, h) = number_given _ number_asked f in
              ap Ok e ∙
              ap (λ o. gift_by o (spec.given (clues_of rows) parent name)) (sym (parent_passed (clues_of rows) parent name in_clue_lem (omega (arith, parent_depth)) h))

-- where a parent gives a number, nothing is refused and the number is the one defined
gift_number : (o : Option Refusal) (y : ℕ) {m : Result ℕ Shown} {x : ℕ} → m ≡ gift_by o y → m ≡ Ok x → (o ≡ none) × (x ≡ y)
gift_number none y e f = (refl, cc)
gift_number (some r) y e f = absurd (let z : ◌≡◌ {A = ℕ} 0 1 = cc in omega arith)

-- where a parent refuses, its refusal is the one defined
gift_refused : (o : Option Refusal) (num : ℕ) {m : Result ℕ Shown} {s : Shown} → m ≡ gift_by o num → m ≡ Err s → (ws : List ℕ) (count : ℕ) (y : Entered) →
    entry_and_words (refused_entry (verdict.Refused s) count) ws ≡ elim? o y (λ r. entry_and_words (refused_entry (verdict_of (some r)) count) ws)
unfolding elim?
gift_refused none num e f ws count y = absurd (let z : ◌≡◌ {A = ℕ} 0 1 = cc in omega arith)
gift_refused (some r) num {m} {s} e f ws count y = let same : s ≡ refusal_of r = cc in ap (λ s. entry_and_words (refused_entry (verdict.Refused s) count) ws) same

module _ (cl : Clues) (p : Element) (name : ℕ) where
  module _ (passed : spec.parent_check cl (some p) name ≡ none) where
    -- a check of the parent that passed tells the facts of the parent
    facts : ParentFacts cl (some p) name
    facts = (parent_check_iff cl (some p) name).0 passed

    -- the facts that a check of the parent tells are those of the parent checked
    same_parent : facts.parent ≡ p
    same_parent = sym (some-injective p facts.parent facts.stands)

    -- where the check of the parent passed, the number is a component
    passed_low : spec.given cl p name ≤ max_component
    passed_low = subst (λ q. spec.given cl q name ≤ max_component) same_parent facts.low

    -- where the check of the parent passed, the parent is above the deepest level
    pub passed_high : length p.label < max_depth
    passed_high = subst (λ (q : Element). length q.label < max_depth) same_parent facts.high

  module _ {m : Result ℕ Shown} {x : ℕ} (gave : m ≡ gift_of cl p name) (h : m ≡ Ok x) where
    -- a parent that gives a number passes the check
    gift_passed : spec.parent_check cl (some p) name ≡ none
    gift_passed = (gift_number (spec.parent_check cl (some p) name) (spec.given cl p name) gave h).0

    -- the number that was given is the one that the definition gives
    gift_is : x ≡ spec.given cl p name
    gift_is = (gift_number (spec.parent_check cl (some p) name) (spec.given cl p name) gave h).1

    -- the number that was given is a component
    pub gift_low : x ≤ max_component
    gift_low = rw gift_is (passed_low gift_passed)

    -- a parent that gives a number is above the deepest level
    pub gift_high : length p.label < max_depth
    gift_high = passed_high gift_passed

module _ (cl : Clues) (ws : List ℕ) (count a : ℕ) (l : Label) (name p0 p1 : ℕ) {m : Result ℕ Shown} (gave : m ≡ gift_of cl (read_element (record_at a ws)) name) where
  -- where the parent refuses, the entry has that refusal
  pub below_refused : {s : Shown} {e : Entry} → m ≡ Err s → e ≡ refused_entry (verdict.Refused s) count →
      entry_and_words e ws ≡ entered_below cl ws count a l name p0 p1
  unfolding entered_below
  below_refused h i =
      let p : Element = read_element (record_at a ws) in
      ap (λ e. entry_and_words e ws) i ∙ gift_refused (spec.parent_check cl (some p) name) (spec.given cl p name) gave h ws count _

  -- where the parent gives a number, the child is added with it
  pub below_added : {x : ℕ} {y : Entered} → m ≡ Ok x → y ≡ child_added ws count a l x name p0 p1 → y ≡ entered_below cl ws count a l name p0 p1
  unfolding entered_below elim?
  below_added h i =
      let p : Element = read_element (record_at a ws) in
      rw (i, gift_is cl p name gave h, gift_passed cl p name gave h)
