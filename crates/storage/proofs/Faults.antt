-- The first record that breaks a rule, and the refusal that names it.
use mathlib.Core.Path.{◌≡◌, refl, sym, ap, ◌∙◌}
use mathlib.Core.Logic.Iff
use mathlib.Core.Logic.{◌↔◌, ◌⊎◌, inl, inr, ⊎_elim}
use mathlib.Core.List.{List, [], ◌∷◌, map, reverse_aux}
use mathlib.Core.Option.{Option, none, some, none-ne-some, some-ne-none, some-injective}
use Prim.Native.Nat.{ℕ, zero, suc, ◌+◌, ◌<◌}
use native.Mathlib.Nat.{le_of_suc-le-suc}
use native.Mathlib.Omega.{arith}
use lib.ListN.{length, get_or, take}
use Rattle.basics.specs.Basics.{elim?}
use Rattle.basics.specs.Refusals.{Refusal, refuse, bad_layout, bad_order, bad_name, bad_next}
use Rattle.naming.specs.Names.{Clues}
use Rattle.storage.specs.Store.{Element, Rule, read_element, records, broken, Fault, fault, number_of, sound_check, layout_rule, order_rule, parent_rule, name_rule, last_rule, next_rule}
use Rattle.storage.proofs.Sizes.{length_records}
use Rattle.storage.proofs.Rules.{Keeps, Breaks, broken_none, broken_some}

-- what a rule says of record i of some records that come after other elements, which stand the previous one first
abbrev pub KeepsAt : Clues → List Element → List (List ℕ) → ℕ → Rule → Type 0
KeepsAt cl done rs i = Keeps cl (reverse_aux (map read_element (take i rs)) done) (get_or rs i [])

-- record i is the first that breaks a rule, and r is the first rule that it breaks
pub record FirstFault (cl : Clues) (done : List Element) (rs : List (List ℕ)) (i : ℕ) (r : Rule) : Type 0 where
  pub inside : i < length rs
  pub earlier : (j : ℕ) → j < i → (q : Rule) → KeepsAt cl done rs j q
  pub breaks : Breaks (KeepsAt cl done rs i) r

-- where no record breaks a rule, the first does not, and the others after it do not
pub fault_cons : (cl : Clues) (done : List Element) (r : List ℕ) (rs : List (List ℕ)) → fault cl done (r ∷ rs) ≡ none →
    (broken cl done r ≡ none) × (fault cl (read_element r ∷ done) rs ≡ none)
unfolding fault elim?
fault_cons cl done r rs e = go (broken cl done r) refl e
  where
    go : (o : Option Rule) → broken cl done r ≡ o →
        elim? o (fault cl (read_element r ∷ done) rs) (λ b. some (record { place = length done; rule = b })) ≡ none →
        (broken cl done r ≡ none) × (fault cl (read_element r ∷ done) rs ≡ none)
    go none b e = (b, e)
    go (some x) b e = absurd (some-ne-none _ e)

-- what holds of the first record and of every later one holds of every record
at_every : (P : ℕ → Type 0) {n : ℕ} → P 0 → ((i : ℕ) → i < n → P (suc i)) → (i : ℕ) → i < suc n → P i
at_every P p q zero h = p
at_every P p q (suc i) h = q i (le_of_suc-le-suc h)

-- no fault is named exactly if every record keeps every rule
pub fault_none : (cl : Clues) (done : List Element) (rs : List (List ℕ)) →
    fault cl done rs ≡ none ↔ ((i : ℕ) → i < length rs → (q : Rule) → KeepsAt cl done rs i q)
unfolding fault elim?
fault_none cl done [] = (λ e i h. absurd (omega arith), λ h. refl)
fault_none cl done (r ∷ rs) = (
  λ e.
      let (b, f) = fault_cons cl done r rs e in
      at_every (λ i. (q : Rule) → KeepsAt cl done (r ∷ rs) i q) ((broken_none cl done r).0 b) ((fault_none cl (read_element r ∷ done) rs).0 f),
  λ h. rw ((broken_none cl done r).1 (h 0 (omega arith))) ((fault_none cl (read_element r ∷ done) rs).1 (λ i l. h (suc i) (omega arith))),
)

-- a fault names the first record that breaks a rule
fault_told : (cl : Clues) (done : List Element) (rs : List (List ℕ)) (f : Fault) → fault cl done rs ≡ some f →
    (i : ℕ) × (f.place ≡ length done + i) × FirstFault cl done rs i f.rule
unfolding fault elim?
fault_told cl done [] f e = absurd (none-ne-some f e)
fault_told cl done (r ∷ rs) f e = go (broken cl done r) refl e (fault_told cl (read_element r ∷ done) rs f)
  where
    go : (o : Option Rule) → broken cl done r ≡ o →
        elim? o (fault cl (read_element r ∷ done) rs) (λ b. some (record { place = length done; rule = b })) ≡ some f →
        (fault cl (read_element r ∷ done) rs ≡ some f → (i : ℕ) × (f.place ≡ suc (length done) + i) × FirstFault cl (read_element r ∷ done) rs i f.rule) →
        (i : ℕ) × (f.place ≡ length done + i) × FirstFault cl done (r ∷ rs) i f.rule
    go none b e ih =
        let (i, place, h) = ih e in (
          suc i,
          omega arith,
          record {
            inside = omega (arith, h.inside);
            earlier = at_every (λ i. (q : Rule) → KeepsAt cl done (r ∷ rs) i q) ((broken_none cl done r).0 b) h.earlier;
            breaks = h.breaks;
          },
        )
    go (some x) b e ih =
        let at : record { place = length done; rule = x } ≡ f = some-injective _ f e in
        let rule : broken cl done r ≡ some f.rule = cc in (
          0,
          omega (arith, ap (λ (f : Fault). f.place) at),
          record { inside = omega arith; earlier = λ j l. absurd (omega arith); breaks = (broken_some cl done r f.rule).0 rule },
        )

-- where a record is the first that breaks a rule, the fault named is that record's
fault_says : (cl : Clues) (done : List Element) (rs : List (List ℕ)) (i : ℕ) (r : Rule) → FirstFault cl done rs i r →
    fault cl done rs ≡ some (record { place = length done + i; rule = r })
unfolding fault elim?
fault_says cl done [] i r h = absurd (omega (arith, h.inside))
fault_says cl done (x ∷ rs) zero r h =
    let d : length done + 0 ≡ length done = omega arith in
    rw (d, (broken_some cl done x r).1 h.breaks)
fault_says cl done (x ∷ rs) (suc i) r h =
    let d : length done + suc i ≡ suc (length done) + i = omega arith in
    let rest : FirstFault cl (read_element x ∷ done) rs i r = record {
      inside = omega (arith, h.inside);
      earlier = λ j l. h.earlier (suc j) (omega arith);
      breaks = h.breaks;
    } in
    rw (d, (broken_none cl done x).1 (h.earlier 0 (omega arith))) (fault_says cl (read_element x ∷ done) rs i r rest)

-- a fault is named exactly if its record is the first that breaks a rule and its rule the first that this record breaks
pub fault_iff : (cl : Clues) (rs : List (List ℕ)) (i : ℕ) (r : Rule) → fault cl [] rs ≡ some (record { place = i; rule = r }) ↔ FirstFault cl [] rs i r
fault_iff cl rs i r = (
  λ e. let (j, place, h) = fault_told cl [] rs (record { place = i; rule = r }) e in let d : i ≡ j = omega arith in rw d h,
  λ h. let d : 0 + i ≡ i = omega arith in fault_says cl [] rs i r h ∙ rw d,
)

-- the check of the records passes exactly if none breaks a rule
pub sound_check_lem : (cl : Clues) (count : ℕ) (ws : List ℕ) → sound_check cl count ws ≡ none ↔ (fault cl [] (records count ws) ≡ none)
unfolding sound_check elim?
sound_check_lem cl count ws = go (fault cl [] (records count ws))
  where
    go : (o : Option Fault) → elim? o none (λ f. refuse (number_of f.rule) f.place) ≡ none ↔ (o ≡ none)
    go none = (λ e. refl, λ e. refl)
    go (some f) = (λ e. absurd (some-ne-none _ e), λ e. absurd (some-ne-none f e))

-- the check of the records passes exactly if every record in use keeps every rule
pub sound_iff : (cl : Clues) (count : ℕ) (ws : List ℕ) →
    sound_check cl count ws ≡ none ↔ ((i : ℕ) → i < count → (q : Rule) → KeepsAt cl [] (records count ws) i q)
sound_iff cl count ws = Iff.trans (sound_check_lem cl count ws) (Iff.trans (fault_none cl [] (records count ws)) (
  λ h i l. h i (omega (arith, length_records count ws)),
  λ h i l. h i (omega (arith, length_records count ws)),
))

-- the check of the records refuses by a fault: at the fault's place, with the number of its rule
pub sound_refusal : (cl : Clues) (count : ℕ) (ws : List ℕ) (r : Refusal) → sound_check cl count ws ≡ some r →
    (f : Fault) × (fault cl [] (records count ws) ≡ some f) × (r.number ≡ number_of f.rule) × (r.place ≡ f.place)
unfolding sound_check elim?
sound_refusal cl count ws r e = go (fault cl [] (records count ws)) e
  where
    go : (o : Option Fault) → elim? o none (λ f. refuse (number_of f.rule) f.place) ≡ some r →
        (f : Fault) × (o ≡ some f) × (r.number ≡ number_of f.rule) × (r.place ≡ f.place)
    go none e = absurd (none-ne-some r e)
    go (some f) e =
        let h = sym (some-injective _ r e) in
        (f, refl, ap (λ (r : Refusal). r.number) h, ap (λ (r : Refusal). r.place) h)

-- The check of the records refuses by a number at a place exactly if the record there is the first that breaks a rule
-- and the first rule that it breaks has the number.
pub sound_refused : (cl : Clues) (count : ℕ) (ws : List ℕ) (n i : ℕ) →
    sound_check cl count ws ≡ refuse n i ↔ ((r : Rule) × FirstFault cl [] (records count ws) i r × (number_of r ≡ n))
unfolding sound_check elim?
sound_refused cl count ws n i = (
  λ e.
      let (f, at, number, place) = sound_refusal cl count ws (record { number = n; place = i }) e in
      let d : fault cl [] (records count ws) ≡ some (record { place = i; rule = f.rule }) =
      at ∙ ap (λ (p : ℕ). some (record { place = p; rule = f.rule })) (sym place) in
      (f.rule, (fault_iff cl (records count ws) i f.rule).0 d, sym number),
  λ h. rw ((fault_iff cl (records count ws) i h.0).1 h.1, h.2),
)

-- what holds of 19, 23, 24 and 25 holds of the number of every rule
pub rule_numbers : (P : ℕ → Type 0) → P bad_layout → P bad_order → P bad_name → P bad_next → (r : Rule) → P (number_of r)
unfolding number_of
rule_numbers P layout order name next layout_rule = layout
rule_numbers P layout order name next order_rule = order
rule_numbers P layout order name next parent_rule = order
rule_numbers P layout order name next name_rule = name
rule_numbers P layout order name next last_rule = next
rule_numbers P layout order name next next_rule = next

-- which rules a number tells of
module _ (F : Rule → Type 0) where
  -- 19 tells of the layout
  by_nineteen : (r : Rule) → F r → number_of r ≡ bad_layout → F layout_rule
  unfolding number_of
  by_nineteen layout_rule h n = h
  by_nineteen order_rule h n = absurd (omega arith)
  by_nineteen parent_rule h n = absurd (omega arith)
  by_nineteen name_rule h n = absurd (omega arith)
  by_nineteen last_rule h n = absurd (omega arith)
  by_nineteen next_rule h n = absurd (omega arith)

  -- 23 tells of order or parent
  by_twenty_three : (r : Rule) → F r → number_of r ≡ bad_order → F order_rule ⊎ F parent_rule
  unfolding number_of
  by_twenty_three layout_rule h n = absurd (omega arith)
  by_twenty_three order_rule h n = inl h
  by_twenty_three parent_rule h n = inr h
  by_twenty_three name_rule h n = absurd (omega arith)
  by_twenty_three last_rule h n = absurd (omega arith)
  by_twenty_three next_rule h n = absurd (omega arith)

  -- 24 tells of the name
  by_twenty_four : (r : Rule) → F r → number_of r ≡ bad_name → F name_rule
  unfolding number_of
  by_twenty_four layout_rule h n = absurd (omega arith)
  by_twenty_four order_rule h n = absurd (omega arith)
  by_twenty_four parent_rule h n = absurd (omega arith)
  by_twenty_four name_rule h n = h
  by_twenty_four last_rule h n = absurd (omega arith)
  by_twenty_four next_rule h n = absurd (omega arith)

  -- 25 tells of the last component or the next number
  by_twenty_five : (r : Rule) → F r → number_of r ≡ bad_next → F last_rule ⊎ F next_rule
  unfolding number_of
  by_twenty_five layout_rule h n = absurd (omega arith)
  by_twenty_five order_rule h n = absurd (omega arith)
  by_twenty_five parent_rule h n = absurd (omega arith)
  by_twenty_five name_rule h n = absurd (omega arith)
  by_twenty_five last_rule h n = inl h
  by_twenty_five next_rule h n = inr h

-- when each number is given at record i
module _ (cl : Clues) (count : ℕ) (ws : List ℕ) (i : ℕ) where
  -- record i is the first that breaks a rule, and r is the first rule that it breaks
  abbrev First : Rule → Type 0
  First = FirstFault cl [] (records count ws) i

  -- 19 is given exactly if every earlier record keeps every rule and record i breaks the rule of the layout
  pub nineteen_iff : sound_check cl count ws ≡ refuse bad_layout i ↔ First layout_rule
  unfolding number_of
  nineteen_iff = Iff.trans (sound_refused cl count ws bad_layout i) (λ f. by_nineteen First f.0 f.1 f.2, λ h. (layout_rule, h, refl))

  -- 23 is given exactly if every earlier record keeps every rule and record i, which is laid out,
  -- breaks the rule of order or, in order, that of the parent
  pub twenty_three_iff : sound_check cl count ws ≡ refuse bad_order i ↔ (First order_rule ⊎ First parent_rule)
  unfolding number_of
  twenty_three_iff = Iff.trans (sound_refused cl count ws bad_order i)
      (λ f. by_twenty_three First f.0 f.1 f.2, ⊎_elim (λ h. (order_rule, h, refl)) (λ h. (parent_rule, h, refl)))

  -- 24 is given exactly if every earlier record keeps every rule and record i breaks that of the name,
  -- but none before it
  pub twenty_four_iff : sound_check cl count ws ≡ refuse bad_name i ↔ First name_rule
  unfolding number_of
  twenty_four_iff = Iff.trans (sound_refused cl count ws bad_name i) (λ f. by_twenty_four First f.0 f.1 f.2, λ h. (name_rule, h, refl))

  -- 25 is given exactly if every earlier record keeps every rule and record i breaks that of the last component
  -- or that of the next number, but none before it
  pub twenty_five_iff : sound_check cl count ws ≡ refuse bad_next i ↔ (First last_rule ⊎ First next_rule)
  unfolding number_of
  twenty_five_iff = Iff.trans (sound_refused cl count ws bad_next i)
      (λ f. by_twenty_five First f.0 f.1 f.2, ⊎_elim (λ h. (last_rule, h, refl)) (λ h. (next_rule, h, refl)))
