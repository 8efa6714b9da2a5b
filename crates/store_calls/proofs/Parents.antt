-- What an entry meets at its parent, and a deletion at its element:
-- each of the refusals 9 to 12 and 14 by its facts, in both directions.
use mathlib.Core.Path.{◌≡◌, refl, ◌∙◌, sym, subst}
use mathlib.Core.Logic.{◌↔◌, ◌⊎◌, inl, inr, ⊎_elim, by_cases}
use mathlib.Core.List.{List, [], ◌∷◌}
use mathlib.Core.Option.{Option, none, some, some-ne-none, none-ne-some}
use Prim.Native.Nat.{ℕ, ◌≤◌, ◌<◌}
use native.Mathlib.Decide.{dec_lt}
use native.Mathlib.Omega.{arith}
use lib.ListN.{length}
use lib.Dec.{T, leb, ltb, leb→le, le→leb, ltb→lt, lt→ltb}
use Rattle.basics.specs.Basics.{◌∈◌, elim?, stands}
use Rattle.basics.specs.Limits.{max_component, max_depth}
use Rattle.basics.specs.Refusals.{Refusal, refuse, check, first, no_record, not_in_clue, too_deep, no_number, root_stays}
use Rattle.naming.specs.Names.{Clues, place_in}
use Rattle.labelling.specs.Labels.{Label}
use Rattle.storage.specs.Store.{Element, find}
use Rattle.store_calls.specs.Updates.{parent_check, given, root_stays_check, found_check}
use Rattle.basics.proofs.Tests.{decide}
use Rattle.basics.proofs.Refusals.{check_passed, check_failed, check_iff, refuse_number, first_here, first_next, first_both, check_none}
use Rattle.basics.proofs.Lists.{stands_iff}
use Rattle.naming.proofs.NameTables.{place_in_none}
use Rattle.storage.proofs.Finding.{find_none, find_mem}

-- a name of a clue has a place
pub has_place : (c : ℕ) (cs : List ℕ) → c ∈ cs → (k : ℕ) × (place_in c cs ≡ some k)
has_place c cs m = go (place_in c cs) refl
  where
    go : (o : Option ℕ) → place_in c cs ≡ o → (k : ℕ) × (place_in c cs ≡ some k)
    go none e = absurd ((place_in_none c cs).0 e m)
    go (some k) e = (k, e)

-- an entry for whose label no record was found is refused by 9
pub parent_nine : (cl : Clues) (name : ℕ) → parent_check cl none name ≡ refuse no_record 0
unfolding parent_check
parent_nine cl name = refl

module _ (cl : Clues) (p : Element) (name : ℕ) where
  -- an entry of a name that isn't in the parent's clue is refused by 10
  pub parent_ten : (name ∈ cl p.name → ⊥) → parent_check cl (some p) name ≡ refuse not_in_clue 0
  unfolding parent_check elim?
  parent_ten h = rw ((place_in_none name (cl p.name)).1 h)

  module _ (in_clue : name ∈ cl p.name) where
    -- where the name is in the parent's clue, the parent's depth and the number given decide
    parent_decides : parent_check cl (some p) name ≡
        first (check (ltb (length p.label) max_depth) too_deep 0 ∷ check (leb (given cl p name) max_component) no_number 0 ∷ [])
    unfolding parent_check given elim?
    parent_decides = let (k, e) = has_place name (cl p.name) in_clue in rw e

    -- an entry below a parent at depth 15 is refused by 11
    pub parent_eleven : max_depth ≤ length p.label → parent_check cl (some p) name ≡ refuse too_deep 0
    parent_eleven deep = parent_decides ∙ first_here _ _ _ (check_failed _ too_deep 0 (λ t. omega (arith, ltb→lt (length p.label) max_depth t)))

    -- below a parent above depth 15 the number given decides
    number_decides : length p.label < max_depth → parent_check cl (some p) name ≡ check (leb (given cl p name) max_component) no_number 0
    number_decides high = parent_decides ∙ first_next _ _ (check_passed _ too_deep 0 (lt→ltb _ _ high))

    -- an entry whose number would be over 65,534 is refused by 12
    pub parent_twelve : length p.label < max_depth → max_component < given cl p name → parent_check cl (some p) name ≡ refuse no_number 0
    parent_twelve high over = number_decides high ∙ check_failed _ no_number 0 (λ t. omega (arith, leb→le (given cl p name) max_component t))

    -- an entry whose number is at most 65,534 is not refused at its parent
    pub parent_passed : length p.label < max_depth → given cl p name ≤ max_component → parent_check cl (some p) name ≡ none
    parent_passed high low = number_decides high ∙ check_passed _ no_number 0 (le→leb _ _ low)

-- The facts of refusals 9 to 12: a parent stands, the name is in its clue,
-- it is above depth 15, and the number given is at most 65,534.
pub record ParentFacts (cl : Clues) (found : Option Element) (name : ℕ) : Type 0 where
  pub parent : Element
  pub stands : found ≡ some parent
  pub in_clue : name ∈ cl parent.name
  pub high : length parent.label < max_depth
  pub low : given cl parent name ≤ max_component

-- an entry is accepted at its parent exactly if the facts of refusals 9 to 12 hold
pub parent_check_iff : (cl : Clues) (found : Option Element) (name : ℕ) → parent_check cl found name ≡ none ↔ ParentFacts cl found name
parent_check_iff cl none name = (λ e. absurd (some-ne-none _ (sym (parent_nine cl name) ∙ e)), λ f. absurd (none-ne-some _ f.stands))
parent_check_iff cl (some p) name = (
  λ e. ⊎_elim
      (λ m.
      let in_clue = (stands_iff name (cl p.name)).0 m in
      let (high, low) = (first_both _ _).0 (sym (parent_decides cl p name in_clue) ∙ e) in
      record {
        parent = p;
        stands = refl;
        in_clue = in_clue;
        high = ltb→lt _ _ (check_none _ too_deep 0 high);
        low = leb→le _ _ (check_none _ no_number 0 low);
      })
      (λ n. absurd (some-ne-none _ (sym (parent_ten cl p name (λ m. n ((stands_iff name (cl p.name)).1 m))) ∙ e)))
      (decide (stands name (cl p.name))),
  λ f. subst (λ o. parent_check cl o name ≡ none) (sym f.stands) (parent_passed cl f.parent name f.in_clue f.high f.low),
)

-- what an entry meets at its parent: one of five outcomes, each with its facts
data Meets (cl : Clues) (found : Option Element) (name : ℕ) : Option Refusal → Type 0 where
  absent : found ≡ none → Meets cl found name (refuse no_record 0)
  unlisted : (p : Element) → found ≡ some p → (name ∈ cl p.name → ⊥) → Meets cl found name (refuse not_in_clue 0)
  deepest : (p : Element) → found ≡ some p → name ∈ cl p.name → max_depth ≤ length p.label → Meets cl found name (refuse too_deep 0)
  spent : (p : Element) → found ≡ some p → name ∈ cl p.name → length p.label < max_depth → max_component < given cl p name →
      Meets cl found name (refuse no_number 0)
  welcome : Meets cl found name none

-- the check of an entry's parent gives the outcome whose facts hold
meets : (cl : Clues) (found : Option Element) (name : ℕ) → Meets cl found name (parent_check cl found name)
meets cl none name = rw (parent_nine cl name) (absent refl)
meets cl (some p) name = go (decide (stands name (cl p.name)))
  where
    listed : name ∈ cl p.name → Meets cl (some p) name (parent_check cl (some p) name)
    listed m = by_cases (dec_lt (length p.label) max_depth)
        (λ high. by_cases (dec_lt max_component (given cl p name))
        (λ over. rw (parent_twelve cl p name m high over) (spent p refl m high over))
        (λ low. rw (parent_passed cl p name m high (omega arith)) welcome))
        (λ low. rw (parent_eleven cl p name m (omega arith)) (deepest p refl m (omega arith)))

    go : T (stands name (cl p.name)) ⊎ (T (stands name (cl p.name)) → ⊥) → Meets cl (some p) name (parent_check cl (some p) name)
    go (inl t) = listed ((stands_iff name (cl p.name)).0 t)
    go (inr n) =
        let absent_name : name ∈ cl p.name → ⊥ = λ m. n ((stands_iff name (cl p.name)).1 m) in
        rw (parent_ten cl p name absent_name) (unlisted p refl absent_name)

module _ (cl : Clues) (found : Option Element) (name : ℕ) where
  -- the refusal 9 is given exactly if no record was found
  pub nine_iff : parent_check cl found name ≡ refuse no_record 0 ↔ (found ≡ none)
  nine_iff = (told (meets cl found name), λ e. rw e (parent_nine cl name))
    where
      told : {o : Option Refusal} → Meets cl found name o → o ≡ refuse no_record 0 → found ≡ none
      told (absent e) d = e
      told (unlisted p e n) d = absurd (omega (arith, refuse_number d))
      told (deepest p e m h) d = absurd (omega (arith, refuse_number d))
      told (spent p e m h k) d = absurd (omega (arith, refuse_number d))
      told welcome d = absurd (none-ne-some _ d)

  -- the refusal 10 is given exactly if a record was found and the name isn't in its clue
  pub ten_iff : parent_check cl found name ≡ refuse not_in_clue 0 ↔ ((p : Element) × (found ≡ some p) × (name ∈ cl p.name → ⊥))
  ten_iff = (told (meets cl found name), λ h. rw h.1 (parent_ten cl h.0 name h.2))
    where
      told : {o : Option Refusal} → Meets cl found name o → o ≡ refuse not_in_clue 0 → (p : Element) × (found ≡ some p) × (name ∈ cl p.name → ⊥)
      told (absent e) d = absurd (omega (arith, refuse_number d))
      told (unlisted p e n) d = (p, e, n)
      told (deepest p e m h) d = absurd (omega (arith, refuse_number d))
      told (spent p e m h k) d = absurd (omega (arith, refuse_number d))
      told welcome d = absurd (none-ne-some _ d)

  -- the refusal 11 is given exactly if the name is in the clue of a record found at depth 15
  pub eleven_iff : parent_check cl found name ≡ refuse too_deep 0 ↔
      ((p : Element) × (found ≡ some p) × name ∈ cl p.name × (max_depth ≤ length p.label))
  eleven_iff = (told (meets cl found name), λ h. rw h.1 (parent_eleven cl h.0 name h.2 h.3))
    where
      told : {o : Option Refusal} → Meets cl found name o → o ≡ refuse too_deep 0 →
          (p : Element) × (found ≡ some p) × name ∈ cl p.name × (max_depth ≤ length p.label)
      told (absent e) d = absurd (omega (arith, refuse_number d))
      told (unlisted p e n) d = absurd (omega (arith, refuse_number d))
      told (deepest p e m h) d = (p, e, m, h)
      told (spent p e m h k) d = absurd (omega (arith, refuse_number d))
      told welcome d = absurd (none-ne-some _ d)

  -- the refusal 12 is given exactly if the name is in the clue of a record found above depth 15
  -- and the number given is over 65,534
  pub twelve_iff : parent_check cl found name ≡ refuse no_number 0 ↔
      ((p : Element) × (found ≡ some p) × name ∈ cl p.name × (length p.label < max_depth) × (max_component < given cl p name))
  twelve_iff = (told (meets cl found name), λ h. rw h.1 (parent_twelve cl h.0 name h.2 h.3 h.4))
    where
      told : {o : Option Refusal} → Meets cl found name o → o ≡ refuse no_number 0 →
          (p : Element) × (found ≡ some p) × name ∈ cl p.name × (length p.label < max_depth) × (max_component < given cl p name)
      told (absent e) d = absurd (omega (arith, refuse_number d))
      told (unlisted p e n) d = absurd (omega (arith, refuse_number d))
      told (deepest p e m h) d = absurd (omega (arith, refuse_number d))
      told (spent p e m h k) d = (p, e, m, h, k)
      told welcome d = absurd (none-ne-some _ d)

-- a deletion is not refused by 14 exactly if its label has a component: the root's has none
pub root_stays_iff : (l : Label) → root_stays_check l ≡ none ↔ (0 < length l)
unfolding root_stays_check
root_stays_iff l = check_iff (ltb 0 (length l)) root_stays 0 (ltb→lt 0 (length l), lt→ltb 0 (length l))

-- a record was found exactly if one of the elements has the label
pub found_iff : (l : Label) (es : List Element) → found_check (find l es) ≡ none ↔ ((e : Element) × e ∈ es × (e.label ≡ l))
unfolding found_check
found_iff l es = go (find l es) refl
  where
    go : (o : Option Element) → find l es ≡ o → found_check o ≡ none ↔ ((e : Element) × e ∈ es × (e.label ≡ l))
    go none d = (λ e. absurd (some-ne-none _ e), λ h. absurd ((find_none l es).0 d h.0 h.1 h.2))
    go (some p) d = (λ e. let (m, f) = find_mem l es p d in (p, m, f), λ h. refl)
