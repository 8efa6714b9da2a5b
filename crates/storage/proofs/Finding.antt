-- The element found for a label.
use mathlib.Core.Path.{◌≡◌, refl, ap, ◌∙◌}
use mathlib.Core.Logic.{◌↔◌}
use mathlib.Core.Bool.{Bool, true, false, cond}
use mathlib.Core.List.Memᴰ
use mathlib.Core.List.{List, [], ◌∷◌, ◌++◌}
use mathlib.Core.Option.{Option, none, some, none-ne-some, some-ne-none, some-injective}
use Rattle.basics.specs.Basics.{◌∈◌}
use Rattle.labelling.specs.Labels.{Label, same}
use Rattle.storage.specs.Store.{Element, find}
use Rattle.basics.proofs.Tests.{Tells, passes, fails, is_true, is_false}
use Rattle.basics.proofs.Lists.{here, there, nowhere, for_cons}
use Rattle.labelling.proofs.LabelOrder.{same_alike, same?}

-- no element is found for a label exactly if no element has the label
pub find_none : (l : Label) (es : List Element) → find l es ≡ none ↔ ((e : Element) → e ∈ es → e.label ≡ l → ⊥)
unfolding find
find_none l [] = (λ h e m. absurd (nowhere m), λ h. refl)
find_none l (x ∷ es) = go (same x.label l) (same? x.label l) (find_none l es)
  where
    go : (c : Bool) → Tells (x.label ≡ l) c → find l es ≡ none ↔ ((e : Element) → e ∈ es → e.label ≡ l → ⊥) →
        cond c (some x) (find l es) ≡ none ↔ ((e : Element) → e ∈ x ∷ es → e.label ≡ l → ⊥)
    go true (passes d) below = (λ h. absurd (some-ne-none x h), λ h. absurd (h x (here refl) d))
    go false (fails n) below = (λ h. for_cons (λ e. e.label ≡ l → ⊥) n (below.0 h), λ h. below.1 (λ e m. h e (there m)))

-- an element that is the first of some to have a label
pub record FirstWith (l : Label) (es : List Element) (p : Element) : Type 0 where
  pub passed : List Element
  pub rest : List Element
  pub split : es ≡ passed ++ (p ∷ rest)
  pub labelled : p.label ≡ l
  pub others : (e : Element) → e ∈ passed → e.label ≡ l → ⊥

-- the first element with a label is found behind others that do not have it
first_found : (l : Label) (passed : List Element) (p : Element) (rest : List Element) → p.label ≡ l →
    ((e : Element) → e ∈ passed → e.label ≡ l → ⊥) → find l (passed ++ (p ∷ rest)) ≡ some p
unfolding find
first_found l [] p rest h n = rw (is_true (same p.label l) ((same_alike p.label l).1 h))
first_found l (x ∷ passed) p rest h n =
    rw (is_false (same x.label l) (λ t. n x (here refl) ((same_alike x.label l).0 t))) (first_found l passed p rest h (λ e m. n e (there m)))

-- the element found for a label is the first that has the label
found_first : (l : Label) (es : List Element) (p : Element) → find l es ≡ some p → FirstWith l es p
unfolding find
found_first l [] p e = absurd (none-ne-some p e)
found_first l (x ∷ es) p e = go (same x.label l) (same? x.label l) e (found_first l es p)
  where
    go : (c : Bool) → Tells (x.label ≡ l) c → cond c (some x) (find l es) ≡ some p → (find l es ≡ some p → FirstWith l es p) → FirstWith l (x ∷ es) p
    go true (passes h) e ih =
        let f : x ≡ p = some-injective x p e in
        rw (← f) (record { passed = []; rest = es; split = refl; labelled = h; others = λ y m. absurd (nowhere m) })
    go false (fails n) e ih =
        let f = ih e in
        record {
          passed = x ∷ f.passed;
          rest = f.rest;
          split = ap (◌∷◌ x) f.split;
          labelled = f.labelled;
          others = for_cons (λ y. y.label ≡ l → ⊥) n f.others;
        }

-- an element is found for a label exactly if it is the first that has the label
pub find_iff : (l : Label) (es : List Element) (p : Element) → find l es ≡ some p ↔ FirstWith l es p
find_iff l es p = (found_first l es p, λ f. ap (find l) f.split ∙ first_found l f.passed p f.rest f.labelled f.others)

-- the first element with a label is one of the elements
pub first_mem : {l : Label} {es : List Element} {p : Element} → FirstWith l es p → p ∈ es
first_mem f = rw f.split (Memᴰ.append_right f.passed (here refl))

-- where an element has a label, one element is the first that has it
pub has_first : (l : Label) (es : List Element) (p : Element) → p ∈ es → p.label ≡ l → (q : Element) × FirstWith l es q
has_first l es p m e = go (find l es) refl
  where
    go : (o : Option Element) → find l es ≡ o → (q : Element) × FirstWith l es q
    go none d = absurd ((find_none l es).0 d p m e)
    go (some q) d = (q, (find_iff l es q).0 d)

-- the element found for a label is one of the elements and has that label
pub find_mem : (l : Label) (es : List Element) (p : Element) → find l es ≡ some p → p ∈ es × (p.label ≡ l)
find_mem l es p e = let f = (find_iff l es p).0 e in (first_mem f, f.labelled)
