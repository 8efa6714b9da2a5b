-- Label order, and which labels stand below which.
use mathlib.Core.Path.{◌≡◌, refl, sym, ap, subst, ◌∙◌}
use mathlib.Core.Logic.{◌↔◌, ◌⊎◌, inl, inr, ⊎_elim, ⊎_map}
use mathlib.Core.Bool.{Bool, true, false, cond, ◌&&◌}
use mathlib.Core.List.{[], ◌∷◌, ◌++◌, append-nil, append_assoc}
use Prim.Native.Nat.{ℕ, suc, ◌-◌, ◌<◌}
use native.Mathlib.Omega.{arith}
use lib.ListN.{length, take, length-append}
use lib.Seq.{take-suc, take-length, take_at}
use lib.Dec.{T, ltb, eqb, eqb_refl, eqb-zero-suc, eqb-suc-suc, ltb→lt, lt→ltb}
use Rattle.basics.specs.Basics.{last}
use Rattle.labelling.specs.Labels.{Label, before, shared, within, same, above}
use Rattle.basics.proofs.Tests.{and_iff, Alike, eqb_alike, Tells, tells}
use Rattle.basics.proofs.Lists.{last_snoc}
use Rattle.basics.proofs.Orders.{Order, OneWay, one_way, lex_iff, lex_order, ltb_order}

-- label order is a strict total order
pub before_order : Order before
unfolding before
before_order = lex_order ltb eqb eqb_alike ltb_order

-- no two labels come before each other
pub before_one_way : OneWay before
before_one_way = one_way before_order

-- a label comes before another by its first component, or by the rest where the first components are equal
pub before_iff : (x y : ℕ) (l m : Label) → T (before (x ∷ l) (y ∷ m)) ↔ (T (ltb x y) ⊎ ((x ≡ y) × T (before l m)))
unfolding before
before_iff = lex_iff ltb eqb eqb_alike

-- no label comes before the root's
pub before_nonroot : (l m : Label) → T (before l m) → 0 < length m
unfolding before
before_nonroot [] [] h = absurd h
before_nonroot (x ∷ l) [] h = absurd h
before_nonroot l (y ∷ m) h = omega arith

-- the test of being within goes component by component
pub within_cons : (x y : ℕ) (up low : Label) → within (x ∷ up) (y ∷ low) ≡ (eqb x y && within up low)
unfolding within shared
within_cons x y up low = go (eqb x y)
  where
    go : (b : Bool) → eqb (cond b (suc (shared up low)) 0) (suc (length up)) ≡ (b && eqb (shared up low) (length up))
    go true = eqb-suc-suc (shared up low) (length up)
    go false = eqb-zero-suc (length up)

-- no label but the root's is within the root's
within_empty : (x : ℕ) (up : Label) → T (within (x ∷ up) []) → ⊥
unfolding within shared
within_empty x up h = rw eqb-zero-suc at h

-- a label is within no others than those that go on from it
pub within_rest : (up low : Label) → T (within up low) → (rest : Label) × (low ≡ up ++ rest)
within_rest [] low h = (low, refl)
within_rest (x ∷ up) [] h = absurd (within_empty x up h)
within_rest (x ∷ up) (y ∷ low) h =
    let p = (and_iff (eqb x y) (within up low)).0 (rw within_cons at h) in
    let e : x ≡ y = (eqb_alike x y).0 p.0 in
    let r = within_rest up low p.1 in
    (r.0, cc)

-- a label is within every label that goes on from it
within_more : (up rest : Label) → T (within up (up ++ rest))
unfolding within shared
within_more [] rest = tt
within_more (x ∷ up) rest = rw within_cons ((and_iff (eqb x x) _).1 (eqb_refl x, within_more up rest))

-- a label is within those that go on from it, and no others
pub within_iff : (up low : Label) → T (within up low) ↔ ((rest : Label) × (low ≡ up ++ rest))
within_iff up low = (within_rest up low, λ r. rw r.1 (within_more up r.0))

-- a label is within itself
pub within_self : (l : Label) → T (within l l)
within_self l = (within_iff l l).1 ([], sym (append-nil l))

-- a label within another is within whatever the other is within
pub within_chain : (a b c : Label) → T (within a b) → T (within b c) → T (within a c)
within_chain a b c h k =
    let r = within_rest a b h in
    let s = within_rest b c k in
    (within_iff a c).1 (r.0 ++ s.0, cc (r.1, s.1, append_assoc a r.0 s.0))

-- labels that are within each other are equal
within_both : (l m : Label) → T (within l m) → T (within m l) → l ≡ m
within_both [] [] h k = refl
within_both [] (y ∷ m) h k = absurd (within_empty y m k)
within_both (x ∷ l) [] h k = absurd (within_empty x l h)
within_both (x ∷ l) (y ∷ m) h k =
    let p = (and_iff (eqb x y) (within l m)).0 (rw within_cons at h) in
    let q = (and_iff (eqb y x) (within m l)).0 (rw within_cons at k) in
    cc ((eqb_alike x y).0 p.0, within_both l m p.1 q.1)

-- the test of being the same label is a test of equality
pub same_alike : Alike same
unfolding same
same_alike l m = (
  λ h. let p = (and_iff (within l m) _).0 h in within_both l m p.0 p.1,
  λ e. rw e ((and_iff (within m m) _).1 (within_self m, within_self m)),
)

-- the test of being the same label tells whether two labels are equal
pub same? : (l m : Label) → Tells (l ≡ m) (same l m)
same? l m = tells (same l m) (same_alike l m)

-- a label comes before every longer one that goes on from it
pub before_more : (up : Label) (x : ℕ) (rest : Label) → T (before up (up ++ x ∷ rest))
unfolding before
before_more [] x rest = tt
before_more (y ∷ up) x rest = (before_iff y y up (up ++ x ∷ rest)).1 (inr (refl, before_more up x rest))

-- Label order without a test: the second label goes on from the first,
-- or is greater at the first component where the two differ.
pub data Precedes (l m : Label) : Type 0 where
  goes_on : (x : ℕ) (rest : Label) → m ≡ l ++ (x ∷ rest) → Precedes l m
  greater : (p : Label) (x y : ℕ) (r s : Label) → x < y → l ≡ p ++ (x ∷ r) → m ≡ p ++ (y ∷ s) → Precedes l m

-- labels with equal first components precede each other as their rests do
precedes_cons : {x y : ℕ} {l m : Label} → x ≡ y → Precedes l m → Precedes (x ∷ l) (y ∷ m)
precedes_cons {y} d (goes_on z rest e) = goes_on z rest (cc)
precedes_cons {y} d (greater p a b r s h e f) = greater (y ∷ p) a b r s h (cc) (cc)

-- a label that is greater at the first component where two differ comes later
before_greater : (p : Label) (x y : ℕ) (r s : Label) → x < y → T (before (p ++ (x ∷ r)) (p ++ (y ∷ s)))
before_greater [] x y r s h = (before_iff x y r s).1 (inl (lt→ltb x y h))
before_greater (z ∷ p) x y r s h = (before_iff z z (p ++ (x ∷ r)) (p ++ (y ∷ s))).1 (inr (refl, before_greater p x y r s h))

-- a label comes before another exactly if it precedes it
pub precedes_iff : (l m : Label) → T (before l m) ↔ Precedes l m
precedes_iff l m = (told l m, says)
  where
    told : (l m : Label) → T (before l m) → Precedes l m
    told [] [] h = absurd (before_order.never [] h)
    told [] (y ∷ m) h = goes_on y m refl
    told (x ∷ l) [] h = absurd (omega (arith, before_nonroot (x ∷ l) [] h))
    told (x ∷ l) (y ∷ m) h =
        ⊎_elim (λ k. greater [] x y l m (ltb→lt x y k) refl refl) (λ k. precedes_cons k.0 (told l m k.1)) ((before_iff x y l m).0 h)

    says : Precedes l m → T (before l m)
    says (goes_on x rest e) = rw e (before_more l x rest)
    says (greater p x y r s h e f) = rw (e, f) (before_greater p x y r s h)

-- a label that comes before another comes before all that go on from the other
pub before_extend : (l m rest : Label) → T (before l m) → T (before l (m ++ rest))
unfolding before
before_extend [] [] rest h = absurd h
before_extend [] (y ∷ m) rest h = tt
before_extend (x ∷ l) [] rest h = absurd h
before_extend (x ∷ l) (y ∷ m) rest h = (before_iff x y l (m ++ rest)).1 (⊎_map (λ k. k) (λ k. (k.0, before_extend l m rest k.1)) ((before_iff x y l m).0 h))

-- where a later label does not go on from an earlier one, it comes after all that do
pub extend_before : (l m rest : Label) → T (before l m) → (T (within l m) → ⊥) → T (before (l ++ rest) m)
unfolding before
extend_before [] m rest h n = absurd (n (within_more [] m))
extend_before (x ∷ l) [] rest h n = absurd h
extend_before (x ∷ l) (y ∷ m) rest h n = (before_iff x y (l ++ rest) m).1
    (⊎_map (λ k. k) (λ k. (k.0, extend_before l m rest k.1 (deeper k.0))) ((before_iff x y l m).0 h))
  where
    deeper : x ≡ y → T (within l m) → ⊥
    deeper e w = n (rw within_cons ((and_iff (eqb x y) (within l m)).1 ((eqb_alike x y).1 e, w)))

-- labels that begin alike compare as what follows the beginning
pub before_cancel : (l m n : Label) → T (before (l ++ m) (l ++ n)) → T (before m n)
unfolding before
before_cancel [] m n h = h
before_cancel (x ∷ l) m n h = ⊎_elim (λ k. absurd (ltb_order.never x k)) (λ k. before_cancel l m n k.1) ((before_iff x x (l ++ m) (l ++ n)).0 h)

-- a label below the root is its parent's label and a last component
pub above_last : (l : Label) → 0 < length l → l ≡ above l ++ (last l ∷ [])
unfolding above last
above_last l h =
    let e : length l ≡ suc (length l - 1) = omega arith in
    sym (take-length l) ∙ ap (λ n. take n l) e ∙ take-suc l (length l - 1) 0 (omega arith)

-- the label above a child's is its parent's
pub above_snoc : (l : Label) (k : ℕ) → above (l ++ (k ∷ [])) ≡ l
unfolding above
above_snoc l k = take_at l (k ∷ []) (length (l ++ (k ∷ [])) - 1) (omega (arith, length-append l (k ∷ [])))

-- equal labels of children have equal parents
pub snoc_parent : (l m : Label) (j k : ℕ) → l ++ (j ∷ []) ≡ m ++ (k ∷ []) → l ≡ m
snoc_parent l m j k e = sym (above_snoc l j) ∙ ap above e ∙ above_snoc m k

-- equal labels of children have equal last components
pub snoc_last : (l m : Label) (j k : ℕ) → l ++ (j ∷ []) ≡ m ++ (k ∷ []) → j ≡ k
snoc_last l m j k e = sym (last_snoc l j) ∙ ap last e ∙ last_snoc m k

-- a parent's label is before its child's
pub above_before : (l : Label) → 0 < length l → T (before (above l) l)
above_before l h = subst (λ m. T (before (above l) m)) (sym (above_last l h)) (before_more (above l) (last l) [])
