-- Label order by the part that two labels share.
use Prim.Native.Nat.{ℕ, suc, ◌<◌, ◌≤◌}
use mathlib.Core.Path.{◌≡◌, refl, sym, ap, subst, ◌∙◌}
use mathlib.Core.Bool.{Bool, true, false, cond}
use mathlib.Core.List.{[], ◌∷◌}
use native.Mathlib.Omega.{arith}
use lib.ListN.{length, get_or, drop}
use lib.Dec.{ltb, eqb}
use borrow.Author.Tests.{eq-eqb, le-ltb}
use Rattle.labelling.specs.Labels.{Label, before, shared}
use Rattle.basics.proofs.Tests.{Tells, passes, fails, eq?}
use Rattle.label_order.proofs.Steps.{before_end, before_prefix, before_decided}

-- what two labels share leaves their order to the rest
shared_rest : (l m : Label) → before l m ≡ before (drop (shared l m) l) (drop (shared l m) m)
unfolding shared before
shared_rest [] m = refl
shared_rest (x ∷ l) [] = refl
shared_rest (x ∷ l) (y ∷ m) = go (eqb x y) (eq? x y) (shared_rest l m)
  where
    go : (b : Bool) → Tells (x ≡ y) b → before l m ≡ before (drop (shared l m) l) (drop (shared l m) m) →
        before (x ∷ l) (y ∷ m) ≡ before (drop (cond b (suc (shared l m)) 0) (x ∷ l)) (drop (cond b (suc (shared l m)) 0) (y ∷ m))
    go true (passes e) below = rw (e, le-ltb y y (omega arith), eq-eqb y y refl) below
    go false h below = refl

-- two labels differ in the component behind the part that they share
shared_parts : (l m : Label) → shared l m < length l → shared l m < length m → get_or l (shared l m) 0 ≡ get_or m (shared l m) 0 → ⊥
unfolding shared
shared_parts [] m h k e = absurd (omega arith)
shared_parts (x ∷ l) [] h k e = absurd (omega arith)
shared_parts (x ∷ l) (y ∷ m) h k e = go (eqb x y) (eq? x y) (shared_parts l m) h k e
  where
    go : (b : Bool) → Tells (x ≡ y) b → (shared l m < length l → shared l m < length m → get_or l (shared l m) 0 ≡ get_or m (shared l m) 0 → ⊥) →
        cond b (suc (shared l m)) 0 < suc (length l) → cond b (suc (shared l m)) 0 < suc (length m) →
        get_or (x ∷ l) (cond b (suc (shared l m)) 0) 0 ≡ get_or (y ∷ m) (cond b (suc (shared l m)) 0) 0 → ⊥
    go true p below h k e = below (omega arith) (omega arith) e
    go false (fails n) below h k e = n e

module _ (l m : Label) {s : ℕ} (is : s ≡ shared l m) where
  -- the order is left to what stands behind the part shared
  rest : before l m ≡ before (drop s l) (drop s m)
  rest = shared_rest l m ∙ ap (λ s. before (drop s l) (drop s m)) (sym is)

  -- where all of the second label is shared, the first is not before it
  pub order_none : length m ≤ s → false ≡ before l m
  order_none h = before_end l m s rest h

  module _ (h : s < length m) where
    -- where all of the first label is shared, and not all of the second, the first is before it
    pub order_prefix : length l ≤ s → true ≡ before l m
    order_prefix k = before_prefix l m s rest h k

    -- where neither label is shared whole, the components behind the shared part decide
    pub order_decided : s < length l → ltb (get_or l s 0) (get_or m s 0) ≡ before l m
    order_decided k = before_decided l m s rest h k part
      where
        part : get_or l s 0 ≡ get_or m s 0 → ⊥
        part = subst (λ s. s < length l → s < length m → get_or l s 0 ≡ get_or m s 0 → ⊥) (sym is) (shared_parts l m) k h
