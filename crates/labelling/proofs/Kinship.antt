-- What two labels share, how one stands to the other, and the order that follows from it.
use mathlib.Core.Path.{◌≡◌, refl, sym, ap, ap₂, subst, ◌∙◌}
use mathlib.Core.Logic.{◌↔◌, ◌⊎◌, inl, inr, ⊎_elim, ⊎_map}
use mathlib.Core.Bool.{Bool, true, false, cond}
use mathlib.Core.List.{[], ◌∷◌, ◌++◌, append-nil}
use Prim.Native.Nat.{ℕ, suc, ◌+◌, ◌≤◌, suc-le-suc}
use native.Mathlib.Omega.{arith}
use lib.ListN.{length, take, drop, take-append-drop, length-append}
use lib.Seq.{length-take-le}
use lib.Dec.{T, eqb, eqb→eq, eqb-suc-zero}
use Rattle.labelling.specs.Labels.{Label, before, shared, within, kinship, follows}
use Rattle.basics.proofs.Tests.{decide, is_true, is_false, test_equal, eqb_alike, Tells, passes, fails, eq?}
use Rattle.labelling.proofs.LabelOrder.{before_order, before_more, within_iff, within_self, Precedes, precedes_iff}

-- two labels are alike as far as they share components
pub shared_alike : (l m : Label) → take (shared l m) l ≡ take (shared l m) m
unfolding shared
shared_alike [] m = refl
shared_alike (x ∷ l) [] = refl
shared_alike (x ∷ l) (y ∷ m) = go (eqb x y) (eq? x y) (shared_alike l m)
  where
    go : (b : Bool) → Tells (x ≡ y) b → take (shared l m) l ≡ take (shared l m) m →
        take (cond b (suc (shared l m)) 0) (x ∷ l) ≡ take (cond b (suc (shared l m)) 0) (y ∷ m)
    go true (passes e) below = ap₂ ◌∷◌ e below
    go false (fails n) below = refl

-- two labels share no more components than the first has
pub shared_low : (l m : Label) → shared l m ≤ length l
unfolding shared
shared_low [] m = omega arith
shared_low (x ∷ l) [] = omega arith
shared_low (x ∷ l) (y ∷ m) = go (eqb x y) (shared_low l m)
  where
    go : (b : Bool) → shared l m ≤ length l → cond b (suc (shared l m)) 0 ≤ suc (length l)
    go true below = suc-le-suc below
    go false below = omega arith

-- labels that go on from one label share at least that label's components
shared_append : (p l m : Label) → length p ≤ shared (p ++ l) (p ++ m)
unfolding shared
shared_append [] l m = omega arith
shared_append (x ∷ p) l m = rw (is_true (eqb x x) ((eqb_alike x x).1 refl)) (suc-le-suc (shared_append p l m))

-- two labels share at least the components of any label that both go on from
pub shared_most : (p l m : Label) → T (within p l) → T (within p m) → length p ≤ shared l m
shared_most p l m h k =
    let (r, e) = (within_iff p l).0 h in
    let (s, d) = (within_iff p m).0 k in
    rw (e, d) (shared_append p r s)

-- a label shares all of its components with itself
pub shared_self : (l : Label) → shared l l ≡ length l
unfolding within
shared_self l = eqb→eq (shared l l) (length l) (within_self l)

-- the second of two labels shares with the first no fewer components than the first with the second
shared_back : (l m : Label) → shared l m ≤ shared m l
shared_back l m =
    let p = take (shared l m) l in
    let on_l = (within_iff p l).1 (drop (shared l m) l, sym (take-append-drop (shared l m) l)) in
    let on_m = (within_iff p m).1 (drop (shared l m) m, rw (shared_alike l m) (sym (take-append-drop (shared l m) m))) in
    omega (arith, length-take-le (shared l m) l (shared_low l m), shared_most p m l on_m on_l)

-- two labels share as many components either way round
pub shared_comm : (l m : Label) → shared l m ≡ shared m l
shared_comm l m = omega (arith, shared_back l m, shared_back m l)

-- kinship of a first label to a second, by what each goes on from
pub data Kin (l m : Label) : ℕ → Type 0 where
  same_label : l ≡ m → Kin l m 0
  parent : (c : ℕ) → m ≡ l ++ (c ∷ []) → Kin l m 1
  ancestor : (c d : ℕ) (rest : Label) → m ≡ l ++ (c ∷ d ∷ rest) → Kin l m 2
  child : (c : ℕ) → l ≡ m ++ (c ∷ []) → Kin l m 3
  descendant : (c d : ℕ) (rest : Label) → l ≡ m ++ (c ∷ d ∷ rest) → Kin l m 4
  apart : (T (within l m) → ⊥) → (T (within m l) → ⊥) → Kin l m 5

-- the kinship of the second label to the first, by that of the first to the second
unfoldable pub turned : ℕ → ℕ
turned k = cond (eqb k 1) 3 (cond (eqb k 2) 4 (cond (eqb k 3) 1 (cond (eqb k 4) 2 k)))

-- exchanging two labels turns their kinship
pub kinship_turned : (l m : Label) → kinship m l ≡ turned (kinship l m)
unfolding kinship turned
kinship_turned l m = go (within l m) (within m l) (eqb (length m) (length l + 1)) (eqb (length l) (length m + 1))
  where
    go : (up down next back : Bool) →
        cond down (cond up 0 (cond back 1 2)) (cond up (cond next 3 4) 5) ≡
        turned (cond up (cond down 0 (cond next 1 2)) (cond down (cond back 3 4) 5))
    go true true next back = refl
    go true false true back = refl
    go true false false back = refl
    go false true next true = refl
    go false true next false = refl
    go false false next back = refl

-- exchanging two labels turns what holds of them
turn : {l m : Label} {k : ℕ} → Kin l m k → Kin m l (turned k)
unfolding turned
turn (same_label e) = same_label (sym e)
turn (parent c e) = child c e
turn (ancestor c d rest e) = descendant c d rest e
turn (child c e) = parent c e
turn (descendant c d rest e) = ancestor c d rest e
turn (apart h k) = apart k h

-- a label that goes on is not within the one it goes on from
more_not_within : (l : Label) (c : ℕ) (rest : Label) → T (within (l ++ (c ∷ rest)) l) → ⊥
more_not_within l c rest h =
    let (r, e) = (within_iff (l ++ (c ∷ rest)) l).0 h in
    omega (arith, simp length-append at (ap length e))

-- kinship to a label that goes on, by what it goes on with
kinship_more : (l : Label) (c : ℕ) (rest : Label) → kinship l (l ++ (c ∷ rest)) ≡ cond (eqb (length rest) 0) 1 2
unfolding kinship
kinship_more l c rest =
    let m = l ++ (c ∷ rest) in
    let long : length m ≡ length l + suc (length rest) = length-append l (c ∷ rest) in
    let one : eqb (length m) (length l + 1) ≡ eqb (length rest) 0 = test_equal _ _ (
      λ h. (eqb_alike (length rest) 0).1 (omega (arith, eqb→eq (length m) (length l + 1) h)),
      λ h. (eqb_alike (length m) (length l + 1)).1 (omega (arith, eqb→eq (length rest) 0 h)),
    ) in
    rw (is_true (within l m) ((within_iff l m).1 (c ∷ rest, refl)), is_false (within m l) (more_not_within l c rest), one)

-- the kinship of a label to itself is 0
kinship_self : (l : Label) → kinship l l ≡ 0
unfolding kinship
kinship_self l = rw (is_true (within l l) (within_self l))

-- labels of which neither goes on from the other have kinship 5
kinship_apart : (l m : Label) → (T (within l m) → ⊥) → (T (within m l) → ⊥) → kinship l m ≡ 5
unfolding kinship
kinship_apart l m h k = rw (is_false (within l m) h, is_false (within m l) k)

-- the kinship of a label to one two or more levels below is 2
kinship_deeper : (l : Label) (c d : ℕ) (rest : Label) → kinship l (l ++ (c ∷ d ∷ rest)) ≡ 2
kinship_deeper l c d rest = kinship_more l c (d ∷ rest) ∙ rw eqb-suc-zero

-- where one of the six kinships holds, `kinship` gives its number
pub kinship_of_lem : {l m : Label} {k : ℕ} → Kin l m k → kinship l m ≡ k
unfolding turned
kinship_of_lem {m} (same_label e) = rw e (kinship_self m)
kinship_of_lem {l} (parent c e) = rw e (kinship_more l c [])
kinship_of_lem {l} (ancestor c d rest e) = rw e (kinship_deeper l c d rest)
kinship_of_lem {l} {m} (child c e) = kinship_turned m l ∙ rw e (ap turned (kinship_more m c []))
kinship_of_lem {l} {m} (descendant c d rest e) = kinship_turned m l ∙ rw e (ap turned (kinship_deeper m c d rest))
kinship_of_lem {l} {m} (apart h k) = kinship_apart l m h k

-- a label within another is the same, its parent or a higher ancestor
pub within_kin : (l m : Label) → T (within l m) → Kin l m 0 ⊎ Kin l m 1 ⊎ Kin l m 2
within_kin l m h = let (rest, e) = (within_iff l m).0 h in go rest e
  where
    go : (rest : Label) → m ≡ l ++ rest → Kin l m 0 ⊎ Kin l m 1 ⊎ Kin l m 2
    go [] e = inl (same_label (sym (e ∙ append-nil l)))
    go (c ∷ []) e = inr (inl (parent c e))
    go (c ∷ d ∷ rest) e = inr (inr (ancestor c d rest e))

-- where the first label is within the second, the kinship whose number `kinship` gives holds
within_says : (l m : Label) → T (within l m) → Kin l m (kinship l m)
within_says l m h = ⊎_elim said (⊎_elim said said) (within_kin l m h)
  where
    said : {k : ℕ} → Kin l m k → Kin l m (kinship l m)
    said kin = rw (kinship_of_lem kin) kin

-- the kinship whose number `kinship` gives holds
pub kinship_says : (l m : Label) → Kin l m (kinship l m)
kinship_says l m = go (decide (within l m)) (decide (within m l))
  where
    go : T (within l m) ⊎ (T (within l m) → ⊥) → T (within m l) ⊎ (T (within m l) → ⊥) → Kin l m (kinship l m)
    go (inl h) k = within_says l m h
    go (inr h) (inl k) = rw (kinship_turned m l) (turn (within_says m l k))
    go (inr h) (inr k) = rw (kinship_apart l m h k) (apart h k)

-- exactly one of the six kinships holds, and `kinship` gives its number
pub kin_iff : (l m : Label) (k : ℕ) → Kin l m k ↔ (kinship l m ≡ k)
kin_iff l m k = (kinship_of_lem, λ e. subst (Kin l m) e (kinship_says l m))

-- A label follows another exactly if it goes on from the other, or is greater at the first component where they differ.
pub follows_iff : (l m : Label) → T (follows l m) ↔ Precedes m l
unfolding follows
follows_iff l m = precedes_iff m l

-- of two labels one follows the other, or they are equal
pub follows_one : (l m : Label) → T (follows l m) ⊎ (l ≡ m) ⊎ T (follows m l)
unfolding follows
follows_one l m = ⊎_map (λ h. h) (⊎_map sym (λ h. h)) (before_order.total m l)

-- no label follows itself
pub follows_never : (l : Label) → T (follows l l) → ⊥
unfolding follows
follows_never = before_order.never

-- a descendant follows its ancestor
pub descendant_follows : (l m : Label) → T (within m l) → (l ≡ m → ⊥) → T (follows l m)
unfolding follows
descendant_follows l m h n = let (rest, e) = (within_iff m l).0 h in rw e (go rest e)
  where
    go : (rest : Label) → l ≡ m ++ rest → T (before m (m ++ rest))
    go [] e = absurd (n (e ∙ append-nil m))
    go (x ∷ rest) e = before_more m x rest
