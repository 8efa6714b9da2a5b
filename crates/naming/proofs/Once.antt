-- Lists of numbers in which no number stands twice.
use mathlib.Core.Path.{◌≡◌, refl, sym, ◌∙◌}
use mathlib.Core.Logic.Iff
use mathlib.Core.Logic.{◌↔◌, inl, inr, ⊎_elim}
use mathlib.Core.Bool.{Bool, true, false, cond, ◌||◌, not}
use mathlib.Core.List.Memᴰ
use mathlib.Core.List.{List, [], ◌∷◌}
use Prim.Native.Nat.{ℕ, zero, suc, ◌≤◌, ◌<◌}
use native.Mathlib.Nat.{not-suc-le-zero, le_of_suc-le-suc}
use native.Mathlib.Omega.{arith}
use lib.ListN.{length, get_or}
use lib.Dec.{T, eqb, T_not, not_T}
use Rattle.basics.specs.Basics.{◌∈◌, keep, stands}
use Rattle.naming.specs.Names.{twice}
use Rattle.basics.proofs.Tests.{or_iff, eqb_alike, Tells, passes, fails, eq?}
use Rattle.basics.proofs.Lists.{here, keep_iff, keep_all, member_at, stands_iff}

-- no number stands twice exactly if the first does not stand again and in the rest none stands twice
pub once_cons : (x : ℕ) (xs : List ℕ) → T (not (twice (x ∷ xs))) ↔ ((x ∈ xs → ⊥) × T (not (twice xs)))
unfolding twice
once_cons x xs = (
  λ h.
      let never = T_not (stands x xs || twice xs) h in
      (λ m. never ((or_iff (stands x xs) _).1 (inl ((stands_iff x xs).1 m))), not_T (twice xs) (λ t. never ((or_iff (stands x xs) _).1 (inr t)))),
  λ p. not_T (stands x xs || twice xs) (λ t. ⊎_elim (λ k. p.0 ((stands_iff x xs).0 k)) (T_not (twice xs) p.1) ((or_iff (stands x xs) _).0 t)),
)

-- the members at two places of a list differ
abbrev pub Differ : {A : Type 0} → A → List A → Type 0
Differ d l = (i j : ℕ) → i < j → j < length l → get_or l i d ≡ get_or l j d → ⊥

-- the members of a list differ exactly if the first does not stand again and those of the rest differ
pub differ_cons : {A : Type 0} (d x : A) (xs : List A) → Differ d (x ∷ xs) ↔ ((x ∈ xs → ⊥) × Differ d xs)
differ_cons d x xs = (
  λ h. (
    λ m. let (i, p, e) = (member_at d xs x).0 m in h 0 (suc i) (omega arith) (omega arith) (sym e),
    λ i j p q. h (suc i) (suc j) (omega arith) (omega arith),
  ),
  λ h. go h.0 h.1,
)
  where
    go : (x ∈ xs → ⊥) → Differ d xs → Differ d (x ∷ xs)
    go new apart zero zero p q e = omega arith
    go new apart (suc i) zero p q e = omega arith
    go new apart zero (suc j) p q e = new ((member_at d xs x).1 (j, le_of_suc-le-suc q, sym e))
    go new apart (suc i) (suc j) p q e = apart i j (le_of_suc-le-suc p) (le_of_suc-le-suc q) e

-- no number stands twice exactly if the numbers at any two places differ
pub twice_iff : (l : List ℕ) → T (not (twice l)) ↔ Differ 0 l
unfolding twice
twice_iff [] = (λ h i j p q. absurd (not-suc-le-zero q), λ h. tt)
twice_iff (x ∷ xs) = Iff.trans (once_cons x xs) (Iff.trans (Iff.and Iff.rfl (twice_iff xs)) (Iff.symm (differ_cons 0 x xs)))

-- where no number of a list stands twice, none does in what a test keeps of it
pub keep_once : (f : ℕ → Bool) (l : List ℕ) → T (not (twice l)) → T (not (twice (keep f l)))
unfolding keep twice
keep_once f [] h = tt
keep_once f (x ∷ l) h = let (new, apart) = (once_cons x l).0 h in go new (keep_once f l apart) (f x)
  where
    go : (x ∈ l → ⊥) → T (not (twice (keep f l))) → (b : Bool) → T (not (twice (cond b (x ∷ keep f l) (keep f l))))
    go new below true = (once_cons x (keep f l)).1 (λ m. new ((keep_iff f l x).0 m).0, below)
    go new below false = below

-- where no number of a list stands twice, leaving out one number leaves at most one member less
without_one : (n : ℕ) (l : List ℕ) → T (not (twice l)) → length l ≤ suc (length (keep (λ c. not (eqb c n)) l))
unfolding keep
without_one n [] h = omega arith
without_one n (x ∷ l) h = let (new, apart) = (once_cons x l).0 h in go new (without_one n l apart) (eqb x n) (eq? x n)
  where
    rest : List ℕ
    rest = keep (λ c. not (eqb c n)) l

    go : (x ∈ l → ⊥) → length l ≤ suc (length rest) → (b : Bool) → Tells (x ≡ n) b → suc (length l) ≤ suc (length (cond (not b) (x ∷ rest) rest))
    go new below true (passes e) =
        let other : (a : ℕ) → a ∈ l → T (not (eqb a n)) = λ a m. not_T (eqb a n) (λ t. new (Memᴰ.cast (e ∙ sym ((eqb_alike a n).0 t)) m)) in
        rw (keep_all (λ c. not (eqb c n)) l other) (omega arith)
    go new below false (fails k) = omega arith

-- a list of numbers below n in which none stands twice has at most n members
pub pigeonhole : (n : ℕ) (l : List ℕ) → T (not (twice l)) → ((c : ℕ) → c ∈ l → c < n) → length l ≤ n
pigeonhole zero [] h k = omega arith
pigeonhole zero (x ∷ l) h k = absurd (not-suc-le-zero (k x (here refl)))
pigeonhole (suc n) l h k =
    let kept = pigeonhole n (keep other l) (keep_once other l h) (λ c m. let (p, q) = (keep_iff other l c).0 m in below c q (k c p)) in
    omega (arith, without_one n l h)
  where
    other : ℕ → Bool
    other c = not (eqb c n)

    below : (c : ℕ) → T (other c) → c < suc n → c < n
    below c t p = let d : c ≡ n → ⊥ = λ e. T_not (eqb c n) t ((eqb_alike c n).1 e) in omega arith
