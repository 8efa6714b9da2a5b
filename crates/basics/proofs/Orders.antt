-- Orders that are given by a test.
use mathlib.Core.Path.{◌≡◌, refl, sym, ◌∙◌}
use mathlib.Core.Logic.{◌↔◌, ◌⊎◌, inl, inr, ⊎_elim, ⊎_map}
use mathlib.Core.Bool.{Bool, ◌&&◌}
use mathlib.Core.List.{List, [], ◌∷◌}
use Prim.Native.Nat.{ℕ, ◌<◌}
use native.Mathlib.Decide.{dec_lt}
use native.Mathlib.Omega.{arith}
use lib.Dec.{T, ltb, ltb→lt, lt→ltb}
use Rattle.basics.specs.Basics.{lex}
use Rattle.basics.proofs.Tests.{or_iff, and_iff, Alike}

-- a strict total order: no member before itself, a chain, and of two members one before the other or both equal
pub record Order {A : Type 0} (less : A → A → Bool) : Type 0 where
  pub never : (a : A) → T (less a a) → ⊥
  pub chain : (a b c : A) → T (less a b) → T (less b c) → T (less a c)
  pub total : (a b : A) → T (less a b) ⊎ (a ≡ b) ⊎ T (less b a)

-- an order in which no two members come before each other
pub record OneWay {A : Type 0} (less : A → A → Bool) : Type 0 where
  pub asym : (a b : A) → T (less a b) → T (less b a) → ⊥

-- in a strict total order no two members come before each other
pub one_way : {A : Type 0} {less : A → A → Bool} → Order less → OneWay less
one_way o = record { asym = λ a b h k. o.never a (o.chain a b a h k) }

module _ {A : Type 0} (less same : A → A → Bool) (alike : Alike same) where
  -- a list comes before another by its first member, or by the rest where the first members are equal
  pub lex_iff : (a b : A) (l m : List A) → T (lex less same (a ∷ l) (b ∷ m)) ↔ (T (less a b) ⊎ ((a ≡ b) × T (lex less same l m)))
  lex_iff a b l m = (λ h. ⊎_map (λ k. k) down ((or_iff (less a b) _).0 h), λ k. (or_iff (less a b) _).1 (⊎_map (λ k. k) up k))
    where
      down : T (same a b && lex less same l m) → (a ≡ b) × T (lex less same l m)
      down h = ((alike a b).0 ((and_iff (same a b) _).0 h).0, ((and_iff (same a b) _).0 h).1)

      up : (a ≡ b) × T (lex less same l m) → T (same a b && lex less same l m)
      up k = (and_iff (same a b) _).1 ((alike a b).1 k.0, k.1)

  module _ (o : Order less) where
    -- no list comes before itself
    lex_never : (l : List A) → T (lex less same l l) → ⊥
    lex_never [] h = h
    lex_never (a ∷ l) h = ⊎_elim (o.never a) (λ k. lex_never l k.1) ((lex_iff a a l l).0 h)

    -- a list before another comes before whatever the other comes before
    lex_chain : (l m n : List A) → T (lex less same l m) → T (lex less same m n) → T (lex less same l n)
    lex_chain [] [] n h k = absurd h
    lex_chain [] (b ∷ m) [] h k = k
    lex_chain [] (b ∷ m) (c ∷ n) h k = tt
    lex_chain (a ∷ l) [] n h k = absurd h
    lex_chain (a ∷ l) (b ∷ m) [] h k = k
    lex_chain (a ∷ l) (b ∷ m) (c ∷ n) h k = (lex_iff a c l n).1 (go (lex_chain l m n) ((lex_iff a b l m).0 h) ((lex_iff b c m n).0 k))
      where
        go : (T (lex less same l m) → T (lex less same m n) → T (lex less same l n)) →
            T (less a b) ⊎ ((a ≡ b) × T (lex less same l m)) → T (less b c) ⊎ ((b ≡ c) × T (lex less same m n)) →
            T (less a c) ⊎ ((a ≡ c) × T (lex less same l n))
        go below (inl p) (inl q) = inl (o.chain a b c p q)
        go below (inl p) (inr q) = inl (rw q.0 at p)
        go below (inr p) (inl q) = inl (rw p.0 q)
        go below (inr p) (inr q) = inr (p.0 ∙ q.0, below p.1 q.1)

    -- of two lists one comes before the other, or they are equal
    lex_total : (l m : List A) → T (lex less same l m) ⊎ (l ≡ m) ⊎ T (lex less same m l)
    lex_total [] [] = inr (inl refl)
    lex_total [] (b ∷ m) = inl tt
    lex_total (a ∷ l) [] = inr (inr tt)
    lex_total (a ∷ l) (b ∷ m) = go (o.total a b) (lex_total l m)
      where
        go : T (less a b) ⊎ (a ≡ b) ⊎ T (less b a) → T (lex less same l m) ⊎ (l ≡ m) ⊎ T (lex less same m l) →
            T (lex less same (a ∷ l) (b ∷ m)) ⊎ (a ∷ l ≡ b ∷ m) ⊎ T (lex less same (b ∷ m) (a ∷ l))
        go (inl p) q = inl ((lex_iff a b l m).1 (inl p))
        go (inr (inl p)) (inl q) = inl ((lex_iff a b l m).1 (inr (p, q)))
        go (inr (inl p)) (inr (inl q)) = inr (inl (cc))
        go (inr (inl p)) (inr (inr q)) = inr (inr ((lex_iff b a m l).1 (inr (sym p, q))))
        go (inr (inr p)) q = inr (inr ((lex_iff b a m l).1 (inl p)))

    -- comparing lists by a strict total order of their members is a strict total order
    pub lex_order : Order (lex less same)
    lex_order = record { never = lex_never; chain = lex_chain; total = lex_total }

-- of two numbers one is below the other, or they are equal
ltb_total : (a b : ℕ) → T (ltb a b) ⊎ (a ≡ b) ⊎ T (ltb b a)
ltb_total a b = go (dec_lt a b) (dec_lt b a)
  where
    go : Dec (a < b) → Dec (b < a) → T (ltb a b) ⊎ (a ≡ b) ⊎ T (ltb b a)
    go (yes p) q = inl (lt→ltb a b p)
    go (no p) (yes q) = inr (inr (lt→ltb b a q))
    go (no p) (no q) = inr (inl (omega arith))

-- the order of numbers is a strict total order
pub ltb_order : Order ltb
ltb_order = record {
  never = λ a h. let p = ltb→lt a a h in omega arith;
  chain = λ a b c h k. lt→ltb a c (omega (arith, ltb→lt a b h, ltb→lt b c k));
  total = ltb_total;
}
