-- Lists of checks, and answers that hang on a refusal.
use mathlib.Core.Path.{◌≡◌, refl, sym, ap, subst, ◌∙◌}
use mathlib.Core.Logic.{◌↔◌, ◌⊎◌, inl, inr}
use mathlib.Core.Bool.{Bool, true, false}
use mathlib.Core.List.{List, [], ◌∷◌, ◌++◌}
use mathlib.Core.Option.{Option, none, some, none-ne-some, some-ne-none, some-injective}
use Prim.Native.Nat.{ℕ}
use lib.Dec.{T}
use Rattle.basics.specs.Basics.{◌∈◌, elim?}
use Rattle.basics.specs.Refusals.{Refusal, refuse, check, first}
use Rattle.basics.proofs.Lists.{here, there, nowhere, for_cons}

-- a first and a third check that pass, those of table and records, can be left out
pub first_skip : (o : Option Refusal) (cs : List (Option Refusal)) → first (none ∷ o ∷ none ∷ cs) ≡ first (o ∷ cs)
unfolding first
first_skip none cs = refl
first_skip (some r) cs = refl

-- where no check of a list refuses, the first does not and the others do not
pub first_none : (o : Option Refusal) (cs : List (Option Refusal)) → first (o ∷ cs) ≡ none → (o ≡ none) × (first cs ≡ none)
unfolding first
first_none none cs e = (refl, e)
first_none (some r) cs e = absurd (some-ne-none r e)

-- a check that does not refuse has passed
pub check_none : (b : Bool) (n place : ℕ) → check b n place ≡ none → T b
unfolding check
check_none true n place e = tt
check_none false n place e = absurd (some-ne-none _ e)

-- a check that passes does not refuse
pub check_passed : (b : Bool) (n place : ℕ) → T b → check b n place ≡ none
unfolding check
check_passed true n place t = refl
check_passed false n place t = absurd t

-- a check that fails refuses
pub check_failed : (b : Bool) (n place : ℕ) → (T b → ⊥) → check b n place ≡ refuse n place
unfolding check
check_failed true n place h = absurd (h tt)
check_failed false n place h = refl

-- equal refusals have the same number
pub refuse_number : {m n i j : ℕ} → refuse m i ≡ refuse n j → m ≡ n
refuse_number e = ap (λ (r : Refusal). r.number) (some-injective _ _ e)

-- a check passes exactly if the fact holds that its test tells
pub check_iff : {P : Type 0} (b : Bool) (n place : ℕ) → T b ↔ P → check b n place ≡ none ↔ P
check_iff b n place e = (λ h. e.0 (check_none b n place h), λ p. check_passed b n place (e.1 p))

-- a check refuses exactly if the fact that its test tells does not hold
pub check_refuses : {P : Type 0} (b : Bool) (n place : ℕ) → T b ↔ P → check b n place ≡ refuse n place ↔ (P → ⊥)
check_refuses b n place e = (
  λ h p. none-ne-some _ (sym (check_passed b n place (e.1 p)) ∙ h),
  λ h. check_failed b n place (λ t. h (e.0 t)),
)

-- a check that does not refuse can be left out
pub first_rest : (o : Option Refusal) (cs : List (Option Refusal)) → o ≡ none → first (o ∷ cs) ≡ first cs
unfolding first
first_rest none cs e = refl
first_rest (some r) cs e = absurd (some-ne-none r e)

-- a list of one check refuses as that check does
pub first_last : (o : Option Refusal) → first (o ∷ []) ≡ o
unfolding first
first_last none = refl
first_last (some r) = refl

-- where neither the first check refuses nor the others do, none does
pub first_passed : (o : Option Refusal) (cs : List (Option Refusal)) → o ≡ none → first cs ≡ none → first (o ∷ cs) ≡ none
first_passed o cs e f = first_rest o cs e ∙ f

-- a list of one check that does not refuse refuses nothing
pub last_passed : (o : Option Refusal) → o ≡ none → first (o ∷ []) ≡ none
last_passed o e = first_last o ∙ e

-- a list of checks refuses nothing exactly if two facts hold:
-- the one by which the first check passes, and the one by which the others pass
pub first_iff : {P Q : Type 0} (o : Option Refusal) (cs : List (Option Refusal)) → o ≡ none ↔ P → first cs ≡ none ↔ Q →
    first (o ∷ cs) ≡ none ↔ (P × Q)
first_iff o cs e f = (λ h. let (a, b) = first_none o cs h in (e.0 a, f.0 b), λ h. first_passed o cs (e.1 h.0) (f.1 h.1))

-- a list of one check refuses nothing exactly if the check's fact holds
pub last_iff : {P : Type 0} (o : Option Refusal) → o ≡ none ↔ P → first (o ∷ []) ≡ none ↔ P
last_iff o e = (λ h. e.0 (first_none o [] h).0, λ p. last_passed o (e.1 p))

-- a refusal of a list is the first check's, or the first check passes and the refusal is that of the others
pub first_some : (o : Option Refusal) (cs : List (Option Refusal)) (r : Refusal) → first (o ∷ cs) ≡ some r →
    (o ≡ some r) ⊎ ((o ≡ none) × (first cs ≡ some r))
unfolding first
first_some none cs r e = inr (refl, e)
first_some (some s) cs r e = inl e

-- a list of checks refuses exactly as its first check that refuses: all checks before that one pass
pub first_refuses : (cs : List (Option Refusal)) (r : Refusal) →
    first cs ≡ some r ↔ ((passed rest : List (Option Refusal)) × (cs ≡ passed ++ (some r ∷ rest)) × ((o : Option Refusal) → o ∈ passed → o ≡ none))
unfolding first
first_refuses cs r = (told cs, λ h. ap first h.2 ∙ says h.0 h.1 h.3)
  where
    told : (cs : List (Option Refusal)) → first cs ≡ some r →
        (passed rest : List (Option Refusal)) × (cs ≡ passed ++ (some r ∷ rest)) × ((o : Option Refusal) → o ∈ passed → o ≡ none)
    told [] e = absurd (none-ne-some r e)
    told (none ∷ cs) e = let (passed, rest, split, all) = told cs e in (none ∷ passed, rest, ap (◌∷◌ none) split, for_cons (λ o. o ≡ none) refl all)
    told (some s ∷ cs) e = ([], cs, ap (λ o. o ∷ cs) e, λ o m. absurd (nowhere m))

    says : (passed rest : List (Option Refusal)) → ((o : Option Refusal) → o ∈ passed → o ≡ none) → first (passed ++ (some r ∷ rest)) ≡ some r
    says [] rest all = refl
    says (o ∷ passed) rest all = first_rest o (passed ++ (some r ∷ rest)) (all o (here refl)) ∙ says passed rest (λ o m. all o (there m))

-- where the first of two checks does not refuse, the second decides
pub first_next : (a b : Option Refusal) → a ≡ none → first (a ∷ b ∷ []) ≡ b
first_next a b e = first_rest a (b ∷ []) e ∙ first_last b

-- of two checks neither refuses exactly if the first passes and the second passes
pub first_both : (a b : Option Refusal) → first (a ∷ b ∷ []) ≡ none ↔ ((a ≡ none) × (b ≡ none))
first_both a b = (λ e. let (p, q) = first_none a (b ∷ []) e in (p, (first_none b [] q).0), λ p. first_next a b p.0 ∙ p.1)

-- a first check that refuses decides for the whole list
pub first_here : (r : Refusal) (a : Option Refusal) (cs : List (Option Refusal)) → a ≡ some r → first (a ∷ cs) ≡ some r
unfolding first
first_here r none cs e = absurd (none-ne-some r e)
first_here r (some s) cs e = e

-- an answer that hangs on a refusal is the accepted one where nothing is refused
pub taken : {A : Type 0} (o : Option Refusal) (a : A) (f : Refusal → A) → o ≡ none → elim? o a f ≡ a
unfolding elim?
taken none a f e = refl
taken (some r) a f e = absurd (some-ne-none r e)

-- an answer that carries a refusal is the refused one
pub refused_is : {A : Type 0} (refusal : A → Option Refusal) (o : Option Refusal) (a : A) (f : Refusal → A) → refusal a ≡ none →
    ((r : Refusal) → refusal (f r) ≡ some r) → (r : Refusal) → refusal (elim? o a f) ≡ some r → elim? o a f ≡ f r
unfolding elim?
refused_is refusal none a f h k r e = absurd (none-ne-some r (sym h ∙ e))
refused_is refusal (some q) a f h k r e = ap f (some-injective q r (sym (k q) ∙ e))

-- the refusal by a number at a place
abbrev pub at : ℕ → ℕ → Refusal
at n place = record { number = n; place = place }

-- every refusal that a check, or a list of checks, may give has a property
abbrev pub Each : (Refusal → Type 0) → Option Refusal → Type 0
Each P o = (r : Refusal) → o ≡ some r → P r

-- a refusal has another number than n
abbrev pub Other : ℕ → Refusal → Type 0
Other n r = r.number ≡ n → ⊥

-- a check, or a list of checks, never refuses by the number n
abbrev pub Never : ℕ → Option Refusal → Type 0
Never n = Each (Other n)

-- what holds of every refusal, by the form of the check
module _ (P : Refusal → Type 0) where
  -- a check that refuses nothing
  pub each_none : Each P none
  each_none r e = absurd (none-ne-some r e)

  -- a check that refuses by a number at a place
  pub each_refuse : (n place : ℕ) → P (at n place) → Each P (refuse n place)
  each_refuse n place p r e = subst P (some-injective _ r e) p

  -- a check whose test decides whether it refuses by a number at a place
  pub each_check : (b : Bool) (n place : ℕ) → P (at n place) → Each P (check b n place)
  unfolding check
  each_check true n place p = each_none
  each_check false n place p = each_refuse n place p

  -- a check whose test passes
  pub each_passed : (b : Bool) (n place : ℕ) → T b → Each P (check b n place)
  unfolding check
  each_passed true n place t = each_none
  each_passed false n place t = absurd t

  -- a list of checks: its first check, and its others
  pub each_first : (o : Option Refusal) (cs : List (Option Refusal)) → Each P o → Each P (first cs) → Each P (first (o ∷ cs))
  unfolding first
  each_first none cs p q = q
  each_first (some s) cs p q = p

  -- a list of one check
  pub each_last : (o : Option Refusal) → Each P o → Each P (first (o ∷ []))
  unfolding first
  each_last none p = p
  each_last (some s) p = p
