-- Giving numbers: what `number` gives, and that it leads to the name entered.
use mathlib.Core.Path.{◌≡◌, ap, subst, ◌∙◌}
use mathlib.Core.Bool.{cond}
use mathlib.Core.List.{List, [], ◌∷◌}
use mathlib.Core.Option.{some, none-ne-some}
use Prim.Native.Nat.{ℕ, suc, ◌+◌, ◌-◌, ◌*◌, ◌/◌, ◌%◌, ◌≤◌, ◌<◌}
use native.Mathlib.Nat.{mod-lt, mod-eq_of_lt, div-add-mod', mul-add-mod_self_right, suc-mul, mul-le-mul_right, lt_of_mul-lt-mul_right}
use native.Mathlib.Omega.{arith}
use lib.ListN.{length}
use Rattle.naming.specs.Names.{place_in, led}
use Rattle.labelling.specs.Numbers.{number, Least}
use Rattle.basics.proofs.Tests.{passes, fails, le?}
use Rattle.naming.proofs.NameTables.{placed_at}

-- where q is the first round whose number leaving k is at least f, that number is the least
pub least_at_lem : (n k f q : ℕ) → k < n → f ≤ q * n + k → q * n + k < f + n → Least n k f (q * n + k)
least_at_lem n k f q small up down = record {
  high = up;
  leaves = mul-add-mod_self_right q n k ∙ mod-eq_of_lt small;
  least = λ y h e.
      let d = div-add-mod' y n in
      let r : q * n < suc (y / n) * n = omega (arith, suc-mul (y / n) n) in
      let l : q < suc (y / n) = lt_of_mul-lt-mul_right n r in
      let m : q * n ≤ y / n * n = mul-le-mul_right n (omega arith) in
      omega arith;
}

-- `number` gives the least number that is at least f and leaves k
pub number_least : (n k f : ℕ) → k < n → Least n k f (number n k f)
unfolding number
number_least n k f small =
    let d = div-add-mod' f n in
    let b : f % n < n = mod-lt f (omega arith) in
    elim (le? (f % n) k) as (λ b _. Least n k f (cond b (f - f % n + k) (f - f % n + n + k))) [
      | passes h ↦
          let e : f / n * n + k ≡ f - f % n + k = omega arith in
          subst (λ x. Least n k f x) e (least_at_lem n k f (f / n) small (omega arith) (omega arith))
      | fails h ↦
          let s = suc-mul (f / n) n in
          let e : suc (f / n) * n + k ≡ f - f % n + n + k = omega arith in
          subst (λ x. Least n k f x) e (least_at_lem n k f (suc (f / n)) small (omega arith) (omega arith))
    ]

-- the number given leads to the name entered
pub led_given : (c : ℕ) (cs : List ℕ) (k f : ℕ) → place_in c cs ≡ some k → led cs (number (length cs) k f) ≡ some c
unfolding led place_in
led_given c [] k f e = absurd (none-ne-some k e)
led_given c (x ∷ xs) k f e =
    let p = placed_at c (x ∷ xs) k e in
    rw (number_least (suc (length xs)) k f p.0).leaves (ap some p.1)

-- where the next number is at most m rounds up, the number given is at most k above m rounds
pub round_bound : (n k f m : ℕ) → k < n → f ≤ m * n → number n k f ≤ m * n + k
round_bound n k f m small low =
    (number_least n k f small).least (m * n + k) (omega arith) (mul-add-mod_self_right m n k ∙ mod-eq_of_lt small)
