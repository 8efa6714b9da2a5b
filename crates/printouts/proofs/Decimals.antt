-- Numbers and labels in decimal: what is printed reads back, so that no two numbers or labels are printed alike.
use mathlib.Core.Path.{◌≡◌, refl, sym, ap, ◌∙◌}
use mathlib.Core.Logic.{⊎_elim}
use mathlib.Core.Bool.{false, cond}
use mathlib.Core.List.{List, [], ◌∷◌, ◌++◌, append-nil}
use Prim.Native.Nat.{ℕ, zero, suc, ◌+◌, ◌-◌, ◌*◌, ◌/◌, ◌%◌, ◌≤◌, ◌<◌}
use native.Mathlib.Omega.{arith}
use lib.ListN.{length, get_or, length-append, get_or-append}
use lib.Dec.{eqb, eqb→eq}
use Rattle.basics.specs.Basics.{◌∈◌}
use Rattle.labelling.specs.Labels.{Label}
use Rattle.printouts.specs.Printing.{text, digits, decimal, joined_by, label_text}
use Rattle.basics.proofs.Tests.{passes, fails, le?, is_false}
use Rattle.basics.proofs.Lists.{here, there, only_one, either_part}

-- the number that decimal digits stand for, most significant first, behind a number read before them
unfoldable pub value_of : ℕ → List ℕ → ℕ
value_of a [] = a
value_of a (d ∷ s) = value_of (a * 10 + (d - 48)) s

-- digits are read from first to last
value_append : (a : ℕ) (s t : List ℕ) → value_of a (s ++ t) ≡ value_of (value_of a s) t
unfolding value_of
value_append a [] t = refl
value_append a (d ∷ s) t = value_append (a * 10 + (d - 48)) s t

module _ (P : ℕ → List ℕ → Type 0)
    (one : (n : ℕ) → n < 10 → P n ((48 + n) ∷ []))
    (more : (n : ℕ) (s : List ℕ) → 10 ≤ n → P (n / 10) s → P n (s ++ ((48 + n % 10) ∷ []))) where
  -- What holds of a single digit, and of a number's digits where it holds of those of a tenth of the number,
  -- holds with fuel above the number.
  digits_by : (fuel n : ℕ) → n < fuel → P n (digits fuel n)
  unfolding digits
  digits_by zero n h = absurd (omega arith)
  digits_by (suc fuel) n h =
      elim (le? (suc n) 10) as (λ b _. P n (cond b ((48 + n) ∷ []) (digits fuel (n / 10) ++ ((48 + n % 10) ∷ [])))) [
        | passes p ↦ one n p
        | fails p ↦ more n (digits fuel (n / 10)) (omega arith) (digits_by fuel (n / 10) (omega arith))
      ]

  -- What holds of a single digit, and of a number's digits where it holds of those of a tenth of the number,
  -- holds of every number in decimal.
  decimal_by : (n : ℕ) → P n (decimal n)
  unfolding decimal
  decimal_by n = digits_by (suc n) n (omega arith)

-- the digits of a number stand for the number, with any fuel above it
pub digits_value : (fuel n : ℕ) → n < fuel → value_of 0 (digits fuel n) ≡ n
unfolding value_of
digits_value = digits_by (λ n s. value_of 0 s ≡ n)
    (λ n h. omega arith)
    (λ n s h e. value_append 0 s ((48 + n % 10) ∷ []) ∙ rw e (omega arith))

-- a number in decimal stands for the number
pub decimal_value : (n : ℕ) → value_of 0 (decimal n) ≡ n
unfolding decimal
decimal_value n = digits_value (suc n) n (omega arith)

-- two numbers that are printed alike are equal
pub decimal_one : (m n : ℕ) → decimal m ≡ decimal n → m ≡ n
decimal_one m n e = sym (decimal_value m) ∙ ap (value_of 0) e ∙ decimal_value n

-- a number in decimal consists of digits
pub decimal_digits : (n : ℕ) (d : ℕ) → d ∈ decimal n → (48 ≤ d) × (d ≤ 57)
decimal_digits = decimal_by (λ n s. (d : ℕ) → d ∈ s → (48 ≤ d) × (d ≤ 57))
    (λ n h d m. omega (arith, only_one m))
    (λ n s h each d m. ⊎_elim (each d) (λ k. omega (arith, only_one k)) (either_part s m))

-- digits begin with a digit, which is 0 for no number but 0
record Begins (n : ℕ) (s : List ℕ) : Type 0 where
  long : 0 < length s
  digit : 48 ≤ get_or s 0 0
  leading : 0 < n → 48 < get_or s 0 0

-- a number in decimal begins with a digit, which is 0 for no number but 0
begins : (n : ℕ) → Begins n (decimal n)
begins = decimal_by Begins
    (λ n h. record { long = omega arith; digit = omega arith; leading = λ p. omega arith })
    (λ n s h b.
    let last : List ℕ = (48 + n % 10) ∷ [] in
    let long : 0 < length s = b.long in
    let first : get_or (s ++ last) 0 0 ≡ get_or s 0 0 = get_or-append s last 0 0 long in
    record {
      long = omega (arith, length-append s last);
      digit = rw first b.digit;
      leading = λ p. rw first (b.leading (omega arith));
    })

-- a number in decimal has a digit
pub decimal_some : (n : ℕ) → 0 < length (decimal n)
decimal_some n = (begins n).long

-- a number of more than one digit has no leading zero
pub decimal_leading : (n : ℕ) → 10 ≤ n → 48 < get_or (decimal n) 0 0
decimal_leading n h = (begins n).leading (omega arith)

-- the components that a text stands for: digits, dots (46) between, behind a number read before them
unfoldable pub components_of : ℕ → List ℕ → Label
components_of a [] = a ∷ []
components_of a (d ∷ s) = cond (eqb d 46) (a ∷ components_of 0 s) (components_of (a * 10 + (d - 48)) s)

-- the label that a text stands for: the root if it begins with a dot
unfoldable pub label_read : List ℕ → Label
label_read s = cond (eqb (get_or s 0 0) 46) [] (components_of 0 s)

-- a byte of at least 48 is not a dot
no_dot : (d : ℕ) → 48 ≤ d → eqb d 46 ≡ false
no_dot d h = is_false (eqb d 46) (λ t. omega (arith, eqb→eq d 46 t))

-- digits are read before what follows them
components_digits : (a : ℕ) (s t : List ℕ) → ((d : ℕ) → d ∈ s → 48 ≤ d) → components_of a (s ++ t) ≡ components_of (value_of a s) t
unfolding components_of value_of
components_digits a [] t h = refl
components_digits a (d ∷ s) t h = rw (no_dot d (h d (here refl))) (components_digits (a * 10 + (d - 48)) s t (λ e m. h e (there m)))

-- a component in decimal is read as that component
components_decimal : (x : ℕ) (t : List ℕ) → components_of 0 (decimal x ++ t) ≡ components_of x t
components_decimal x t =
    components_digits 0 (decimal x) t (λ d m. (decimal_digits x d m).0) ∙ ap (λ a. components_of a t) (decimal_value x)

-- The text of a label below the root is its first component in decimal
-- and a text from which the other components are read.
label_parts : (x : ℕ) (l : Label) → (rest : List ℕ) × (label_text (x ∷ l) ≡ decimal x ++ rest) × ((a : ℕ) → components_of a rest ≡ a ∷ l)
unfolding label_text joined_by text components_of
label_parts x [] = ([], sym (append-nil (decimal x)), λ a. refl)
label_parts x (y ∷ l) =
    let (rest, e, f) = label_parts y l in
    (46 ∷ label_text (y ∷ l), refl, λ a. ap (λ m. a ∷ m) (ap (components_of 0) e ∙ components_decimal y rest ∙ f y))

-- the text of a label reads back as the label
pub label_text_read : (l : Label) → label_read (label_text l) ≡ l
unfolding label_read label_text text
label_text_read [] = refl
label_text_read (x ∷ l) =
    let (rest, e, f) = label_parts x l in
    let first : get_or (decimal x ++ rest) 0 0 ≡ get_or (decimal x) 0 0 = get_or-append (decimal x) rest 0 0 (decimal_some x) in
    ap label_read e ∙ rw (first, no_dot (get_or (decimal x) 0 0) (begins x).digit) (components_decimal x rest ∙ f x)

-- two labels that are printed alike are equal
pub label_text_one : (l m : Label) → label_text l ≡ label_text m → l ≡ m
label_text_one l m e = sym (label_text_read l) ∙ ap label_read e ∙ label_text_read m
