-- What is printed, check by check: the line of a refusal where one refuses, else what the others decide.
use Prim.Native.Nat.{ℕ}
use mathlib.Core.Path.{◌≡◌, ap}
use mathlib.Core.List.{List, [], ◌∷◌}
use mathlib.Core.Option.{Option, none, some}
use native.Mathlib.Omega.{arith}
use lib.ListN.{length}
use Rattle.basics.specs.Basics.{elim?, over}
use Rattle.basics.specs.Refusals.{Refusal, first}
use Rattle.embeddings.specs.Matches.{Match}
use Rattle.printouts.specs.Printing.{matches_text, refusal_text}
use Rattle.basics.proofs.Refusals.{first_rest, first_here}
use Rattle.refusals.specs.Answers.{verdict_of, refusal_of}
use Rattle.refusals.specs.declared.Refusal as declared
use Rattle.refusals.specs.declared.Verdict.{Verdict}
use Rattle.refusals.specs.declared.Verdict.TheVariants as verdict
use Rattle.printing.specs.Texts.{Prints, refusal_told, printed_by}

-- a refusal that was answered is the check's
told_is : (o : Option Refusal) {v : Verdict} {x : declared.Refusal} → v ≡ verdict_of o → v ≡ verdict.Refused x → o ≡ some (refusal_told x)
told_is none is e = absurd (let z : ◌≡◌ {A = ℕ} 0 1 = cc in omega arith)
told_is (some r) {x = x} is e = let same : refusal_of r ≡ x = cc in ap (λ x. some (refusal_told x)) same

-- equal bytes are printed alike
pub prints_as : {a b : List ℕ} {n : ℕ} {left text : List ℕ} → b ≡ a → Prints a n left text → Prints b n left text
prints_as e p = rw e p

-- bytes printed, as two equations
pub prints_told : {bytes : List ℕ} {n : ℕ} {left text : List ℕ} → Prints bytes n left text → (n ≡ length bytes) × (left ≡ over bytes text)
prints_told p = (p.many, p.stand)

-- matches are printed where no check is left
pub prints_matches : (ms : List Match) {n : ℕ} {left text : List ℕ} → n ≡ length (matches_text ms) → left ≡ over (matches_text ms) text →
    Prints (printed_by [] ms) n left text
unfolding printed_by first elim?
prints_matches ms e f = record { many = e; stand = f }

module _ (o : Option Refusal) (cs : List (Option Refusal)) (ms : List Match) where
  -- a check that does not refuse can be left out
  pub printed_on : o ≡ none → printed_by (o ∷ cs) ms ≡ printed_by cs ms
  unfolding printed_by
  printed_on e = ap (λ r. elim? r (matches_text ms) refusal_text) (first_rest o cs e)

  -- a check that refuses has its refusal printed
  pub printed_refused : {v : Verdict} {x : declared.Refusal} → v ≡ verdict_of o → v ≡ verdict.Refused x →
      {n : ℕ} {left text : List ℕ} → Prints (refusal_text (refusal_told x)) n left text → Prints (printed_by (o ∷ cs) ms) n left text
  unfolding printed_by elim?
  printed_refused is e = prints_as (ap (λ r. elim? r (matches_text ms) refusal_text) (first_here _ o cs (told_is o is e)))
