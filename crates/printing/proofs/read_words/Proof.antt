-- `printing::read_words` meets its contract: the words before the index are read, the others as they were.
use Prim.Native.Nat.{◌-◌, ◌/◌, ◌≤◌}
use mathlib.Core.Path.{◌≡◌}
use mathlib.Core.List.{◌++◌}
use borrow.Author.Rules.{rules}
use mir.Facts.{Fits-widen}
use lib.ListN.{length, take, drop}
use Rattle.printouts.specs.Printing.{file_words}
use Rattle.printing.proofs.Files.{byte_high, byte_pair, read_more, read_all}
use Rattle.printing.proofs.read_words.Statement.{statement}
use Rattle.printing.proofs.read_words.Tie as tie

abbrev invariant-loop-i : tie.invariant-loop-i
invariant-loop-i bytes words₀ n i₀ words i =
    (n ≡ length bytes / 2) × (i ≤ n) × (length words ≡ length words₀) × (words ≡ take i (file_words bytes) ++ drop i words₀)

abbrev decreases-loop-i : tie.decreases-loop-i
decreases-loop-i bytes words₀ n i₀ words i = n - i

pub read_words_spec : {M : Type 1} → statement M
read_words_spec =
    tie.close
    (tie.spec
    invariant-loop-i
    decreases-loop-i
    (λ c. search rules)
    (λ c. search rules)
    (λ c. search rules)
    (λ c. search rules)
    (λ c. Fits-widen tt (c.shared_slice_known-1.given _))
    (λ c. search rules)
    (λ c. search rules)
    (λ c. search rules)
    (λ c. Fits-widen tt (c.shared_slice_known-in-loop-i-1.given _))
    (λ c. byte_high (c.shared_slice_known-in-loop-i-1.given _))
    (λ c. byte_pair (c.before.shared_slice_known-1.given _) (c.shared_slice_known-in-loop-i-1.given _))
    (λ c. search rules)
    (λ c. search rules)
    (λ c. search rules)
    (λ c. search rules)
    (λ c. search (read_more, rules))
    (λ c. search rules)
    (λ c. search (read_all, rules)))
