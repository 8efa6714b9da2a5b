-- `moving::copy_record` meets its contract: the words of the record before the index are written.
use Prim.Native.Nat.{◌≤◌, ◌-◌, ◌*◌}
use mathlib.Core.Path.{◌≡◌}
use borrow.Author.Rules.{rules}
use lib.ListN.{length, drop}
use lib.Seq.{paste, paste-zero}
use Rattle.basics.specs.Limits.{record_size}
use Rattle.moving.proofs.Moves.{copy_more, put_is}
use Rattle.moving.proofs.copy_record.Statement.{statement}
use Rattle.moving.proofs.copy_record.Tie as tie

abbrev invariant-loop-i : tie.invariant-loop-i
invariant-loop-i words₀ from to i₀ words i = (i ≤ record_size) × (length words ≡ length words₀) × (words ≡ paste words₀ (record_size * to) (drop (record_size * from) words₀) i)

abbrev decreases-loop-i : tie.decreases-loop-i
decreases-loop-i words₀ from to i₀ words i = record_size - i

pub copy_record_spec : {M : Type 1} → statement M
copy_record_spec =
    tie.close
    (tie.spec
    invariant-loop-i
    decreases-loop-i
    (λ c. search (paste-zero, rules))
    (λ c. search rules)
    (λ c. search rules)
    (λ c. search rules)
    (λ c. search rules)
    (λ c. search rules)
    (λ c. search rules)
    (λ c. search rules)
    (λ c. search rules)
    (λ c. search rules)
    (λ c. search rules)
    (λ c. search (copy_more, rules))
    (λ c. search rules)
    (λ c. search (put_is, rules)))
