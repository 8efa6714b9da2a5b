-- `records::Store::is_slice` meets its contract: the two tests of a slice's length in turn.
use borrow.Author.Rules.{rules}
use Rattle.records.proofs.Sizes.{slice_multiple, slice_odd}
use Rattle.records.proofs.Store.is_slice.Statement.{statement}
use Rattle.records.proofs.Store.is_slice.Tie as tie

pub is_slice_spec : {M : Type 1} → statement M
is_slice_spec = tie.close (tie.spec (λ c. search (slice_multiple, rules)) (λ c. search (slice_odd, rules)))
