-- Every definition of the crate at once, and of the crates below it, for examples that the checker works through.
use Rattle.cut_calls.specs.Cutting.{stream, streams, full_list, cut_refusal, cut}
use Rattle.cut_calls.specs.RefusalChecks.{cut_refusals}
use Rattle.embeddings.proofs.Computing.{computing as patterns}
use Rattle.storage.proofs.Computing.{computing as records}

-- `unfolding computing` opens every definition named here
unfoldable pub computing : Unit {0}
unfolding patterns records stream streams full_list cut_refusal cut cut_refusals
computing = tt
