-- Every definition of the crate at once, and of the crates below it, for examples that the checker works through.
use Rattle.match_calls.specs.Matching.{labels_in, dealt, in_stream, stream_check, labels_check, streams_check, matches_of, match_refusal, match_call}
use Rattle.match_calls.specs.Examples.{listed_for, match_call_checks}
use Rattle.match_calls.specs.RefusalChecks.{one_twig, match_refusals}
use Rattle.embeddings.proofs.Computing.{computing as below}

-- `unfolding computing` opens every definition named here
unfoldable pub computing : Unit {0}
unfolding below labels_in dealt in_stream stream_check labels_check streams_check matches_of match_refusal match_call listed_for match_call_checks one_twig
    match_refusals
computing = tt
