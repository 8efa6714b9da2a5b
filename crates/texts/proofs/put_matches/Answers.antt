-- The labels of a match are as deep as they stand among all words.
use Rattle.std.proofs.Common.{rules}
use Rattle.texts.proofs.MatchTexts.{match_deep}
use Rattle.texts.proofs.put_matches.Goals as goal

pub put_match-end-requires-clause-deep : goal.put_match-end-requires-clause-deep
put_match-end-requires-clause-deep c = search (match_deep, rules)
