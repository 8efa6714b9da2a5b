-- Every definition of the crate at once, and of the crates below it, for examples that the checker works through.
use Rattle.labelling.specs.Numbers.{number, article_number}
use Rattle.labelling.specs.Labels.{before, shared, within, same, above, kinship, follows, behind, decode, end_of, name_at, is_component, label_of, label_words, is_label, label_check, path_check, names_in, decode_refusal, decode_call, kinship_call, follows_call}
use Rattle.labelling.specs.Examples.{label_checks, label_refusals}
use Rattle.naming.proofs.Computing.{computing as below}

-- `unfolding computing` opens every definition named here
unfoldable pub computing : Unit {0}
unfolding below number article_number before shared within same above kinship follows behind decode end_of name_at is_component label_of label_words
    is_label label_check path_check names_in decode_refusal decode_call kinship_call follows_call label_checks label_refusals
computing = tt
