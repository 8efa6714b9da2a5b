-- Every definition of the crate at once, and of the crates below it, for examples that the checker works through.
use Rattle.book.specs.Book.{answer}
use Rattle.bench_facts.specs.Bench.{labels_answered, labels_given, numbers_given, entry_under, vehicles, starred, article_file, article_table, figure, article_checks}
use Rattle.store_calls.proofs.Computing.{computing as updates}
use Rattle.printouts.proofs.Computing.{computing as printing}

-- `unfolding computing` opens every definition named here
unfoldable pub computing : Unit {0}
unfolding updates printing answer labels_answered labels_given numbers_given entry_under vehicles starred article_file article_table figure article_checks
computing = tt
