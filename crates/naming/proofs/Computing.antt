-- Every definition of the crate at once, and of the crate below it, for examples that the checker works through.
use Rattle.naming.specs.Names.{place_in, led, is_name, root_check, names_of, clues_of, twice, good_row, table_check, pairs, children, pair_check, pairs_check, file_check, row_of, table_of, empty_table, read_names}
use Rattle.naming.specs.Examples.{bench_file, bench_table, torn_table, loop_table, line_table, short_table, name_checks, file_refusals}
use Rattle.basics.proofs.Computing.{computing as below}

-- `unfolding computing` opens every definition named here
unfoldable pub computing : Unit {0}
unfolding below place_in led is_name root_check names_of clues_of twice good_row table_check pairs children pair_check pairs_check file_check row_of table_of
    empty_table read_names bench_file bench_table torn_table loop_table line_table short_table name_checks file_refusals
computing = tt
