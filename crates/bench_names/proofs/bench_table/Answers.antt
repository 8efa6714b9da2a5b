-- The bench's own pairs give its table.
use Rattle.naming.specs.Examples.{bench_table, bench_file}
use Rattle.bench_names.proofs.bench_table.Goals as goal

pub returns : goal.returns
unfolding bench_table bench_file
returns c = c.read_names.ensures
