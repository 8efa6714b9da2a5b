-- The bench checks and the examples of source document 004 are worked through by the definitions.
use mathlib.Core.Path.{refl}
use Rattle.basics.specs.Examples.{Hold}
use Rattle.bench_facts.specs.Bench.{starred, article_checks}
use Rattle.bench_facts.proofs.Computing.{computing}

-- the nine checks with a star hold
pub bench_checks : Hold starred
unfolding computing
bench_checks = refl

-- the examples of source document 004 hold
pub article_checks_hold : Hold article_checks
unfolding computing
article_checks_hold = refl
