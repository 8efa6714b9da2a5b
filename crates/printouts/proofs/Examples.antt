-- The printed example is worked through by the definitions.
use mathlib.Core.Path.{◌≡◌, refl}
use Rattle.naming.specs.Examples.{bench_file}
use Rattle.patterns.specs.Examples.{garage_twig}
use Rattle.printouts.specs.Printing.{printed}
use Rattle.printouts.specs.Examples.{garage_store, garage_text}
use Rattle.printouts.proofs.Computing.{computing}

-- the printed example is printed to the letter
pub printed_example : printed bench_file garage_store garage_twig ≡ garage_text
unfolding computing
printed_example = refl
