-- The refusals of the program at their corners, and the order of its checks where two faults meet.
use Rattle.std.specs.Prelude.{List, [], ◌∷◌, ◌++◌, replicate}
use Rattle.printouts.specs.Printing.{printed, text}
use Rattle.basics.specs.Examples.{Check, is}
use Rattle.naming.specs.Examples.{bench_file}
use Rattle.printouts.specs.Examples.{garage_store}

-- the refusals of the program, by 1 to 3, 18, 19, 23 to 25, 4 to 8 and 17
unfoldable pub print_refusals : List Check
print_refusals =
    is (printed (0 ∷ []) [] []) (text "refused 1 at 0\n")
    ∷ is (printed [] [] []) (text "refused 18 at 0\n")
    ∷ is (printed [] (replicate 41 9) []) (text "refused 18 at 0\n")
    ∷ is (printed [] (replicate 40 9) []) (text "refused 19 at 0\n")
    ∷ is (printed [] (replicate 40 0 ++ (2 ∷ replicate 39 0)) []) (text "refused 23 at 1\n")
    ∷ is (printed [] (replicate 32 0 ++ (64 ∷ replicate 7 0)) []) (text "refused 24 at 0\n")
    ∷ is (printed [] (replicate 34 0 ++ (1 ∷ replicate 5 0)) []) (text "refused 25 at 0\n")
    ∷ is (printed [] (replicate 40 0) []) (text "refused 4 at 0\n")
    ∷ is (printed [] (replicate 40 0) (255 ∷ 1 ∷ 9 ∷ 0 ∷ [])) (text "0\n")
    ∷ is (printed [] (replicate 40 0) (255 ∷ 0 ∷ 0 ∷ 0 ∷ [])) (text ".\n1\n")
    ∷ is (printed bench_file garage_store (255 ∷ 1 ∷ 1 ∷ 0 ∷ 0 ∷ 1 ∷ 3 ∷ 1 ∷ [])) (text "refused 8 at 1\n")
    ∷ []
