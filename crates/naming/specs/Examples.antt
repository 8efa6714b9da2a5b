-- Examples of pairs, components, roots and child-name files, and the tables that examples share.
use Rattle.std.specs.Prelude.{List, [], ◌∷◌, ℕ}
use Rattle.basics.specs.Basics.{elim?}
use Rattle.basics.specs.Limits.{filler}
use Rattle.basics.specs.Examples.{Check, is, shown}
use Rattle.naming.specs.Names.{Table, led, root_check, pairs, children, file_check, read_names}

-- The bench's own names: 0 garage, 1 vehicle, 2 test, 3 axle, 4 curve, 5 note.
-- Their pairs 0 1, 1 2, 1 5, 2 5, 2 3, 2 4, 3 4 as a child-name file.
unfoldable pub bench_file : List ℕ
bench_file = 0 ∷ 1 ∷ 1 ∷ 2 ∷ 1 ∷ 5 ∷ 2 ∷ 5 ∷ 2 ∷ 3 ∷ 2 ∷ 4 ∷ 3 ∷ 4 ∷ []

-- the bench's own table, its file read into rows
unfoldable pub bench_table : Table
bench_table = (read_names bench_file).table

-- a table with an entry 64
unfoldable pub torn_table : Table
torn_table = (64 ∷ []) ∷ []

-- a table in which name 0 may stand below name 0
unfoldable pub loop_table : Table
loop_table = (0 ∷ filler ∷ []) ∷ []

-- a table in which name 1 may stand below name 0, and name 2 below name 1
unfoldable pub line_table : Table
line_table = (1 ∷ filler ∷ []) ∷ (2 ∷ filler ∷ []) ∷ []

-- the bench's own table with its rows cut short, which spares the checker work
unfoldable pub short_table : Table
short_table = (1 ∷ filler ∷ []) ∷ (2 ∷ 5 ∷ filler ∷ []) ∷ (5 ∷ 3 ∷ 4 ∷ filler ∷ []) ∷ (4 ∷ filler ∷ []) ∷ []

-- examples of pairs, of where a component leads, and of root names
unfoldable pub name_checks : List Check
name_checks =
    -- a pair is parent, then child: below a test stand note, axle and curve
    is (children (pairs bench_file) 2) (5 ∷ 3 ∷ 4 ∷ [])
    -- below a test 4 leads to an axle
    ∷ is (elim? (led (5 ∷ 3 ∷ 4 ∷ []) 4) [] (λ name. name ∷ [])) (3 ∷ [])
    -- a root is a name
    ∷ is (shown (root_check 63)) []
    ∷ is (shown (root_check 64)) (21 ∷ 0 ∷ [])
    ∷ []

-- the refusals of a child-name file: 1 comes first, then pair by pair 2 and 3
unfoldable pub file_refusals : List Check
file_refusals =
    is (shown (file_check (0 ∷ 64 ∷ 0 ∷ []))) (1 ∷ 0 ∷ [])
    ∷ is (shown (file_check (0 ∷ 1 ∷ 64 ∷ 0 ∷ 0 ∷ 1 ∷ []))) (2 ∷ 1 ∷ [])
    ∷ is (shown (file_check (0 ∷ 1 ∷ 0 ∷ 64 ∷ []))) (2 ∷ 1 ∷ [])
    ∷ is (shown (file_check (0 ∷ 1 ∷ 1 ∷ 0 ∷ 0 ∷ 1 ∷ 64 ∷ 0 ∷ []))) (3 ∷ 2 ∷ [])
    ∷ is (shown (file_check (63 ∷ 63 ∷ []))) []
    ∷ is (shown (file_check [])) []
    ∷ []
