-- Words after records were moved among them; record r stands at word record_size * r.
use Rattle.std.specs.Prelude.{ℕ, ◌+◌, ◌-◌, ◌*◌, List, ◌++◌, take, drop, replicate}
use Rattle.basics.specs.Limits.{record_size}

-- the words with record `at` replaced by another
unfoldable pub put : List ℕ → ℕ → List ℕ → List ℕ
put ws at rec = take (record_size * at) ws ++ (rec ++ drop (record_size * (at + 1)) ws)

-- the words with records `at` to `count` moved one place up
unfoldable pub shifted_up : List ℕ → ℕ → ℕ → List ℕ
shifted_up ws at count =
    take (record_size * (at + 1)) ws
    ++ (take (record_size * (count - at)) (drop (record_size * at) ws) ++ drop (record_size * (count + 1)) ws)

-- the words with records `from` to `count` moved down to `to`
unfoldable pub shifted_down : List ℕ → ℕ → ℕ → ℕ → List ℕ
shifted_down ws to from count =
    take (record_size * to) ws
    ++ (take (record_size * (count - from)) (drop (record_size * from) ws) ++ drop (record_size * (to + (count - from))) ws)

-- the words with records `from` to `count` filled with zeros
unfoldable pub cleared : List ℕ → ℕ → ℕ → List ℕ
cleared ws from count = take (record_size * from) ws ++ (replicate (record_size * (count - from)) 0 ++ drop (record_size * count) ws)

-- the words with a record put in at a place, and those from there to `count` moved up
unfoldable pub inserted : List ℕ → ℕ → ℕ → List ℕ → List ℕ
inserted ws at count rec =
    take (record_size * at) ws
    ++ (rec ++ (take (record_size * (count - at)) (drop (record_size * at) ws) ++ drop (record_size * (count + 1)) ws))

-- the words with records `from` up to `to` taken out, the later ones moved down, and the freed ones zeros
unfoldable pub removed : List ℕ → ℕ → ℕ → ℕ → List ℕ
removed ws from to count =
    take (record_size * from) ws
    ++ (take (record_size * (count - to)) (drop (record_size * to) ws)
    ++ (replicate (record_size * (to - from)) 0 ++ drop (record_size * count) ws))
