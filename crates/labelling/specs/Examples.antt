-- Examples: what labels decode to, and the refusals of a label at their corners.
use Rattle.std.specs.Prelude.{List, [], ◌∷◌, ◌++◌, replicate}
use Rattle.basics.specs.Basics.{elim?}
use Rattle.basics.specs.Examples.{Check, is, shown}
use Rattle.naming.specs.Names.{clues_of}
use Rattle.naming.specs.Examples.{torn_table, loop_table, short_table}
use Rattle.labelling.specs.Labels.{label_words, name_at, label_check, decode_call}

-- examples of what labels decode to
unfoldable pub label_checks : List Check
label_checks =
    -- from a vehicle 2.4.0 decodes to vehicle, test, axle, curve, the other twelve places 0
    is (decode_call short_table 1 (label_words (2 ∷ 4 ∷ 0 ∷ []))).names (1 ∷ 2 ∷ 3 ∷ 4 ∷ replicate 12 0)
    ∷ is (elim? (name_at (clues_of short_table) 1 (2 ∷ 4 ∷ [])) [] (λ name. name ∷ [])) (3 ∷ [])
    -- 0.0.0.0 is refused, 16 at 4: a note has no children
    ∷ is (shown (decode_call short_table 0 (label_words (0 ∷ 0 ∷ 0 ∷ 0 ∷ []))).refusal) (16 ∷ 4 ∷ [])
    ∷ is (elim? (name_at (clues_of short_table) 0 (0 ∷ 0 ∷ 0 ∷ 0 ∷ [])) [] (λ name. name ∷ [])) []
    -- a refusal gives no names
    ∷ is (decode_call short_table 64 (label_words [])).names (replicate 16 0)
    ∷ []

-- the refusals of a label: by 22, 21, 15, 16 for decoding, by 15 for kinship and follows
unfoldable pub label_refusals : List Check
label_refusals =
    is (shown (decode_call torn_table 64 []).refusal) (22 ∷ 0 ∷ [])
    ∷ is (shown (decode_call loop_table 64 []).refusal) (21 ∷ 0 ∷ [])
    ∷ is (shown (decode_call loop_table 63 (2 ∷ 0 ∷ 65535 ∷ replicate 13 0)).refusal) (15 ∷ 0 ∷ [])
    ∷ is (shown (decode_call loop_table 63 (label_words (0 ∷ []))).refusal) (16 ∷ 1 ∷ [])
    ∷ is (shown (label_check (1 ∷ 65534 ∷ replicate 14 0))) []
    ∷ is (shown (label_check (1 ∷ 65534 ∷ replicate 13 0))) (15 ∷ 0 ∷ [])
    ∷ is (shown (label_check (1 ∷ 65534 ∷ replicate 15 0))) (15 ∷ 0 ∷ [])
    ∷ is (shown (label_check (1 ∷ 65534 ∷ (replicate 13 0 ++ (1 ∷ []))))) (15 ∷ 0 ∷ [])
    ∷ is (shown (label_check (15 ∷ replicate 15 7))) []
    ∷ is (shown (label_check (16 ∷ replicate 15 7))) (15 ∷ 0 ∷ [])
    ∷ []
