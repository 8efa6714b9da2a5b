-- At index j the names are those along the first j components.
use Rattle.std.proofs.Common.{get_or, length, take, ◌≡◌}
use Rattle.basics.specs.Limits.{label_size}
use Rattle.naming.specs.Names.{clues_of}
use Rattle.match_label_decoding.specs.Streams.{Along}
use Rattle.match_label_decoding.proofs.lead_on.Given as goal

abbrev pub invariant-loop-j : goal.invariant-loop-j
invariant-loop-j l = (length l.names ≡ label_size) × Along (clues_of l.table) (get_or l.fn.names 0 0) (take l.j l.label) l.names
