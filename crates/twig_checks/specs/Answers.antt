-- What the check of a node answers, by the definitions of `patterns`.
use Rattle.std.specs.Prelude.{List, ℕ, ◌+◌, ◌*◌, get_or}
use Rattle.std.proofs.Math.Option.{Option}
use Rattle.basics.specs.Limits.{node_size}
use Rattle.basics.specs.Refusals.{Refusal}
use Rattle.patterns.specs.Twigs as spec

-- the check of node q of a twig's bytes: 5 to 8
unfoldable pub node_check_at : List ℕ → ℕ → Option Refusal
node_check_at bytes q =
    let n = spec.node_at (spec.read_twig bytes) q in
    spec.node_check q n.parent n.edge n.name (get_or bytes (q * node_size + 3) 0)
