-- `printing::cut_streams` meets its contract: the streams of the leaves before node q are cut.
use Prim.Native.Nat.{◌-◌}
use borrow.Author.Rules.{rules}
use Rattle.twigs.proofs.Nodes.{node_bytes}
use Rattle.printing.proofs.Streams.{CutTo, streams_none, streams_inner, streams_short, labels_fit, streams_leaf, streams_all}
use Rattle.printing.proofs.cut_streams.Lts.{then-is_leaf+in-Passed, else-is_leaf}
use Rattle.printing.proofs.cut_streams.Statement.{statement}
use Rattle.printing.proofs.cut_streams.Tie as tie

abbrev invariant-loop-q : tie.invariant-loop-q
invariant-loop-q table store count twig counts₀ buffer₀ n leaves₀ labels₀ q₀ counts buffer leaves labels q =
    CutTo table store count twig n q leaves labels counts₀ counts buffer₀ buffer

abbrev decreases-loop-q : tie.decreases-loop-q
decreases-loop-q table store count twig counts₀ buffer₀ n leaves₀ labels₀ q₀ counts buffer leaves labels q = n - q

-- a leaf has its stream cut, and an inner node has none
loop_again : tie.Need-loop-q-preserved invariant-loop-q decreases-loop-q
loop_again c =
    let inv = c.before.before.before.loop-q.invariant in
    elim c.if-is_leaf.branch [
      | then-is_leaf+in-Passed w ↦ streams_leaf inv (search rules) (search rules) w.if-is_leaf.true w.node_at-node.ensures w.cut-stream.ensures w.in-Passed.is w.leaves-is w.labels-is w.counts-is w.buffer-is
      | else-is_leaf w ↦ search (streams_inner, rules)
    ]

pub cut_streams_spec : {M : Type 1} → statement M
cut_streams_spec =
    tie.close
    (tie.spec
    invariant-loop-q
    decreases-loop-q
    (λ c κs. search rules)
    (λ c. search (streams_none, rules))
    (λ c κs. search rules)
    (λ c κs. search (node_bytes, rules))
    (λ c. search rules)
    (λ c. search rules)
    (λ c. search rules)
    (λ c. search rules)
    (λ c. search rules)
    (λ c κs. search rules)
    (λ c. search rules)
    (λ c. search rules)
    (λ c κs. search rules)
    (λ c. search rules)
    (λ c. search rules)
    (λ c. search (streams_short, rules))
    (λ c. search rules)
    (λ c. search rules)
    (λ c. search rules)
    (λ c. search (labels_fit, rules))
    (λ c. search rules)
    (λ c. search rules)
    loop_again
    (λ c. search rules)
    (λ c. search rules)
    (λ c. search (streams_all, rules)))
