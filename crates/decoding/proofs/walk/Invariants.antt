-- The names so far are what the components so far decode to.
use Rattle.naming.specs.Names.{clues_of}
use Rattle.decoding.proofs.Steps.{Walked}
use Rattle.decoding.proofs.walk.Given as goal

abbrev pub invariant-loop-i : goal.invariant-loop-i
invariant-loop-i l = Walked (clues_of l.table) l.root l.parts l.parent l.i l.names
