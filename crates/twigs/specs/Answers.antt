-- A node of a twig as data, by the definitions of `patterns`.
use Rattle.patterns.specs.Twigs as spec
use Rattle.twigs.specs.declared.Node.{Node}

-- a node of a twig, as data
abbrev pub node_of : spec.Node → Node
node_of n = record { parent = n.parent; edge = n.edge; name = n.name }
