-- The nodes of a twig, read from its bytes, and what holds of them where the bytes are accepted.
use Prim.Native.Nat.{ℕ, ◌+◌, ◌*◌, ◌/◌, ◌<◌, ◌≤◌}
use mathlib.Core.Path.{◌≡◌}
use mathlib.Core.List.{List}
use mathlib.Core.Option.{none}
use native.Mathlib.Nat.{add-zero}
use native.Mathlib.Omega.{arith}
use lib.ListN.{length, get_or}
use Rattle.basics.specs.Limits.{node_size}
use Rattle.patterns.specs.Twigs.{node_at, read_twig, twig_check}
use Rattle.patterns.proofs.TwigBytes.{length-read_twig, read_twig_at, accepted_twig}
use Rattle.twigs.specs.Answers.{node_of}

-- a twig has a node for every four bytes
pub length_twig : (bytes : List ℕ) → length (read_twig bytes) ≡ length bytes / node_size
length_twig bytes = let h = length-read_twig bytes in omega arith

-- each node of a twig has its four bytes
pub node_bytes : (bytes : List ℕ) (q : ℕ) {n : ℕ} → n ≡ length (read_twig bytes) → q < n → q * node_size + node_size ≤ length bytes
node_bytes bytes q e h = omega (arith, length-read_twig bytes)

module _ (bytes : List ℕ) (q : ℕ) (h : q * node_size + node_size ≤ length bytes) where
  -- node q is read from its bytes
  node_read : node_at (read_twig bytes) q ≡
      record { parent = get_or bytes (q * node_size) 0; edge = get_or bytes (q * node_size + 1) 0; name = get_or bytes (q * node_size + 2) 0 }
  node_read = let e : node_size * q ≡ q * node_size = omega arith in rw e at (read_twig_at bytes q (omega arith))

  -- node q as data has the first three of its bytes
  pub node_data : record { parent = get_or bytes (q * node_size + 0) 0; edge = get_or bytes (q * node_size + 1) 0; name = get_or bytes (q * node_size + 2) 0 } ≡
      node_of (node_at (read_twig bytes) q)
  node_data = rw (node_read, add-zero)

-- the bytes of a twig that is accepted
module _ (bytes : List ℕ) (e : twig_check bytes ≡ none) where
  -- an accepted twig has a node
  pub twig_some : 0 < length (read_twig bytes)
  twig_some = (accepted_twig bytes e).some_node

  -- an accepted twig has at most eight nodes
  pub twig_few : length (read_twig bytes) ≤ 8
  twig_few = omega (arith, (accepted_twig bytes e).few)

  -- the parent of a later node of an accepted twig stands earlier
  pub twig_parent_lem : (q : ℕ) → 0 < q → q < length (read_twig bytes) → (node_at (read_twig bytes) q).parent < q
  twig_parent_lem q p h = (accepted_twig bytes e).earlier_parent q p h
