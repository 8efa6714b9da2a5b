-- The answer for one label of a stream, by whether it may stand and what it shares.
use Rattle.std.specs.Prelude.{Some, None}
use Rattle.std.specs.Prelude as std
use Rattle.std.specs.Prelude.{Bool, true, false, ℕ}

-- a label that may stand in a stream shares so many components with the one before it, any other is ruled out
abbrev pub link_of : Bool → ℕ → std.Option ℕ
link_of true s = Some s
link_of false s = None
