-- What is counted and the stream from here on make up the stream.
use Rattle.std.proofs.Common.{length, ◌+◌, ◌≤◌, ◌≡◌}
use Rattle.storage.specs.Store.{elements}
use Rattle.cut_calls.specs.Cutting.{stream}
use Rattle.cutting.proofs.Streams.{stream_from}
use Rattle.cutting.proofs.stream_len.Given as goal

abbrev pub invariant-loop-r : goal.invariant-loop-r
invariant-loop-r l = (l.n ≤ l.r) × (l.n + length (stream_from l.want l.count l.store l.r) ≡ length (stream l.want (elements l.count l.store)))
