-- What is written, with the stream from here on behind it, is what is to be written.
use Rattle.std.proofs.Common.{length, ◌+◌, ◌≡◌}
use Rattle.storage.specs.Store.{elements}
use Rattle.cut_calls.specs.Cutting.{stream}
use Rattle.cutting.proofs.Streams.{stream_from}
use Rattle.cutting.proofs.Outputs.{written}
use Rattle.cutting.proofs.write_stream.Given as goal

abbrev pub invariant-loop-r : goal.invariant-loop-r
invariant-loop-r l =
    (l.at + length (stream_from l.want l.count l.store l.r) ≡ length (stream l.want (elements l.count l.store)))
    × (written (stream l.want (elements l.count l.store)) 0 l.fn.out ≡ written (stream_from l.want l.count l.store l.r) l.at l.out)
