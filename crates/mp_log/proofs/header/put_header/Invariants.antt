use Rattle.std.proofs.Common.{◌≡◌, ◌≤◌, ◌+◌, length, take, map, unsigned_abs}
use Rattle.mp_model.specs.Log.{header_lines, text_of}
use Rattle.mp_num.specs.Fraction.{numerator, denominator}
use Rattle.mp_edge.proofs.Puts.{HasPut}
use Rattle.mp_log.proofs.header.put_header.Given as goal

abbrev pub invariant-loop-i : goal.invariant-loop-i
invariant-loop-i g l = record {
  put : HasPut (g.K.Sink.held l.initial.out) (g.K.Sink.held l.out) (text_of (take l.i (header_lines l.net (numerator l.slack) (denominator l.slack) (map unsigned_abs l.bound))));
  later : g.K.Sink.faults l.initial.out ≤ g.K.Sink.faults l.out;
  size : l.i-end ≡ length l.net.movements + 2;
}
