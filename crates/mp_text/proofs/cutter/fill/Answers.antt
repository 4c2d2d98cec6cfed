use Rattle.std.proofs.Common.{arith}
use Rattle.mp_edge.proofs.Told.{Tells-weaker}
use Rattle.mp_text.proofs.Filling.{filled}
use Rattle.mp_text.proofs.cutter.fill.Goals as goal

pub returns-clause-told : goal.returns-clause-told
returns-clause-told g c = Tells-weaker _ _ _ _ (λ was now t. (
  filled c.args.buf.now c.take.new.buf c.args.have _ c.in_ok-count.count was now (omega arith) (omega (arith, c.in_ok-count.ensures.bound)) t.front,
  λ same. t.at_end.0 (omega arith),
)) c.in_ok-count.ensures.bytes
