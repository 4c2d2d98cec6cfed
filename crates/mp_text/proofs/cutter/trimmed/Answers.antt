use Rattle.std.proofs.Common.{arith}
use Rattle.mp_text.proofs.RawLines.{return_dropped, no_return}
use Rattle.mp_text.proofs.cutter.trimmed.Goals as goal

pub returns-then-line-len-eq13-clause-value : goal.returns-then-line-len-eq13-clause-value
returns-then-line-len-eq13-clause-value c = return_dropped c.args.line.now _ (omega arith) c.if-line-len-eq13.true

pub returns-else-line-len-eq13-clause-value : goal.returns-else-line-len-eq13-clause-value
returns-else-line-len-eq13-clause-value c = no_return c.args.line.now _ (omega arith) c.if-line-len-eq13.false
