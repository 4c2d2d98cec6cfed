use Rattle.std.proofs.Common.{arith}
use Rattle.mp_log.proofs.HeaderLemmas.{header_count}
use Rattle.mp_log.proofs.header.header_lines.Goals as goal

pub returns-clause-count : goal.returns-clause-count
returns-clause-count c = λ E D bounds. header_count c.args.net.now E D _ bounds (omega arith)
