use Rattle.std.proofs.Common.{arith}
use Rattle.mp_round.proofs.Idling.{none_in_row}
use Rattle.mp_round.proofs.copies.has_no_report.Goals as goal

pub returns : goal.returns
returns c = λ e. none_in_row c.args.row.now c.loop-i.i c.loop-i.invariant (omega (arith, c.loop-i-test.false))
