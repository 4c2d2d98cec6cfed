use Rattle.mp_text.proofs.Appended.{append_then}
use Rattle.mp_cert.proofs.PutLemmas.{numbers_next}
use Rattle.mp_cert.proofs.print.push_spaced.Goals as goal

pub loop-number-preserved : goal.loop-number-preserved
loop-number-preserved g c = rw (numbers_next c.args.numbers.now c.loop-number.number-index c.loop-number-test.true) (append_then c.loop-number.invariant c.push_next.ensures)
