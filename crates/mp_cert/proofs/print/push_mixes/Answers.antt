use Rattle.mp_text.proofs.Appended.{append_then}
use Rattle.mp_cert.proofs.PutLemmas.{mixes_next}
use Rattle.mp_cert.proofs.print.push_mixes.Goals as goal

pub loop-index-preserved : goal.loop-index-preserved
loop-index-preserved g c = rw (mixes_next c.args.mixes.now c.loop-index.index c.index-mixes-index.result c.loop-index-test.true c.index-mixes-index.is) (append_then c.loop-index.invariant c.push_mix.ensures)
