use Rattle.std.proofs.Common.{◌≤◌, length, arith}
use Rattle.std.proofs.lemmas.Result.{err_from_is_err_and}
use Rattle.mp_cert.proofs.MixLemmas.{mixes_fail}
use Rattle.mp_cert.proofs.read.read_mixes.Goals as goal

pub returns-in_err-mix-clause-fault : goal.returns-in_err-mix-clause-fault
returns-in_err-mix-clause-fault c =
    let p = err_from_is_err_and c.from_residual.result c.from_residual.ensures.1 in
    let high : c.loop-j.j ≤ length c.args.net.now.junctions = omega arith in
    rw (p.1, p.2) (mixes_fail c.args.net.now c.loop-j.mixes.items c.in_err-mix.field-0.0 c.loop-j.j c.args.lines.now.number c.loop-j.lines.number c.args.lines.now.rest.now c.loop-j.lines.rest.now
    c.loop-j.invariant.read (omega arith) high c.in_err-mix.ensures.fault)
