use Rattle.std.proofs.Common.{arith, rules}
use Rattle.mp_cert.specs.Views.{cert_of}
use Rattle.mp_scaled.proofs.Searching.{halving_fault, halving_end}
use Rattle.mp_scaled.proofs.search.halve.Goals as goal

pub returns-in-Err : goal.returns-in-Err
returns-in-Err c =
    halving_fault c.args.net.now c.args.d c.args.limit (cert_of c.args.first) c.loop-low.low c.loop-low.high (cert_of c.loop-low.cert) c.loop-low.invariant.search (omega arith) _ (search rules) c.in-Err.fault c.in-Err.ensures

pub returns : goal.returns
returns c = halving_end c.args.net.now c.args.d c.args.limit (cert_of c.args.first) c.loop-low.low c.loop-low.high c.loop-low.cert c.loop-low.invariant.search (omega arith)
