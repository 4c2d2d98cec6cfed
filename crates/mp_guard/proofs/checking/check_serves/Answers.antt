use Rattle.std.proofs.Common.{arith, length}
use Rattle.std.proofs.lemmas.Result.{err_from_is_err_and}
use Rattle.mp_guard.specs.declared.fault.GuardFault.TheVariants.{Serve}
use Rattle.mp_guard.proofs.CheckLemmas.{each, trying_more, each_fails, each_end}
use Rattle.mp_guard.proofs.checking.check_serves.Goals as goal

pub returns-in_err-check_serve : goal.returns-in_err-check_serve
returns-in_err-check_serve c =
    let p = err_from_is_err_and c.from_residual.result c.from_residual.ensures.1 in
    rw (p.1, p.2) (each_fails c.args.net.now c.args.guard.now Serve (length c.args.net.now.movements) c.loop-k.k c.in_err-check_serve.field-0.0 c.loop-k.invariant (omega arith) c.in_err-check_serve.ensures)

pub loop-k-preserved : goal.loop-k-preserved
loop-k-preserved c = trying_more c.args.net.now c.args.guard.now (each c.args.net.now c.args.guard.now Serve) (length c.args.net.now.movements) c.loop-k.k c.loop-k.invariant (omega arith) c.in_ok-check_serve.ensures

pub returns : goal.returns
returns c = each_end c.args.net.now c.args.guard.now Serve (length c.args.net.now.movements) c.loop-k.k c.loop-k.invariant (omega arith)
