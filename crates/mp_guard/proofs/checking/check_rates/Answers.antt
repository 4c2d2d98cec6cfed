use Rattle.std.proofs.Common.{arith, length}
use Rattle.std.proofs.lemmas.Result.{err_from_is_err_and}
use Rattle.mp_guard.specs.declared.fault.GuardFault.TheVariants.{H}
use Rattle.mp_guard.proofs.CheckLemmas.{each, trying_more, each_fails, each_end}
use Rattle.mp_guard.proofs.checking.check_rates.Goals as goal

pub returns-in_err-check_rate : goal.returns-in_err-check_rate
returns-in_err-check_rate c =
    let p = err_from_is_err_and c.from_residual.result c.from_residual.ensures.1 in
    rw (p.1, p.2) (each_fails c.args.net.now c.args.guard.now H (length c.args.net.now.movements) c.loop-k.k c.in_err-check_rate.field-0.0 c.loop-k.invariant (omega arith) c.in_err-check_rate.ensures)

pub loop-k-preserved : goal.loop-k-preserved
loop-k-preserved c = trying_more c.args.net.now c.args.guard.now (each c.args.net.now c.args.guard.now H) (length c.args.net.now.movements) c.loop-k.k c.loop-k.invariant (omega arith) c.in_ok-check_rate.ensures

pub returns : goal.returns
returns c = each_end c.args.net.now c.args.guard.now H (length c.args.net.now.movements) c.loop-k.k c.loop-k.invariant (omega arith)
