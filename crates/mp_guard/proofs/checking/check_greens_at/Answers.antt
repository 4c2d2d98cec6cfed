use Rattle.std.proofs.Common.{arith, length}
use Rattle.std.proofs.lemmas.Result.{err_from_is_err_and}
use Rattle.mp_model.specs.Network.{junction_at}
use Rattle.mp_guard.specs.declared.fault.GuardFault.TheVariants.{Green}
use Rattle.mp_guard.proofs.CheckLemmas.{each, trying_more, each_fails, each_end}
use Rattle.mp_guard.proofs.checking.check_greens_at.Goals as goal

pub returns-in_err-check_green : goal.returns-in_err-check_green
returns-in_err-check_green c =
    let p = err_from_is_err_and c.from_residual.result c.from_residual.ensures.1 in
    rw (p.1, p.2) (each_fails c.args.net.now c.args.guard.now (Green c.args.j) (length (junction_at c.args.net.now c.args.j).stages) c.loop-s.s c.in_err-check_green.field-0.0 c.loop-s.invariant (omega arith) c.in_err-check_green.ensures)

pub loop-s-preserved : goal.loop-s-preserved
loop-s-preserved c = trying_more c.args.net.now c.args.guard.now (each c.args.net.now c.args.guard.now (Green c.args.j)) (length (junction_at c.args.net.now c.args.j).stages) c.loop-s.s c.loop-s.invariant (omega arith) c.in_ok-check_green.ensures

pub returns : goal.returns
returns c = each_end c.args.net.now c.args.guard.now (Green c.args.j) (length (junction_at c.args.net.now c.args.j).stages) c.loop-s.s c.loop-s.invariant (omega arith)
