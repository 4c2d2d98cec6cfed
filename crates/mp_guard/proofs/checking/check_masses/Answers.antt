use Rattle.std.proofs.Common.{arith, length}
use Rattle.std.proofs.lemmas.Result.{err_from_is_err_and}
use Rattle.mp_guard.specs.declared.fault.GuardFault.TheVariants.{Mass}
use Rattle.mp_guard.proofs.CheckLemmas.{each, trying_more, each_fails, each_end}
use Rattle.mp_guard.proofs.checking.check_masses.Goals as goal

pub returns-in_err-check_mass : goal.returns-in_err-check_mass
returns-in_err-check_mass c =
    let p = err_from_is_err_and c.from_residual.result c.from_residual.ensures.1 in
    rw (p.1, p.2) (each_fails c.args.net.now c.args.guard.now Mass (length c.args.net.now.junctions) c.loop-j.j c.in_err-check_mass.field-0.0 c.loop-j.invariant (omega arith) c.in_err-check_mass.ensures)

pub loop-j-preserved : goal.loop-j-preserved
loop-j-preserved c = trying_more c.args.net.now c.args.guard.now (each c.args.net.now c.args.guard.now Mass) (length c.args.net.now.junctions) c.loop-j.j c.loop-j.invariant (omega arith) c.in_ok-check_mass.ensures

pub returns : goal.returns
returns c = each_end c.args.net.now c.args.guard.now Mass (length c.args.net.now.junctions) c.loop-j.j c.loop-j.invariant (omega arith)
