use Rattle.std.proofs.Common.{arith, length}
use Rattle.std.proofs.lemmas.Result.{err_from_is_err_and}
use Rattle.mp_guard.specs.Checking.{green_rules}
use Rattle.mp_guard.proofs.CheckLemmas.{trying_more, trying_fails, trying_end}
use Rattle.mp_guard.proofs.checking.check_greens.Goals as goal

pub returns-in_err-check_greens_at : goal.returns-in_err-check_greens_at
returns-in_err-check_greens_at c =
    let p = err_from_is_err_and c.from_residual.result c.from_residual.ensures.1 in
    rw (p.1, p.2) (trying_fails c.args.net.now c.args.guard.now (green_rules c.args.net.now) (length c.args.net.now.junctions) c.loop-j.j c.in_err-check_greens_at.field-0.0 c.loop-j.invariant (omega arith) c.in_err-check_greens_at.ensures)

pub loop-j-preserved : goal.loop-j-preserved
loop-j-preserved c = trying_more c.args.net.now c.args.guard.now (green_rules c.args.net.now) (length c.args.net.now.junctions) c.loop-j.j c.loop-j.invariant (omega arith) c.in_ok-check_greens_at.ensures

pub returns : goal.returns
returns c = trying_end c.args.net.now c.args.guard.now (green_rules c.args.net.now) (length c.args.net.now.junctions) c.loop-j.j c.loop-j.invariant (omega arith)
