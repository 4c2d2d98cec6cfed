use Rattle.std.proofs.Common.{rules, arith, sym, ◌+◌, ◌*◌, pos, get_or, FitsSigned, to_z-of_z}
use Rattle.std.specs.Int.{w128}
use Rattle.mp_flow.proofs.AnswerLemmas.{denominating_more}
use Rattle.mp_flow.proofs.solving.find_denominator.Goals as goal

pub loop-j-preserved : goal.loop-j-preserved
loop-j-preserved c =
    let fd : FitsSigned w128 c.loop-j.d = search rules in
    let fe : FitsSigned w128 c.in-Some.next = search rules in
    let fx : FitsSigned w128 (get_or c.args.cells.now (c.loop-j.j * c.args.width + c.loop-j.j) (pos 0)) = search rules in
    let v = simp to_z-of_z at c.in-Some.ensures in
    let i = c.loop-j.d-is in
    simp to_z-of_z (denominating_more _ _ _ _ _ _ _ c.loop-j.invariant (omega arith) (omega arith) (omega arith) (sym v) (c.requires.positive c.loop-j.j (omega arith)))
