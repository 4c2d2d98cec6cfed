use Rattle.std.proofs.Common.{arith, ◌+◌, ◌/◌, ◌%◌, ◌<◌}
use Rattle.std.proofs.lemmas.Nat.{div_below, mul-add-lt}
use Rattle.mp_flow.proofs.solving.find_answers.Goals as goal

pub bounds-cells-row : goal.bounds-cells-row
bounds-cells-row c =
    let column : c.loop-t.t % c.args.n < c.args.n = omega arith in
    let side : c.loop-t.t / c.args.n < c.args.rights = div_below c.loop-t.t c.args.n c.args.rights c.requires.some c.loop-t-test.true in
    omega (arith, mul-add-lt (c.loop-t.t % c.args.n) (c.args.n + c.args.rights) (c.args.n + c.loop-t.t / c.args.n) c.args.n column (omega arith))
