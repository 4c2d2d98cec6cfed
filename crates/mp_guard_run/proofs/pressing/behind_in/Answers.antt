use Rattle.std.proofs.Common.{◌∙◌, sym, arith}
use Rattle.mp_press.proofs.Known.{to_known}
use Rattle.mp_guard_run.proofs.pressing.behind_in.Goals as goal

pub overflow_sub-result : goal.overflow_sub-result
overflow_sub-result c = let l = to_known c.args.net.now c.requires.acceptable.network c.args.k c.in-Some.l c.requires.known (sym c.turn.ensures.to ∙ c.in-Some.is) in omega (arith, l, c.from.ensures)

pub bounds-queued-from : goal.bounds-queued-from
bounds-queued-from c =
    let l = to_known c.args.net.now c.requires.acceptable.network c.args.k c.in-Some.l c.requires.known (sym c.turn.ensures.to ∙ c.in-Some.is) in
    omega (arith, l, c.from.ensures, c.requires.size, c.requires.acceptable.range.links)
