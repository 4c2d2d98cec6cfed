use Rattle.std.proofs.Common.{rules, ◌≡◌, None, arith}
use Rattle.mp_simplex.specs.Outcome.{cell}
use Rattle.mp_simplex.proofs.TableLemmas.{row_passes, row_end}
use Rattle.mp_simplex.proofs.table.push_row.Goals as goal

pub returns-in_default : goal.returns-in_default
returns-in_default c =
    let lp = c.args.lp.now in
    let none : cell lp.rows lp.cols lp.a lp.b lp.c c.args.r c.loop-k.k ≡ None = search rules in
    row_passes lp.rows lp.cols lp.a lp.b lp.c c.args.r c.args.width c.args.cells.now.items c.loop-k.k c.loop-k.cells.items c.loop-k.invariant c.loop-k-test.true c.requires.wide none

pub returns : goal.returns
returns c =
    let lp = c.args.lp.now in
    row_end lp.rows lp.cols lp.a lp.b lp.c c.args.r c.args.width c.args.cells.now.items c.loop-k.k c.loop-k.cells.items c.loop-k.invariant (omega arith) c.requires.wide
