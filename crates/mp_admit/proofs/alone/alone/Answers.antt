use Rattle.std.proofs.Common.{◌==◌, ◌≤◌, cond, map, length, pos, ◌∙◌, arith, ap}
use Rattle.mp_admit.proofs.RowLemmas.{lining_end}
use Rattle.mp_admit.proofs.AloneLemmas.{alone_values}
use Rattle.mp_admit.proofs.alone.alone.Goals as goal

pub returns-clause-values : goal.returns-clause-values
returns-clause-values c =
    let h : length c.own-m-items.result.now ≤ c.loop-m.m-index = omega arith in
    alone_values _ _ c.args.k _ (c.new.ensures ∙ lining_end _ _ _ _ _ c.loop-m.invariant h ∙ ap (map (λ m. cond (m == c.args.k) (pos 1) (pos 0))) c.own-m-items.ensures)
