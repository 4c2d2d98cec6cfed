use Rattle.std.proofs.Common.{◌≡◌, ◌<◌, length, arith, rules, ap, sym, ◌∙◌}
use Rattle.mp_admit.proofs.SumLemmas.{summing_with}
use Rattle.mp_admit.proofs.turns.sum_rates.Goals as goal

pub loop-i-preserved : goal.loop-i-preserved
loop-i-preserved c =
    let h : c.loop-i.i < length c.own-own.result.now = omega arith in
    let l : length c.args.values.now ≡ length c.own-own.result.now = c.requires.size ∙ ap length (sym c.own-own.ensures) in
    summing_with _ _ _ _ _ _ _ _ (search rules) c.loop-i.invariant h l (search rules) (sym c.in-Some.ensures)
