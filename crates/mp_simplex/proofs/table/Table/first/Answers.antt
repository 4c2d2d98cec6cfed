use Rattle.std.proofs.Common.{rules, arith, ◌≡◌, ◌∙◌, ap, ◌+◌, length, suc}
use Rattle.mp_num.proofs.OutcomeLemmas.{length-counting}
use Rattle.mp_simplex.proofs.table.Table.first.Goals as goal

pub invariant_of-result-clause-wide : goal.invariant_of-result-clause-wide
invariant_of-result-clause-wide c =
    let n : length c.as_slice.result.now ≡ c.args.lp.now.cols = ap length c.as_slice.ensures ∙ c.requires.objective in
    let m : length c.as_slice-2.result.now ≡ c.args.lp.now.rows = ap length c.as_slice-2.ensures ∙ c.requires.right_sides in
    omega (arith, n, m)

pub invariant_of-result-clause-sized : goal.invariant_of-result-clause-sized
invariant_of-result-clause-sized c = search rules

pub invariant_of-result-clause-based : goal.invariant_of-result-clause-based
invariant_of-result-clause-based c = ap length c.in_ok-basis.ensures ∙ ap suc (length-counting c.args.lp.now.rows (1 + c.args.lp.now.cols)) ∙ omega arith
