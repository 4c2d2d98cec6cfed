use Rattle.std.proofs.Common.{◌<◌, ◌≤◌, length, arith, rules, sym, ◌∙◌}
use Rattle.mp_admit.proofs.SpreadLemmas.{bringing_more, link_fails, link_end}
use Rattle.mp_admit.proofs.vector.link_value.Goals as goal

pub returns-in_default : goal.returns-in_default
returns-in_default c =
    let h : c.loop-k.k-index < length c.out_of-k-items.result.now = omega arith in
    sym (link_fails _ _ _ _ _ _ c.loop-k.invariant c.out_of-k-items.ensures h (sym c.add_share.ensures ∙ c.in_default.is))

pub loop-k-preserved : goal.loop-k-preserved
loop-k-preserved c =
    let h : c.loop-k.k-index < length c.out_of-k-items.result.now = omega arith in
    bringing_more _ _ _ _ _ _ (search rules) c.loop-k.invariant h (sym c.in-Some.ensures)

pub returns : goal.returns
returns c =
    let h : length c.out_of-k-items.result.now ≤ c.loop-k.k-index = omega arith in
    sym (link_end _ _ _ _ _ _ c.loop-k.invariant c.out_of-k-items.ensures h)
