use Rattle.std.proofs.Common.{◌+◌, ◌∙◌, Bool, List, [], ◌∷◌, ◌++◌, length, arith, ap, ap₂, sym}
use Rattle.std.proofs.lemmas.List.FromFn.{length-map-range_with_len, map-range_with_len_more}
use Rattle.mp_plan_run.specs.Green.{is_green_in}
use Rattle.mp_plan_run.proofs.green.list_green.Goals as goal

pub push-requires : goal.push-requires
push-requires c =
    let size = ap (λ (flags : List Bool). length flags) c.loop-i.invariant ∙ length-map-range_with_len (is_green_in c.args.net.now c.args.stages.now) 1 c.loop-i.i in
    (omega arith, omega (arith, size, c.loop-i-test.true, c.movements-i-end.ensures.few))

pub loop-i-preserved : goal.loop-i-preserved
loop-i-preserved c =
    let i = c.loop-i.i in
    c.push.ensures.items ∙ ap₂ (λ xs b. xs ++ b ∷ []) c.loop-i.invariant c.is_green.ensures ∙ sym (map-range_with_len_more (is_green_in c.args.net.now c.args.stages.now) 1 i (i + 1) (omega arith))
