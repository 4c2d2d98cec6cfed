use Rattle.std.proofs.Common.{◌∙◌, [], ◌∷◌, ◌++◌, length, map, arith, ap}
use Rattle.mp_model.specs.Network.{junction_at, stage_at}
use Rattle.mp_frame.proofs.Copied.{all_copied, next_copy, read_all}
use Rattle.mp_frame.proofs.copies.same_stages.Goals as goal

pub loop-s-preserved : goal.loop-s-preserved
loop-s-preserved c =
    let before = map (λ stage. stage.items) c.loop-s.stages.items in
    next_copy (stage_at (junction_at c.args.net.now c.args.j)) c.loop-s.s before _ (c.in_ok-add_stage.ensures ∙ ap (λ stage. before ++ stage ∷ []) c.stage.ensures) c.loop-s.invariant

pub returns : goal.returns
returns c =
    let stages = (junction_at c.args.net.now c.args.j).stages in
    all_copied (stage_at (junction_at c.args.net.now c.args.j)) (length stages) c.loop-s.s (map (λ stage. stage.items) c.loop-s.stages.items) c.loop-s.invariant (omega (arith, c.loop-s.auto.s-end, c.loop-s-test.false, c.stages-s-end.ensures.count))
    ∙ read_all [] stages
