use Rattle.std.proofs.Common.{◌≤◌, ◌∙◌, ap, arith, length, subst, sym}
use Rattle.mp_model.specs.Network.{entry, has, junction_at, stage_at}
use Rattle.mp_step.proofs.Stages.{stages_count}
use Rattle.mp_frame_run.proofs.Greens.{green_is, stage_there}
use Rattle.mp_frame_run.proofs.choosing.is_green.Goals as goal

pub stage_of-requires : goal.stage_of-requires
stage_of-requires c = (c.junction_of-j.ensures.known.0, omega (arith, c.junction_of-j.ensures.known.1, stages_count c.args.net.now.junctions c.args.stages.now c.requires.stages))

pub is_in-requires-clause-stage : goal.is_in-requires-clause-stage
is_in-requires-clause-stage c =
    let net = c.args.net.now in
    let stages = c.args.stages.now in
    let there = stage_there net c.requires.acceptable.network stages c.requires.stages c.args.k c.requires.known.0 c.requires.known.1 in
    let here = subst (λ j. (1 ≤ entry stages j) × (entry stages j ≤ length (junction_at net j).stages)) (sym c.junction_of-j.ensures.value) there in
    subst (λ s. (1 ≤ s) × (s ≤ length (junction_at net c.junction_of-j.result).stages)) (sym c.stage_of.ensures) here

pub returns : goal.returns
returns c =
    let net = c.args.net.now in
    let stages = c.args.stages.now in
    c.is_in.ensures
    ∙ ap (λ s. has (stage_at (junction_at net c.junction_of-j.result) s) c.args.k) c.stage_of.ensures
    ∙ ap (λ j. has (stage_at (junction_at net j) (entry stages j)) c.args.k) c.junction_of-j.ensures.value
    ∙ green_is net c.requires.acceptable.network stages c.requires.stages c.args.k c.requires.known.0 c.requires.known.1
