use Rattle.std.proofs.Common.{◌≡◌, map}
use Rattle.mp_model.specs.Network.{junction_at, numbers_to, stage_at}
use Rattle.mp_frame.proofs.copies.same_stages.Given as goal

abbrev pub invariant-loop-s : goal.invariant-loop-s
invariant-loop-s l = map (λ stage. stage.items) l.stages.items ≡ map (stage_at (junction_at l.net l.j)) (numbers_to l.s)
