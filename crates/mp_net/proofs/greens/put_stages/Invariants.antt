use Rattle.std.proofs.Common.{map, take}
use Rattle.mp_net.specs.Rows.{AreSpans, Extends}
use Rattle.mp_net.proofs.greens.put_stages.Given as goal

abbrev pub invariant-loop-stage : goal.invariant-loop-stage
invariant-loop-stage l = record {
  grown : Extends l.initial.greens.items l.greens.items;
  so_far : AreSpans l.greens.items (map (λ stage. stage.items) (take l.stage-index l.stages)) l.spans.items;
}
