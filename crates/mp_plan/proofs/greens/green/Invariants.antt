use Rattle.std.proofs.Common.{◌<◌, ◌^◌}
use Rattle.mp_model.specs.Network.{junction_at, stage_at}
use Rattle.mp_cert.proofs.RunLemmas.{Running}
use Rattle.mp_plan.specs.Ends.{over, rates}
use Rattle.mp_plan.specs.Stated.{green_with}
use Rattle.mp_plan.proofs.greens.green.Given as goal

abbrev pub invariant-loop-k : goal.invariant-loop-k
invariant-loop-k l = record {
  running : Running (green_with l.net (rates l.flows) (over l.flows) l.c (junction_at l.net l.j) l.s) 0 (stage_at (junction_at l.net l.j) l.s) l.k-index l.green;
  fits : l.green < 2 ^ 127;
}
