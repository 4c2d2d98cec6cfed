use Rattle.std.proofs.Common.{◌+◌, ◌<◌, ◌^◌}
use Rattle.mp_cert.proofs.RunLemmas.{Running}
use Rattle.mp_plan.specs.Stated.{fitting}
use Rattle.mp_plan.proofs.greens.total.Given as goal

abbrev pub invariant-loop-green : goal.invariant-loop-green
invariant-loop-green l = record {
  running : Running (λ so_far n. fitting (so_far + n)) 0 l.greens l.green-index l.so_far;
  fits : l.so_far < 2 ^ 127;
}
