use Rattle.std.proofs.Common.{◌*◌, ◌^◌}
use Rattle.mp_model.specs.Network.{start_of}
use Rattle.mp_drift.proofs.Loops.{Counting}
use Rattle.mp_drift.proofs.queue_bounds.start_drift.Given as goal

abbrev pub invariant-loop-k : goal.invariant-loop-k
invariant-loop-k l = Counting (λ k. l.net.shares * l.net.per * start_of l.net k * (l.net.shares * l.net.per * start_of l.net k)) ((3600000 * 10 ^ 6) * (3600000 * 10 ^ 6)) l.k l.sum
