use Rattle.std.proofs.Common.{◌≤◌, ◌^◌}
use Rattle.mp_model.specs.Network.{junction_at}
use Rattle.mp_finder.specs.Greens.{lack}
use Rattle.mp_finder.proofs.Lists.{Reaching}
use Rattle.mp_finder.proofs.greens.greatest_lack.Given as goal

abbrev pub invariant-loop-k : goal.invariant-loop-k
invariant-loop-k l = record {
  rest : Reaching (lack (junction_at l.net l.j) l.wants l.greens) l.k-items l.k-index l.most;
  few : l.most ≤ 10 ^ 20;
}
