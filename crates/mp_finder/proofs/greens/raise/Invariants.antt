use Rattle.std.proofs.Common.{◌≤◌, ◌^◌}
use Rattle.std.specs.List.{All}
use Rattle.mp_model.specs.Network.{junction_at}
use Rattle.mp_finder.specs.Greens.{raised_for}
use Rattle.mp_finder.proofs.Lists.{Folding}
use Rattle.mp_finder.proofs.greens.raise.Given as goal

abbrev pub invariant-loop-k : goal.invariant-loop-k
invariant-loop-k l = record {
  rest : Folding (raised_for (junction_at l.net l.j) l.wants) l.initial.greens l.k-items l.k-index l.greens;
  few : All (λ n. n ≤ 10 ^ 20) l.greens;
}
