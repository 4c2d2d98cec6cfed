use Rattle.std.proofs.Common.{◌≤◌, ◌^◌, length}
use Rattle.std.specs.List.{All}
use Rattle.mp_model.specs.Network.{junction_at, numbers_to}
use Rattle.mp_finder.specs.Greens.{lowered_at}
use Rattle.mp_finder.proofs.Lists.{Folding}
use Rattle.mp_finder.proofs.greens.lower.Given as goal

abbrev pub invariant-loop-s : goal.invariant-loop-s
invariant-loop-s l = record {
  rest : Folding (lowered_at (junction_at l.net l.j) l.wants) l.initial.greens (numbers_to (length (junction_at l.net l.j).stages)) l.s l.greens;
  few : All (λ n. n ≤ 10 ^ 20) l.greens;
}
