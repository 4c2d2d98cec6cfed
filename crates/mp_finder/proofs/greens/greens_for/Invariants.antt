use Rattle.std.proofs.Common.{◌≡◌, ◌≤◌, ◌^◌, length}
use Rattle.std.specs.List.{All}
use Rattle.mp_cert.specs.Views.{mix_of}
use Rattle.mp_finder.proofs.Firsts.{Giving}
use Rattle.mp_finder.proofs.greens.greens_for.Given as goal

abbrev pub invariant-loop-s : goal.invariant-loop-s
invariant-loop-s l = record {
  cells : Giving l.cycle l.d (mix_of l.mix) l.s l.greens.items;
  size : length l.greens.items ≡ l.s;
  few : All (λ n. n ≤ 10 ^ 20) l.greens.items;
}
