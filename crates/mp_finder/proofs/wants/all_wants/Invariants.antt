use Rattle.std.proofs.Common.{◌≡◌, ◌≤◌, ◌^◌, length}
use Rattle.std.specs.List.{All}
use Rattle.mp_model.specs.Network.{numbers_to}
use Rattle.mp_finder.specs.Greens.{wanted}
use Rattle.mp_finder.proofs.Lists.{Mapping}
use Rattle.mp_finder.proofs.wants.all_wants.Given as goal

abbrev pub invariant-loop-i : goal.invariant-loop-i
invariant-loop-i l = record {
  cells : Mapping (wanted l.net l.cycle l.d l.rates) (numbers_to (length l.net.movements)) l.i l.wants.items;
  size : length l.wants.items ≡ l.i;
  few : All (λ n. n ≤ 10 ^ 20) l.wants.items;
}
