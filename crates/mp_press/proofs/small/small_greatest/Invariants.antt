use Rattle.std.proofs.Common.{◌≡◌, pos, sum_by}
use Rattle.mp_model.specs.Network.{numbers_to, junction_at, stage_at, entry}
use Rattle.mp_model.specs.Split.{first_greatest}
use Rattle.mp_press.proofs.small.small_greatest.Given as goal

abbrev pub invariant-loop-i : goal.invariant-loop-i
invariant-loop-i l = record {
  best : l.best ≡ first_greatest (λ s. pos (sum_by (entry l.presses) (stage_at (junction_at l.net l.j) s))) (numbers_to l.i);
  most : l.most ≡ sum_by (entry l.presses) (stage_at (junction_at l.net l.j) l.best);
}
