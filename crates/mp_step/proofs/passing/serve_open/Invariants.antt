use Rattle.std.proofs.Common.{◌≡◌, ◌≤◌, ◌+◌, ◌*◌, ◌<◌, ℕ, slice_index, sum_by, cond}
use Rattle.mp_model.specs.Network.{entry, numbers_to, goes_out}
use Rattle.mp_press.specs.Queues.{naturals}
use Rattle.mp_step.specs.OpenStep.{passed_open}
use Rattle.mp_step.proofs.passing.serve_open.Given as goal

abbrev pub invariant-loop-i : goal.invariant-loop-i
invariant-loop-i l = record {
  value : (j : ℕ) → j < l.i → slice_index l.passes j ≡ passed_open l.net l.passing (entry (naturals l.queues)) (j + 1);
  so_far : l.left ≡ sum_by (λ k. cond (goes_out l.net k) (passed_open l.net l.passing (entry (naturals l.queues)) k) 0) (numbers_to l.i);
  small : l.left ≤ l.i * 1000;
}
