use Rattle.std.proofs.Common.{◌≡◌, ◌≤◌, ◌<◌, ◌+◌, ◌*◌, ◌%◌, ◌^◌, ℕ, sum_by, length, slice_index}
use Rattle.mp_model.specs.Arrivals.{arrivals_of}
use Rattle.mp_model.specs.Network.{numbers_to, from_of, entry}
use Rattle.mp_press.specs.Queues.{naturals, NoneNegative}
use Rattle.mp_step.specs.Standing.{moved, received}
use Rattle.mp_step.proofs.moving.move_all.Given as goal

abbrev pub invariant-loop-i : goal.invariant-loop-i
invariant-loop-i l = record {
  so_far : l.sum ≡ sum_by (arrivals_of l.net l.arrivals) (numbers_to l.i);
  small : l.sum ≤ l.i * 10 ^ 9;
  some : NoneNegative l.initial.next → NoneNegative l.next;
  queues : (k : ℕ) → 1 ≤ k → k ≤ length l.net.movements → from_of l.net k ≤ l.i → entry (naturals l.next) k ≡ moved l.net l.arrivals (entry (naturals l.phases)) (entry (naturals l.queues)) (entry l.passes) k;
  phases : (j : ℕ) → j < l.i → slice_index (naturals l.next_phases) j ≡ (entry (naturals l.phases) (j + 1) + received l.net l.arrivals (entry l.passes) (j + 1)) % l.net.shares;
}
