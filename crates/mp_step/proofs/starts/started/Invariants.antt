use Rattle.std.proofs.Common.{◌≡◌, ◌≤◌, ◌*◌, ◌^◌, sum_by}
use Rattle.mp_model.specs.Network.{numbers_to, start_of}
use Rattle.mp_step.proofs.starts.started.Given as goal

abbrev pub invariant-loop-i : goal.invariant-loop-i
invariant-loop-i l = record { so_far : l.sum ≡ sum_by (start_of l.net) (numbers_to l.i); small : l.sum ≤ l.i * 10 ^ 6 }
