use Rattle.std.proofs.Common.{◌≡◌, ◌≤◌, length}
use Rattle.arrayvec.specs.ArrayVec.{array_vec_len}
use Rattle.mp_model.specs.Stream.{counts_of_parts}
use Rattle.mp_log.proofs.CountLemmas.{split, behind}
use Rattle.mp_press.specs.Queues.{naturals}
use Rattle.mp_control.specs.Input.{AreSmall}
use Rattle.mp_control.proofs.input.read_row.Given as goal

abbrev pub invariant-loop-at : goal.invariant-loop-at
invariant-loop-at l = record { few : array_vec_len l.into ≤ l.n; small : AreSmall l.into.items; so_far : behind (naturals l.into.items) (counts_of_parts (split l.rest)) ≡ counts_of_parts (split l.line) }

abbrev pub decreases-loop-at : goal.decreases-loop-at
decreases-loop-at l = length l.rest
