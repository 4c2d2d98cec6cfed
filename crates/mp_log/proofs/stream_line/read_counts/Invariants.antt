use Rattle.std.proofs.Common.{◌≡◌, ◌≤◌, ◌<◌, ◌^◌, length}
use Rattle.std.specs.List.{All}
use Rattle.arrayvec.specs.ArrayVec.{array_vec_len}
use Rattle.mp_model.specs.Stream.{counts_of_parts}
use Rattle.mp_log.proofs.CountLemmas.{split, behind}
use Rattle.mp_log.proofs.stream_line.read_counts.Given as goal

abbrev pub invariant-loop-at : goal.invariant-loop-at
invariant-loop-at l = record { few : array_vec_len l.into ≤ l.n; digits : All (λ a. a < 10 ^ 9) l.into.items; so_far : behind l.into.items (counts_of_parts (split l.rest)) ≡ counts_of_parts (split l.line) }

abbrev pub decreases-loop-at : goal.decreases-loop-at
decreases-loop-at l = length l.rest
