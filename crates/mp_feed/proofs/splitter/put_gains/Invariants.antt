use Rattle.std.proofs.Common.{◌≡◌, ◌<◌, ◌+◌, ◌*◌, ℕ, slice_index}
use Rattle.mp_feed.proofs.splitter.put_gains.Given as goal

abbrev pub invariant-loop-i : goal.invariant-loop-i
invariant-loop-i l = (k : ℕ) → k < l.i → slice_index l.got k + slice_index l.earlier k ≡ slice_index l.shares k * l.rounds + slice_index l.later k
