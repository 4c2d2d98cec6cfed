use Rattle.std.proofs.Common.{◌≡◌, map}
use Rattle.mp_model.specs.Network.{numbers_to}
use Rattle.mp_step.specs.BucketLevels.{bucket_of}
use Rattle.mp_step.proofs.levels.make_buckets.Given as goal

abbrev pub invariant-loop-i : goal.invariant-loop-i
invariant-loop-i l = l.buckets.items ≡ map (bucket_of l.net) (numbers_to l.i)
