use Rattle.std.proofs.Common.{◌≡◌, pos, replicate, rules}
use Rattle.mp_press.proofs.Cached.{zeros_count}
use Rattle.mp_press.proofs.cache.Cache.new.Goals as goal

pub put_starts-requires-clause-counts : goal.put_starts-requires-clause-counts
put_starts-requires-clause-counts c =
    let m = c.from-movements.result in
    let zeros : c.deref_mut.result.now ≡ replicate m (pos 0) = search rules in
    rw zeros (zeros_count m)
