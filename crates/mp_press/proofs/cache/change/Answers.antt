use Rattle.std.proofs.Common.{◌^◌, ◌≡◌, ◌+◌, ◌-◌, ◌*◌, ◌∙◌, ap, arith, length, ℕ, List, set, subst, sym}
use Rattle.std.specs.Prelude.{unsigned_abs}
use Rattle.std.proofs.lemmas.List.{length-map}
use Rattle.mp_model.specs.Network.{entry, share_of, from_of}
use Rattle.mp_press.specs.Queues.{naturals}
use Rattle.mp_press.specs.LinkSums.{AreSums}
use Rattle.mp_press.proofs.Known.{from_known}
use Rattle.mp_press.proofs.Sums.{few_at}
use Rattle.mp_press.proofs.Cached.{queued_few, there, sums_after, large_few, one_few}
use Rattle.mp_press.proofs.cache.change.Goals as goal

pub add_count-requires-clause-there : goal.add_count-requires-clause-there
add_count-requires-clause-there c =
    let net = c.args.net.now in
    let zs = naturals c.args.counts.now in
    let size : length zs ≡ length net.movements = length-map c.args.counts.now unsigned_abs ∙ c.requires.len in
    let l = from_known net c.requires.acceptable.network c.args.k c.requires.known in
    let term : share_of net c.args.k * c.args.before ≡ share_of net c.args.k * entry zs c.args.k = ap (λ n. share_of net c.args.k * n) c.requires.before in
    omega (arith, c.requires.queued.each (from_of net c.args.k) l.0 l.1, term, there net c.requires.acceptable.network zs size c.args.k c.args.after c.requires.known)

pub add_count-requires-clause-few : goal.add_count-requires-clause-few
add_count-requires-clause-few c =
    let net = c.args.net.now in
    let zs = naturals c.args.counts.now in
    let l = from_known net c.requires.acceptable.network c.args.k c.requires.known in
    omega (arith, c.requires.queued.each (from_of net c.args.k) l.0 l.1, queued_few net c.requires.acceptable (2 ^ 90) (entry zs) (λ k. few_at c.args.counts.now (k - 1) c.requires.counts) (from_of net c.args.k))

pub add_count-requires-clause-fits : goal.add_count-requires-clause-fits
add_count-requires-clause-fits c = (omega (arith, c.requires.before, few_at c.args.counts.now (c.args.k - 1) c.requires.counts), c.requires.fits)

pub overflow_add-result : goal.overflow_add-result
overflow_add-result c =
    let zs = naturals c.args.counts.now in
    omega (arith, c.requires.large, large_few zs, length-map c.args.counts.now unsigned_abs, c.requires.len, c.requires.acceptable.range.movements, one_few c.args.after, c.one_if_large.ensures)

pub returns-clause-queued : goal.returns-clause-queued
returns-clause-queued c =
    let net = c.args.net.now in
    let zs = naturals c.args.counts.now in
    let sums = c.args.queued.now in
    let k = c.args.k in
    let size : length zs ≡ length net.movements = length-map c.args.counts.now unsigned_abs ∙ c.requires.len in
    let w = entry sums (from_of net k) + share_of net k * c.args.after - share_of net k * c.args.before in
    let value : w ≡ entry sums (from_of net k) + share_of net k * c.args.after - share_of net k * entry zs k = ap (λ n. entry sums (from_of net k) + share_of net k * c.args.after - share_of net k * n) c.requires.before in
    subst (λ (xs : List ℕ). AreSums net (entry xs) c.add_count.new.queued) (sym c.put_count.ensures.value)
    (subst (λ (ys : List ℕ). AreSums net (entry (set zs (k - 1) c.args.after)) ys) (sym c.add_count.ensures)
    (sums_after net c.requires.acceptable.network zs size k c.args.after c.requires.known sums c.requires.queued w value))
