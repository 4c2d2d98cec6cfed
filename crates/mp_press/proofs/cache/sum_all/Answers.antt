use Rattle.std.proofs.Common.{◌≡◌, ◌≤◌, ◌+◌, ◌-◌, ◌*◌, ◌∙◌, ℕ, ap, arith, length, get_or, take, replicate, subst, List, refl, sym, rules}
use Rattle.std.specs.Prelude.{unsigned_abs}
use Rattle.std.proofs.lemmas.List.{length-map, take_all, length-take}
use Rattle.std.proofs.lemmas.List.Sums.{sum_by_more}
use Rattle.mp_model.specs.Network.{entry, share_of, from_of}
use Rattle.mp_press.specs.Queues.{naturals}
use Rattle.mp_press.specs.Weighed.{one_if_large, large_in}
use Rattle.mp_press.proofs.Known.{from_known}
use Rattle.mp_press.proofs.Sums.{few_at}
use Rattle.mp_press.proofs.Cached.{large_few, one_few}
use Rattle.mp_press.proofs.Summed.{SumsTo, sums_start, sums_more, sums_few, sums_end}
use Rattle.mp_press.proofs.cache.sum_all.Goals as goal

pub loop-i-init : goal.loop-i-init
loop-i-init c =
    let net = c.args.net.now in
    let n = length c.args.queued.now in
    let zeros : c.fill.new.self ≡ replicate n 0 = search rules in
    record { queued = rw zeros (sums_start net (entry (naturals c.args.counts.now)) n c.requires.links); large = refl }

pub add_count-requires-clause-there : goal.add_count-requires-clause-there
add_count-requires-clause-there c = omega arith

pub add_count-requires-clause-few : goal.add_count-requires-clause-few
add_count-requires-clause-few c =
    let net = c.args.net.now in
    let zs = c.args.counts.now in
    let k = c.loop-i.i + 1 in
    sums_few net c.requires.acceptable (entry (naturals zs)) (λ k. few_at zs (k - 1) c.requires.counts) c.loop-i.i c.loop-i.queued (omega arith) c.loop-i.invariant.queued (from_of net k)
    (from_known net c.requires.acceptable.network k (omega arith, omega arith))

pub add_count-requires-clause-fits : goal.add_count-requires-clause-fits
add_count-requires-clause-fits c = (omega arith, omega (arith, c.queue_of-count.ensures, few_at c.args.counts.now (c.loop-i.i + 1 - 1) c.requires.counts))

one_more : (ns : List ℕ) (i n : ℕ) → i + 1 ≤ length ns → n ≡ one_if_large (entry ns (i + 1)) → large_in (take i ns) + n ≡ large_in (take (i + 1) ns)
one_more ns i n h e =
    let back : (i + 1) - 1 ≡ i = omega arith in
    omega (arith, e ∙ ap (λ m. one_if_large (get_or ns m 0)) back, sum_by_more one_if_large ns i 0 (omega arith))

pub overflow_add-large : goal.overflow_add-large
overflow_add-large c =
    let ns = naturals c.args.counts.now in
    omega (arith, c.loop-i.invariant.large, large_few (take c.loop-i.i ns), length-take c.loop-i.i ns, one_few c.queue_of-count.result, c.one_if_large-large.ensures)

pub loop-i-preserved : goal.loop-i-preserved
loop-i-preserved c =
    let net = c.args.net.now in
    let zs = c.args.counts.now in
    let i = c.loop-i.i in
    let f = from_of net (i + 1) in
    let sums = c.loop-i.queued in
    let w = entry sums f + share_of net (i + 1) * c.queue_of-count.result - share_of net (i + 1) * 0 in
    let value : w ≡ entry sums f + share_of net (i + 1) * entry (naturals zs) (i + 1) = omega (arith, ap (λ n. share_of net (i + 1) * n) c.queue_of-count.ensures) in
    record {
      queued = subst (λ (ys : List ℕ). SumsTo net (entry (naturals zs)) (i + 1) ys) (sym c.add_count.ensures)
          (sums_more net c.requires.acceptable.network (entry (naturals zs)) i sums (omega arith) c.loop-i.invariant.queued w value);
      large = ap (λ n. n + c.one_if_large-large.result) c.loop-i.invariant.large
          ∙ one_more (naturals zs) i c.one_if_large-large.result (omega (arith, length-map zs unsigned_abs, c.requires.len)) (c.one_if_large-large.ensures ∙ ap one_if_large c.queue_of-count.ensures);
    }

pub returns-clause-queued : goal.returns-clause-queued
returns-clause-queued c = sums_end c.args.net.now (entry (naturals c.args.counts.now)) c.loop-i.i c.loop-i.queued (omega arith) c.loop-i.invariant.queued

pub returns-clause-large : goal.returns-clause-large
returns-clause-large c =
    let zs = c.args.counts.now in
    c.loop-i.invariant.large ∙ ap large_in (take_all c.loop-i.i (naturals zs) (omega (arith, length-map zs unsigned_abs, c.requires.len)))
