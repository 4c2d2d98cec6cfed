use Rattle.std.proofs.Common.{ℕ, ◌≡◌, ◌≤◌, ◌+◌, ◌-◌, ◌*◌, ◌∙◌, ap, ap₂, arith, sym, zero-le, [], ◌∷◌, ◌++◌}
use Rattle.std.proofs.lemmas.List.FromFn.{map-range_with_len_more}
use Rattle.mp_feed.specs.Fill.{Fill}
use Rattle.mp_model.specs.Network.{Link, no_link}
use Rattle.mp_laws.proofs.Lists.{at_index}
use Rattle.mp_step.specs.BucketLevels.{bucket_of}
use Rattle.mp_step.proofs.levels.make_buckets.Goals as goal

abbrev bucket : ℕ → ℕ → ℕ → Fill
bucket per burst rate = record { per = per; burst = burst; rate = rate; level = 0 }

pub new-bucket-requires : goal.new-bucket-requires
new-bucket-requires c =
    let net = c.args.net.now in
    let range = c.shares.ensures.acceptable.range in
    let burst = at_index (λ (link : Link). link.burst ≤ 10000) no_link net.links (c.loop-i.i + 1 - 1) range.bursts zero-le in
    let rate = at_index (λ (link : Link). link.rate ≤ 1000 * net.per) no_link net.links (c.loop-i.i + 1 - 1) range.rates zero-le in
    record {
      per_some = omega (arith, c.per.ensures, c.shares.ensures.acceptable.network.per);
      per_most = omega (arith, c.per.ensures, range.per);
      burst_most = omega (arith, c.link-link.ensures.burst, burst);
      rate_most = omega (arith, c.link-link.ensures.rate, c.per.ensures, rate);
    }

pub loop-i-preserved : goal.loop-i-preserved
loop-i-preserved c =
    let net = c.args.net.now in
    let i = c.loop-i.i in
    let fill : c.new-bucket.result ≡ bucket_of net (i + 1) =
    c.new-bucket.ensures ∙ ap (λ (p : ℕ). bucket p c.link-link.result.now.burst c.link-link.result.now.rate) c.per.ensures ∙ ap₂ (bucket net.per) c.link-link.ensures.burst c.link-link.ensures.rate in
    c.in_ok-add_bucket.ensures ∙ ap₂ (λ xs x. xs ++ x ∷ []) c.loop-i.invariant fill ∙ sym (map-range_with_len_more (bucket_of net) 1 i (i + 1) (omega arith))
