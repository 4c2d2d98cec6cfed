use Rattle.std.proofs.Common.{◌≡◌, ◌≤◌, ◌<◌, ◌-◌, ◌*◌, ◌^◌, ◌∙◌, ap, ap₂, arith, ℕ, subst, pos, ◌-ℤ◌}
use Rattle.std.specs.Int.{w128}
use Rattle.std.proofs.lemmas.Int.{ints, to_z-of_z}
use Rattle.mp_model.specs.Network.{Network, entry, to_of}
use Rattle.mp_model.specs.NetworkRules.{IsAcceptable}
use Rattle.mp_model.specs.Pressure.{queued_downstream}
use Rattle.mp_press.specs.Queues.{naturals}
use Rattle.mp_press.specs.Weighed.{Weighed}
use Rattle.mp_press.specs.Written.{entry_at}
use Rattle.mp_press.proofs.Sums.{few_at, product_fits}
use Rattle.mp_press.proofs.Cached.{downstream_in, downstream_few}
use Rattle.mp_press.proofs.cache.Cache.weight.Goals as goal

fits : (net : Network) → IsAcceptable net → (w : Weighed) → ((k : ℕ) → entry w.counts k ≤ 2 ^ 90) → (k a q b : ℕ) → a ≡ net.shares → q ≡ entry w.counts k → b ≡ queued_downstream net (entry w.counts) k → (a * q < 2 ^ 126) × (b < 2 ^ 126)
fits net ok w few k a q b a_is q_is b_is =
    let most = product_fits a q (omega (arith, a_is, ok.range.shares)) (omega (arith, q_is, few k)) in
    omega (arith, most, b_is, downstream_few net ok (2 ^ 90) (entry w.counts) few k)

pub difference-requires : goal.difference-requires
difference-requires c =
    let net = c.args.net.now in
    let ok = c.shares.ensures.acceptable in
    let w : Weighed = c.args.self.now in
    let k = c.args.k in
    let few : (k : ℕ) → entry w.counts k ≤ 2 ^ 90 = λ k. subst (λ (v : Weighed). entry v.counts k ≤ 2 ^ 90) c.self.view_is (few_at c.self.inside.counts.items (k - 1) c.self.invariant.counts) in
    let queue : c.queue_of.result ≡ entry w.counts k = c.queue_of.ensures ∙ ap (λ zs. entry (naturals zs) k) c.deref.ensures.value ∙ ap (λ (v : Weighed). entry v.counts k) c.self.view_is in
    let behind : c.behind_in.result ≡ queued_downstream net (entry w.counts) k =
    c.behind_in.ensures ∙ ap (λ xs. entry_at xs (to_of net k)) (c.deref-2.ensures.value ∙ ap (λ (v : Weighed). v.sums) c.self.view_is) ∙ downstream_in net ok.network (entry w.counts) w.sums c.requires.is.sums.each k c.requires.known in
    fits net ok w few k c.from.result c.queue_of.result c.behind_in.result (c.from.ensures ∙ c.shares.ensures.value) queue behind

pub returns : goal.returns
returns c =
    let net = c.args.net.now in
    let ok = c.shares.ensures.acceptable in
    let w : Weighed = c.args.self.now in
    let k = c.args.k in
    let few : (k : ℕ) → entry w.counts k ≤ 2 ^ 90 = λ k. subst (λ (v : Weighed). entry v.counts k ≤ 2 ^ 90) c.self.view_is (few_at c.self.inside.counts.items (k - 1) c.self.invariant.counts) in
    let queue : c.queue_of.result ≡ entry w.counts k = c.queue_of.ensures ∙ ap (λ zs. entry (naturals zs) k) c.deref.ensures.value ∙ ap (λ (v : Weighed). entry v.counts k) c.self.view_is in
    let behind : c.behind_in.result ≡ queued_downstream net (entry w.counts) k =
    c.behind_in.ensures ∙ ap (λ xs. entry_at xs (to_of net k)) (c.deref-2.ensures.value ∙ ap (λ (v : Weighed). v.sums) c.self.view_is) ∙ downstream_in net ok.network (entry w.counts) w.sums c.requires.is.sums.each k c.requires.known in
    let shares = c.from.ensures ∙ c.shares.ensures.value in
    let small = fits net ok w few k c.from.result c.queue_of.result c.behind_in.result shares queue behind in
    to_z-of_z w128 c.difference.result (let e = c.difference.ensures in omega (arith, ints, small))
    ∙ c.difference.ensures
    ∙ ap₂ (λ a b. pos a -ℤ pos b) (ap₂ ◌*◌ shares queue) behind
